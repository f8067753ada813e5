-- Tables of the first declaration of each name.
use Rattle.std.specs.Prelude.{◌≡◌, ℕ, nat_eq, Bool, false, if◌then◌else◌, List, map, Option, Some, None}
use Rattle.std.specs.Cmp.Lexicographic.{pointwise}
use Rattle.std.specs.HashMap.{HashMap, get}
use Rattle.std.specs.declared.hash.FoldHasher.{FoldHasher}
use Rattle.std.specs.declared.hash.BuildHasherDefault.{BuildHasherDefault}
use Rattle.st_unit_rules.specs.declared_names.Declarations.{Declaration, a_global, is_class}
use Rattle.st_unit_rules.specs.Cycles.{place_from, is_type, is_global_or_function}
use Rattle.st_unit_rules.specs.declaration_list.Listed.{declared_as}
use Rattle.declared_graph.specs.declared.known.Which.{Which}
use Rattle.declared_graph.specs.declared.known.Which.TheVariants.{Types, Classes, GlobalsAndFunctions}
use Rattle.declared_graph.specs.declared.known.Known.{Known}

-- a table of places by name
abbrev pub Table : Type 0
Table = HashMap (List ℕ) ℕ (BuildHasherDefault FoldHasher)

abbrev pub found_in : Table → List ℕ → Option ℕ
found_in table name = get (pointwise nat_eq) table name

-- the table finds the first declaration of the name that passes
pub record IsTableOf (test : Declaration → Bool) (table : Table) (ds : List Declaration) : Type 0 where
  pub finds : (name : List ℕ) → found_in table name ≡ place_from test name 0 ds

abbrev pub passes : Which → Declaration → Bool
passes Types d = is_type d
passes Classes d = is_class d
passes GlobalsAndFunctions d = is_global_or_function d

abbrev pub declared : Known → List Declaration
declared k = map declared_as k.list.now

pub record AreTables (k : Known) : Type 0 where
  pub types : IsTableOf is_type k.types (declared k)
  pub classes : IsTableOf is_class k.classes (declared k)
  pub globals : IsTableOf is_global_or_function k.globals (declared k)

abbrev pub is_constant : Declaration → Bool
is_constant (a_global g) = g.written.constant
is_constant _ = false

-- a place, if a constant stands there
abbrev pub constant_if : ℕ → Option Declaration → Option ℕ
constant_if i (Some (a_global g)) = if g.written.constant then Some i else None
constant_if i _ = None
