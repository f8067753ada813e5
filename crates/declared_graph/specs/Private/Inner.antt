-- Constants of a class or a routine by name, and what they need.
use Rattle.std.specs.Prelude.{◌≡◌, ℕ, nat_eq, cond, Bool, ◌&&◌, if◌then◌else◌, List, [], ◌∷◌, ◌++◌, flat_map, filter_map, Option, Some, None, option_map}
use Rattle.std.specs.Cmp.Lexicographic.{pointwise}
use Rattle.std.specs.HashMap.{HashMap, get}
use Rattle.std.specs.declared.hash.FoldHasher.{FoldHasher}
use Rattle.std.specs.declared.hash.BuildHasherDefault.{BuildHasherDefault}
use Rattle.plc_text.specs.declared.code.Code.TheVariants.{E06}
use Rattle.st_tree.specs.declared.declaration.Item.{Item}
use Rattle.st_tree.specs.Initial.{initial_of}
use Rattle.st_rules.specs.Faults.{Faults, when}
use Rattle.st_rules.specs.Numbered.{each_numbered}
use Rattle.st_unit_rules.specs.declared_names.Variables.{Written}
use Rattle.st_unit_rules.specs.declared_names.Declarations.{item_line}
use Rattle.st_unit_rules.specs.Cycles.{Named, alone, before_dot, before_hash, named_in_bounds, named_in_value, inner_from, needs_inner}
use Rattle.graph_cycles.specs.Graph.{marked}
use Rattle.st_unit_rules.specs.declared.declaration_list.written.WrittenName.{WrittenName}
use Rattle.st_unit_rules.specs.declaration_list.Written.{written_of}
use Rattle.declared_graph.specs.declared.names.Named.{Named as Lent}
use Rattle.declared_graph.specs.Private.Names.{named_as}

-- a place, where a constant stands there
abbrev pub inner_constant : Bool → ℕ → Option ℕ
inner_constant constant i = if constant then Some i else None

abbrev pub InnerTable : Type 0
InnerTable = HashMap (List ℕ) (Option ℕ) (BuildHasherDefault FoldHasher)

abbrev pub flat : Option (Option ℕ) → Option ℕ
flat None = None
flat (Some o) = o

abbrev pub inner_found : InnerTable → List ℕ → Option ℕ
inner_found table name = flat (get (pointwise nat_eq) table name)

-- a name has a place, all others what they had
abbrev pub IsPut : InnerTable → InnerTable → List ℕ → Option ℕ → Type 0
IsPut old new key place = (name : List ℕ) → get (pointwise nat_eq) new name ≡ cond (pointwise nat_eq key name) (Some place) (get (pointwise nat_eq) old name)

pub record IsInnerTable (table : InnerTable) (ws : List Written) : Type 0 where
  pub finds : (name : List ℕ) → inner_found table name ≡ inner_from name 0 ws

abbrev pub is_first_name : WrittenName → Bool
is_first_name w = w.first

module _ (table : InnerTable) where
  abbrev pub found_for : Named → List ℕ
  found_for (alone name) = filter_map (inner_found table) (name ∷ [])
  found_for (before_dot name) = filter_map (inner_found table) (name ∷ [])
  found_for (before_hash l name) = []

  abbrev pub found_for_lent : Lent → List ℕ
  found_for_lent n = found_for (named_as n)

  abbrev pub needed_by_item : Item ℕ → List ℕ
  needed_by_item item = flat_map found_for (named_in_bounds item.kind ++ named_in_value (option_map initial_of item.initial))

  -- once for all names of an item
  abbrev pub needed_of : WrittenName → List ℕ
  needed_of w = if w.first && (written_of w).constant then needed_by_item w.item.now else []

-- each constant that is marked, at its item
abbrev pub marked_fault : List Bool → ℕ → Written → Faults
marked_fault marks i w = when (marked marks i) E06 (item_line w.item)

abbrev pub marked_faults : List Bool → List Written → Faults
marked_faults marks ws = each_numbered (marked_fault marks) 0 ws

-- those that need themselves are marked
pub record OnCycles (marks : List Bool) (ws : List Written) : Type 0 where
  pub on : (i : ℕ) → marked marks i ≡ needs_inner ws i
