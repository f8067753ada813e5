-- Variables and constants as sections declare them, with their types, values and numbers (IEC 61131-3:2013, 6.5).
use Rattle.std.specs.Prelude.{ℕ, suc, ◌+◌, ℤ, Bool, true, false, not, ◌&&◌, if◌then◌else◌, List, [], ◌∷◌, ◌++◌, map, flat_map, filter, length, Option, Some, None, option_map, option_and_then, unwrap_or}
use Rattle.st_types.specs.declared.st_type.StType.{StType}
use Rattle.st_types.specs.declared.st_type.StType.TheVariants as type
use Rattle.st_tree.specs.Address.{area_of}
use Rattle.st_tree.specs.declared.address.Area.{Area}
use Rattle.st_tree.specs.declared.address.Area.TheVariants as area
use Rattle.st_tree.specs.declared.declaration.Item.{Item}
use Rattle.st_tree.specs.declared.declaration.Section.{Section}
use Rattle.st_tree.specs.declared.declaration.SectionSort.{SectionSort}
use Rattle.st_tree.specs.declared.declaration.SectionSort.TheVariants as sort
use Rattle.st_tree.specs.declared.declaration.Member.{Member}
use Rattle.st_tree.specs.declared.declaration.Member.TheVariants as member
use Rattle.st_tree.specs.declared.name.Name.{Name}
use Rattle.st_tree.specs.declared.program.Target.{Target}
use Rattle.st_tree.specs.declared.program.Target.TheVariants as target
use Rattle.st_tree.specs.declared.type_spec.TypeSpec.{TypeSpec}
use Rattle.st_tree.specs.Initial.{Initial, Value, initial_of}
use Rattle.st_rules.specs.declared.asked.Asked.TheVariants.{Wanted}
use Rattle.st_rules.specs.declared.modifiers.Access.{Access}
use Rattle.st_rules.specs.declared.modifiers.Access.TheVariants.{Public, Protected}
use Rattle.st_rules.specs.declared.names.DeclaredVariable.{DeclaredVariable}
use Rattle.st_rules.specs.Modifiers.{is_constant, written_access}
use Rattle.st_rules.specs.Signatures.{is_parameter_sort}
use Rattle.st_rules.specs.Scope.{Scope, is_external, is_instance_sort, is_body_sort}
use Rattle.st_unit_rules.specs.declared_names.Constants.{told_value}
use Rattle.st_unit_rules.specs.declared_names.WrittenTypes.{type_written}

-- ---- as they are written

-- a name with what its section and its item say of it
pub record Written : Type 0 where
  pub sort : SectionSort
  pub constant : Bool
  pub access : Access
  pub name : Name
  pub item : Item ℕ

-- a VAR of a class is PROTECTED where nothing is written; inputs and outputs are public
abbrev pub section_access : SectionSort → Option Access → Access
section_access sort.Var written = unwrap_or written Protected
section_access _ written = Public

-- of an external CONSTANT says nothing
abbrev pub declares_constants : Section ℕ → Bool
declares_constants s = is_constant s.modifiers && not (is_external s.sort)

abbrev pub item_written : Section ℕ → Item ℕ → List Written
item_written s item = map (λ n. record { sort = s.sort; constant = declares_constants s; access = section_access s.sort (written_access s.modifiers); name = n; item = item }) item.names

abbrev pub section_written : Section ℕ → List Written
section_written s = flat_map (item_written s) s.items

abbrev pub sections_written : List (Section ℕ) → List Written
sections_written ss = flat_map section_written ss

-- the sections among a class's members
abbrev pub sections_in : {A : Type 0} → List (Member A) → List (Section A)
sections_in [] = []
sections_in (member.Section s ∷ ms) = s ∷ sections_in ms
sections_in (member.Method m ∷ ms) = sections_in ms

-- an input, an output or an in-out
abbrev pub is_parameter_written : Written → Bool
is_parameter_written w = is_parameter_sort w.sort && not w.constant

-- a variable that each instance has
abbrev pub is_kept_written : Written → Bool
is_kept_written w = is_instance_sort w.sort && not w.constant

-- an in-out or a temporary variable of a body
abbrev pub is_body_written : Written → Bool
is_body_written w = is_body_sort w.sort && not w.constant

abbrev pub is_input_area : Area → Bool
is_input_area area.Input = true
is_input_area _ = false

abbrev pub is_at_input : Option (List ℕ) → Bool
is_at_input None = false
is_at_input (Some text) = is_input_area (area_of text)

-- ---- values of constants

-- a constant is elementary or an enumerator
abbrev pub may_be_constant : StType → Bool
may_be_constant (type.Elementary e) = true
may_be_constant (type.Enumeration n) = true
may_be_constant _ = false

abbrev pub constant_target : Option ℤ → Target
constant_target (Some z) = target.Constant z
constant_target None = target.Nothing

module _ (s : Scope) where
  abbrev pub value_given : StType → Option (Initial ℕ) → Option ℤ
  value_given t (Some (Value e)) = if may_be_constant t then told_value s (Wanted t) e else None
  value_given t _ = None

  -- the value of a constant, where it can be told
  abbrev pub constant_of : Written → Option ℤ
  constant_of w = option_and_then (λ t. value_given t (option_map initial_of w.item.initial)) (type_written s w.item.kind)

  abbrev pub declared_with : Target → Written → DeclaredVariable
  declared_with meant w = record {
    name = w.name.text;
    sort = w.sort;
    constant = w.constant;
    access = w.access;
    located_input = is_at_input w.item.address;
    kind = type_written s w.item.kind;
    target = meant;
  }

  -- ---- variables of a class, a function block or a program

  -- the next variable of the instance has number k, the next local of the body number l; an external is the global itself
  abbrev pub member_targets : ℕ → ℕ → List Written → List Target
  member_targets k l [] = []
  member_targets k l (w ∷ ws) =
      if w.constant then constant_target (constant_of w) ∷ member_targets k l ws
      else if is_instance_sort w.sort then target.Variable k ∷ member_targets (suc k) l ws
      else if is_body_sort w.sort then target.Local l ∷ member_targets k (suc l) ws
      else target.Nothing ∷ member_targets k l ws

  abbrev pub declared_each : List Target → List Written → List DeclaredVariable
  declared_each (t ∷ ts) (w ∷ ws) = declared_with t w ∷ declared_each ts ws
  declared_each _ _ = []

  abbrev pub members_declared : ℕ → ℕ → List (Section ℕ) → List DeclaredVariable
  members_declared k l ss = declared_each (member_targets k l (sections_written ss)) (sections_written ss)

  -- ---- locals of a function or a method

  -- the next parameter has number p, the next of the others number q
  abbrev pub local_targets : ℕ → ℕ → List Written → List Target
  local_targets p q [] = []
  local_targets p q (w ∷ ws) =
      if w.constant then constant_target (constant_of w) ∷ local_targets p q ws
      else if is_parameter_sort w.sort then target.Local p ∷ local_targets (suc p) q ws
      else if is_instance_sort w.sort then target.Local q ∷ local_targets p (suc q) ws
      else if is_body_sort w.sort then target.Local q ∷ local_targets p (suc q) ws
      else target.Nothing ∷ local_targets p q ws

  -- a result is a local with the routine's name, number 0
  abbrev pub result_declared : List ℕ → Option (TypeSpec ℕ) → List DeclaredVariable
  result_declared name None = []
  result_declared name (Some t) =
      record { name = name; sort = sort.Var; constant = false; access = Public; located_input = false; kind = type_written s t; target = target.Local 0 } ∷ []

  abbrev pub result_count : Option (TypeSpec ℕ) → ℕ
  result_count None = 0
  result_count (Some t) = 1

  abbrev pub locals_declared : Option (TypeSpec ℕ) → List (Section ℕ) → List DeclaredVariable
  locals_declared result ss =
      let ws = sections_written ss in
      declared_each (local_targets (result_count result) (result_count result + length (filter is_parameter_written ws)) ws) ws

  -- the result first
  unfoldable pub routine_locals : List ℕ → Option (TypeSpec ℕ) → List (Section ℕ) → List DeclaredVariable
  routine_locals name result ss = result_declared name result ++ locals_declared result ss
