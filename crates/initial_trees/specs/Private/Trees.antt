-- The initial values of types, where these unfold to a depth.
use Rattle.std.specs.Prelude.{ℕ, zero, suc, List, [], ◌∷◌, Option, Some, None, option_map, slice_get}
use Rattle.std.specs.Borrow.{Bor}
use Rattle.st_types.specs.declared.st_type.StType.{StType}
use Rattle.st_tree.specs.declared.initial.Init.{Init}
use Rattle.st_tree.specs.declared.program.Note.{Note}
use Rattle.st_tree.specs.Initial.{Initial, FieldInits, initial_of}
use Rattle.st_rules.specs.Chains.{◌or_else◌}
use Rattle.st_values.specs.Initial.{init, given_for, list_given, fields_given}
use Rattle.st_values.specs.Program.{Variable, Program, class_at, class_variables}
use Rattle.st_values.specs.Shape.{shape_within}
use Rattle.st_values.specs.Value.{Value, structure, instance, Values, no_values, value_then, Members, no_members, member_then, ◌>>=◌}
use Rattle.program_tables.specs.st_initial.Variables.{fields_at}
use Rattle.initial_trees.specs.Private.Kinds.{structure_name_at}

abbrev pub given_by : Option (Bor (Init Note)) → Option (Initial Note)
given_by i = option_map (λ i. initial_of i.now) i

-- what is given to a variable, else its own value
abbrev pub given_to : Variable → FieldInits Note → Option (Initial Note)
given_to v gs = given_for v.name gs or_else v.initial

-- the value of a place of a type
abbrev pub value_within : Program → ℕ → StType → Option (Initial Note) → Option Value
value_within p n t i = option_map (λ sh. init sh i) (shape_within p n t)

-- of variables, and of so many elements from number k on, where the types of parts unfold to this depth
module _ (p : Program) (n : ℕ) where
  abbrev pub members_within : List Variable → FieldInits Note → Option Members
  members_within [] gs = Some no_members
  members_within (v ∷ vs) gs = do
    x ← value_within p n v.kind (given_to v gs)
    rest ← members_within vs gs
    Some (member_then v.name x rest)

  abbrev pub elements_within : StType → List (Initial Note) → ℕ → ℕ → Option Values
  elements_within t is k zero = Some no_values
  elements_within t is k (suc m) = do
    x ← value_within p n t (slice_get is k)
    rest ← elements_within t is (suc k) m
    Some (value_then x rest)

  -- the elements of an array, which has a value where their type has one, also where it has none of them
  abbrev pub array_within : StType → ℕ → Option (Initial Note) → Option Values
  array_within t count i = do
    x ← value_within p n t None
    elements_within t (list_given i) 0 count

  abbrev pub structure_within : ℕ → Option (Initial Note) → Option Value
  structure_within k i = do
    name ← structure_name_at p k
    ms ← members_within (fields_at p k) (fields_given i)
    Some (structure name ms)

  abbrev pub instance_within : ℕ → Option (Initial Note) → Option Value
  instance_within c i = do
    k ← class_at p c
    ms ← members_within (class_variables p c) (fields_given i)
    Some (instance k.name ms)

-- ---- lists that grow at their ends

abbrev pub members_behind : Members → Members → Members
members_behind no_members ms = ms
members_behind (member_then n v rest) ms = member_then n v (members_behind rest ms)

abbrev pub values_behind : Values → Values → Values
values_behind no_values vs = vs
values_behind (value_then v rest) vs = value_then v (values_behind rest vs)
