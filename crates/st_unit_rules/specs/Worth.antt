-- What initial values of parameters are worth, so that signatures can be compared by values: a list that is shorter than its array, and
-- one that repeats a value, are worth what they give (IEC 61131-3:2013, 6.5.1.4).
use Rattle.std.specs.Prelude.{ℕ, zero, suc, ℤ, pos, ◌-ℤ◌, Bool, true, false, ◌&&◌, if◌then◌else◌, List, [], ◌∷◌, ◌++◌, replicate, Option, Some, None, option_map, slice_get}
use Rattle.std.specs.Ordering.{int_eq}
use Rattle.plc_text.specs.Words.{same}
use Rattle.st_types.specs.declared.st_type.StType.{StType, out-StType}
use Rattle.st_types.specs.declared.st_type.StType.TheOpen.{StType-F}
use Rattle.st_tree.specs.declared.declaration.FieldGroup.{FieldGroup}
use Rattle.st_tree.specs.declared.declaration.TypeBody.{TypeBody}
use Rattle.st_tree.specs.declared.declaration.TypeBody.TheVariants as body
use Rattle.st_tree.specs.declared.declaration.TypeDecl.{TypeDecl}
use Rattle.st_tree.specs.declared.name.Name.{Name}
use Rattle.st_tree.specs.declared.type_spec.TypeSpec.{TypeSpec}
use Rattle.st_tree.specs.Initial.{Initial, Value, Array, Fields, One, Repeated, Parts, no_parts, part_then, FieldInits, no_fields, field_then, initial_of}
use Rattle.st_tree.specs.Number.{number_of}
use Rattle.st_rules.specs.Literals.{asked_of}
use Rattle.st_rules.specs.Scope.{Scope}
use Rattle.st_unit_rules.specs.declared_names.Constants.{told_value}
use Rattle.st_unit_rules.specs.declared_names.WrittenTypes.{type_written}

mutual
  pub data Worth : Type 0 where
    a_number : ℤ → Worth
    -- a reference or interface value, which begins with NULL
    nothing_held : Worth
    -- of an array or a structure
    some_parts : Worths → Worth

  pub data Worths : Type 0 where
    no_worths : Worths
    worth_then : Worth → Worths → Worths

abbrev mutual
  pub same_worth : Worth → Worth → Bool
  same_worth (a_number a) (a_number b) = int_eq a b
  same_worth nothing_held nothing_held = true
  same_worth (some_parts a) (some_parts b) = same_worths a b
  same_worth _ _ = false

  pub same_worths : Worths → Worths → Bool
  same_worths no_worths no_worths = true
  same_worths (worth_then a as') (worth_then b bs) = same_worth a b && same_worths as' bs
  same_worths _ _ = false

-- ---- what is given

abbrev pub parts_listed : Parts ℕ → List (Initial ℕ)
parts_listed no_parts = []
parts_listed (part_then (One i) ps) = i ∷ parts_listed ps
parts_listed (part_then (Repeated l digits i) ps) = replicate (number_of digits) i ++ parts_listed ps

abbrev pub list_given : Option (Initial ℕ) → List (Initial ℕ)
list_given (Some (Array l ps)) = parts_listed ps
list_given _ = []

abbrev pub given_named : List ℕ → FieldInits ℕ → Option (Initial ℕ)
given_named name no_fields = None
given_named name (field_then l n i fs) = if same n name then Some i else given_named name fs

abbrev pub given_for : List ℕ → Option (Initial ℕ) → Option (Initial ℕ)
given_for name (Some (Fields l fs)) = given_named name fs
given_for name _ = None

-- how many indices there are from one to another, by their difference
abbrev pub count_to : ℤ → ℕ
count_to (pos n) = suc n
count_to _ = 0

abbrev pub worth_before : Option Worth → Option Worths → Option Worths
worth_before (Some w) (Some ws) = Some (worth_then w ws)
worth_before _ _ = None

-- so many elements; behind what is given each has the initial value of its type
abbrev pub elements_worth : (Option (Initial ℕ) → Option Worth) → ℕ → List (Initial ℕ) → Option Worths
elements_worth f zero is = Some no_worths
elements_worth f (suc n) [] = worth_before (f None) (elements_worth f n [])
elements_worth f (suc n) (i ∷ is) = worth_before (f (Some i)) (elements_worth f n is)

abbrev pub groups_of : Option (TypeDecl ℕ) → List (FieldGroup ℕ)
groups_of None = []
groups_of (Some t) = of t.body
  where
    of : TypeBody ℕ → List (FieldGroup ℕ)
    of (body.Structure gs) = gs
    of _ = []

-- `unit` is where types are declared, with the entries of TYPE
module _ (unit : Scope) (entries : List (TypeDecl ℕ)) where
  abbrev pub number_worth : Scope → StType → Option (Initial ℕ) → Option Worth
  number_worth s t None = Some (a_number (pos 0))
  number_worth s t (Some (Value e)) = option_map a_number (told_value s (asked_of (Some t)) e)
  number_worth s t _ = None

  -- what gives the worth of a type, where something is given in a scope, or nothing
  abbrev pub Weighs : Type 0
  Weighs = Scope → StType → Option (Initial ℕ) → Option Worth

  abbrev pub typed_worth : Weighs → Scope → Option StType → Option (Initial ℕ) → Option Worth
  typed_worth f s None i = None
  typed_worth f s (Some t) i = f s t i

  -- a field that is not given has the initial value of its declaration
  abbrev pub field_worth : Weighs → Scope → FieldGroup ℕ → Option (Initial ℕ) → Option Worth
  field_worth f s g (Some i) = typed_worth f s (type_written unit g.kind) (Some i)
  field_worth f s g None = typed_worth f unit (type_written unit g.kind) (option_map initial_of g.initial)

  abbrev pub names_worth : Weighs → Scope → Option (Initial ℕ) → FieldGroup ℕ → List Name → Option Worths → Option Worths
  names_worth f s i g [] rest = rest
  names_worth f s i g (n ∷ ns) rest = worth_before (field_worth f s g (given_for n.text i)) (names_worth f s i g ns rest)

  abbrev pub groups_worth : Weighs → Scope → Option (Initial ℕ) → List (FieldGroup ℕ) → Option Worths
  groups_worth f s i [] = Some no_worths
  groups_worth f s i (g ∷ gs) = names_worth f s i g g.names (groups_worth f s i gs)

  abbrev pub level_worth : Weighs → Scope → StType → StType-F StType → Option (Initial ℕ) → Option Worth
  level_worth f s t (StType-F.Elementary e) i = number_worth s t i
  level_worth f s t (StType-F.Enumeration n) i = number_worth s t i
  level_worth f s t (StType-F.Reference c) i = Some nothing_held
  level_worth f s t (StType-F.Interface k) i = Some nothing_held
  level_worth f s t (StType-F.Array low high of) i = option_map some_parts (elements_worth (f s of) (count_to (high -ℤ low)) (list_given i))
  level_worth f s t (StType-F.Structure n) i = option_map some_parts (groups_worth f s i (groups_of (slice_get entries n)))
  level_worth f s t (StType-F.Instance c) i = None

  -- no type has more than so many steps of containment
  abbrev pub worth_within : ℕ → Weighs
  worth_within zero s t i = None
  worth_within (suc n) s t i = level_worth (worth_within n) s t (out-StType t) i

  -- what the initial value of a parameter is worth, in the scope of its routine
  unfoldable pub worth_of : Scope → TypeSpec ℕ → Option (Initial ℕ) → Option Worth
  worth_of s t i = typed_worth (worth_within 66) s (type_written s t) i
