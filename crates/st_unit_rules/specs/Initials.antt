-- Initial values: the rules that they break, and their typed trees (IEC 61131-3:2013, 6.4.4 and 6.5.1.4).
use Rattle.std.specs.Prelude.{ℕ, ◌+◌, ℤ, pos, ◌+ℤ◌, ◌-ℤ◌, int_lt, Bool, true, false, not, List, [], ◌∷◌, ◌++◌, Option, Some, None, option_and_then}
use Rattle.std.specs.List.{list_any}
use Rattle.plc_text.specs.Words.{same}
use Rattle.plc_text.specs.declared.code.Code.TheVariants.{E05, E07, E10, E13}
use Rattle.st_types.specs.declared.st_type.StType.{StType, out-StType}
use Rattle.st_types.specs.declared.st_type.StType.TheVariants as type
use Rattle.st_types.specs.declared.st_type.StType.TheOpen.{StType-F}
use Rattle.st_tree.specs.declared.program.Note.{Note}
use Rattle.st_tree.specs.declared.program.Target.{Target}
use Rattle.st_tree.specs.declared.program.Target.TheVariants as target
use Rattle.st_tree.specs.Expression.{Expression, Int, Typed, Time, True, False, Null, Place, Call, Enumerator, Ref, Now, Paren, Not, Negate, Chain}
use Rattle.st_tree.specs.Initial.{Initial, Value, Array, Fields, Part, One, Repeated, Parts, no_parts, part_then, FieldInits, no_fields, field_then}
use Rattle.st_tree.specs.Number.{number_of}
use Rattle.st_rules.specs.declared.asked.Asked.{Asked}
use Rattle.st_rules.specs.declared.names.DeclaredVariable.{DeclaredVariable}
use Rattle.st_rules.specs.declared.names.DeclaredField.{DeclaredField}
use Rattle.st_rules.specs.Faults.{Faults, when}
use Rattle.st_rules.specs.Literals.{asked_of, past_64_bits}
use Rattle.st_rules.specs.Scope.{Scope, field_named, instance_variable, may_use}
use Rattle.st_rules.specs.Expressions.{note, typed}
use Rattle.st_unit_rules.specs.declared_names.Constants.{Outcome, comes_to, constant_faults, constant_value}

-- ---- what a list is for

-- how many values a list gives: n(..) gives n
abbrev pub part_count : Part ℕ → ℕ
part_count (One i) = 1
part_count (Repeated l digits i) = number_of digits

abbrev pub count_parts : Parts ℕ → ℕ
count_parts no_parts = 0
count_parts (part_then p ps) = part_count p + count_parts ps

abbrev pub element_at : StType-F StType → Option StType
element_at (StType-F.Array low high of) = Some of
element_at _ = None

-- the type of the elements, where a list is for an array
abbrev pub element_given : Option StType → Option StType
element_given t = option_and_then (λ u. element_at (out-StType u)) t

abbrev pub is_no_array : StType-F StType → Bool
is_no_array (StType-F.Array low high of) = false
is_no_array _ = true

abbrev pub has_no_fields : StType → Bool
has_no_fields (type.Structure n) = false
has_no_fields (type.Instance c) = false
has_no_fields _ = true

-- a list in brackets for what is no array
abbrev pub list_of_no_array : ℕ → Option StType → Faults
list_of_no_array line None = []
list_of_no_array line (Some t) = when (is_no_array (out-StType t)) E07 line

-- how many elements there are
abbrev pub room_of : StType-F StType → Option ℤ
room_of (StType-F.Array low high of) = Some (high -ℤ low +ℤ pos 1)
room_of _ = None

abbrev pub is_below : Option ℤ → ℕ → Bool
is_below None n = false
is_below (Some m) n = int_lt m (pos n)

-- more values than the array has
abbrev pub more_values_than_elements : ℕ → Option StType → ℕ → Faults
more_values_than_elements line t n = when (is_below (option_and_then (λ u. room_of (out-StType u)) t) n) E13 line

-- a list with names for what has no fields
abbrev pub list_of_no_fields : ℕ → Option StType → Faults
list_of_no_fields line None = []
list_of_no_fields line (Some t) = when (has_no_fields t) E07 line

-- what a name in a list means
pub data Given : Type 0 where
  -- the type before the list cannot be told, or has no fields
  untold : Given
  not_found : Given
  a_field : ℕ → Option StType → Given
  a_member : ℕ → DeclaredVariable → Given

abbrev pub given_type : Given → Option StType
given_type (a_field k t) = t
given_type (a_member d v) = v.kind
given_type _ = None

abbrev pub given_target : Given → Target
given_target (a_field k t) = target.Field k
given_target (a_member d v) = v.target
given_target _ = target.Nothing

abbrev pub is_not_found : Given → Bool
is_not_found not_found = true
is_not_found _ = false

abbrev pub field_not_found : ℕ → Given → Faults
field_not_found line g = when (is_not_found g) E05 line

abbrev pub field_named_twice : ℕ → List (List ℕ) → List ℕ → Faults
field_named_twice line before name = when (list_any (same name) before) E07 line

-- the number of a constant stands in the note of the expression that gives it
abbrev pub outcome_target : Outcome → Target
outcome_target (comes_to z) = target.Constant z
outcome_target _ = target.Nothing

abbrev pub with_note : (Note → Note) → Expression Note → Expression Note
with_note f (Int a digits) = Int (f a) digits
with_note f (Typed a k literal) = Typed (f a) k literal
with_note f (Time a text) = Time (f a) text
with_note f (True a) = True (f a)
with_note f (False a) = False (f a)
with_note f (Null a) = Null (f a)
with_note f (Place a r ss) = Place (f a) r ss
with_note f (Call a r ss xs) = Call (f a) r ss xs
with_note f (Enumerator a t b n) = Enumerator (f a) t b n
with_note f (Ref a r ss) = Ref (f a) r ss
with_note f (Now a) = Now (f a)
with_note f (Paren a e) = Paren (f a) e
with_note f (Not a e) = Not (f a) e
with_note f (Negate a e) = Negate (f a) e
with_note f (Chain a e ts) = Chain (f a) e ts

module _ (s : Scope) where
  abbrev pub of_structure : Option (ℕ × DeclaredField) → Given
  of_structure None = not_found
  of_structure (Some f) = a_field f.0 f.1.kind

  abbrev pub of_instance : Option (ℕ × DeclaredVariable) → Given
  of_instance None = not_found
  of_instance (Some v) = a_member v.0 v.1

  -- a field of a structure, or a variable of an instance
  abbrev pub given_by : Option StType → List ℕ → Given
  given_by (Some (type.Structure n)) name = of_structure (field_named s n name)
  given_by (Some (type.Instance c)) name = of_instance (instance_variable s c name)
  given_by _ name = untold

  abbrev pub is_out_of_access : Given → Bool
  is_out_of_access (a_member d v) = not (may_use s v.access d)
  is_out_of_access _ = false

  -- a variable that may not be seen from here
  abbrev pub field_out_of_access : ℕ → Given → Faults
  field_out_of_access line g = when (is_out_of_access g) E10 line

  -- ---- the rules

  abbrev mutual
    -- what is given where a value of this type stands
    pub initial_faults : Option StType → Initial ℕ → Faults
    initial_faults t (Value e) = constant_faults s (asked_of t) e
    initial_faults t (Array l ps) = list_of_no_array l t ++ more_values_than_elements l t (count_parts ps) ++ part_faults (element_given t) ps
    initial_faults t (Fields l fs) = list_of_no_fields l t ++ given_faults t [] fs

    pub part_faults : Option StType → Parts ℕ → Faults
    part_faults t no_parts = []
    part_faults t (part_then (One i) ps) = initial_faults t i ++ part_faults t ps
    part_faults t (part_then (Repeated l digits i) ps) = past_64_bits l (number_of digits) ++ initial_faults t i ++ part_faults t ps

    pub given_faults : Option StType → List (List ℕ) → FieldInits ℕ → Faults
    given_faults t before no_fields = []
    given_faults t before (field_then l name i fs) =
        let g = given_by t name in
        field_not_found l g ++ field_named_twice l before name ++ field_out_of_access l g ++ initial_faults (given_type g) i ++ given_faults t (before ++ name ∷ []) fs

  -- ---- the typed tree

  -- a constant expression with its value
  abbrev pub typed_constant : Asked → Expression ℕ → Expression Note
  typed_constant asked e = with_note (λ a. record a { target = outcome_target (constant_value s asked e) }) (typed s asked e)

  abbrev mutual
    pub typed_initial : Option StType → Initial ℕ → Initial Note
    typed_initial t (Value e) = Value (typed_constant (asked_of t) e)
    typed_initial t (Array l ps) = Array l (typed_parts (element_given t) ps)
    typed_initial t (Fields l fs) = Fields l (typed_fields t fs)

    pub typed_parts : Option StType → Parts ℕ → Parts Note
    typed_parts t no_parts = no_parts
    typed_parts t (part_then (One i) ps) = part_then (One (typed_initial t i)) (typed_parts t ps)
    typed_parts t (part_then (Repeated l digits i) ps) = part_then (Repeated l digits (typed_initial t i)) (typed_parts t ps)

    pub typed_fields : Option StType → FieldInits ℕ → FieldInits Note
    typed_fields t no_fields = no_fields
    typed_fields t (field_then l name i fs) =
        let g = given_by t name in
        field_then (note l (given_type g) (given_target g)) name (typed_initial (given_type g) i) (typed_fields t fs)
