-- Initial values (IEC 61131-3:2013, 6.5.1.3 and 6.5.1.4).
use Rattle.std.specs.Prelude.{ℕ, zero, suc, ℤ, pos, if◌then◌else◌, List, [], ◌∷◌, ◌++◌, Option, Some, None, replicate}
use Rattle.plc_text.specs.Words.{same}
use Rattle.st_tree.specs.declared.program.Note.{Note}
use Rattle.st_tree.specs.declared.program.Target.{Target}
use Rattle.st_tree.specs.declared.program.Target.TheVariants as target
use Rattle.st_tree.specs.Expression.{Expression, Int, Typed, Time, True, False, Null, Place, Call, Enumerator, Ref, Now, Paren, Not, Negate, Chain}
use Rattle.st_tree.specs.Initial as given
use Rattle.st_tree.specs.Initial.{Initial, Parts, FieldInits}
use Rattle.st_tree.specs.Number.{number_of}
use Rattle.st_rules.specs.Chains.{◌or_else◌}
use Rattle.st_values.specs.Program.{Variable, Region, Program}
use Rattle.st_values.specs.Value.{Value, number, reference, array, structure, instance, Values, no_values, value_then, Members, no_members, member_then, Store}
use Rattle.st_values.specs.Shape.{Shape, Elementary, Enumeration, Reference, Interface, Array, Structure, Instance, Fields, no_fields, field_then, shape_of}

-- the note at the head of an expression
abbrev pub note_of : {A : Type 0} → Expression A → A
note_of (Int a digits) = a
note_of (Typed a k l) = a
note_of (Time a text) = a
note_of (True a) = a
note_of (False a) = a
note_of (Null a) = a
note_of (Place a r ss) = a
note_of (Call a r ss xs) = a
note_of (Enumerator a t b n) = a
note_of (Ref a r ss) = a
note_of (Now a) = a
note_of (Paren a e) = a
note_of (Not a e) = a
note_of (Negate a e) = a
note_of (Chain a e ts) = a

-- the number of a constant or an enumerator
abbrev pub constant : Target → ℤ
constant (target.Constant z) = z
constant (target.Enumerator k) = pos k
constant _ = pos 0

-- where nothing is given, 0 or the first enumerator
abbrev pub number_given : Option (Initial Note) → ℤ
number_given (Some (given.Value e)) = constant (note_of e).target
number_given _ = pos 0

-- the values that the list of an array gives, a repeated one so many times
abbrev pub listed : Parts Note → List (Initial Note)
listed given.no_parts = []
listed (given.part_then (given.One i) ps) = i ∷ listed ps
listed (given.part_then (given.Repeated line count i) ps) = replicate (number_of count) i ++ listed ps

abbrev pub list_given : Option (Initial Note) → List (Initial Note)
list_given (Some (given.Array line ps)) = listed ps
list_given _ = []

abbrev pub fields_given : Option (Initial Note) → FieldInits Note
fields_given (Some (given.Fields line fs)) = fs
fields_given _ = given.no_fields

abbrev pub given_for : List ℕ → FieldInits Note → Option (Initial Note)
given_for name given.no_fields = None
given_for name (given.field_then a n i fs) = if same n name then Some i else given_for name fs

-- so many elements; behind the values that are given each has its own initial value
abbrev pub elements : (Option (Initial Note) → Value) → ℕ → List (Initial Note) → Values
elements f zero is = no_values
elements f (suc n) [] = value_then (f None) (elements f n [])
elements f (suc n) (i ∷ is) = value_then (f (Some i)) (elements f n is)

-- the initial value of a shape, where one is given or not
abbrev mutual
  pub init : Shape → Option (Initial Note) → Value
  init (Elementary e) i = number (number_given i)
  init (Enumeration name values) i = number (number_given i)
  init (Reference c name) i = reference None
  init (Interface k name) i = reference None
  init (Array low n sh) i = array low (elements (init sh) n (list_given i))
  init (Structure name fs) i = structure name (inits fs (fields_given i))
  init (Instance c name fs) i = instance name (inits fs (fields_given i))

  -- a variable that is not named has the initial value of its declaration
  pub inits : Fields → FieldInits Note → Members
  inits no_fields gs = no_members
  inits (field_then v sh fs) gs = member_then v.name (init sh (given_for v.name gs or_else v.initial)) (inits fs gs)

abbrev pub init_of : Option Shape → Option (Initial Note) → Value
init_of None i = number (pos 0)
init_of (Some sh) i = init sh i

-- the initial value of a variable
abbrev pub initial_value : Program → Variable → Value
initial_value p v = init_of (shape_of p v.kind) v.initial

abbrev pub initial_regions : Program → List Region → Store
initial_regions p [] = no_members
initial_regions p (x ∷ xs) = member_then x.variable.name (initial_value p x.variable) (initial_regions p xs)

abbrev pub initial_store : Program → Store
initial_store p = initial_regions p p.regions
