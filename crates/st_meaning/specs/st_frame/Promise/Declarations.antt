-- Declarations: what a routine declares unfolds and begins in range, its parameters are its variables, and its body is right.
use Rattle.std.specs.Prelude.{◌≡◌, ◌<◌, ℕ, pos, true, false, List, [], ◌∷◌, length, Option, Some, None, slice_get}
use Rattle.st_types.specs.Range.{Fits}
use Rattle.st_tree.specs.declared.program.Note.{Note}
use Rattle.st_tree.specs.Initial.{Initial, FieldInits}
use Rattle.st_rules.specs.Chains.{◌or_else◌}
use Rattle.st_values.specs.Initial.{number_given, list_given, fields_given, given_for}
use Rattle.st_values.specs.Program.{Variable, Recipient, to_local, to_variable, Parameter, Routine, Program}
use Rattle.st_values.specs.Shape as shape
use Rattle.st_values.specs.Shape.{Shape, Fields, no_fields, field_then, has_instance, shape_of}
use Rattle.st_meaning.specs.Call.{is_in_out}
use Rattle.st_meaning.specs.st_frame.Promise.Types.{IsNoInstance}
use Rattle.st_meaning.specs.st_frame.Promise.Names.{Scope}
use Rattle.st_meaning.specs.st_frame.Promise.Calls.{recipient_variable}
use Rattle.st_meaning.specs.st_frame.Promise.Statements.{StatementsAre}

abbrev pub Each : {A : Type 0} → (A → Type 0) → List A → Type 0
Each P [] = Unit {0}
Each P (x ∷ xs) = P x × Each P xs

-- ---- variables

-- what is given as an initial value has the shape
abbrev mutual
  pub StartsRight : Shape → Option (Initial Note) → Type 0
  StartsRight (shape.Elementary e) i = Fits e (number_given i)
  StartsRight (shape.Enumeration name values) i = (k : ℕ) × (number_given i ≡ pos k) × (k < length values)
  StartsRight (shape.Reference c name) i = Unit {0}
  StartsRight (shape.Interface k name) i = Unit {0}
  StartsRight (shape.Array low n sh) i = StartsRight sh None × Each (λ j. StartsRight sh (Some j)) (list_given i)
  StartsRight (shape.Structure name fs) i = StartRight fs (fields_given i)
  StartsRight (shape.Instance c name fs) i = StartRight fs (fields_given i)

  pub StartRight : Fields → FieldInits Note → Type 0
  StartRight no_fields gs = Unit {0}
  StartRight (field_then v sh fs) gs = StartsRight sh (given_for v.name gs or_else v.initial) × StartRight fs gs

-- its type unfolds within the bound, and its initial value has the shape
abbrev pub VariableFits : Program → Variable → Type 0
VariableFits p v = (sh : Shape) × (shape_of p v.kind ≡ Some sh) × StartsRight sh v.initial

-- a local holds no instance; of an in-out only the type counts
abbrev pub LocalIs : Program → Variable → Type 0
LocalIs p v = is_in_out v.sort ≡ false → (sh : Shape) × (shape_of p v.kind ≡ Some sh) × StartsRight sh v.initial × (has_instance sh ≡ false)

-- ---- parameters

abbrev pub IsLocal : Recipient → Type 0
IsLocal (to_local n) = Unit {0}
IsLocal (to_variable k) = ⊥

-- a parameter is a local or variable of its sort: an in-out a local, any other none that is an instance
abbrev pub ParameterIs : Program → Routine → Parameter → Type 0
ParameterIs p r q =
    (v : Variable) × (recipient_variable p r q.to ≡ Some v) × (v.sort ≡ q.sort) × (is_in_out q.sort ≡ true → IsLocal q.to) × (is_in_out q.sort ≡ false → IsNoInstance v.kind)

-- no two parameters are one local or variable
pub record AreApart (ps : List Parameter) : Type 0 where
  pub by : (i j : ℕ) (q r : Parameter) → slice_get ps i ≡ Some q → slice_get ps j ≡ Some r → q.to ≡ r.to → i ≡ j

-- ---- routines

abbrev pub scope_of : Routine → Scope
scope_of r = record { this = r.class; locals = r.locals }

pub record RoutineIs (p : Program) (r : Routine) : Type 0 where
  pub locals : Each (LocalIs p) r.locals
  pub parameters : Each (ParameterIs p r) r.parameters
  pub apart : AreApart r.parameters
  pub body : StatementsAre p (scope_of r) r.body
