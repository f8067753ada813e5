-- Calls: what is called is there, and arguments suit whatever the call may enter.
use Rattle.std.specs.Prelude.{◌≡◌, ◌≤◌, if◌then◌else◌, ℕ, suc, true, false, List, [], ◌∷◌, ◌++◌, length, Option, Some, None, IsTrue, slice_get}
use Rattle.plc_text.specs.Words.{same}
use Rattle.st_types.specs.declared.st_type.StType.{StType}
use Rattle.st_types.specs.declared.st_type.StType.TheVariants as type
use Rattle.st_tree.specs.declared.declaration.SectionSort.TheVariants as sort
use Rattle.st_tree.specs.declared.program.Note.{Note}
use Rattle.st_tree.specs.Expression.{Expression, Positional, Input, Output, Arguments, no_arguments, argument_then}
use Rattle.st_rules.specs.Chains.{is_among}
use Rattle.st_values.specs.Initial.{note_of}
use Rattle.st_values.specs.Program.{Variable, Recipient, to_local, to_variable, Parameter, Routine, Signature, Program, class_variables, conforms, lookup, body_of}
use Rattle.st_values.specs.Shape.{Instance, Fields, path_shape}
use Rattle.st_values.specs.Value.{Path}
use Rattle.st_meaning.specs.Call.{by_instance, from_class, Callee, a_conversion, a_function, a_body, is_in_out, is_output, parameter_number, behind_next}
use Rattle.st_meaning.specs.st_frame.Footprint.{Enters, by_number, by_class, by_text, by_body, by_base}
use Rattle.st_meaning.specs.st_frame.Use.{Called, the_function, a_method_of, a_method_from, a_body_of, the_body_from, signatures_at, called_parameters}
use Rattle.st_meaning.specs.st_frame.Promise.Types.{IsElementary, Widens, Serves}
use Rattle.st_meaning.specs.st_frame.Promise.Names.{Scope}
use Rattle.st_meaning.specs.st_frame.Promise.Places.{IsPlace}

abbrev pub kind : Expression Note → StType
kind e = (note_of e).kind

-- ---- one argument and one parameter

abbrev pub own_variable : Program → Option ℕ → ℕ → Option Variable
own_variable p None k = None
own_variable p (Some c) k = slice_get (class_variables p c) k

-- the local or variable that a parameter is
abbrev pub recipient_variable : Program → Routine → Recipient → Option Variable
recipient_variable p r (to_local n) = slice_get r.locals n
recipient_variable p r (to_variable k) = own_variable p r.class k

-- an expression suits a parameter: an in-out takes a place, any other a value
abbrev pub Suits : Program → Routine → Option Parameter → Expression Note → Type 0
Suits p x None e = ⊥
Suits p x (Some q) e =
    (v : Variable) × (recipient_variable p x q.to ≡ Some v) × (is_in_out q.sort ≡ true → IsPlace e × Serves p (kind e) v.kind) × (is_in_out q.sort ≡ false → Widens p (kind e) v.kind)

-- what an output leaves serves at a place of this type
abbrev pub Leaves : Program → Routine → Option Parameter → StType → Type 0
Leaves p x None t = ⊥
Leaves p x (Some q) t = (v : Variable) × (recipient_variable p x q.to ≡ Some v) × (q.sort ≡ sort.Output) × Widens p v.kind t

-- ---- by what is declared alone, whether or not there is anything to enter

-- an output takes no value, and an in-out takes a place
abbrev pub MayTake : Option Parameter → Expression Note → Type 0
MayTake None e = ⊥
MayTake (Some q) e = (is_output q.sort ≡ false) × (is_in_out q.sort ≡ true → IsPlace e)

-- and nothing else leaves one
abbrev pub MayLeave : Option Parameter → StType → Type 0
MayLeave None t = ⊥
MayLeave (Some q) t = q.sort ≡ sort.Output

-- the number of the next parameter that is no output
abbrev pub next_number : ℕ → List Parameter → ℕ
next_number i [] = i
next_number i (q ∷ qs) = if is_output q.sort then next_number (suc i) qs else i

-- the numbers of the parameters to which arguments go, in written order
abbrev pub written_numbers : ℕ → List Parameter → Arguments Note → List ℕ
written_numbers i left no_arguments = []
written_numbers i left (argument_then (Positional e) xs) = next_number i left ∷ written_numbers (suc (next_number i left)) (behind_next left) xs
written_numbers i left (argument_then (Input a name e) xs) = parameter_number a.target ∷ written_numbers i left xs
written_numbers i left (argument_then (Output a name b r ss) xs) = parameter_number a.target ∷ written_numbers i left xs

abbrev pub Distinct : List ℕ → Type 0
Distinct [] = Unit {0}
Distinct (n ∷ ns) = (is_among n ns ≡ false) × Distinct ns

-- no two arguments go to one parameter
abbrev pub GivenOnce : List Parameter → Arguments Note → Type 0
GivenOnce ps xs = Distinct (written_numbers 0 ps xs)

-- ---- what is called is there

-- some region contains an instance of just this class
abbrev pub HasInstance : Program → ℕ → Type 0
HasInstance p c = (q : Path) × (name : List ℕ) × (fs : Fields) × (path_shape p q ≡ Some (Instance c name fs))

-- a class or an interface has a method of this name
abbrev pub IsDeclared : Program → StType → List ℕ → Type 0
IsDeclared p (type.Instance d) name = (y : Routine) × (lookup p d name ≡ Some y)
IsDeclared p (type.Interface i) name = (k : ℕ) × (m : Signature) × (slice_get (signatures_at (slice_get p.interfaces i)) k ≡ Some m) × (same m.name name ≡ true)
IsDeclared p _ name = ⊥

-- each class that has an instance and conforms has what is called
abbrev pub IsFound : Program → Called → Type 0
IsFound p (the_function n) = (x : Routine) × (slice_get p.functions n ≡ Some x)
IsFound p (a_method_of t name) = IsDeclared p t name × ((c : ℕ) → HasInstance p c → IsTrue (conforms p c t) → (x : Routine) × (lookup p c name ≡ Some x))
IsFound p (a_method_from d name) = (x : Routine) × (lookup p d name ≡ Some x)
IsFound p (a_body_of t) = (c : ℕ) → HasInstance p c → IsTrue (conforms p c t) → (x : Routine) × (body_of p c ≡ Some x)
IsFound p (the_body_from d) = (x : Routine) × (body_of p d ≡ Some x)

-- ---- what a call may enter

-- through a type a call enters only what is found from a class that has an instance: an abstract class has none, and may keep no signature
abbrev pub IsLiving : (p : Program) {k : Called} {x : Routine} → Enters p k x → Type 0
IsLiving p (by_number e) = Unit {0}
IsLiving p (by_class c m e) = HasInstance p c
IsLiving p (by_text e) = Unit {0}
IsLiving p (by_body c m e) = HasInstance p c
IsLiving p (by_base e) = Unit {0}

-- the limit of parameters (E16)
abbrev pub most_parameters : ℕ
most_parameters = 32

-- a routine that may be entered: its parameters begin with those that are called, as a derived block may have more, and P holds of it
pub record Answers (p : Program) (k : Called) (P : Routine → Type 0) (x : Routine) : Type 0 where
  pub rest : List Parameter
  pub begins : x.parameters ≡ called_parameters p (Some k) ++ rest
  pub few : length x.parameters ≤ most_parameters
  pub suits : P x

pub record Entered (p : Program) (k : Called) (P : Routine → Type 0) : Type 0 where
  pub by : (x : Routine) (n : Enters p k x) → IsLiving p n → Answers p k P x
  pub found : IsFound p k

abbrev pub EnteredIs : Program → Option Called → (Routine → Type 0) → Type 0
EnteredIs p None P = ⊥
EnteredIs p (Some k) P = Entered p k P

-- ---- a call

-- the in-outs of a base's body are those of the body that calls it
pub record SameInOuts (p : Program) (locals : List Variable) (d : ℕ) : Type 0 where
  pub by : (x : Routine) (n : ℕ) (w : Variable) → body_of p d ≡ Some x → slice_get x.locals n ≡ Some w → is_in_out w.sort ≡ true
      → (v : Variable) × (slice_get locals n ≡ Some v) × (is_in_out v.sort ≡ true) × Serves p v.kind w.kind

-- a body is one of an instance
abbrev pub BodyIs : Program → List Variable → StType → Callee → Type 0
BodyIs p locals t (a_body by_instance) = (c : ℕ) × (t ≡ type.Instance c)
BodyIs p locals t (a_body (from_class d)) = SameInOuts p locals d
BodyIs p locals t _ = Unit {0}

-- a call is right: its operand, or its target, which has this type, what may be entered, and what the declared parameters ask of the arguments
abbrev pub CallIs : Program → Scope → Callee → Type 0 → Type 0 → StType → Option Called → (Routine → Type 0) → Type 0 → Type 0
CallIs p g a_conversion operand target t k P fit = operand
CallIs p g (a_function n) operand target t k P fit = EnteredIs p k P × fit
CallIs p g c operand target t k P fit = target × BodyIs p g.locals t c × EnteredIs p k P × fit

-- a result of this type
abbrev pub ResultIs : Routine → StType → Type 0
ResultIs r t = (v : Variable) × (slice_get r.locals 0 ≡ Some v) × (v.kind ≡ t) × (is_in_out v.sort ≡ false)

-- of a conversion the type is elementary, else it is the result's
abbrev pub CallResultIs : Callee → StType → (Routine → Type 0) → Routine → Type 0
CallResultIs a_conversion t P x = P x
CallResultIs c t P x = ResultIs x t × P x

-- a body has no result
abbrev pub ConversionIs : Callee → StType → Type 0
ConversionIs a_conversion t = IsElementary t
ConversionIs (a_body s) t = ⊥
ConversionIs c t = Unit {0}
