-- Calls: what is called, its arguments, and the frame in which it runs (IEC 61131-3:2013, 6.6.1.4, 6.6.2.2 and 6.6.5.5).
use Rattle.std.specs.Prelude.{ℕ, Bool, true, false, if◌then◌else◌, List, [], ◌∷◌, Option, Some, None, is_some, slice_get, slice_set}
use Rattle.st_types.specs.declared.st_type.StType.{StType}
use Rattle.st_types.specs.declared.st_type.StType.TheVariants as type
use Rattle.plc_num.specs.Conversion.{converted}
use Rattle.st_tree.specs.declared.declaration.SectionSort.{SectionSort}
use Rattle.st_tree.specs.declared.declaration.SectionSort.TheVariants as sort
use Rattle.st_tree.specs.declared.expression.Root.{Root}
use Rattle.st_tree.specs.declared.expression.Root.TheVariants as root
use Rattle.st_tree.specs.declared.path.Path.{Path}
use Rattle.st_tree.specs.declared.path.Step.TheVariants as step
use Rattle.st_tree.specs.declared.program.Note.{Note}
use Rattle.st_tree.specs.declared.program.Target.{Target}
use Rattle.st_tree.specs.declared.program.Target.TheVariants as target
use Rattle.st_tree.specs.Expression.{Selector, Selectors, no_selectors, selector_then}
use Rattle.st_tree.specs.Expression as tree
use Rattle.st_values.specs.Program.{Variable, Recipient, to_local, to_variable, Parameter, Routine, Program, class_number, lookup, body_of}
use Rattle.st_values.specs.Value.{Value, number, ◌>>=◌ as ◌>>?◌}
use Rattle.st_values.specs.Initial.{initial_value}
use Rattle.st_meaning.specs.State.{Spot, in_store, Slot, holds, bound, unbound, Frame, Run, ◌>>=◌, ◌>>◌, gives, there, spend, frame_value, local_spot, into, read, write, path_of}
use Rattle.st_meaning.specs.Operation.{number_in, class_in, elem_of}

-- ---- what is called

-- a method or body is found by the instance's class, or from a class of the text on
pub data Search : Type 0 where
  by_instance : Search
  from_class : ℕ → Search

pub data Callee : Type 0 where
  a_conversion : Callee
  a_function : ℕ → Callee
  a_method : Search → List ℕ → Callee
  a_body : Search → Callee

-- a method's name behind a place
abbrev pub method_target : Target → List ℕ → Option (List ℕ)
method_target (target.Method m) name = Some name
method_target _ name = None

abbrev pub method_name : Selector Note → Option (List ℕ)
method_name (tree.Field a name) = method_target a.target name
method_name _ = None

-- the method that stands last, where the one before is this
abbrev pub last_method : Option (List ℕ) → Selectors Note → Option (List ℕ)
last_method so_far no_selectors = so_far
last_method so_far (selector_then s ss) = last_method (method_name s) ss

-- whether nothing but `^` stands before the method
abbrev pub is_direct : Selectors Note → Bool
is_direct no_selectors = true
is_direct (selector_then (tree.Target a) ss) = is_direct ss
is_direct (selector_then s no_selectors) = is_some (method_name s)
is_direct _ = false

abbrev pub class_of_kind : StType → ℕ
class_of_kind (type.Instance c) = c
class_of_kind _ = 0

-- a call on SUPER goes upward from the base of the class whose text it is
abbrev pub search_of : Root Note → Selectors Note → Search
search_of (root.Super a) ss = if is_direct ss then from_class (class_of_kind a.kind) else by_instance
search_of _ ss = by_instance

abbrev pub member_callee : Search → Option (List ℕ) → Callee
member_callee s None = a_body s
member_callee s (Some name) = a_method s name

-- a bare name
abbrev pub named_callee : Target → List ℕ → Callee
named_callee (target.Function k) name = a_function k
named_callee (target.Method m) name = a_method by_instance name
named_callee target.Conversion name = a_conversion
named_callee _ name = a_body by_instance

abbrev pub callee_of : Root Note → Selectors Note → Callee
callee_of (root.Name a name) no_selectors = named_callee a.target name
callee_of r ss = member_callee (search_of r ss) (last_method None ss)

-- the class from which the search goes, for an instance of this class
abbrev pub start_class : Search → ℕ → ℕ
start_class by_instance c = c
start_class (from_class d) c = d

-- ---- arguments

-- for a local of the routine, or for a variable of the instance whose body is called
pub data Given : Type 0 where
  for_local : ℕ → Slot → Given
  for_variable : ℕ → Value → Given

abbrev pub given_value : Recipient → Value → Given
given_value (to_local n) v = for_local n (holds v)
given_value (to_variable k) v = for_variable k v

abbrev pub number_to : Recipient → ℕ
number_to (to_local n) = n
number_to (to_variable k) = k

-- an in-out is always a local
abbrev pub given_place : Recipient → Spot → Given
given_place r spot = for_local (number_to r) (bound spot)

abbrev pub is_in_out : SectionSort → Bool
is_in_out sort.InOut = true
is_in_out _ = false

abbrev pub is_output : SectionSort → Bool
is_output sort.Output = true
is_output _ = false

abbrev pub parameter_number : Target → ℕ
parameter_number (target.Parameter k) = k
parameter_number _ = 0

-- the parameter that an argument names
abbrev pub parameter_named : List Parameter → Note → Option Parameter
parameter_named ps a = slice_get ps (parameter_number a.target)

-- the parameter of the next argument without a name, and those behind it: outputs are passed over
abbrev pub next_parameter : List Parameter → Option Parameter
next_parameter [] = None
next_parameter (q ∷ qs) = if is_output q.sort then next_parameter qs else Some q

abbrev pub behind_next : List Parameter → List Parameter
behind_next [] = []
behind_next (q ∷ qs) = if is_output q.sort then behind_next qs else qs

-- the in-outs of a body that is entered with those of the one that runs
abbrev pub same_in_outs : List Parameter → Run (List Given)
same_in_outs [] = gives []
same_in_outs (q ∷ qs) = do
  rest ← same_in_outs qs
  if is_in_out q.sort then (do spot ← local_spot (number_to q.to); gives (for_local (number_to q.to) (bound spot) ∷ rest)) else gives rest

-- ---- frames

abbrev pub initial_slot : Program → Variable → Slot
initial_slot p v = if is_in_out v.sort then unbound else holds (initial_value p v)

abbrev pub initial_slots : Program → List Variable → List Slot
initial_slots p [] = []
initial_slots p (v ∷ vs) = initial_slot p v ∷ initial_slots p vs

abbrev pub with_given : List Slot → List Given → List Slot
with_given slots [] = slots
with_given slots (for_local n slot ∷ rest) = with_given (slice_set slots n slot) rest
with_given slots (for_variable k v ∷ rest) = with_given slots rest

-- the locals of a call: initial values, and over them what is given
abbrev pub frame_of : Program → Routine → Option Path → List Given → Frame
frame_of p r own given = record { own = own; locals = with_given (initial_slots p r.locals) given }

-- inputs of a block are written to the instance
abbrev pub set_variables : Option Path → List Given → Run (Unit {0})
set_variables own [] = gives tt
set_variables own (for_local n slot ∷ rest) = set_variables own rest
set_variables own (for_variable k v ∷ rest) = do
  q ← there own
  write (into (in_store q) (step.Field k)) v
  set_variables own rest

-- a result is the first local
abbrev pub result_of : Frame → Option Value
result_of f = frame_value (Some f) 0

-- an output of a routine is what it left, that of a block stands in the instance
abbrev pub output_value : Recipient → Option Path → Frame → Run Value
output_value (to_local n) own f = there (frame_value (Some f) n)
output_value (to_variable k) own f = do
  q ← there own
  read (into (in_store q) (step.Field k))

-- ---- a call

-- what a routine does on an instance, with what is given: it leaves its frame
abbrev pub Enter : Type 0
Enter = Routine → Option Path → List Given → Run Frame

module _ (p : Program) (enter : Enter) where
  -- Arguments, a tick, the routine with its check of the depth, and outputs.
  abbrev pub run_routine : Routine → Option Path → Run (List Given) → (Option Path → Frame → Run (Unit {0})) → Run Frame
  run_routine r own arguments outputs = do
    given ← arguments
    spend
    f ← enter r own given
    outputs own f
    gives f

  -- the number of the class of the instance at a spot
  abbrev pub class_at_spot : Spot → Run ℕ
  class_at_spot spot = do
    v ← read spot
    there (class_in v >>? class_number p)

  -- The target comes first. The routine's parameters tell what its arguments are.
  abbrev pub call : Callee → Run Spot → (List Parameter → Run (List Given)) → (List Parameter → Option Path → Frame → Run (Unit {0})) → Run Frame
  call a_conversion target arguments outputs = gives (record { own = None; locals = [] })
  call (a_function k) target arguments outputs = do
    r ← there (slice_get p.functions k)
    run_routine r None (arguments r.parameters) (outputs r.parameters)
  call (a_method s name) target arguments outputs = do
    spot ← target
    q ← there (path_of spot)
    c ← class_at_spot spot
    r ← there (lookup p (start_class s c) name)
    run_routine r (Some q) (arguments r.parameters) (outputs r.parameters)
  call (a_body by_instance) target arguments outputs = do
    spot ← target
    q ← there (path_of spot)
    c ← class_at_spot spot
    r ← there (body_of p c)
    run_routine r (Some q) (arguments r.parameters) (outputs r.parameters)
  call (a_body (from_class d)) target arguments outputs = do
    spot ← target
    q ← there (path_of spot)
    r ← there (body_of p d)
    run_routine r (Some q) (same_in_outs r.parameters) (outputs r.parameters)

-- the value of a call: of a conversion its operand's in the other type, else the result
abbrev pub call_value : Callee → StType → Run Value → Run Frame → Run Value
call_value a_conversion t operand called = do
  v ← operand
  gives (number (converted (elem_of t) (number_in v)))
call_value c t operand called = do
  f ← called
  there (result_of f)

-- a call as a statement
abbrev pub call_effect : Callee → Run Value → Run Frame → Run (Unit {0})
call_effect a_conversion operand called = do
  v ← operand
  gives tt
call_effect c operand called = do
  f ← called
  gives tt
