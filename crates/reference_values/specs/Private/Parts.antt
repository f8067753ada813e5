-- One index, one argument, one output, and a routine with what is given.
use Rattle.std.specs.Prelude.{if◌then◌else◌, slice_get, Bool, true, false, List, [], ◌∷◌, ◌++◌, Option, Some, None}
use Rattle.plc_text.specs.declared.fault.FaultKind.TheVariants as fault
use Rattle.st_types.specs.declared.st_type.StType.{StType}
use Rattle.st_tree.specs.declared.path.Path.{Path}
use Rattle.st_tree.specs.declared.path.Step.TheVariants as step
use Rattle.st_tree.specs.declared.expression.Root.{Root}
use Rattle.st_tree.specs.declared.program.Note.{Note}
use Rattle.st_tree.specs.declared.program.Program.{Program as CheckedProgram}
use Rattle.st_tree.specs.Expression.{Expression, Argument, Positional, Input, Output, Arguments, Selectors}
use Rattle.st_values.specs.Program.{Parameter, Routine, Program, lookup, body_of}
use Rattle.st_values.specs.Value.{Value}
use Rattle.st_meaning.specs.State.{Spot, Frame, Run, ◌>>=◌, gives, fails, there, some_or, into, write}
use Rattle.st_meaning.specs.Operation.{number_in}
use Rattle.st_meaning.specs.Place.{index_in}
use Rattle.st_meaning.specs.Call.{Callee, a_conversion, a_function, a_method, a_body, by_instance, from_class, start_class, Given, Enter, parameter_named, next_parameter, behind_next, same_in_outs, run_routine}
use Rattle.program_tables.specs.Routine.{routine_of}
use Rattle.call_steps.specs.Found.{Found, on_instance, on_base}
use Rattle.reference_values.specs.declared.steps.Called.{Called as CodeCalled}
use Rattle.st_meaning.specs.Expression.{value, place, bound_place, passed, arguments, outputs, output_of}

-- the element at the index that a value is
abbrev pub element_of : StType → Spot → Value → Run Spot
element_of t spot v = do
  i ← some_or fault.Index (index_in t (number_in v))
  gives (into spot (step.Element i))

abbrev pub some_given : Run Given → Run (Option Given)
some_given m = do
  g ← m
  gives (Some g)

-- the parameters that are left behind an argument
abbrev pub left_behind : Argument Note → List Parameter → List Parameter
left_behind (Positional e) left = behind_next left
left_behind (Input a name e) left = left
left_behind (Output a name b r ss) left = left

abbrev pub added : List Given → Option Given → List Given
added given None = given
added given (Some g) = given ++ g ∷ []

-- a routine with its instance, and whether its in-outs are those of the body that runs
pub record Called : Type 0 where
  pub routine : Routine
  pub own : Option Path
  pub same : Bool

abbrev pub called_of : CheckedProgram → CodeCalled → Called
called_of p c = record { routine = routine_of p c.routine; own = c.own; same = c.same }

abbrev pub on_found : Run Found → Bool → Run Called
on_found m same = do
  f ← m
  gives (record { routine = f.routine; own = Some f.own; same = same })

abbrev pub is_conversion : Callee → Bool
is_conversion a_conversion = true
is_conversion _ = false

module _ (p : Program) (enter : Enter) where
  abbrev pub one_element : Expression Note → StType → Spot → Run Spot
  one_element e t spot = do
    v ← value p enter e
    element_of t spot v

  -- what an argument gives; an output gives nothing
  abbrev pub one_argument : List Parameter → List Parameter → Argument Note → Run (Option Given)
  one_argument ps left (Positional e) = some_given (passed (next_parameter left) (value p enter e) (bound_place p enter e))
  one_argument ps left (Input a name e) = some_given (passed (parameter_named ps a) (value p enter e) (bound_place p enter e))
  one_argument ps left (Output a name b r ss) = gives None

  -- the operand in an argument
  abbrev pub one_operand : Argument Note → Run Value
  one_operand (Positional e) = value p enter e
  one_operand (Input a name e) = fails fault.Null
  one_operand (Output a name b r ss) = fails fault.Null

  abbrev pub one_output : List Parameter → Option Path → Frame → Argument Note → Run (Unit {0})
  one_output ps own f (Output a name b r ss) = do
    v ← output_of (parameter_named ps a) own f
    spot ← place p enter r ss
    write spot v
  one_output ps own f (Positional e) = gives tt
  one_output ps own f (Input a name e) = gives tt

  -- with what is given already
  abbrev pub run_given : Routine → Option Path → List Given → Arguments Note → Run Frame
  run_given r own given xs = run_routine p enter r own (gives given) (λ own f. outputs p enter r.parameters own f xs)

  abbrev pub run_with : Routine → Option Path → Arguments Note → Run Frame
  run_with r own xs = run_routine p enter r own (arguments p enter r.parameters r.parameters xs) (λ own f. outputs p enter r.parameters own f xs)

  abbrev pub run_same : Routine → Option Path → Arguments Note → Run Frame
  run_same r own xs = run_routine p enter r own (same_in_outs r.parameters) (λ own f. outputs p enter r.parameters own f xs)

  -- what a call that is no conversion calls
  abbrev pub sought : Callee → Root Note → Selectors Note → Run Called
  sought a_conversion r ss = fails fault.Null
  sought (a_function k) r ss = do
    f ← there (slice_get p.functions k)
    gives (record { routine = f; own = None; same = false })
  sought (a_method s name) r ss = do
    spot ← place p enter r ss
    on_found (on_instance p (λ c. lookup p (start_class s c) name) spot) false
  sought (a_body by_instance) r ss = do
    spot ← place p enter r ss
    on_found (on_instance p (λ c. body_of p c) spot) false
  sought (a_body (from_class d)) r ss = do
    spot ← place p enter r ss
    on_found (on_base p d spot) true

  abbrev pub run_called : Called → Arguments Note → Run Frame
  run_called c xs = if c.same then run_same c.routine c.own xs else run_with c.routine c.own xs
