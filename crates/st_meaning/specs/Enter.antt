-- Routines and tasks: how a routine is entered, and what the programs of a task do (IEC 61131-3:2013, 6.6.1.3 and 6.8.2).
use Rattle.std.specs.Prelude.{ℕ, zero, suc, List, [], ◌∷◌, Option, Some, None, slice_get}
use Rattle.plc_text.specs.declared.fault.FaultKind.TheVariants as fault
use Rattle.st_tree.specs.declared.program.TaskDecl.{TaskDecl}
use Rattle.st_values.specs.Program.{Routine, Program, body_of}
use Rattle.st_values.specs.Value.{◌>>=◌ as ◌>>?◌}
use Rattle.st_meaning.specs.State.{Run, ◌>>=◌, ◌>>◌, gives, fails, there, push, pop}
use Rattle.st_meaning.specs.Call.{Enter, frame_of, set_variables, class_of_kind}
use Rattle.st_meaning.specs.Statement.{effects}

-- A routine, where so many more calls may be open: the depth, the inputs, the in-outs, the body.
abbrev pub enter : Program → ℕ → Enter
enter p zero r own given = fails fault.Depth
enter p (suc room) r own given = do
  set_variables own given
  push (frame_of p r own given)
  effects p (enter p room) r.body
  pop

-- calls that may be open at once; a program's body is none
abbrev pub most_calls : ℕ
most_calls = 64

-- the body of the program that a region is an instance of
abbrev pub program_body : Program → ℕ → Option Routine
program_body p r = slice_get p.regions r >>? λ x. body_of p (class_of_kind x.variable.kind)

-- the programs, in order
abbrev pub run_programs : Program → List ℕ → Run (Unit {0})
run_programs p [] = gives tt
run_programs p (r ∷ rs) = do
  body ← there (program_body p r)
  enter p (suc most_calls) body (Some (record { region = r; steps = [] })) []
  run_programs p rs

abbrev pub programs_in : Option TaskDecl → List ℕ
programs_in None = []
programs_in (Some t) = t.programs

-- the program instances of a task, as regions
abbrev pub programs_of : Program → ℕ → List ℕ
programs_of p t = programs_in (slice_get p.tasks t)

abbrev pub run_task : Program → ℕ → Run (Unit {0})
run_task p t = run_programs p (programs_of p t)
