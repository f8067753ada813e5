-- What is given to a call, and how it is opened.
use Rattle.std.specs.Prelude.{List, Option}
use Rattle.st_values.specs.Program.{Variable, Program}
use Rattle.st_values.specs.Value.{Path}
use Rattle.st_meaning.specs.Call.{Given, for_local, for_variable, initial_slots, set_variables, with_given}
use Rattle.st_meaning.specs.State.{Run, ◌>>◌, push}
use Rattle.run_state.specs.State.{slot_of}
use Rattle.value_trees.specs.Value.{value_of}
use Rattle.call_frames.specs.declared.slots.Given.{Given as CodeGiven}
use Rattle.call_frames.specs.declared.slots.Given.TheVariants as code

abbrev pub given_of : CodeGiven → Given
given_of (code.Local n slot) = for_local n (slot_of slot)
given_of (code.Variable k v) = for_variable k (value_of v)

-- a call of a routine with these locals: the inputs of a block are written to the instance, and the frame is pushed
abbrev pub opened : Program → List Variable → Option Path → List Given → Run (Unit {0})
opened p locals own given = do
  set_variables own given
  push (record { own = own; locals = with_given (initial_slots p locals) given })
