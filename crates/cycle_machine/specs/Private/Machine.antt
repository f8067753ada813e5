-- The state of a run, as the machine holds it.
use Rattle.std.specs.Prelude.{◌≡◌, ◌<◌, ℕ, length, List, [], Option, Some, Ok, Err, slice_get}
use Rattle.std.specs.declared.result.Result.{Result}
use Rattle.stack_code.specs.declared.machine.Ending.{Ending}
use Rattle.stack_code.specs.declared.machine.Ending.TheVariants.{Ended}
use Rattle.stack_code.specs.Steps.{Step, Goes, Stops}
use Rattle.stack_code.specs.Machine.{Config}
use Rattle.stack_code.specs.declared.code.RoutineCode.{RoutineCode}
use Rattle.stack_code.specs.declared.code.MachineCode.{MachineCode}
use Rattle.cycle_machine.specs.Room.{Capacity}
use Rattle.cycle_machine.specs.declared.machine.Machine.{Machine}

abbrev pub config : Machine → Config
config m = record {
  here = m.here;
  words = m.words.words;
  around = m.frames;
  memory = record { regions = m.regions; locals = m.locals.locals };
  ticks = m.ticks;
}

-- what an instruction comes to, by its answer
abbrev pub went : Result (Unit {0}) Ending → Config → Step Config
went (Ok u) c = Goes c
went (Err e) c = Stops e

-- an end leaves the regions
abbrev pub Keeps : Result (Unit {0}) Ending → List (Option (List ℕ)) → List (Option (List ℕ)) → Type 0
Keeps (Err (Ended o)) old new = new ≡ old
Keeps _ old new = Unit {0}

-- each call has its locals
abbrev pub IsTall : Machine → Type 0
IsTall m = length m.frames < length m.locals.locals

-- for how much there is room
abbrev pub capacity : Machine → Capacity
capacity m = record { words = m.words.room; bytes = m.locals.stride }

-- a run begins: in the first instruction of a routine, with no operands and no calls around
pub record IsBegun (code : MachineCode) (c : Config) : Type 0 where
  pub routine : RoutineCode
  pub is : slice_get code.routines c.here.routine ≡ Some routine
  pub first : c.here.next ≡ 0
  pub words : c.words ≡ []
  pub around : c.around ≡ []
  pub tall : 0 < length c.memory.locals
