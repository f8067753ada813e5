-- Which routines are valid.
use Rattle.std.specs.Prelude.{◌≡◌, ℕ, []}
use Rattle.st_values.specs.Program.{Routine, Program}
use Rattle.st_meaning.specs.st_frame.Promise.Declarations.{scope_of, RoutineIs}
use Rattle.st_meaning.specs.st_frame.Promise.Programs.{ProgramIs}
use Rattle.stack_code.specs.declared.code.RoutineCode.{RoutineCode}
use Rattle.stack_code.specs.declared.code.MachineCode.{MachineCode}
use Rattle.stack_code.specs.Validity.{IsValidRoutine}
use Rattle.code_cells.specs.Settled.{Settles, EntersCalled}
use Rattle.code_rules.specs.Plan.{Tables, plan_of}
use Rattle.code_rules.specs.Bodies.{called_code, program_code, hook_code}

-- one that has the code of a routine, as calls enter it, as the body of a program or as a hook
pub record RoutinesAreValid (p : Program) (tables : Tables) (r : Routine) (start : ℕ) (code : MachineCode) (x : RoutineCode) : Type 0 where
  pub called : Settles x (called_code p (plan_of p tables (scope_of r) start) r.line r start) → IsValidRoutine code x
  pub program : Settles x (program_code p (plan_of p tables (scope_of r) start) r.line r start) → IsValidRoutine code x
  pub hook : Settles x (hook_code p (plan_of p tables (scope_of r) start) r.line r start) → IsValidRoutine code x

-- of a program that is right, where calls enter only what takes a block and leaves no words
abbrev pub RoutineValidity : Type 0
RoutineValidity =
    (p : Program) → ProgramIs p → (tables : Tables) (r : Routine) → RoutineIs p r → (start : ℕ) (code : MachineCode) (x : RoutineCode) → x.rets ≡ [] → EntersCalled code x → RoutinesAreValid p tables r start code x
