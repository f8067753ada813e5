-- Routines of emitted code are valid.
use Rattle.std.proofs.Common.{◌≡◌, ℕ, zero, suc, ◌+◌, List, [], ◌∷◌, Some, refl}
use Rattle.std.specs.Prelude.{slice_get}
use Rattle.st_values.specs.Program.{Variable, Routine, Program}
use Rattle.st_meaning.specs.st_frame.Promise.Names.{Scope}
use Rattle.st_meaning.specs.st_frame.Promise.Declarations.{scope_of, RoutineIs}
use Rattle.st_meaning.specs.st_frame.Promise.Programs.{ProgramIs}
use Rattle.stack_code.specs.declared.code.RoutineCode.{RoutineCode}
use Rattle.stack_code.specs.declared.code.MachineCode.{MachineCode}
use Rattle.code_cells.specs.Settled.{EntersCalled}
use Rattle.code_cells.proofs.RoutineLaws.{routine_valid}
use Rattle.code_rules.specs.declared.local.LocalPlace.{LocalPlace}
use Rattle.code_rules.specs.Plan.{Tables, local_places, plan_of}
use Rattle.code_rules.specs.Places.{locals_end, width}
use Rattle.code_rules.specs.Bodies.{called_code, program_code, hook_code}
use Rattle.valid_emitted.specs.Kinds.{PlanIs}
use Rattle.valid_emitted.specs.Laws.{RoutinesAreValid}
use Rattle.valid_emitted.proofs.Effects.{effects_leave}
use Rattle.valid_emitted.proofs.Routines.{called_whole, program_whole, hook_whole, at_end}

-- each local has a place
local_place : (p : Program) (offset : ℕ) (vs : List Variable) (n : ℕ) (v : Variable) → slice_get vs n ≡ Some v → (l : LocalPlace) × (slice_get (local_places p offset vs) n ≡ Some l)
local_place p offset [] n v h = cc
local_place p offset (x ∷ vs) zero v h = (_, refl)
local_place p offset (x ∷ vs) (suc n) v h = local_place p (offset + width p x) vs n v h

pub plan_is : (p : Program) (tables : Tables) (g : Scope) (start : ℕ) → PlanIs p g (plan_of p tables g start)
plan_is p tables g start = record { locals = λ n v h. local_place p start g.locals n v h; parameters = λ k. refl }

module _ (p : Program) (fine : ProgramIs p) (tables : Tables) (r : Routine) (is : RoutineIs p r) (start : ℕ) (code : MachineCode) (x : RoutineCode) (rets : x.rets ≡ []) (enters : EntersCalled code x) where
  pub routines_valid : RoutinesAreValid p tables r start code x
  routines_valid =
      let g = scope_of r in
      let w = plan_of p tables g start in
      let plan = plan_is p tables g start in
      let body = effects_leave p g w plan fine at_end (locals_end p start r.locals) r.body is.body in
      record {
        called = λ s. routine_valid code x rets enters (called_code p w r.line r start) s (called_whole p g w plan r.line r start body);
        program = λ s. routine_valid code x rets enters (program_code p w r.line r start) s (program_whole p g w plan r.line r start body);
        hook = λ s. routine_valid code x rets enters (hook_code p w r.line r start) s (hook_whole p g w plan r.line r start body);
      }
