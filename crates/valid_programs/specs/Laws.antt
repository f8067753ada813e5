-- Which code of a program is valid, and which is the program's own.
use Rattle.std.specs.Prelude.{◌≡◌, ℕ, Bool, Some, slice_get}
use Rattle.st_values.specs.Program.{Program}
use Rattle.st_meaning.specs.st_frame.Promise.Programs.{ProgramIs}
use Rattle.stack_code.specs.declared.code.MachineCode.{MachineCode}
use Rattle.stack_code.specs.Validity.{IsValid}
use Rattle.mem_layout.specs.Layout.{HasShape}
use Rattle.st_meaning.specs.st_frame.Promise.Declarations.{scope_of, RoutineIs}
use Rattle.code_rules.specs.Plan.{Plan, plan_of}
use Rattle.call_forms.specs.Tables.{Form, start_of, routine_in, tables_of, forms, CodeIs}
use Rattle.valid_programs.specs.Told.{Alike, Covers, RoutineCovered}
use Rattle.valid_programs.specs.Compiled.{HasPrograms, IsPlanOf, IsToldBy, CompiledIs}

-- of a program that is right
abbrev pub ProgramValidity : Type 0
ProgramValidity =
    (p : Program) → ProgramIs p → HasPrograms p → (lives : ℕ → Bool) (plans : Form → Plan) (code : MachineCode) → ((n : ℕ) (f : Form) → slice_get (forms p) n ≡ Some f → RoutineIs p (routine_in f) × IsPlanOf p f (plans f))
    → CompiledIs p lives plans code → IsValid code

-- of a program whose plans are as good as its own
abbrev pub ProgramCode : Type 0
ProgramCode = (p : Program) (lives : ℕ → Bool) (plans : Form → Plan) (code : MachineCode) → ((n : ℕ) (f : Form) → slice_get (forms p) n ≡ Some f → IsToldBy p f (plans f)) → CompiledIs p lives plans code → CodeIs p lives code

-- by a plan that is alike, where the types of variables unfold, with those of the routine's locals and of its tree
abbrev pub AlikePlans : Type 0
AlikePlans =
    (p : Program) → Covers p (HasShape p) → (f : Form) (w : Plan) → Alike p (HasShape p) w (plan_of p (tables_of p) (scope_of (routine_in f)) (start_of f)) → RoutineCovered p (HasShape p) (routine_in f) → IsToldBy p f w
