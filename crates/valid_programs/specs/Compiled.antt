-- Which code a program has, by the plans of its routines.
use Rattle.std.specs.Prelude.{◌≡◌, ◌≤◌, ◌<◌, ℕ, ◌*◌, Bool, true, List, [], length, Some, slice_get}
use Rattle.st_values.specs.Program.{Class, Region, Program, class_at}
use Rattle.st_meaning.specs.Call.{class_of_kind}
use Rattle.st_meaning.specs.st_frame.Promise.Declarations.{scope_of}
use Rattle.stack_code.specs.declared.code.RoutineCode.{RoutineCode}
use Rattle.stack_code.specs.declared.code.MachineCode.{MachineCode}
use Rattle.code_cells.specs.declared.cell.Cell.{Cell}
use Rattle.code_cells.specs.Settled.{Settles}
use Rattle.code_rules.specs.Plan.{Plan, plan_of}
use Rattle.code_rules.specs.Places.{locals_end}
use Rattle.code_rules.specs.Bodies.{called_code, program_code, hook_code}
use Rattle.code_rules.specs.Tops.{effects_top}
use Rattle.valid_emitted.specs.Kinds.{PlanIs}
use Rattle.call_forms.specs.Tables.{Form, for_calls, for_runs, for_hooks, start_of, routine_in, form_code, arguments_for, tables_of, is_program, forms, runs_from, slots_from, targets_from, conforms_from, bodies_at, rows_from}

-- the code of a form by a plan
abbrev pub code_by : Program → Plan → Form → List Cell
code_by p w (for_calls x) = called_code p w x.line x 8
code_by p w (for_runs x) = program_code p w x.line x 0
code_by p w (for_hooks x) = hook_code p w x.line x (8 * length x.parameters)

-- a routine is the code of its form by a plan, with the operand kinds of its instructions
pub record IsRoutine (p : Program) (w : Plan) (f : Form) (r : RoutineCode) : Type 0 where
  pub line : r.line ≡ (routine_in f).line
  pub args : r.args ≡ arguments_for f
  pub rets : r.rets ≡ []
  pub settles : Settles r (code_by p w f)
  pub room : locals_end p (start_of f) (routine_in f).locals ≤ r.locals
  -- what its code keeps behind the locals has room
  pub behind : effects_top w (locals_end p (start_of f) (routine_in f).locals) (routine_in f).body ≤ r.locals
  pub short : r.locals < 4294967296

-- The code of a program: a routine for each form, by its plan, and the tables. `lives` tells which classes have instances.
pub record CompiledIs (p : Program) (lives : ℕ → Bool) (plans : Form → Plan) (code : MachineCode) : Type 0 where
  pub count : length code.routines ≡ length (forms p)
  pub routines : (n : ℕ) (f : Form) → slice_get (forms p) n ≡ Some f → (r : RoutineCode) × (slice_get code.routines n ≡ Some r) × IsRoutine p (plans f) f r
  pub slots : code.slots ≡ slots_from p lives 0 p.classes
  pub targets : code.targets ≡ targets_from p lives 0 p.classes
  pub conforms : code.conforms ≡ conforms_from p 0 p.classes
  pub bodies : code.bodies ≡ bodies_at p 0 p.regions
  pub methods : code.methods ≡ rows_from p 0 p.classes

-- a plan knows the locals of a routine and what calls declare, and numbers only what calls enter
pub record IsPlanOf (p : Program) (f : Form) (w : Plan) : Type 0 where
  pub knows : PlanIs p (scope_of (routine_in f)) w
  pub functions : (k : ℕ) → w.tables.function_routine k < runs_from p
  pub methods : (d : ℕ) (name : List ℕ) → w.tables.method_routine d name < runs_from p
  pub bodies : (c : ℕ) → w.tables.body_routine c < runs_from p

-- the regions that are marked as instances of programs have classes that are programs
abbrev pub HasPrograms : Program → Type 0
HasPrograms p = (r : ℕ) (x : Region) → slice_get p.regions r ≡ Some x → x.program ≡ true → (k : Class) × (class_at p (class_of_kind x.variable.kind) ≡ Some k) × (is_program k ≡ true)

-- by a plan a form has the code that the program's own plan gives it, and keeps as much behind the locals
pub record IsToldBy (p : Program) (f : Form) (w : Plan) : Type 0 where
  pub code : code_by p w f ≡ form_code p (tables_of p) f
  pub behind :
      effects_top w (locals_end p (start_of f) (routine_in f).locals) (routine_in f).body
      ≡ effects_top (plan_of p (tables_of p) (scope_of (routine_in f)) (start_of f)) (locals_end p (start_of f) (routine_in f).locals) (routine_in f).body
