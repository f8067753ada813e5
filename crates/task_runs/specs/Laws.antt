-- What runs of a program's code come to: those of a task's programs, and that of a hook.
use Rattle.std.specs.Prelude.{◌≡◌, ◌≤◌, ℕ, Bool, true, List, [], length, Option, Some, map, slice_get}
use Rattle.st_types.specs.declared.st_type.StType.TheVariants as type
use Rattle.st_tree.specs.declared.path.Path.{Path}
use Rattle.st_rules.specs.Chains.{is_among}
use Rattle.st_values.specs.Program.{Class, Program, Routine, class_at}
use Rattle.st_values.specs.Value.{Store}
use Rattle.st_values.specs.Shape.{Shape, region_shape}
use Rattle.st_meaning.specs.State.{in_store}
use Rattle.st_meaning.specs.Cycle.{begun, all_ticks}
use Rattle.st_meaning.specs.Enter.{run_task, programs_of}
use Rattle.st_meaning.specs.st_frame.Footprint.{Footprint, IsFootprint}
use Rattle.st_meaning.specs.st_frame.FrameLaws.{last_moment}
use Rattle.st_meaning.specs.st_frame.Good.{GoodOn, Names}
use Rattle.st_meaning.specs.st_frame.OutputPlaces.{OutputsPlaced}
use Rattle.st_meaning.specs.st_frame.Promise.Calls.{HasInstance}
use Rattle.st_meaning.specs.st_frame.Promise.Declarations.{RoutineIs, Each}
use Rattle.st_meaning.specs.st_frame.Promise.Programs.{ProgramIs}
use Rattle.stack_code.specs.declared.code.MachineCode.{MachineCode}
use Rattle.stack_code.specs.declared.memory.Address.{Address}
use Rattle.mem_layout.specs.store_bytes.Spells.{Shows}
use Rattle.shown_memory.specs.Shown.{located, Small}
use Rattle.call_forms.specs.Tables.{entry_of, hook_at, is_hook, CodeIs}
use Rattle.st_change.specs.StoreLaws.{IsFlag}
use Rattle.task_runs.specs.Hook.{hook_run, flags_of}
use Rattle.task_runs.specs.Task.{TaskRuns, HookRuns}

-- code of a program, with which every class that has an instance lives
pub record CodeOfProgram (p : Program) (code : MachineCode) : Type 0 where
  pub promised : ProgramIs p
  pub small : Small p
  pub placed : OutputsPlaced p
  pub lives : ℕ → Bool
  pub living : (c : ℕ) → HasInstance p c → lives c ≡ true
  pub is : CodeIs p lives code

pub record TaskLaws : Type 0 where
  -- the programs of a task in order, with all the ticks of a cycle, on images of its footprint
  pub tasks : (p : Program) (code : MachineCode) → CodeOfProgram p code → (task now : ℕ) (fs : List ℕ) → IsFootprint p task fs → (store : Store) (regions : List (Option (List ℕ))) → now ≤ last_moment → GoodOn p (Footprint p task) store → Shows (region_shape p) (λ r. is_among r fs) regions store
      → TaskRuns p code now all_ticks (map (entry_of p) (programs_of p task)) fs regions (run_task p task 0 (begun store now))
  -- a hook of an instance, on images of all regions
  pub hooks : (p : Program) (code : MachineCode) → CodeOfProgram p code → (c j d ticks : ℕ) (k : Class) (x : Routine) (y : Path) (own : Address) (first second : Bool) (store : Store) (regions : List (Option (List ℕ))) → class_at p c ≡ Some k → slice_get k.methods j ≡ Some x → is_hook x ≡ true → RoutineIs p x
      → x.class ≡ Some d → Each (IsFlag x) x.parameters → length x.parameters ≤ 2 → Names p y (type.Instance d) → (shape : Shape) → located p 1 [] (in_store y) ≡ Some (record { address = own; shape = shape })
      → GoodOn p (λ r. true ≡ true) store → Shows (region_shape p) (λ r. true) regions store
      → HookRuns p code (hook_at p c j) own first second ticks regions (hook_run p x y (flags_of x first second) x.line (record (begun store 0) { ticks = ticks }))
