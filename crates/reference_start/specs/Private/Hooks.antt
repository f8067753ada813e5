-- The hooks of the first load one by one.
use Rattle.std.specs.Prelude.{◌≡◌, ℕ, Bool, false, List, [], ◌∷◌, ◌++◌, reverse, Option, Some, None, option_map, slice_get, Result, Ok, Err}
use Rattle.plc_text.specs.Words.{same}
use Rattle.st_tree.specs.declared.declaration.Member.{Member}
use Rattle.st_tree.specs.declared.declaration.Member.TheVariants as member
use Rattle.st_tree.specs.declared.path.Path.{Path}
use Rattle.st_tree.specs.declared.program.Note.{Note}
use Rattle.st_tree.specs.declared.program.Program.{Program as CheckedProgram}
use Rattle.st_values.specs.Program.{Routine, Program, own_method}
use Rattle.st_values.specs.View.{program_of}
use Rattle.st_meaning.specs.State.{Frame, Run, ◌>>◌, spend}
use Rattle.st_meaning.specs.Enter.{enter}
use Rattle.st_change.specs.Hook.{Hook, at_init, hook_name, hooks_along, init_flags, given_flags, chain, Ran, ran, stopped}
use Rattle.program_tables.specs.declared.routine.RoutineId.{RoutineId}
use Rattle.program_tables.specs.Routine.{routine_of}
use Rattle.run_state.specs.declared.state.RunState.{RunState}
use Rattle.run_state.specs.declared.state.Stop.{Stop}
use Rattle.run_state.specs.declared.state.Stop.TheVariants as stop
use Rattle.value_trees.specs.Value.{members_of}
use Rattle.reference_start.specs.declared.hooks.Halt.{Halt}
use Rattle.reference_start.specs.declared.hooks.Halt.TheVariants as halt

-- ---- which hooks there are

-- whether a member is the hook
abbrev pub is_init : Member Note → Bool
is_init (member.Method m) = same m.name.text (hook_name at_init)
is_init (member.Section s) = false

abbrev pub id_at : Option (Option RoutineId) → Option RoutineId
id_at None = None
id_at (Some o) = o

-- the hooks that classes declare themselves, by the numbers of the classes
pub record AreInits (p : CheckedProgram) (ids : List (Option RoutineId)) : Type 0 where
  pub by : (c : ℕ) → option_map (routine_of p) (id_at (slice_get ids c)) ≡ own_method (program_of p) (hook_name at_init) c

-- the hook of a class on an instance
abbrev pub init_of : Path → ℕ → Hook
init_of q c = record { path = q; class = c; when = at_init; flags = init_flags false }

-- those of classes on an instance, in this order
abbrev pub inits_along : Program → Path → List ℕ → List Hook
inits_along p q cs = hooks_along p at_init q (init_flags false) cs

-- those of an instance, base first
abbrev pub inits_at : Program → Path × ℕ → List Hook
inits_at p i = inits_along p i.0 (reverse (chain p i.1))

abbrev pub all_inits : Program → List (Path × ℕ) → List Hook
all_inits p [] = []
all_inits p (i ∷ is) = inits_at p i ++ all_inits p is

-- ---- what they do

-- a tick, and the call, where so many calls may be open with it
abbrev pub hook_call : Program → ℕ → Routine → Path → Run Frame
hook_call p room r q = spend >> enter p room r (Some q) (given_flags r.parameters (init_flags false))

-- why hooks stop, where a call of a hook of the class of this name did
abbrev pub Stops : List ℕ → Stop → Halt → Type 0
Stops name (stop.Fault f) (halt.Stopped s) = (s.class ≡ name) × (s.fault ≡ f)
Stops name stop.NoMemory (halt.Stopped s) = ⊥
Stops name x halt.NoMemory = Unit {0}

-- what hooks did, unless memory is wanting
abbrev pub RanAs : Result (Unit {0}) Halt → Ran → RunState → Type 0
RanAs (Ok u) o m = o ≡ ran (members_of m.store) m.ticks
RanAs (Err (halt.Stopped s)) o m = o ≡ stopped s.class s.fault.kind s.fault.line
RanAs (Err halt.NoMemory) o m = Unit {0}
