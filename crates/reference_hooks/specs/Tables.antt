-- Tables of the hooks that classes declare themselves.
use Rattle.std.specs.Prelude.{◌≡◌, ℕ, List, Option, Some, None, option_map, slice_get}
use Rattle.st_tree.specs.declared.program.Program.{Program as CheckedProgram}
use Rattle.st_values.specs.Program.{own_method}
use Rattle.st_values.specs.View.{program_of}
use Rattle.st_change.specs.Hook.{When, at_init, at_exit, at_reinit, hook_name}
use Rattle.program_tables.specs.declared.routine.RoutineId.{RoutineId}
use Rattle.program_tables.specs.Routine.{routine_of}
use Rattle.reference_hooks.specs.declared.tables.HookTables.{HookTables}

abbrev pub id_at : Option (Option RoutineId) → Option RoutineId
id_at None = None
id_at (Some o) = o

-- the hooks of one sort, by the numbers of the classes
pub record AreOwn (p : CheckedProgram) (w : When) (ids : List (Option RoutineId)) : Type 0 where
  pub by : (c : ℕ) → option_map (routine_of p) (id_at (slice_get ids c)) ≡ own_method (program_of p) (hook_name w) c

-- those of all sorts
pub record AreHooks (p : CheckedProgram) (hooks : HookTables) : Type 0 where
  pub inits : AreOwn p at_init hooks.inits.items
  pub exits : AreOwn p at_exit hooks.exits.items
  pub reinits : AreOwn p at_reinit hooks.reinits.items
