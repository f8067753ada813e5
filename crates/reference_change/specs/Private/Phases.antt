-- The phases of a change one by one.
use Rattle.std.specs.Prelude.{◌≡◌, ℕ, true, false, if◌then◌else◌, List, [], ◌∷◌, ◌++◌}
use Rattle.st_values.specs.Program.{Program}
use Rattle.st_values.specs.Value.{Store}
use Rattle.st_values.specs.Initial.{initial_store}
use Rattle.st_change.specs.Change.{carry_store, coming, goes_on, comes_from, inits, reinits}
use Rattle.st_change.specs.Hook.{Hook, init_hooks, exit_hooks, reinit_hooks, init_flags, Ran, stopped, go_on, run_hooks}
use Rattle.st_change.specs.Instances.{Member}
use Rattle.reference_hooks.specs.declared.hooks.Halt.{Halt}
use Rattle.reference_hooks.specs.declared.hooks.Halt.TheVariants as halt

-- ---- the hooks of one instance, and of many

abbrev pub exits_of : Program → Program → Member → List Hook
exits_of old new m = exit_hooks old (goes_on old new m ∷ []) m

abbrev pub inits_of : Program → Program → Member → List Hook
inits_of old new m = init_hooks new (init_flags (comes_from old new m)) m

abbrev pub reinits_of : Program → Program → Member → List Hook
reinits_of old new m = if comes_from old new m then reinit_hooks new m else []

abbrev pub all_hooks : (Member → List Hook) → List Member → List Hook
all_hooks f [] = []
all_hooks f (m ∷ ms) = f m ++ all_hooks f ms

-- ---- what is left behind a phase

-- behind the inits: the copy, and the reinits
abbrev pub behind_inits : Program → Program → Store → Store → ℕ → Ran
behind_inits old new before s n = run_hooks new (reinits old new (coming old new)) (carry_store old new false before s) n

-- the inits on a store, and all behind them
abbrev pub entered : Program → Program → Store → Store → ℕ → Ran
entered old new before s n = go_on (run_hooks new (inits old new (coming old new)) s n) (behind_inits old new before)

-- behind the exits: the fresh store with what is kept, the inits, and all behind them
abbrev pub behind_exits : Program → Program → Store → ℕ → Ran
behind_exits old new before n = entered old new before (carry_store old new true before (initial_store new)) n

-- ---- where hooks stop

abbrev pub StoppedAs : Halt → Ran → Type 0
StoppedAs (halt.Stopped s) o = o ≡ stopped s.class s.fault.kind s.fault.line
StoppedAs halt.NoMemory o = ⊥
