-- A whole change, from its phases.
use Rattle.std.proofs.Common.{◌≡◌, ℕ, true, Result, Ok, Err, sym, ap, ◌∙◌}
use Rattle.std.specs.Prelude.{IfOk}
use Rattle.plc_text.specs.declared.memory.NoMemory.{NoMemory}
use Rattle.st_tree.specs.declared.program.Program.{Program as CheckedProgram}
use Rattle.st_values.specs.Program.{Program}
use Rattle.st_values.specs.Value.{Store}
use Rattle.st_values.specs.Initial.{initial_store}
use Rattle.st_values.specs.View.{program_of}
use Rattle.st_meaning.specs.Cycle.{all_ticks}
use Rattle.st_change.specs.Change as words
use Rattle.st_change.specs.Hook.{Ran, ran, go_on, run_hooks}
use Rattle.run_state.specs.declared.state.RunState.{RunState}
use Rattle.reference_hooks.specs.declared.hooks.Halt.{Halt}
use Rattle.reference_hooks.specs.declared.hooks.Halt.TheVariants as halt
use Rattle.reference_hooks.specs.Hooks.{RanAs}
use Rattle.reference_change.specs.declared.changed.Changed.{Changed}
use Rattle.reference_change.specs.Changed.{changed}
use Rattle.reference_change.specs.Private.Phases.{StoppedAs, behind_exits, entered}

-- ---- results

-- it ended as this one
abbrev EndedAs : Result Changed NoMemory → Ran → Type 0
EndedAs r o = IfOk r (λ s. changed s ≡ o)

pub ended_so : (r : Result Changed NoMemory) (v w : Ran) → v ≡ w → EndedAs r v → EndedAs r w
ended_so (Ok s) v w e h = h ∙ e
ended_so (Err x) v w e h = tt

pub refused_so : (r : Result Changed NoMemory) (x : Halt) (o : Ran) (m : RunState) → RanAs (Err x) o m → IfOk r (λ s. StoppedAs x (changed s)) → EndedAs r o
refused_so (Ok s) (halt.Stopped y) o m h k = k ∙ sym h
refused_so (Ok s) halt.NoMemory o m h k = absurd k
refused_so (Err e) x o m h k = tt

-- ---- the new program

module _ (old new : Program) (before : Store) (n : ℕ) where
  -- the new program is entered with its fresh store and the ticks that are left
  pub enters : (fresh s : Store) (ticks : ℕ) → s ≡ fresh → ticks ≡ n → fresh ≡ words.carry_store old new true before (initial_store new) → entered old new before s ticks ≡ behind_exits old new before n
  enters fresh s ticks e t h = ap (λ x. entered old new before x ticks) (e ∙ h) ∙ ap (entered old new before (words.carry_store old new true before (initial_store new))) t

-- ---- the whole

module _ (old new : Program) (s : Store) where
  pub exits_from : (copy begun : Store) (ticks : ℕ) → begun ≡ copy → copy ≡ s → ticks ≡ all_ticks
      → run_hooks old (words.exits old new (words.leaving old new)) begun ticks ≡ run_hooks old (words.exits old new (words.leaving old new)) s all_ticks
  exits_from copy begun ticks e h t = ap (λ x. run_hooks old (words.exits old new (words.leaving old new)) x ticks) (e ∙ h) ∙ ap (run_hooks old (words.exits old new (words.leaving old new)) s) t

  -- behind exits that ended
  pub goes_on : (left : Store) (n : ℕ) → run_hooks old (words.exits old new (words.leaving old new)) s all_ticks ≡ ran left n → behind_exits old new left n ≡ words.change old new s
  goes_on left n h = sym (ap (λ x. go_on x (behind_exits old new)) h)

pub of_programs : (o : Ran) (s : Store) (p q y z : CheckedProgram) → p ≡ q → y ≡ z → o ≡ words.change (program_of q) (program_of z) s → o ≡ words.change (program_of p) (program_of y) s
of_programs o s p q y z e f h = h ∙ sym (ap (λ (x : CheckedProgram). words.change (program_of x) (program_of y) s) e ∙ ap (λ (x : CheckedProgram). words.change (program_of q) (program_of x) s) f)
