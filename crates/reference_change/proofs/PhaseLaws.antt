-- The phases of a change one behind the other.
use Rattle.std.proofs.Common.{◌≡◌, ℕ, Bool, List, map, Option, Some, None, Result, Err, refl, sym, ap, ◌∙◌, subst}
use Rattle.std.specs.Prelude.{slice_get}
use Rattle.st_values.specs.Program.{Program}
use Rattle.st_values.specs.Value.{Store}
use Rattle.st_change.specs.Change.{coming, leaving, exits, inits, reinits}
use Rattle.st_change.specs.Counterpart.{kept}
use Rattle.st_change.specs.Hook.{Ran, ran, go_on, run_hooks}
use Rattle.run_state.specs.declared.state.RunState.{RunState}
use Rattle.change_carry.specs.Store as carry
use Rattle.change_kept.specs.Kept as flags
use Rattle.reference_hooks.specs.declared.hooks.Halt.{Halt}
use Rattle.reference_hooks.specs.declared.hooks.Halt.TheVariants as halt
use Rattle.reference_hooks.specs.declared.hooks.Instance.{Instance}
use Rattle.reference_hooks.specs.Hooks.{RanAs, member_of}
use Rattle.reference_change.specs.Private.Phases.{exits_of, inits_of, reinits_of, all_hooks}
use Rattle.reference_change.proofs.HookLaws.{exits_are, inits_are, reinits_are}

-- ---- flags

flag_same : (o : Option Bool) → carry.is_set o ≡ flags.is_set o
flag_same None = refl
flag_same (Some b) = refl

pub are_kept_too : (old new : Program) (bs : List Bool) → flags.AreKept old new bs → (r : ℕ) → carry.is_set (slice_get bs r) ≡ kept old new r
are_kept_too old new bs h r = flag_same (slice_get bs r) ∙ h.by r

-- ---- one phase behind the other

-- a phase that ends is followed by the next one
pub goes_behind : (r : Result (Unit {0}) Halt) (o : Ran) (f : Store → ℕ → Ran) (s : Store) (n : ℕ) (m : RunState) → o ≡ ran s n → RanAs r (f s n) m → RanAs r (go_on o f) m
goes_behind r o f s n m e h = subst (λ (x : Ran). RanAs r x m) (sym (ap (λ x. go_on x f) e)) h

-- one that stops is the end
pub stops_there : (x : Halt) (o : Ran) (f : Store → ℕ → Ran) (m : RunState) → RanAs (Err x) o m → RanAs (Err x) (go_on o f) m
stops_there (halt.Stopped s) o f m h = ap (λ y. go_on y f) h
stops_there halt.NoMemory o f m h = tt

-- ---- the phases

module _ (old new : Program) (xs ys : List Instance) (same : ys ≡ xs) where
  pub exits_run : (s : Store) (n : ℕ) → map (member_of old) xs ≡ leaving old new
      → run_hooks old (exits old new (leaving old new)) s n ≡ run_hooks old (all_hooks (exits_of old new) (map (member_of old) ys)) s n
  exits_run s n found =
      ap (λ hs. run_hooks old hs s n) (exits_are old new (leaving old new) ∙ ap (all_hooks (exits_of old new)) (sym found) ∙ ap (λ zs. all_hooks (exits_of old new) (map (member_of old) zs)) (sym same))

  pub inits_run : (s : Store) (n : ℕ) → map (member_of new) xs ≡ coming old new
      → run_hooks new (inits old new (coming old new)) s n ≡ run_hooks new (all_hooks (inits_of old new) (map (member_of new) ys)) s n
  inits_run s n found =
      ap (λ hs. run_hooks new hs s n) (inits_are old new (coming old new) ∙ ap (all_hooks (inits_of old new)) (sym found) ∙ ap (λ zs. all_hooks (inits_of old new) (map (member_of new) zs)) (sym same))

  pub reinits_run : (s : Store) (n : ℕ) → map (member_of new) xs ≡ coming old new
      → run_hooks new (reinits old new (coming old new)) s n ≡ run_hooks new (all_hooks (reinits_of old new) (map (member_of new) ys)) s n
  reinits_run s n found =
      ap (λ hs. run_hooks new hs s n) (reinits_are old new (coming old new) ∙ ap (all_hooks (reinits_of old new)) (sym found) ∙ ap (λ zs. all_hooks (reinits_of old new) (map (member_of new) zs)) (sym same))
