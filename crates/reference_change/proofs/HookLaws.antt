-- The hooks of instances one after the other.
use Rattle.std.proofs.Common.{◌≡◌, ◌≤◌, ◌<◌, ℕ, ◌+◌, Bool, true, false, List, [], ◌∷◌, ◌++◌, length, drop, get_or, map, Result, refl, sym, ap, ◌∙◌}
use Rattle.std.specs.Prelude.{if◌then◌else◌}
use Rattle.st_rules.proofs.ListLaws.{drop-at, drop-end}
use Rattle.st_tree.specs.declared.program.Program.{Program as CheckedProgram}
use Rattle.st_values.specs.Program.{Program}
use Rattle.st_values.specs.Value.{Store}
use Rattle.st_values.specs.View.{program_of}
use Rattle.st_change.specs.Change.{exits, inits, reinits}
use Rattle.st_change.specs.Hook.{Hook, init_hooks, exit_hooks, reinit_hooks, init_flags, Ran, ran, go_on, run_hooks}
use Rattle.st_change.specs.Instances.{Member}
use Rattle.run_state.specs.declared.state.RunState.{RunState}
use Rattle.reference_hooks.specs.declared.hooks.Halt.{Halt}
use Rattle.reference_hooks.specs.declared.hooks.Instance.{Instance}
use Rattle.reference_hooks.specs.Hooks.{RanAs, member_of}
use Rattle.reference_hooks.proofs.ChainLaws.{hooks_both, ran_so}
use Rattle.reference_change.specs.Private.Phases.{exits_of, inits_of, reinits_of, all_hooks}

-- ---- one instance

module _ (p q : CheckedProgram) (same : p ≡ q) (x : Instance) (s : Store) (n : ℕ) (r : Result (Unit {0}) Halt) (m : RunState) where
  abbrev exits_by : CheckedProgram → Bool → Ran
  exits_by z b = run_hooks (program_of z) (exit_hooks (program_of z) (b ∷ []) (member_of (program_of z) x)) s n

  pub exit_told : (b told : Bool) → b ≡ told → RanAs r (exits_by p b) m → RanAs r (exits_by q told) m
  exit_told b told e h = ran_so r (exits_by p b) (exits_by q told) m (sym (ap (λ z. exits_by z b) same ∙ ap (exits_by q) e)) h

  abbrev inits_by : CheckedProgram → Bool → Ran
  inits_by z b = run_hooks (program_of z) (init_hooks (program_of z) (init_flags b) (member_of (program_of z) x)) s n

  pub init_told : (b told : Bool) → b ≡ told → RanAs r (inits_by p b) m → RanAs r (inits_by q told) m
  init_told b told e h = ran_so r (inits_by p b) (inits_by q told) m (sym (ap (λ z. inits_by z b) same ∙ ap (inits_by q) e)) h

  abbrev reinits_by : CheckedProgram → Ran
  reinits_by z = run_hooks (program_of z) (reinit_hooks (program_of z) (member_of (program_of z) x)) s n

  abbrev reinits_if : Bool → Ran
  reinits_if b = run_hooks (program_of q) (if b then reinit_hooks (program_of q) (member_of (program_of q) x) else []) s n

  pub reinit_told : (b told : Bool) → b ≡ told → b ≡ true → RanAs r (reinits_by p) m → RanAs r (reinits_if told) m
  reinit_told b told e t h = ran_so r (reinits_by p) (reinits_if told) m (sym (ap reinits_by same ∙ ap reinits_if (sym t ∙ e))) h

  pub reinit_skipped : (b told : Bool) → b ≡ told → b ≡ false → reinits_if told ≡ ran s n
  reinit_skipped b told e f = ap reinits_if (sym e ∙ f)

-- ---- many instances

module _ (p : Program) (f : Member → List Hook) (view : Instance → Member) (xs : List Instance) (i : ℕ) (s : Store) (n : ℕ) where
  pub instances_at : (x : Instance) → i < length xs → x ≡ get_or xs i x → run_hooks p (all_hooks f (map view (drop i xs))) s n ≡ go_on (run_hooks p (f (view x)) s n) (run_hooks p (all_hooks f (map view (drop (i + 1) xs))))
  instances_at x l is =
      ap (λ ys. run_hooks p (all_hooks f (map view ys)) s n) (drop-at xs i x l is)
      ∙ hooks_both p (f (view x)) (all_hooks f (map view (drop (i + 1) xs))) s n

  pub instances_end : (w : Ran) → length xs ≤ i → run_hooks p (all_hooks f (map view (drop i xs))) s n ≡ w → w ≡ ran s n
  instances_end w l h = sym h ∙ ap (λ ys. run_hooks p (all_hooks f (map view ys)) s n) (drop-end xs i l)

-- ---- those of the definitions

module _ (old new : Program) where
  pub exits_are : (ms : List Member) → exits old new ms ≡ all_hooks (exits_of old new) ms
  exits_are [] = refl
  exits_are (m ∷ ms) = ap (λ hs. exits_of old new m ++ hs) (exits_are ms)

  pub inits_are : (ms : List Member) → inits old new ms ≡ all_hooks (inits_of old new) ms
  inits_are [] = refl
  inits_are (m ∷ ms) = ap (λ hs. inits_of old new m ++ hs) (inits_are ms)

  pub reinits_are : (ms : List Member) → reinits old new ms ≡ all_hooks (reinits_of old new) ms
  reinits_are [] = refl
  reinits_are (m ∷ ms) = ap (λ hs. reinits_of old new m ++ hs) (reinits_are ms)
