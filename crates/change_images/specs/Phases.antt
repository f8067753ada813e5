-- The five phases of a change on images.
use Rattle.std.specs.Prelude.{◌≡◌, ℕ, ℤ, Bool, true, false, List, [], ◌∷◌}
use Rattle.plc_text.specs.declared.fault.FaultKind.{FaultKind}
use Rattle.st_types.specs.declared.st_type.StType.{StType}
use Rattle.st_values.specs.Program.{Program}
use Rattle.st_values.specs.Value.{Store}
use Rattle.st_meaning.specs.Cycle.{all_ticks}
use Rattle.st_change.specs.Hook.{Hook, Ran, ran, stopped, routine_of, run_hook}
use Rattle.st_change.specs.StoreLaws.{IsHook}
use Rattle.st_change.specs.Change as change
use Rattle.change_images.specs.Images.{Images, Clean, region_moves, carry_images}

-- images and the ticks left, or a fault with the class that declares the hook
pub data Left : Type 0 where
  left : Images → ℕ → Left
  faulted : List ℕ → FaultKind → ℕ → Left

abbrev pub then_left : Left → (Images → ℕ → Left) → Left
then_left (left is n) f = f is n
then_left (faulted class kind line) f = faulted class kind line

-- a hook on images
abbrev pub HookRun : Type 0
HookRun = Hook → Images → ℕ → Left

abbrev pub run_all : HookRun → List Hook → Images → ℕ → Left
run_all run [] is n = left is n
run_all run (h ∷ hs) is n = then_left (run h is n) (run_all run hs)

-- what is left on images is what is left of the store
abbrev pub Agrees : Program → Left → Ran → Type 0
Agrees p (left is n) (ran s m) = (n ≡ m) × Clean p is s
Agrees p (faulted a k l) (stopped b j m) = (a ≡ b) × (k ≡ j) × (l ≡ m)
Agrees p _ _ = ⊥

-- what compiled code promises of a hook
pub record RunsHooks (p : Program) (run : HookRun) : Type 0 where
  pub by : (h : Hook) (is : Images) (s : Store) (n : ℕ) → IsHook p h → Clean p is s → Agrees p (run h is n) (run_hook p h (routine_of p h) s n)

module _ (old new : Program) (aim : StType → ℕ) (relocated : ℕ → ℤ → ℤ) (run_old run_new : HookRun) (fresh : Images) where
  -- Exits on the old images; kept regions moved into fresh images; inits; the other regions moved; reinits.
  abbrev pub change_images : Images → Left
  change_images olds =
      then_left (run_all run_old (change.exits old new (change.leaving old new)) olds all_ticks) (λ o1 n1.
      then_left (run_all run_new (change.inits old new (change.coming old new)) (carry_images relocated (region_moves old new aim true) o1 fresh) n1) (λ i3 n3.
      run_all run_new (change.reinits old new (change.coming old new)) (carry_images relocated (region_moves old new aim false) o1 i3) n3))
