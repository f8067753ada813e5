-- Laws of a change to the same program, and of changes that are refused.
use Rattle.std.specs.Prelude.{◌≡◌, ◌<◌, ℕ, Bool, true, false, List, [], ◌∷◌, length, Some}
use Rattle.plc_text.specs.declared.refusal.Refusal.{Refusal}
use Rattle.cycle_journal.specs.declared.entry.Answer.{Answer}
use Rattle.cycle_journal.specs.declared.entry.Answer.TheVariants as answer
use Rattle.cycle_journal.specs.declared.play.Play.{Play}
use Rattle.st_values.specs.Program.{Region, Program}
use Rattle.st_values.specs.Value.{Store}
use Rattle.st_values.specs.Shape.{Shape, region_shape}
use Rattle.st_values.specs.Initial.{initial_store}
use Rattle.st_meaning.specs.Cycle.{all_ticks}
use Rattle.st_meaning.specs.st_frame.Good.{Good}
use Rattle.st_change.specs.Counterpart.{kept}
use Rattle.st_change.specs.Hook.{ran}
use Rattle.st_change.specs.Change.{leaving, coming, change}
use Rattle.st_change.specs.CarryLaws.{Settles}
use Rattle.st_change.specs.OneThread.{Controller, One}

-- no region is marked
abbrev pub AreUnmarked : List Region → Type 0
AreUnmarked [] = Unit {0}
AreUnmarked (x ∷ xs) = (x.variable.marks.init_on_change ≡ false) × (x.variable.marks.no_copy ≡ false) × AreUnmarked xs

-- A program in which no variable is marked and each name stands once, and whose types unfold.
pub record IsUnmarked (p : Program) : Type 0 where
  pub settles : Settles p
  pub regions : AreUnmarked p.regions
  pub shapes : (r : ℕ) → r < length p.regions → (sh : Shape) × (region_shape p r ≡ Some sh)

-- A change of such a program to itself.
pub record SameLaws : Type 0 where
  -- each region is kept
  pub keeps : (p : Program) (r : ℕ) → IsUnmarked p → r < length p.regions → kept p p r ≡ true
  -- no instance leaves or comes, so no hook is called
  pub none_leave : (p : Program) → IsUnmarked p → leaving p p ≡ []
  pub none_come : (p : Program) → IsUnmarked p → coming p p ≡ []
  -- and the store stays
  pub stays : (p : Program) (s : Store) → IsUnmarked p → Good p (initial_store p) → Good p s → change p p s ≡ ran s all_ticks

abbrev pub is_refused : Answer → Bool
is_refused (answer.Refused r) = true
is_refused answer.RefusedMemory = true
is_refused _ = false

-- A change that is refused, or for which no memory is there, leaves the controller as it was: its version, its program, its store.
abbrev pub RefusalsLeave : (List ℕ → Program → Type 0) → (List ℕ → Refusal → Type 0) → List (List ℕ) → Type 0
RefusalsLeave Accepts Refuses sources = (c d : Controller) (p : Play) (a : Answer) → is_refused a ≡ true → One Accepts Refuses sources c p a d → d ≡ c
