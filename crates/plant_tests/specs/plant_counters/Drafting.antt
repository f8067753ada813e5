-- What a draft of the next version holds.
use Rattle.std.specs.Prelude.{◌≡◌, ℕ, ◌+◌, List, [], ◌∷◌, Option, Some}
use Rattle.plc_text.specs.declared.refusal.Refusal.{Refusal}
use Rattle.plant_rules.specs.Meaning.{Contents}
use Rattle.plant_rules.specs.Next.{AllKits}
use Rattle.plant_tests.specs.declared.plant_counters.counters.Counters.{Counters}
use Rattle.plant_tests.specs.plant_counters.Counting.{total, is_wide, places_by, stop_refusal}

-- the next version twice, kits for it, room for its regions, the fourth counter, and the refusal, if it comes to that
pub record IsDraft {K : Type 0} (base : Counters) (text : List ℕ) (next other : Counters) (kits : List (Option K)) (good : ℕ → K → Type 0) (room : Contents) (extra : List ℕ) (refusal : Option Refusal) : Type 0 where
  pub some : text ≡ [] → ⊥
  pub next-is : next ≡ record { number = base.number + 1; wide = is_wide text }
  pub same : other ≡ next
  pub kits-are : AllKits kits (total next) good
  pub room-is : room ≡ places_by (is_wide text)
  pub extra-is : extra ≡ 0 ∷ []
  pub refusal-is : refusal ≡ Some stop_refusal
