-- Regions that two tasks want.
use Rattle.std.specs.Prelude.{ℕ, ◌<◌, ◌≤◌, List, ◌⊎◌}
use Rattle.plant_rules.specs.Meaning.{Has, Rising}

-- those of rising regions from this one on
pub record IsFrom (all : List ℕ) (r : ℕ) (left : List ℕ) : Type 0 where
  pub rising : Rising left
  pub keeps : (k : ℕ) → r ≤ k → Has all k → Has left k
  pub above : (k : ℕ) → Has left k → r ≤ k
  pub within : (k : ℕ) → Has left k → Has all k

-- both have the region, and none before it
pub record IsCommon (one other : List ℕ) (r : ℕ) : Type 0 where
  pub first : Has one r
  pub second : Has other r
  pub least : (k : ℕ) → k < r → Has one k → Has other k → ⊥

-- the task has the region and the other writes it, or the task writes it and the other has it
abbrev pub Meets : List ℕ → List ℕ → List ℕ → List ℕ → ℕ → Type 0
Meets reads writes other-reads other-writes r = (Has reads r × Has other-writes r) ⊎ (Has writes r × Has other-reads r)

pub record MeetsFirst (reads writes other-reads other-writes : List ℕ) (r : ℕ) : Type 0 where
  pub meets : Meets reads writes other-reads other-writes r
  pub least : (k : ℕ) → k < r → Meets reads writes other-reads other-writes k → ⊥
