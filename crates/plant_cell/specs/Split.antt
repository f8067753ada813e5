-- Which number a split hands on, and why none.
use Rattle.std.specs.Prelude.{◌≡◌, ℕ, ◌<◌, ◌≤◌, List, [], ◌∷◌, ◌++◌, ◌⊎◌, length}
use Rattle.plant_cell.specs.declared.pass.SplitError.{SplitError}
use Rattle.plant_cell.specs.declared.pass.SplitError.TheVariants as refused
use Rattle.plant_cell.specs.Known.{Known}

-- a pass with these numbers came to have all of those, and more than one: as they were, or with one that was made for it
abbrev pub Provided : List ℕ → ℕ → ℕ → List ℕ → Type 0
Provided numbers least limit all =
    ((all ≡ numbers) × (1 < length numbers)) ⊎ ((length numbers ≡ 1) × ((n : ℕ) × (all ≡ numbers ++ n ∷ []) × (least ≤ n) × (n < limit)))

-- a split handed on one of these numbers: one that the pass had beside its first, or one that was made for it
pub record HandsOn (numbers : List ℕ) (least limit : ℕ) (left right : List ℕ) : Type 0 where
  pub all : List ℕ
  pub from : Provided numbers least limit all
  pub whole : left ++ right ≡ all
  pub one : length right ≡ 1

-- no number could be handed on: all are made and the pass has but one, or there was no memory, and a number that was made stays with the pass
abbrev pub IsRefused : SplitError → {W : Type 0} → ℕ → List ℕ → Known W → List ℕ → Known W → Type 0
IsRefused (refused.Full made) limit numbers v numbers' v' = (made ≡ limit) × (v'.least ≡ limit) × (length numbers ≡ 1) × (numbers' ≡ numbers)
IsRefused refused.NoMemory limit numbers v numbers' v' = Provided numbers v.least limit numbers'
