-- Items with their numbers.
use Rattle.std.specs.Prelude.{ℕ, suc, Bool, false, ◌||◌, List, [], ◌∷◌, ◌++◌, Option, Some, None}

-- whether the item is there and passes
abbrev pub passes_if_there : {X : Type 0} → (X → Bool) → Option X → Bool
passes_if_there test None = false
passes_if_there test (Some x) = test x

-- whether an item passes with its number, where the first has number n
abbrev pub any_numbered : {X : Type 0} → (ℕ → X → Bool) → ℕ → List X → Bool
any_numbered test n [] = false
any_numbered test n (x ∷ xs) = test n x || any_numbered test (suc n) xs

-- what each item gives with its number, one after the other, where the first has number n
abbrev pub each_numbered : {X Y : Type 0} → (ℕ → X → List Y) → ℕ → List X → List Y
each_numbered gives n [] = []
each_numbered gives n (x ∷ xs) = gives n x ++ each_numbered gives (suc n) xs
