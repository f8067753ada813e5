-- The configurations of a unit, as the code lends them.
use Rattle.std.specs.Prelude.{◌≡◌, ℕ, List, [], ◌∷◌, map}
use Rattle.std.proofs.Common.{Bor}
use Rattle.st_tree.specs.declared.configuration.Configuration.{Configuration}

abbrev pub configurations_of : List (Bor (Configuration ℕ)) → List (Configuration ℕ)
configurations_of cs = map (λ c. c.now) cs

abbrev pub IsFirst : Configuration ℕ → List (Configuration ℕ) → Type 0
IsFirst c [] = ⊥
IsFirst c (d ∷ ds) = d ≡ c
