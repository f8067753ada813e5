-- The numbers of steps of structures, found in rounds: in each the structures that take one step more.
use Rattle.std.specs.Prelude.{◌≡◌, ℕ, suc, ◌<◌, ◌≤◌, nat_le, ◌⊎◌, List, length}
use Rattle.st_types.specs.declared.st_type.StType.TheVariants as type
use Rattle.st_tree.specs.declared.declaration.TypeDecl.{TypeDecl}
use Rattle.st_rules.specs.Scope.{Scope}
use Rattle.default_values.specs.worth_steps.Steps.{takes_steps, count_at}

module _ (unit : Scope) (entries : List (TypeDecl ℕ)) where
  -- exact below so many steps
  pub record AreExact (structures : List ℕ) (k : ℕ) : Type 0 where
    pub each : (m j : ℕ) → j < k → j ≤ 66 → takes_steps unit entries j (type.Structure m) ≡ nat_le (count_at structures m) j

  -- in the round of k steps, with the first i structures done
  pub record IsRound (structures : List ℕ) (k i : ℕ) : Type 0 where
    pub exact : AreExact structures k
    pub done : (m : ℕ) → m < i → takes_steps unit entries k (type.Structure m) ≡ nat_le (count_at structures m) k
    pub seen : (m : ℕ) → m < i → (count_at structures m ≡ 67) ⊎ (count_at structures m ≤ k)
    pub left : (m : ℕ) → i ≤ m → m < length structures → (count_at structures m ≡ 67) ⊎ (count_at structures m < k)
