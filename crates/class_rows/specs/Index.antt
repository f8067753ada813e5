-- Tables of names.
use Rattle.std.specs.Prelude.{◌≡◌, ℕ, List, Some, None}
use Rattle.st_names.specs.Names.{HasName, IsPairOf}
use Rattle.st_rules.specs.Named.{first_place}

-- the table has the first place of each name
pub record Indexes (pairs : List (List ℕ × ℕ)) (names : List (List ℕ)) : Type 0 where
  pub found : (name : List ℕ) (n : ℕ) → IsPairOf pairs name n → first_place name names ≡ Some n
  pub missing : (name : List ℕ) → (HasName pairs name → ⊥) → first_place name names ≡ None
