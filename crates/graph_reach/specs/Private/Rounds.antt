-- Rows while they are found, round after round.
use Rattle.std.specs.Prelude.{◌≡◌, ℕ, ◌<◌, true, List, [], length, get_or}
use Rattle.st_rules.specs.Chains.{is_among, Leads}
use Rattle.graph_reach.specs.Reach.{ahead_in, reaches}

-- all rows have as many words
pub record AreEven (rows : List (List ℕ)) : Type 0 where
  pub even : (i k : ℕ) → i < length rows → k < length rows → length (get_or rows i []) ≡ length (get_or rows k [])

-- what a row tells, its node leads to
pub record AreSound (lists rows : List (List ℕ)) : Type 0 where
  pub leads : (i j : ℕ) → reaches rows i j ≡ true → Leads (ahead_in lists) i j

-- what a row tells stays told
pub record Grows (old new : List (List ℕ)) : Type 0 where
  pub stays : (i j : ℕ) → reaches old i j ≡ true → reaches new i j ≡ true

-- a node has what those had that its edges lead to
pub record GoesOn (lists old new : List (List ℕ)) : Type 0 where
  pub next : (i k j : ℕ) → is_among k (ahead_in lists i) ≡ true → reaches old k j ≡ true → reaches new i j ≡ true
