-- What each node of a graph leads to. The nodes are numbers; a list tells where the edges of each node lead, and rows of bits tell
-- what it leads to in any number of steps.
use Rattle.std.specs.Prelude.{◌≡◌, ℕ, ◌<◌, Bool, true, List, [], length, get_or}
use Rattle.std.specs.Bool.{Decides}
use Rattle.st_rules.specs.Chains.{is_among, Leads}
use Rattle.graph_reach.specs.Bits.{has_bit}

abbrev pub ahead_in : List (List ℕ) → ℕ → List ℕ
ahead_in lists i = get_or lists i []

abbrev pub reaches : List (List ℕ) → ℕ → ℕ → Bool
reaches rows i j = has_bit (get_or rows i []) j

-- edges lead to nodes
pub record AreEdges (lists : List (List ℕ)) : Type 0 where
  pub within : (i k : ℕ) → is_among k (ahead_in lists i) ≡ true → k < length lists

-- the rows tell which of the first nodes each node leads to
pub record AreReached (lists : List (List ℕ)) (columns : ℕ) (rows : List (List ℕ)) : Type 0 where
  pub decided : (i j : ℕ) → i < length lists → j < columns → Decides (reaches rows i j) (Leads (ahead_in lists) i j)
