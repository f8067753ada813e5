-- Nodes one by one.
use Rattle.std.specs.Prelude.{◌≡◌, ℕ, List, ◌++◌, replicate}
use Rattle.default_values.specs.declared.worth_numbers.node.Node.{Node}
use Rattle.default_values.specs.declared.worth_numbers.numbers.Listed.{Listed}
use Rattle.default_values.specs.worth_numbers.Numbers.{IsAt, Grows, IsListOf, IsListed}

-- no node stands at two places
abbrev pub AreDistinct : List Node → Type 0
AreDistinct nodes = (i j : ℕ) (n : Node) → IsAt nodes i n → IsAt nodes j n → i ≡ j

pub record Puts (old new : List Node) (k : ℕ) (n : Node) : Type 0 where
  pub grows : Grows old new
  pub at : IsAt new k n

-- the list is in the table
pub record Closes (old new : List Node) (l : Listed) (k : ℕ) : Type 0 where
  pub grows : Grows old new
  pub lists : (parts : List ℕ) → IsListed old l parts → IsListOf new k parts

-- the list with so many before it
pub record Longer (old new : List Node) (count first : ℕ) (behind l : Listed) : Type 0 where
  pub grows : Grows old new
  pub lists : (parts : List ℕ) → IsListed old behind parts → IsListed new l (replicate count first ++ parts)
