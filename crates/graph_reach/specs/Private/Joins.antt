-- Rows of bits that are joined.
use Rattle.std.specs.Prelude.{◌≡◌, ℕ, ◌||◌, List}
use Rattle.graph_reach.specs.Bits.{has_bit}

-- the new row has the bits of both
pub record Joins (old from new : List ℕ) : Type 0 where
  pub bits : (j : ℕ) → has_bit new j ≡ (has_bit old j || has_bit from j)
