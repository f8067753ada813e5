-- Rows of bits, 64 in a word.
use Rattle.std.specs.Prelude.{ℕ, ◌/◌, ◌%◌, Bool, nat_eq, List, get_or}
use Rattle.std.specs.Int.{bit_at}

-- whether the bit is set
abbrev pub has_bit : List ℕ → ℕ → Bool
has_bit row j = nat_eq (bit_at (get_or row (j / 64) 0) (j % 64)) 1
