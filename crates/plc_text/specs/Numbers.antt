-- Numbers in decimal.
use Rattle.std.specs.Prelude.{◌≡◌, ℕ, ◌+◌, ◌-◌, ◌*◌, ◌<◌, ◌^◌, true, ◌&&◌, nat_lt, List, fold, Option, Some, None, if◌then◌else◌}
use Rattle.plc_text.specs.Words.{is_number}

-- the number that decimal digits stand for; `0` is 48
abbrev pub number : List ℕ → ℕ
number digits = fold (λ n digit. 10 * n + (digit - 48)) 0 digits

-- one digit or more, leading zeros among them, which stand for a number of 32 bits
abbrev pub IsNumber32 : List ℕ → Type 0
IsNumber32 word = (is_number word ≡ true) × (number word < 2 ^ 32)

-- the number of 32 bits that the word stands for, if it is one
unfoldable pub number_in : List ℕ → Option ℕ
number_in word = if is_number word && nat_lt (number word) (2 ^ 32) then Some (number word) else None
