-- The operators on bits, within the width of a kind (IEC 61131-3:2013, table 30).
use Rattle.std.specs.Prelude.{◌≡◌, ℕ, zero, suc, ◌+◌, ◌<◌, ◌^◌, ℤ, pos, negsuc, Bool, true, false, not, ◌&&◌, ◌||◌, nat_eq, if◌then◌else◌}
use Rattle.std.specs.Int.{bit_at}
use Rattle.st_types.specs.declared.elem.Elem.{Elem}
use Rattle.st_types.specs.Elem.{bits}
use Rattle.st_types.specs.Range.{Fits}
use Rattle.plc_num.specs.Wrapping.{wrapped}

-- whether bit k of a number is set, in two's complement
abbrev pub bit : ℤ → ℕ → Bool
bit (pos n) k = nat_eq (bit_at n k) 1
bit (negsuc n) k = not (nat_eq (bit_at n k) 1)

-- r is the value of the kind whose bits, within the width, are these
pub record HasBits (e : Elem) (f : ℕ → Bool) (r : ℤ) : Type 0 where
  pub fits : Fits e r
  pub bits-are : (k : ℕ) → k < bits e → bit r k ≡ f k

-- the number of n bits
unfoldable pub with_bits : ℕ → (ℕ → Bool) → ℕ
with_bits zero f = 0
with_bits (suc n) f = (if f n then 2 ^ n else 0) + with_bits n f

-- the value of the kind with these bits
abbrev pub value_of_bits : Elem → (ℕ → Bool) → ℤ
value_of_bits e f = wrapped e (pos (with_bits (bits e) f))

abbrev pub exclusive_or : Bool → Bool → Bool
exclusive_or true b = not b
exclusive_or false b = b

abbrev pub conjunction : Elem → ℤ → ℤ → ℤ
conjunction e a b = value_of_bits e (λ k. bit a k && bit b k)

abbrev pub disjunction : Elem → ℤ → ℤ → ℤ
disjunction e a b = value_of_bits e (λ k. bit a k || bit b k)

abbrev pub exclusive_disjunction : Elem → ℤ → ℤ → ℤ
exclusive_disjunction e a b = value_of_bits e (λ k. exclusive_or (bit a k) (bit b k))

abbrev pub complement : Elem → ℤ → ℤ
complement e a = value_of_bits e (λ k. not (bit a k))
