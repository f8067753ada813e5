-- What an output adds to bytes.
use Rattle.std.specs.Prelude.{◌≡◌, ◌<◌, ℕ, ◌+◌, ◌-◌, ◌/◌, ◌%◌, ◌^◌, ◌&&◌, nat_le, nat_lt, if◌then◌else◌, List, length, get_or}

-- byte k of a number, the low one first
abbrev pub byte_at : ℕ → ℕ → ℕ
byte_at n k = n / 256 ^ k % 256

-- what the first k bytes of a number add to byte b, from one on
abbrev pub part_share : ℕ → ℕ → ℕ → ℕ → ℕ
part_share first k n b = if nat_le first b && nat_lt b (first + k) then byte_at n (b - first) else 0

-- each byte is what it was and a share
pub record Adds (old new : List ℕ) (share : ℕ → ℕ) : Type 0 where
  pub long : length new ≡ length old
  pub each : (b : ℕ) → get_or new b 0 ≡ get_or old b 0 + share b

-- and does not pass 255
pub record HasSpace (old : List ℕ) (share : ℕ → ℕ) : Type 0 where
  pub each : (b : ℕ) → get_or old b 0 + share b < 256
