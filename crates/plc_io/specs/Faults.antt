-- How a count of faults stands after a call.
use Rattle.std.specs.Prelude.{◌≡◌, ◌⊎◌, ℕ, ◌+◌, ◌<◌, min}

-- the last value of a count, past which a further fault doesn't show
abbrev pub last_count : ℕ
last_count = 18446744073709551615

-- a fault was counted in the call, or the count stands at its last value
abbrev pub Rose : ℕ → ℕ → Type 0
Rose old new = (old < new) ⊎ (new ≡ last_count)

-- a count after one more
abbrev pub next_count : ℕ → ℕ
next_count n = min (n + 1) last_count
