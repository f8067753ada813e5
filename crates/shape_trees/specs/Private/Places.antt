-- The places of elements.
use Rattle.std.specs.Prelude.{ℕ, nat_lt, Bool, false, Option, Some, None}

-- a place among so many elements
abbrev pub has_place : Option ℕ → ℕ → Bool
has_place None n = false
has_place (Some k) n = nat_lt k n
