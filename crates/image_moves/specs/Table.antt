-- Addresses relocated by ways.
use Rattle.std.specs.Prelude.{ℕ, zero, suc, ◌+◌, ◌*◌, ◌/◌, ◌%◌, ℤ, pos, unsigned_abs, Bool, true, false, nat_lt, if◌then◌else◌, List, Option, Some, None, slice_get}
use Rattle.image_moves.specs.Ways.{Found, led}
use Rattle.image_moves.specs.WayViews.{way_of}
use Rattle.image_moves.specs.declared.table.Target.{Target}

-- whether a class conforms to what an address is meant for
abbrev pub is_set : Option Bool → Bool
is_set None = false
is_set (Some b) = b

abbrev pub may_go : List Bool → ℕ → ℕ → ℕ → Bool
may_go bits classes aim class = if nat_lt class classes then is_set (slice_get bits (aim * classes + class)) else false

abbrev pub kept_word : ℕ → ℕ → ℕ
kept_word region offset = region * 4294967296 + offset + 1

abbrev pub word_at : (ℕ → Bool) → ℕ → Found → ℕ
word_at fits region None = 0
word_at fits region (Some x) = if fits x.1 then kept_word region x.0 else 0

abbrev pub word_from : (ℕ → Bool) → Option (Option Target) → ℕ → ℕ
word_from fits (Some (Some t)) offset = word_at fits t.region (led (way_of t.way) offset)
word_from fits _ offset = 0

-- the address in the new program, of 64 bits, NULL where what is there does not conform
abbrev pub word_moved : List (Option Target) → ℕ → List Bool → ℕ → ℕ → ℕ
word_moved ts classes bits aim zero = 0
word_moved ts classes bits aim (suc w) = if nat_lt w 18446744073709551616 then word_from (may_go bits classes aim) (slice_get ts (w / 4294967296)) (w % 4294967296) else 0

abbrev pub address_moved : List (Option Target) → ℕ → List Bool → ℕ → ℤ → ℤ
address_moved ts classes bits aim z = pos (word_moved ts classes bits aim (unsigned_abs z))

-- what is found has an offset whose word has 64 bits
abbrev pub is_low : Found → Bool
is_low None = true
is_low (Some x) = nat_lt x.0 4294967295

abbrev pub is_low_at : Option (Option Target) → ℕ → Bool
is_low_at (Some (Some t)) offset = is_low (led (way_of t.way) offset)
is_low_at _ offset = true
