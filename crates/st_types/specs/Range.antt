-- Which numbers are values of a kind: two's complement for the signed kinds, unsigned for all others.
use Rattle.std.specs.Prelude.{◌-◌, ◌^◌, ℤ, pos, neg_ℤ, ◌≤ℤ◌, if◌then◌else◌}
use Rattle.st_types.specs.declared.elem.Elem.{Elem}
use Rattle.st_types.specs.Elem.{bits, is_signed}

-- the least value
abbrev pub lowest : Elem → ℤ
lowest e = if is_signed e then neg_ℤ (pos (2 ^ (bits e - 1))) else pos 0

-- the greatest value
abbrev pub highest : Elem → ℤ
highest e = if is_signed e then pos (2 ^ (bits e - 1) - 1) else pos (2 ^ bits e - 1)

abbrev pub Fits : Elem → ℤ → Type 0
Fits e v = (lowest e ≤ℤ v) × (v ≤ℤ highest e)
