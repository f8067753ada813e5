-- Counts of values and elements.
use Rattle.std.specs.Prelude.{ℤ, pos, ◌+ℤ◌, ◌-ℤ◌, Option, Some}

-- how many elements there are between these bounds
abbrev pub room_between : ℤ → ℤ → Option ℤ
room_between low high = Some (high -ℤ low +ℤ pos 1)
