-- Sizes, as they are put together.
use Rattle.std.specs.Prelude.{ℕ, ◌+◌, ◌*◌, ℤ, ◌-ℤ◌, min, max}
use Rattle.st_unit_rules.specs.Worth.{count_to}
use Rattle.check_limits.specs.declared.type_sizes.size.Size.{Size}

-- what is too large is the greatest number
abbrev pub capped : ℕ → ℕ
capped n = min n 4294967295

abbrev pub nothing : Size
nothing = record { values = 0; steps = 0 }

abbrev pub simple : Size
simple = record { values = 1; steps = 0 }

abbrev pub both : Size → Size → Size
both a b = record { values = capped (a.values + b.values); steps = max a.steps b.steps }

abbrev pub structure : Size → Size
structure a = record { values = max a.values 1; steps = capped (a.steps + 1) }

abbrev pub instance : Size → Size
instance a = record { values = capped (a.values + 1); steps = capped (a.steps + 1) }

abbrev pub array : ℤ → ℤ → Size → Size
array low high a = record { values = capped (capped (count_to (high -ℤ low)) * a.values); steps = capped (a.steps + 1) }
