-- What numbers and places of enumerators get.
use Rattle.std.specs.Prelude.{ℤ, Some}
use Rattle.st_values.specs.Value.{Value}
use Rattle.st_values.specs.Shape.{Shape, Elementary, Enumeration}
use Rattle.st_change.specs.Carry.{elementary_before, enumerator_before}

-- by the shape, the old shape, and the old value
abbrev pub number_by : Shape → Shape → Value → ℤ → ℤ
number_by (Elementary e) before v held = elementary_before e (Some (before, v)) held
number_by (Enumeration name values) before v held = enumerator_before name values (Some (before, v)) held
number_by sh before v held = held
