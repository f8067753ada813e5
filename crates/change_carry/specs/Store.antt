-- Which regions are kept, as a list of flags.
use Rattle.std.specs.Prelude.{Bool, false, Option, Some, None}

abbrev pub is_set : Option Bool → Bool
is_set None = false
is_set (Some b) = b
