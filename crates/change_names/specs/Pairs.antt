-- Lists of tables of pairs.
use Rattle.std.specs.Prelude.{ℕ, List, [], Option, Some, None, slice_get}
use Rattle.st_change.specs.From.{Pairs}

abbrev pub or_none : Option Pairs → Pairs
or_none None = []
or_none (Some ps) = ps

-- the pairs of a number, none where there is no table of it
abbrev pub pairs_at : List Pairs → ℕ → Pairs
pairs_at tables n = or_none (slice_get tables n)
