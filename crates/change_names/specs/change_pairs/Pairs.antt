-- The code's pairs as the meaning's.
use Rattle.std.specs.Prelude.{ℕ, List, map, Option, option_map}
use Rattle.st_change.specs.From.{Pairs}
use Rattle.change_names.specs.declared.change_pairs.sources.Pair.{Pair}

abbrev pub pair_of : Pair → List ℕ × Option (List ℕ)
pair_of a = (a.name.now, option_map (λ t. t.now) a.from)

abbrev pub pairs_of : List Pair → Pairs
pairs_of ps = map pair_of ps
