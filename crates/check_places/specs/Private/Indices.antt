-- Indices, one after the other.
use Rattle.std.specs.Prelude.{ℕ, Option}
use Rattle.plc_text.specs.declared.code.Code.{Code}
use Rattle.st_rules.specs.Faults.{least, earlier}
use Rattle.st_rules.specs.Places.{standing_type, indices_on_no_array}
use Rattle.check_places.specs.declared.indices.Indexing.{Indexing}
use Rattle.check_places.specs.Standing.{standing}

-- what is broken where so many indices are still to come
abbrev pub indexing : ℕ → Indexing → ℕ → Option (Code × ℕ)
indexing line x n = earlier x.fault (least (indices_on_no_array line n (standing_type (standing x.standing))))
