use Rattle.plc_text.specs.Words.{same}
use Rattle.change_names.proofs.change_pairs.PlaceLaws.{FromHere}
use Rattle.change_names.proofs.structures.type_places.Given as goal

abbrev pub invariant-types : goal.invariant-types
invariant-types l = FromHere (λ n t. same t.name.text n) l.types l.i l.table

abbrev pub decreases-types : goal.decreases-types
decreases-types l = l.i
