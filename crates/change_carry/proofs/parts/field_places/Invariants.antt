use Rattle.change_names.proofs.change_pairs.PlaceLaws.{FromHere}
use Rattle.change_carry.proofs.PartLaws.{has_name}
use Rattle.change_carry.proofs.parts.field_places.Given as goal

abbrev pub invariant-fields : goal.invariant-fields
invariant-fields l = FromHere has_name l.fields l.i l.table

abbrev pub decreases-fields : goal.decreases-fields
decreases-fields l = l.i
