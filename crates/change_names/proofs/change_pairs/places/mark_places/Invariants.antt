use Rattle.change_names.specs.change_pairs.Private.Variables.{has_mark}
use Rattle.change_names.proofs.change_pairs.PlaceLaws.{FromHere}
use Rattle.change_names.proofs.change_pairs.places.mark_places.Given as goal

abbrev pub invariant-variables : goal.invariant-variables
invariant-variables l = FromHere has_mark l.all l.i l.table

abbrev pub decreases-variables : goal.decreases-variables
decreases-variables l = l.i
