use Rattle.change_names.specs.change_pairs.Variables.{has_name}
use Rattle.change_names.proofs.change_pairs.PlaceLaws.{FromHere}
use Rattle.change_names.proofs.change_pairs.places.name_places.Given as goal

abbrev pub invariant-variables : goal.invariant-variables
invariant-variables l = FromHere has_name l.all l.i l.table

abbrev pub decreases-variables : goal.decreases-variables
decreases-variables l = l.i
