use Rattle.change_names.specs.change_pairs.Private.Variables.{is_pair_of}
use Rattle.change_names.proofs.change_pairs.PlaceLaws.{FromHere}
use Rattle.change_names.proofs.change_pairs.places.pair_places.Given as goal

abbrev pub invariant-pairs : goal.invariant-pairs
invariant-pairs l = FromHere is_pair_of l.all l.i l.table

abbrev pub decreases-pairs : goal.decreases-pairs
decreases-pairs l = l.i
