use Rattle.change_names.specs.change_pairs.Private.Variables.{comes_from}
use Rattle.change_names.proofs.change_pairs.PlaceLaws.{ToHere}
use Rattle.change_names.proofs.change_pairs.places.source_places.Given as goal

abbrev pub invariant-loop-i : goal.invariant-loop-i
invariant-loop-i l = ToHere comes_from l.all l.i l.table
