use Rattle.plc_text.specs.Words.{same}
use Rattle.change_names.proofs.change_pairs.PlaceLaws.{FromHere}
use Rattle.change_names.proofs.change_paths.numbers.places.Given as goal

abbrev pub invariant-variables : goal.invariant-variables
invariant-variables l = FromHere (λ name v. same v.name.now name) l.all l.i l.table

abbrev pub decreases-variables : goal.decreases-variables
decreases-variables l = l.i
