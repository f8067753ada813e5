use Rattle.plc_text.specs.Words.{same}
use Rattle.change_names.proofs.change_pairs.PlaceLaws.{FromHere}
use Rattle.change_names.proofs.regions.region_places.Given as goal

abbrev pub invariant-regions : goal.invariant-regions
invariant-regions l = FromHere (λ n x. same x.variable.name.now n) l.regions l.i l.table

abbrev pub decreases-regions : goal.decreases-regions
decreases-regions l = l.i
