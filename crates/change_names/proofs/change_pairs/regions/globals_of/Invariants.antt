use Rattle.change_names.proofs.change_pairs.RegionLaws.{GlobalsLeft}
use Rattle.change_names.proofs.change_pairs.regions.globals_of.Given as goal

abbrev pub invariant-loop-region : goal.invariant-loop-region
invariant-loop-region l = GlobalsLeft l.regions l.region-index l.out.items
