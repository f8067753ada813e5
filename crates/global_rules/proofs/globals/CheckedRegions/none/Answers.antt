use Rattle.global_rules.proofs.RegionLaws.{none_yet}
use Rattle.global_rules.proofs.globals.CheckedRegions.none.Goals as goal

pub returns : goal.returns
returns c = none_yet _ c.in_ok-taken.ensures c.new.ensures
