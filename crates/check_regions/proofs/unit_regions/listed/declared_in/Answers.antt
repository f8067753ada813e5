use Rattle.check_regions.proofs.unit_regions.ListedLaws.{single}
use Rattle.check_regions.proofs.unit_regions.listed.declared_in.Goals as goal

pub returns : goal.returns
returns c = single _ c.args.decl.now _ c.in_ok-list.ensures c.from_ref.ensures.value
