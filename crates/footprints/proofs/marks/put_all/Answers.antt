use Rattle.footprints.proofs.PutLaws.{next}
use Rattle.footprints.proofs.marks.put_all.Goals as goal

pub regions-preserved : goal.regions-preserved
regions-preserved c =
    next _ c.args.regions.now c.regions.left.now c.in-Some.behind.now c.in-Some.region.now c.args.marks.now.keys c.regions.marks.keys c.put.new.marks.keys c.in-Some.ensures.cases.0 c.regions.invariant c.in_ok-put.ensures
