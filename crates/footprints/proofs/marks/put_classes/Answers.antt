use Rattle.footprints.proofs.PutLaws.{next}
use Rattle.footprints.proofs.marks.put_classes.Goals as goal

pub classes-preserved : goal.classes-preserved
classes-preserved c =
    next _ c.args.classes.now c.classes.left.now c.in-Some.behind.now c.in-Some.class.now c.args.marks.now.keys c.classes.marks.keys c.put_holders.new.marks.keys c.in-Some.ensures.cases.0 c.classes.invariant c.in_ok-put_holders.ensures
