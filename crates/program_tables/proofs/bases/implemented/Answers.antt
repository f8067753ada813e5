use Rattle.st_rules.proofs.ListLaws.{mapped_next, mapped_end}
use Rattle.program_tables.specs.Private.Bases.{implemented_by}
use Rattle.program_tables.proofs.bases.implemented.Goals as goal

pub loop-class-preserved : goal.loop-class-preserved
loop-class-preserved c =
    mapped_next (implemented_by c.args.places.now) c.args.classes.now c.loop-class.class-index c.class-item.result c.loop-class.all.items _ _ _ c.loop-class-test.true c.class-item.is c.in_ok-push.ensures.items (rw c.as_slice.ensures at c.in_ok-numbers.ensures) c.loop-class.invariant

pub returns : goal.returns
returns c = mapped_end (implemented_by c.args.places.now) c.args.classes.now c.loop-class.class-index c.loop-class.all.items _ c.loop-class-test.false c.loop-class.invariant
