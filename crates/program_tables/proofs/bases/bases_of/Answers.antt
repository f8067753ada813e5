use Rattle.st_rules.proofs.ListLaws.{mapped_next, mapped_end}
use Rattle.program_tables.specs.Private.Bases.{base_by}
use Rattle.program_tables.proofs.bases.bases_of.Goals as goal

pub loop-class-preserved : goal.loop-class-preserved
loop-class-preserved c =
    mapped_next (base_by c.args.places.now) c.args.classes.now c.loop-class.class-index c.class-item.result c.loop-class.all.items _ _ _ c.loop-class-test.true c.class-item.is c.in_ok-push.ensures.items c.base_number.ensures c.loop-class.invariant

pub returns : goal.returns
returns c = mapped_end (base_by c.args.places.now) c.args.classes.now c.loop-class.class-index c.loop-class.all.items _ c.loop-class-test.false c.loop-class.invariant
