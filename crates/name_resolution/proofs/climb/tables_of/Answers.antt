use Rattle.std.proofs.Common.{take}
use Rattle.name_resolution.specs.Private.Places.{passes}
use Rattle.name_resolution.proofs.ClimbLaws.{tables_more, taken_one}
use Rattle.name_resolution.proofs.climb.tables_of.Goals as goal

pub loop-class-preserved : goal.loop-class-preserved
loop-class-preserved c =
    tables_more (λ v. v.name) (passes c.args.which) (λ class. class.variables) c.loop-class.tables.items c.push.new.self.items _ (take c.loop-class.class-index c.args.classes.now) c.in_ok-table.table c.class-item.result c.loop-class.invariant
    (rw c.as_slice.ensures at c.in_ok-table.ensures) c.in_ok-push.ensures.items (taken_one c.args.classes.now c.loop-class.class-index c.class-item.result c.loop-class-test.true c.class-item.is)
