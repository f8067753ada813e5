use Rattle.program_tables.proofs.PlaceLaws.{tables_more}
use Rattle.program_tables.proofs.places.method_places.Goals as goal

pub loop-class-preserved : goal.loop-class-preserved
loop-class-preserved c =
    tables_more c.loop-class.tables.items c.push.new.self.items c.args.classes.now c.loop-class.class-index c.in_ok-table.table c.class-item.result c.loop-class-test.true c.class-item.is c.loop-class.invariant
    (rw c.as_slice.ensures at c.in_ok-table.ensures) c.in_ok-push.ensures.items
