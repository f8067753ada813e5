use Rattle.std.proofs.Common.{refl}
use Rattle.plant_core.proofs.play_order.Lanes.{left_next, marked_at}
use Rattle.plant_core.proofs.play_order.tables.next_left.Goals as goal

pub plays-preserved : goal.plays-preserved
plays-preserved c =
    left_next c.args.following.now c.args.done.now c.args.from c.plays.next _ c.plays.invariant c.plays-test.true (marked_at c.args.done.now c.plays.next _ c.plays-test.true c.if-done-next.true) refl

pub returns-else-done-next-clause-left : goal.returns-else-done-next-clause-left
returns-else-done-next-clause-left c = λ lanes l same have some start. (c.plays.invariant.left lanes l same have some start).1

pub returns-after-plays-clause-left : goal.returns-after-plays-clause-left
returns-after-plays-clause-left c = λ lanes l same have some start. (c.plays.invariant.left lanes l same have some start).1
