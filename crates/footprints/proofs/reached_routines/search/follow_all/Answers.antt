use Rattle.footprints.proofs.reached_routines.AddLaws.{next}
use Rattle.footprints.proofs.reached_routines.EnterLaws.{uses_left}
use Rattle.footprints.proofs.reached_routines.search.follow_all.Goals as goal

pub loop-one-preserved : goal.loop-one-preserved
loop-one-preserved c = record {
  taken =
      next c.args.s.now.callables.tables.now _ _ _ _ _ c.args.search.now.found.ids.items c.loop-one.search.found.ids.items c.follow.new.search.found.ids.items
      (uses_left c.args.uses.now c.loop-one.one-index c.one-item.result c.loop-one-test.true c.one-item.is) c.loop-one.invariant.taken c.in_ok-follow.ensures.adds;
  asked = c.in_ok-follow.ensures.asked;
}
