use Rattle.graph_reach.proofs.ReachLaws.{round_after, unchanged_reached, all_rounds}
use Rattle.graph_reach.proofs.reach.rounds.Goals as goal

pub returns-then-not-round-clause-reached : goal.returns-then-not-round-clause-reached
returns-then-not-round-clause-reached c =
    let r = c.round.ensures in
    unchanged_reached c.args.lists.now c.args.columns c.loop-round.rows.items c.round.new.rows.items c.loop-round._round c.loop-round.invariant r.next (r.still c.if-not-round.true)

pub loop-round-preserved : goal.loop-round-preserved
loop-round-preserved c =
    let r = c.round.ensures in
    round_after c.args.lists.now c.args.columns c.loop-round.rows.items c.round.new.rows.items c.loop-round._round c.loop-round.invariant r.many r.even r.grows r.next r.sound

pub returns-clause-reached : goal.returns-clause-reached
returns-clause-reached c =
    all_rounds c.args.lists.now c.args.columns c.loop-round.rows.items c.loop-round._round c.requires.edges c.loop-round-test.false c.loop-round.auto._round-end c.loop-round.invariant
