use Rattle.graph_reach.proofs.ReachLaws.{edge_sound}
use Rattle.graph_reach.proofs.reach.follow.Goals as goal

pub returns-then-step-ahead-clause-sound : goal.returns-then-step-ahead-clause-sound
returns-then-step-ahead-clause-sound c =
    edge_sound c.args.lists.now c.args.rows.now.items c.join_rows.new.rows.items c.args.step.node c.args.step.place c.as_slice-ahead.result.now c.index-lists-step.result
    c.if-step-lists.true c.as_slice-ahead.ensures c.index-lists-step.is c.if-step-ahead.true c.join_rows.ensures.joins
