use Rattle.graph_reach.proofs.ReachLaws.{no_rounds, only_sound}
use Rattle.graph_reach.proofs.reach.reached.Goals as goal

pub loop-step-init : goal.loop-step-init
loop-step-init c =
    let s = c.in_ok-rows.ensures in
    no_rounds c.args.lists.now c.args.columns c.in_ok-rows.rows.items s.many s.even s.own (only_sound c.args.lists.now c.in_ok-rows.rows.items s.only)
