use Rattle.std.proofs.Common.{ℕ, List, subst, sym, take, get_or}
use Rattle.std.specs.Prelude.{◌||◌}
use Rattle.graph_reach.proofs.ReachLaws.{AheadJoined, ahead_more, take-push, among_at}
use Rattle.graph_reach.proofs.reach.join_ahead.Goals as goal

pub loop-other-preserved : goal.loop-other-preserved
loop-other-preserved c =
    let i = c.loop-other.other-index in
    let j = c.join_rows-changed in
    subst (λ (done : List ℕ). AheadJoined c.args.rows.now.items j.new.rows.items c.args.node c.args.ahead.now done (c.loop-other.changed || j.result)) (sym (take-push c.args.ahead.now i c.loop-other-test.true))
    (ahead_more c.args.rows.now.items c.loop-other.rows.items j.new.rows.items c.args.node (get_or c.args.ahead.now i 0) c.args.ahead.now (take i c.args.ahead.now) c.loop-other.changed j.result
    c.loop-other.invariant (among_at c.args.ahead.now i c.loop-other-test.true) j.ensures.many j.ensures.even j.ensures.joins j.ensures.still)
