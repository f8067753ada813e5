use Rattle.std.proofs.Common.{take}
use Rattle.graph_reach.proofs.ReachLaws.{AheadJoined}
use Rattle.graph_reach.proofs.reach.join_ahead.Given as goal

abbrev pub invariant-loop-other : goal.invariant-loop-other
invariant-loop-other l = AheadJoined l.fn.rows.items l.rows.items l.node l.ahead (take l.other-index l.ahead) l.changed
