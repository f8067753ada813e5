use Rattle.check_limits.proofs.base_limits.WayLaws.{AreWays}
use Rattle.check_limits.proofs.base_limits.ways.high_nodes.Given as goal

abbrev pub invariant-loop-step : goal.invariant-loop-step
invariant-loop-step l = AreWays l.count l.edges l._step l.marks.items
