use Rattle.graph_reach.proofs.ReachLaws.{AfterRounds}
use Rattle.graph_reach.proofs.reach.reached.Given as goal

abbrev pub invariant-loop-step : goal.invariant-loop-step
invariant-loop-step l = AfterRounds l.lists l.columns l.rows.items 0
