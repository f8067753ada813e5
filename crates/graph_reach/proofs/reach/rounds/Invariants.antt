use Rattle.graph_reach.proofs.ReachLaws.{AfterRounds}
use Rattle.graph_reach.proofs.reach.rounds.Given as goal

abbrev pub invariant-loop-round : goal.invariant-loop-round
invariant-loop-round l = AfterRounds l.lists l.columns l.rows.items l._round
