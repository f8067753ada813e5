use Rattle.check_limits.proofs.type_sizes.RoundLaws.{TotalsTo}
use Rattle.check_limits.proofs.type_sizes.rounds.totals_of.Given as goal

abbrev pub invariant-loop-cell : goal.invariant-loop-cell
invariant-loop-cell l = TotalsTo l.own l.cells l.totals.items l.cell-index
