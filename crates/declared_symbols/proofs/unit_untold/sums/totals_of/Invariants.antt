use Rattle.declared_symbols.proofs.unit_untold.SumLaws.{TotalsTo}
use Rattle.declared_symbols.proofs.unit_untold.sums.totals_of.Given as goal

abbrev pub invariant-loop-cell : goal.invariant-loop-cell
invariant-loop-cell l = TotalsTo l.own l.cells l.totals.items l.cell-index
