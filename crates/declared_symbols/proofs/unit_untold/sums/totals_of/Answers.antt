use Rattle.std.proofs.Common.{None, get_or, ap, ◌∙◌}
use Rattle.declared_symbols.specs.declared.class_chains.cells.Cell.{Cell}
use Rattle.declared_symbols.specs.unit_untold.Private.Counts.{count_at}
use Rattle.declared_symbols.proofs.unit_untold.SumLaws.{totals_next, totals_ended, get_same}
use Rattle.declared_symbols.proofs.unit_untold.sums.totals_of.Goals as goal

pub loop-cell-preserved : goal.loop-cell-preserved
loop-cell-preserved c =
    let cells = c.args.cells.now in
    let i = c.loop-cell.cell-index in
    let none : Cell = record { class = 0; behind = None } in
    let cell = get_or cells i none in
    totals_next c.args.own.now cells c.loop-cell.totals.items _ i cell _ c.loop-cell-test.true (get_same cells i none cell c.loop-cell-test.true) c.in_ok-push.ensures.items
    (c.in_ok-total.ensures ∙ ap (λ ts. count_at c.args.own.now ts cell) c.deref.ensures.value) c.loop-cell.invariant

pub returns : goal.returns
returns c = totals_ended c.args.own.now c.args.cells.now c.loop-cell.totals.items c.loop-cell.cell-index c.loop-cell-test.false c.loop-cell.invariant
