use Rattle.std.proofs.Common.{None, get_or, ap, ◌∙◌}
use Rattle.declared_symbols.specs.declared.class_chains.cells.Cell.{Cell}
use Rattle.check_limits.specs.type_sizes.Private.Rounds.{total_at}
use Rattle.check_limits.proofs.type_sizes.RoundLaws.{totals_next, totals_ended, get_same}
use Rattle.check_limits.proofs.type_sizes.rounds.totals_of.Goals as goal

pub loop-cell-preserved : goal.loop-cell-preserved
loop-cell-preserved c =
    let cells = c.args.cells.now in
    let i = c.loop-cell.cell-index in
    let none : Cell = record { class = 0; behind = None } in
    let cell = get_or cells i none in
    totals_next c.args.own.now cells c.loop-cell.totals.items c.push.new.self.items i cell c.total_of-size.result c.loop-cell-test.true (get_same cells i none cell c.loop-cell-test.true) c.in_ok-push.ensures.items
    (c.total_of-size.ensures ∙ ap (λ ts. total_at c.args.own.now ts cell) c.deref.ensures.value) c.loop-cell.invariant

pub returns : goal.returns
returns c = λ s r a. totals_ended c.args.own.now c.args.cells.now c.loop-cell.totals.items c.loop-cell.cell-index c.loop-cell-test.false c.loop-cell.invariant s r a
