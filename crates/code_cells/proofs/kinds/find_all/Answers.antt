use Rattle.code_cells.proofs.FoundLaws.{one_more}
use Rattle.code_cells.proofs.kinds.find_all.Goals as goal

pub loop-cell-preserved : goal.loop-cell-preserved
loop-cell-preserved c = one_more c.args.cells.now c.loop-cell.cell-index _ c.loop-cell.kinds.items c.as_slice.result.now _ c.in_ok-one.one c.loop-cell-test.true c.as_slice.ensures.value c.in_ok-one.ensures c.in_ok-push.ensures.items c.loop-cell.invariant
