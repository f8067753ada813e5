use Rattle.std.proofs.Common.{reverse}
use Rattle.code_cells.specs.Found.{all_found, ended}
use Rattle.code_cells.proofs.WholeLaws.{kinds_turned, roomy}
use Rattle.code_cells.proofs.whole.emit_whole.Goals as goal

pub returns-clause-kinds : goal.returns-clause-kinds
returns-clause-kinds c = kinds_turned _ c.in_ok-found.found.items c.args.cells.items c.as_slice.result.now c.in_ok-kinds.ensures c.in_ok-found.ensures c.as_slice.ensures.value

pub returns-clause-room : goal.returns-clause-room
returns-clause-room c =
    roomy c.in_ok-kinds.kinds c.as_slice-2.result.now (all_found (reverse c.args.cells.items) ended) c.room.result c.in-Ok.room c.as_slice-2.ensures
    (kinds_turned _ c.in_ok-found.found.items c.args.cells.items c.as_slice.result.now c.in_ok-kinds.ensures c.in_ok-found.ensures c.as_slice.ensures.value) c.in-Ok.ensures.1 c.room.ensures
