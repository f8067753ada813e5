use Rattle.std.proofs.Common.{◌≡◌, drop}
use Rattle.plc_text.specs.Text.{folded}
use Rattle.st_tree.specs.Terminal.{terminal_in}
use Rattle.st_tree.specs.Private.Terminal.{rows_of}
use Rattle.st_tree.proofs.terminal.terminal_in.Given as goal

abbrev pub invariant-loop-row : goal.invariant-loop-row
invariant-loop-row l = terminal_in (rows_of (drop l.row-index l.rows)) (folded l.text) ≡ terminal_in (rows_of l.rows) (folded l.text)
