use Rattle.std.proofs.lemmas.Result.{err_from_is_err_and}
use Rattle.cycle_journal.proofs.ReaderLaws.{on_no_candidate, no_entry}
use Rattle.cycle_journal.proofs.reading.read_entry.Goals as goal

pub returns-in_err-entry-clause-bad : goal.returns-in_err-entry-clause-bad
returns-in_err-entry-clause-bad c =
    let p = err_from_is_err_and c.from_residual.result c.from_residual.ensures.1 in
    rw (p.1, p.2) (on_no_candidate c.args.plays.now c.args.line.now c.in_err-entry.field-0.0 c.requires c.in_err-entry.ensures)

pub returns-else-branch-clause-bad : goal.returns-else-branch-clause-bad
returns-else-branch-clause-bad c =
    no_entry c.args.plays.now c.args.line.now c.in_ok-entry.entry c.in_ok-is_line_of.field-0 c.requires c.in_ok-entry.ensures c.in_ok-is_line_of.ensures c.if-branch.false
