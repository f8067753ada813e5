use Rattle.std.proofs.Common.{◌+◌, sym, ap, ◌∙◌, arith}
use Rattle.std.proofs.lemmas.Result.{err_from_is_err_and}
use Rattle.std.proofs.lemmas.Bool.{false≢true}
use Rattle.cycle_journal.proofs.JournalLaws.{middle_few, entries_few, on_bad_line, bad_after, is_journal}
use Rattle.cycle_journal.proofs.reading.read_journal.Goals as goal

pub read_entries-requires-clause-size : goal.read_entries-requires-clause-size
read_entries-requires-clause-size c =
    let few = middle_few c.args.text.now c.takes_first.new.lines (sym c.new-lines.ensures ∙ c.if-not-takes_first.ensures) in
    omega arith

pub returns-in_err-entries-clause-bad : goal.returns-in_err-entries-clause-bad
returns-in_err-entries-clause-bad c =
    let p = err_from_is_err_and c.from_residual.result c.from_residual.ensures.1 in
    rw (p.1, p.2) (on_bad_line c.args.plays.now c.args.text.now c.takes_first.new.lines c.in_err-entries.field-0.0 c.requires.named
    (sym c.new-lines.ensures ∙ c.if-not-takes_first.ensures) c.in_err-entries.ensures.bad)

pub overflow_cast-result : goal.overflow_cast-result
overflow_cast-result c =
    let few = entries_few c.args.plays.now c.args.text.now c.takes_first.new.lines c.in_ok-entries.entries c.read_entries.new.lines (sym c.new-lines.ensures ∙ c.if-not-takes_first.ensures) c.in_ok-entries.ensures.ok in
    omega arith

pub overflow_add-result : goal.overflow_add-result
overflow_add-result c =
    let few = entries_few c.args.plays.now c.args.text.now c.takes_first.new.lines c.in_ok-entries.entries c.read_entries.new.lines (sym c.new-lines.ensures ∙ c.if-not-takes_first.ensures) c.in_ok-entries.ensures.ok in
    omega arith

pub returns-then-not-is_over-clause-bad : goal.returns-then-not-is_over-clause-bad
returns-then-not-is_over-clause-bad c =
    bad_after c.args.plays.now c.args.text.now c.takes_first.new.lines c.in_ok-entries.entries c.read_entries.new.lines (c.len.result + 3) c.requires.named
    (sym c.new-lines.ensures ∙ c.if-not-takes_first.ensures) c.in_ok-entries.ensures.ok
    (λ over. false≢true (sym c.if-not-is_over.true ∙ c.is_over.ensures.1 over)) (ap (λ n. n + 3) c.len.ensures)

pub returns-clause-ok : goal.returns-clause-ok
returns-clause-ok c =
    is_journal c.args.plays.now c.args.text.now c.takes_first.new.lines c.in_ok-entries.entries c.read_entries.new.lines
    (sym c.new-lines.ensures ∙ c.if-not-takes_first.ensures) c.in_ok-entries.ensures.ok (c.is_over.ensures.0 c.if-not-is_over.false)
