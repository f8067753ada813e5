use Rattle.std.proofs.Common.{List, ℕ, ◌++◌, ap, ◌∙◌, length}
use Rattle.std.specs.Prelude.{codes}
use Rattle.std.specs.Fmt.{decimal}
use Rattle.std.specs.List.{flat_map}
use Rattle.cycle_journal.specs.declared.entry.Entry.{Entry}
use Rattle.cycle_journal.specs.Writing.{entry_text}
use Rattle.plc_text.specs.Lines.{ended}
use Rattle.cycle_journal.proofs.WritingLaws.{journal_written}
use Rattle.cycle_journal.proofs.writing.journal_text.Goals as goal

pub returns : goal.returns
returns c =
    let plays = c.args.plays.now in
    let entries = c.args.entries.now in
    let lines = flat_map (λ (e : Entry). ended (entry_text plays e)) entries in
    let start = ap (λ (t : List ℕ). t ++ codes "load 1\n") c.new-text.ensures in
    let first = ap (λ (t : List ℕ). t ++ lines) (c.in_ok-push_str.ensures.ok ∙ start) in
    let word = ap (λ (t : List ℕ). t ++ codes "end ") (c.in_ok-push_entries.ensures ∙ first) in
    let digits = ap (λ (t : List ℕ). t ++ decimal (length entries)) (c.in_ok-push_str-2.ensures.ok ∙ word) in
    let last = ap (λ (t : List ℕ). t ++ codes "\n") (c.in_ok-push_decimal.ensures.ok ∙ digits) in
    c.in_ok-push_str-3.ensures.ok ∙ last ∙ journal_written plays entries
