-- The pieces that are written, one after another, are the journal's text.
use Rattle.std.proofs.Common.{◌≡◌, ℕ, List, ◌++◌, length, sym, ap, ◌∙◌, append_assoc}
use Rattle.std.specs.Prelude.{codes}
use Rattle.std.specs.Fmt.{decimal}
use Rattle.std.specs.List.{flat_map}
use Rattle.cycle_journal.specs.declared.play.Play.{Play}
use Rattle.cycle_journal.specs.declared.entry.Entry.{Entry}
use Rattle.cycle_journal.specs.Writing.{entry_text, journal_text}
use Rattle.plc_text.specs.Lines.{ended}
use Rattle.plc_text.proofs.LineLaws.{text_of-last}

regrouped : (front digits : List ℕ) → ((front ++ codes "end ") ++ digits) ++ codes "\n" ≡ front ++ ended (codes "end " ++ digits)
regrouped front digits = simp append_assoc

pub journal_written : (plays : List Play) (entries : List Entry)
    → codes "load 1\n" ++ flat_map (λ e. ended (entry_text plays e)) entries ++ codes "end " ++ decimal (length entries) ++ codes "\n" ≡ journal_text plays entries
journal_written plays entries =
    let digits = decimal (length entries) in
    let lines = flat_map (λ (e : Entry). ended (entry_text plays e)) entries in
    ap (λ rest. codes "load 1\n" ++ rest) (regrouped lines digits ∙ sym (text_of-last (entry_text plays) entries (codes "end " ++ digits)))
