-- The text holds the lines of the entries so far.
use Rattle.std.proofs.Common.{◌≡◌, ◌++◌, take}
use Rattle.std.specs.List.{flat_map}
use Rattle.cycle_journal.specs.Writing.{entry_text}
use Rattle.plc_text.specs.Lines.{ended}
use Rattle.cycle_journal.proofs.writing.push_entries.Given as goal

abbrev pub invariant-loop-entry : goal.invariant-loop-entry
invariant-loop-entry l =
    l.text ≡ l.initial.text ++ flat_map (λ e. ended (entry_text l.plays e)) (take l.entry-index l.entries)
