use Rattle.std.proofs.Common.{length}
use Rattle.cycle_journal.proofs.ReaderLaws.{EntriesRead}
use Rattle.cycle_journal.proofs.reading.read_entries.Given as goal

abbrev pub invariant-loop-line : goal.invariant-loop-line
invariant-loop-line l = EntriesRead l.plays l.fn.lines l.entries l.lines

abbrev pub decreases-loop-line : goal.decreases-loop-line
decreases-loop-line l = length l.lines
