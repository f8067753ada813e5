use Rattle.cycle_journal.proofs.JournalLaws.{one_journal_lem}
use Rattle.cycle_journal.proofs.reading.one_journal.Goals as goal

pub returns : goal.returns
returns c = one_journal_lem
