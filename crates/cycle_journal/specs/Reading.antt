-- Which lines a journal begins with, and which texts are no journal's.
use Rattle.std.specs.Prelude.{◌≡◌, ℕ, List, ◌++◌}
use Rattle.plc_text.specs.Lines.{lines_of}
use Rattle.cycle_journal.specs.declared.play.Play.{Play}
use Rattle.cycle_journal.specs.declared.entry.Entry.{Entry}
use Rattle.cycle_journal.specs.declared.journal_error.JournalError.{JournalError}
use Rattle.cycle_journal.specs.declared.journal_error.JournalError.TheVariants.{Bad, NoMemory}
use Rattle.cycle_journal.specs.Fits.{Fits}
use Rattle.cycle_journal.specs.Writing.{journal_text}

-- some journal that fits the plays begins with these lines
abbrev pub CanBegin : List Play → List (List ℕ) → Type 0
CanBegin plays lines = (entries : List Entry) × (more : List (List ℕ)) × Fits plays entries × (lines_of (journal_text plays entries) ≡ lines ++ more)

-- no journal that fits the plays has this text
abbrev pub NoJournal : List Play → List ℕ → Type 0
NoJournal plays text = (entries : List Entry) → Fits plays entries → text ≡ journal_text plays entries → ⊥

-- it holds of the line that is bad; want of memory tells nothing
abbrev pub OnBad : JournalError → (ℕ → Type 0) → Type 0
OnBad (Bad line) P = P line
OnBad NoMemory P = Unit {0}
