-- What is said on what plays came to.
use Rattle.std.specs.Prelude.{◌≡◌, ℕ, List}
use Rattle.cycle_journal.specs.Fits.{Fits}
use Rattle.cycle_journal.specs.Writing.{journal_text}
use Rattle.cycle_journal.specs.declared.play.Play.{Play}
use Rattle.reference_journal.specs.declared.played.Played.{Played}
use Rattle.reference_journal.specs.declared.played.Played.TheVariants as played
use Rattle.console_command.specs.Reports.{refused_text}
use Rattle.console_command.specs.declared.outcome.Verdict.{Verdict}
use Rattle.console_command.specs.declared.outcome.Verdict.TheVariants as verdict

abbrev pub Tells : List Play → Played → Verdict → List ℕ → Type 0
Tells plays (played.Entries entries) v out = (v ≡ verdict.Done) × Fits plays entries × (out ≡ journal_text plays entries)
Tells plays (played.Refused r) v out = (v ≡ verdict.Refused) × (out ≡ refused_text r)
