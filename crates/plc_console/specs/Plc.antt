-- How a command ended, by the status of the program, and what each command writes.
use Rattle.std.specs.Prelude.{ℕ, List}
use Rattle.console.specs.check_console.Report.{CheckReports}
use Rattle.console_command.specs.declared.outcome.Cause.TheVariants as cause
use Rattle.console_command.specs.declared.outcome.Outcome.{Outcome}
use Rattle.console_command.specs.declared.outcome.Outcome.TheVariants as outcome
use Rattle.console_command.specs.declared.outcome.Status.{Status}
use Rattle.console_command.specs.declared.outcome.Status.TheVariants as status
use Rattle.console_command.specs.declared.outcome.Verdict.{Verdict}
use Rattle.console_command.specs.declared.outcome.Verdict.TheVariants as verdict
use Rattle.console.specs.declared.console_words.words.Order.{Order}
use Rattle.console.specs.declared.console_words.words.Order.TheVariants.{Check, Play}
use Rattle.accepted_texts.specs.st_accepted.Judge.{Accepts, Refuses}
use Rattle.console.specs.play_console.Report.{PlayReports}

abbrev pub outcome_of : Status → Outcome
outcome_of status.Done = outcome.Whole verdict.Done
outcome_of status.Refused = outcome.Whole verdict.Refused
outcome_of status.Usage = outcome.Silent cause.Usage
outcome_of status.Script = outcome.Whole verdict.Script
outcome_of status.ReadFault = outcome.Silent cause.ReadFault
outcome_of status.WriteFault = outcome.Cut
outcome_of status.NoMemory = outcome.Silent cause.NoMemory
outcome_of status.TooLong = outcome.Silent cause.TooLong

-- a report of this verdict that a command makes on bytes
abbrev pub ReportsOf : Order → List ℕ → Verdict → List ℕ → Type 0
ReportsOf Check = CheckReports Accepts Refuses
ReportsOf Play = PlayReports Accepts Refuses
