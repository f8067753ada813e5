-- What `play` writes.
use Rattle.std.specs.Prelude.{◌≡◌, ℕ, List}
use Rattle.std.specs.Map.{values_of}
use Rattle.plc_text.specs.Lines.{FirstBad}
use Rattle.plc_text.specs.declared.refusal.Refusal.{Refusal}
use Rattle.cycle_journal.specs.Fits.{Fits}
use Rattle.cycle_journal.specs.Interleaving.{InOrder}
use Rattle.cycle_journal.specs.Writing.{journal_text}
use Rattle.cycle_journal.specs.declared.entry.Entry.{Entry}
use Rattle.cycle_journal.specs.declared.play.Play.{Play}
use Rattle.scenario.specs.Reading.{scenario_lines, IsScenario, CanBegin, NoScenario}
use Rattle.scenario.specs.Scenario.{Contents}
use Rattle.st_values.specs.Program.{Program}
use Rattle.st_change.specs.OneThread.{OneThread}
use Rattle.reference_journal.specs.Loading.{FirstRefused}
use Rattle.console_command.specs.Reports.{script_text, refused_text}
use Rattle.console_command.specs.declared.outcome.Verdict.{Verdict}
use Rattle.console_command.specs.declared.outcome.Verdict.TheVariants as verdict

-- What texts are accepted, as which program, and with what they are refused.
module _ (Accepts : List ℕ → Program → Type 0) (Refuses : List ℕ → Refusal → Type 0) where
  -- on a first program and plays: the journal of a run on one thread, in the order of the plays, with entries that fit them, so that the
  -- text is that of no other journal; or the refusal of the program
  pub data ReportsRun (sources : List (List ℕ)) (text : List ℕ) (plays : List Play) (v : Verdict) (out : List ℕ) : Type 0 where
    ran : (entries : List Entry) → OneThread Accepts Refuses sources text plays entries → InOrder plays entries → Fits plays entries → v ≡ verdict.Done → out ≡ journal_text plays entries → ReportsRun sources text plays v out
    refused : (r : Refusal) → FirstRefused Accepts Refuses text r → v ≡ verdict.Refused → out ≡ refused_text r → ReportsRun sources text plays v out

  -- on bytes: that they are no scenario, with the first line that cannot stand; or what is said on the scenario that they are
  pub data PlayReports (bytes : List ℕ) (v : Verdict) (out : List ℕ) : Type 0 where
    no_scenario : (line : ℕ) → NoScenario (scenario_lines bytes) → FirstBad CanBegin (scenario_lines bytes) line → v ≡ verdict.Script → out ≡ script_text line → PlayReports bytes v out
    a_scenario : (s : Contents) → IsScenario (scenario_lines bytes) s → ReportsRun (values_of s.sources) s.program s.plays v out → PlayReports bytes v out
