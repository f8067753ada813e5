-- What `check` writes.
use Rattle.std.specs.Prelude.{◌≡◌, ℕ, List, [], ◌∷◌, ◌++◌, codes}
use Rattle.plc_text.specs.Lines.{FirstBad, text_of}
use Rattle.plc_text.specs.declared.refusal.Refusal.{Refusal}
use Rattle.scenario.specs.Reading.{scenario_lines, IsScenario, CanBegin, NoScenario}
use Rattle.scenario.specs.Scenario.{Contents}
use Rattle.st_values.specs.Program.{Program}
use Rattle.reference_journal.specs.Loading.{FirstRefused, Starts}
use Rattle.console_command.specs.Reports.{script_text, refusal_text, refused_text}
use Rattle.console_command.specs.declared.outcome.Verdict.{Verdict}
use Rattle.console_command.specs.declared.outcome.Verdict.TheVariants as verdict

abbrev pub accepted_line : List ℕ → List ℕ
accepted_line name = codes "source " ++ name ++ codes " accepted"

abbrev pub refused_line : List ℕ → Refusal → List ℕ
refused_line name r = codes "source " ++ name ++ codes " refused " ++ refusal_text r

-- What texts are accepted, as which program, and with what they are refused.
module _ (Accepts : List ℕ → Program → Type 0) (Refuses : List ℕ → Refusal → Type 0) where
  -- the line of a source, by its name and its text
  pub data IsJudged (source : List ℕ × List ℕ) (line : List ℕ) : Type 0 where
    accepted : (p : Program) → Accepts source.1 p → line ≡ accepted_line source.0 → IsJudged source line
    refused : (r : Refusal) → Refuses source.1 r → line ≡ refused_line source.0 r → IsJudged source line

  -- those of sources, in their order
  abbrev pub AreJudged : List (List ℕ × List ℕ) → List (List ℕ) → Type 0
  AreJudged [] [] = Unit {0}
  AreJudged (source ∷ sources) (line ∷ lines) = IsJudged source line × AreJudged sources lines
  AreJudged [] (line ∷ lines) = ⊥
  AreJudged (source ∷ sources) [] = ⊥

  -- on a scenario: a line for the first program and for each source, or the refusal of the first program
  pub data OnScenario (s : Contents) (v : Verdict) (out : List ℕ) : Type 0 where
    judged : (p : Program) → Accepts s.program p → Starts p → (lines : List (List ℕ)) → AreJudged s.sources lines → v ≡ verdict.Done → out ≡ text_of (codes "program accepted" ∷ lines) → OnScenario s v out
    stopped : (r : Refusal) → FirstRefused Accepts Refuses s.program r → v ≡ verdict.Refused → out ≡ refused_text r → OnScenario s v out

  -- on bytes: that they are no scenario, with the first line that cannot stand; or what is said on the scenario that they are
  pub data CheckReports (bytes : List ℕ) (v : Verdict) (out : List ℕ) : Type 0 where
    no_scenario : (line : ℕ) → NoScenario (scenario_lines bytes) → FirstBad CanBegin (scenario_lines bytes) line → v ≡ verdict.Script → out ≡ script_text line → CheckReports bytes v out
    a_scenario : (s : Contents) → IsScenario (scenario_lines bytes) s → OnScenario s v out → CheckReports bytes v out
