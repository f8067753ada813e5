-- What is said, as the code goes.
use Rattle.std.proofs.Common.{◌≡◌, ℕ, List, subst}
use Rattle.std.specs.Map.{values_of}
use Rattle.plc_text.specs.declared.denied.Denied.{Denied}
use Rattle.plc_text.specs.declared.denied.Denied.TheVariants as denied
use Rattle.plc_text.specs.declared.refusal.Refusal.{Refusal}
use Rattle.cycle_journal.specs.declared.play.Play.{Play}
use Rattle.scenario.specs.Reading.{OnBad}
use Rattle.scenario.specs.declared.scenario_error.ScenarioError.{ScenarioError}
use Rattle.scenario.specs.declared.scenario_error.ScenarioError.TheVariants as bad
use Rattle.st_values.specs.Program.{Program}
use Rattle.console_command.specs.Checker.{OnRefused}
use Rattle.reference_journal.specs.Loading.{by_hook}
use Rattle.reference_journal.specs.Playing.{IsPlayed}
use Rattle.reference_journal.specs.declared.played.Played.{Played}
use Rattle.reference_journal.specs.declared.played.Played.TheVariants as played
use Rattle.console_command.specs.declared.outcome.Verdict.{Verdict}
use Rattle.console.specs.play_console.Private.Played.{Tells}
use Rattle.console.specs.play_console.Report.{ReportsRun, ran, refused}

module _ (Accepts : List ℕ → Program → Type 0) (Refuses : List ℕ → Refusal → Type 0) (sources : List (List ℕ)) (text : List ℕ) (plays : List Play) (p : Program) (v : Verdict) (out : List ℕ) where
  pub told : (came : Played) → Accepts text p → IsPlayed Accepts Refuses sources text p plays came → Tells plays came v out → ReportsRun Accepts Refuses sources text plays v out
  told (played.Entries entries) accepted is tells = ran entries is.0 is.1 tells.1 tells.0 tells.2
  told (played.Refused r) accepted is tells = refused r (by_hook p accepted is) tells.0 tells.1

pub refused_so : (d : Denied) (r : Refusal) (P : Refusal → Type 0) → d ≡ denied.Refused r → OnRefused d P → P r
refused_so d r P e h = subst (λ (x : Denied). OnRefused x P) e h

pub bad_so : (d : ScenarioError) (line : ℕ) (P : ℕ → Type 0) → d ≡ bad.Bad line → OnBad d P → P line
bad_so d line P e h = subst (λ (x : ScenarioError). OnBad x P) e h

pub runs_so : (Accepts : List ℕ → Program → Type 0) (Refuses : List ℕ → Refusal → Type 0) (sources given : List (List ℕ × List ℕ)) (text : List ℕ) (plays handed : List Play) (v : Verdict) (out : List ℕ)
    → given ≡ sources → handed ≡ plays → ReportsRun Accepts Refuses (values_of given) text handed v out → ReportsRun Accepts Refuses (values_of sources) text plays v out
runs_so Accepts Refuses sources given text plays handed v out e f h =
    subst (λ (x : List Play). ReportsRun Accepts Refuses (values_of sources) text x v out) f
    (subst (λ (x : List (List ℕ × List ℕ)). ReportsRun Accepts Refuses (values_of x) text handed v out) e h)
