-- What is said, as the code goes.
use Rattle.std.proofs.Common.{◌≡◌, ℕ, List, ◌∷◌, ◌++◌, Option, Some, None, Result, Ok, Err, sym, ap, ◌∙◌, subst}
use Rattle.std.specs.Prelude.{codes, IfOk}
use Rattle.plc_text.specs.Lines.{ended, text_of}
use Rattle.plc_text.specs.declared.denied.Denied.{Denied}
use Rattle.plc_text.specs.declared.denied.Denied.TheVariants as denied
use Rattle.plc_text.specs.declared.memory.NoMemory.{NoMemory}
use Rattle.plc_text.specs.declared.refusal.Refusal.{Refusal}
use Rattle.scenario.specs.Reading.{OnBad}
use Rattle.scenario.specs.declared.scenario_error.ScenarioError.{ScenarioError}
use Rattle.scenario.specs.declared.scenario_error.ScenarioError.TheVariants as bad
use Rattle.st_values.specs.Program.{Program}
use Rattle.reference_journal.specs.Loading.{Loads, FirstRefused, by_hook}
use Rattle.console_command.specs.Checker.{OnRefused}
use Rattle.console.specs.check_console.Private.Lines.{Adds, SaysSources, FirstStarts, LoadsFirst}

pub refused_so : (d : Denied) (r : Refusal) (P : Refusal → Type 0) → d ≡ denied.Refused r → OnRefused d P → P r
refused_so d r P e h = subst (λ (x : Denied). OnRefused x P) e h

pub bad_so : (d : ScenarioError) (line : ℕ) (P : ℕ → Type 0) → d ≡ bad.Bad line → OnBad d P → P line
bad_so d line P e h = subst (λ (x : ScenarioError). OnBad x P) e h

module _ (Accepts : List ℕ → Program → Type 0) (Refuses : List ℕ → Refusal → Type 0) where
  pub loads_so : (text : List ℕ) (p : Program) (o : Option Refusal) → Accepts text p → Loads p o → LoadsFirst Accepts Refuses text o
  loads_so text p None a l = record { program = p; accepted = a; starts = l }
  loads_so text p (Some r) a l = by_hook p a l

  pub first_so : {U : Type 0} (text : List ℕ) (p : Program) (r : Result (Option Refusal) NoMemory) → Accepts text p → U → IfOk r (λ o. U → Loads p o) → IfOk r (λ o. LoadsFirst Accepts Refuses text o)
  first_so text p (Ok o) a u h = loads_so text p o a (h u)
  first_so text p (Err e) a u h = tt

  pub first_some : (text : List ℕ) (o : Option Refusal) (r : Refusal) → o ≡ Some r → LoadsFirst Accepts Refuses text o → FirstRefused Accepts Refuses text r
  first_some text o r e h = subst (λ (x : Option Refusal). LoadsFirst Accepts Refuses text x) e h

  pub first_none : (text : List ℕ) (o : Option Refusal) → o ≡ None → LoadsFirst Accepts Refuses text o → FirstStarts Accepts Refuses text
  first_none text o e h = subst (λ (x : Option Refusal). LoadsFirst Accepts Refuses text x) e h

  pub says_by : (sources : List (List ℕ × List ℕ)) (old new : List ℕ) → old ≡ ended (codes "program accepted") → Adds Accepts Refuses sources old new → SaysSources Accepts Refuses sources new
  says_by sources old new e a = record { lines = a.lines; judged = a.judged; says = a.added ∙ ap (λ x. x ++ text_of a.lines) e }

  pub says_so : (sources given : List (List ℕ × List ℕ)) (out : List ℕ) → given ≡ sources → SaysSources Accepts Refuses given out → SaysSources Accepts Refuses sources out
  says_so sources given out e h = subst (λ (x : List (List ℕ × List ℕ)). SaysSources Accepts Refuses x out) e h
