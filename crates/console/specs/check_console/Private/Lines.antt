-- The lines of sources, and what a first program comes to.
use Rattle.std.specs.Prelude.{◌≡◌, ℕ, List, ◌∷◌, ◌++◌, codes, Option, Some, None}
use Rattle.plc_text.specs.Lines.{ended, text_of}
use Rattle.plc_text.specs.declared.refusal.Refusal.{Refusal}
use Rattle.st_values.specs.Program.{Program}
use Rattle.reference_journal.specs.Loading.{FirstRefused, Starts}
use Rattle.console.specs.check_console.Report.{IsJudged, AreJudged}

module _ (Accepts : List ℕ → Program → Type 0) (Refuses : List ℕ → Refusal → Type 0) where
  -- the line of a source is added to a text
  pub record AddsLine (source : List ℕ × List ℕ) (old new : List ℕ) : Type 0 where
    pub line : List ℕ
    pub judged : IsJudged Accepts Refuses source line
    pub added : new ≡ old ++ ended line

  -- those of sources are
  pub record Adds (sources : List (List ℕ × List ℕ)) (old new : List ℕ) : Type 0 where
    pub lines : List (List ℕ)
    pub judged : AreJudged Accepts Refuses sources lines
    pub added : new ≡ old ++ text_of lines

  -- the text of an accepted program and of its sources
  pub record SaysSources (sources : List (List ℕ × List ℕ)) (out : List ℕ) : Type 0 where
    pub lines : List (List ℕ)
    pub judged : AreJudged Accepts Refuses sources lines
    pub says : out ≡ text_of (codes "program accepted" ∷ lines)

  -- an accepted program that starts
  pub record FirstStarts (text : List ℕ) : Type 0 where
    pub program : Program
    pub accepted : Accepts text program
    pub starts : Starts program

  abbrev pub LoadsFirst : List ℕ → Option Refusal → Type 0
  LoadsFirst text None = FirstStarts text
  LoadsFirst text (Some r) = FirstRefused Accepts Refuses text r
