-- What the reader of a journal finds: entries, up to the last line or to a line that no journal has.
use Rattle.std.proofs.Common.{◌≡◌, ℕ, Bool, false, ◌↔◌, IsTrue, List, ◌++◌, map, Option, Some, None, Err, sym, ap, ◌∙◌, subst}
use Rattle.std.proofs.lemmas.Bool.{false≢true}
use Rattle.cycle_journal.specs.declared.play.Play.{Play}
use Rattle.cycle_journal.specs.declared.entry.Entry.{Entry}
use Rattle.cycle_journal.specs.declared.line_error.LineError.{LineError}
use Rattle.cycle_journal.specs.declared.line_error.LineError.TheVariants as line
use Rattle.cycle_journal.specs.Writing.{entry_text}
use Rattle.cycle_journal.specs.Play.{Named}
use Rattle.cycle_journal.specs.Fits.{Fits, FitsEntry}
use Rattle.cycle_journal.specs.Private.Candidate.{Gives, entry_in}
use Rattle.cycle_journal.specs.Private.Reading.{OnBadLine, IsNoEntry}
use Rattle.cycle_journal.proofs.AgainLaws.{entry_again}

same_candidate : (plays : List Play) (text : List ℕ) (found : Option Entry) (e : Entry) → Named plays → entry_in plays text ≡ found → FitsEntry plays e → text ≡ entry_text plays e → found ≡ Some e
same_candidate plays text found e named read fit same = sym read ∙ ap (entry_in plays) same ∙ entry_again plays e named fit

-- no candidate
pub on_no_candidate : (plays : List Play) (text : List ℕ) (e : LineError) → Named plays → Gives {X = Entry} (Err e) (entry_in plays text) → OnBadLine e (IsNoEntry plays text)
on_no_candidate plays text line.Bad named read = λ e fit same. let found = same_candidate plays text None e named read fit same in cc
on_no_candidate plays text line.NoMemory named read = tt

-- a candidate that is not the line's
pub no_entry : (plays : List Play) (text : List ℕ) (c : Entry) (is : Bool) → Named plays → entry_in plays text ≡ Some c
    → (IsTrue is ↔ (FitsEntry plays c × (text ≡ entry_text plays c))) → is ≡ false → IsNoEntry plays text
no_entry plays text c is named read tells not e fit same =
    let found = same_candidate plays text (Some c) e named read fit same in
    let one : e ≡ c = cc in
    let fits = subst (λ (x : Entry). FitsEntry plays x × (text ≡ entry_text plays x)) one (fit, same) in
    false≢true (sym not ∙ tells.1 fits)

-- the entries so far, and the lines that are left
pub record EntriesRead (plays : List Play) (lines : List (List ℕ)) (entries : List Entry) (left : List (List ℕ)) : Type 0 where
  pub fit : Fits plays entries
  pub split : lines ≡ map (entry_text plays) entries ++ left
