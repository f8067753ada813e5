-- What the reader of a journal finds on its way through the lines.
use Rattle.std.specs.Prelude.{◌≡◌, ◌≢◌, ℕ, ◌+◌, List, [], ◌∷◌, ◌++◌, length, map, codes}
use Rattle.std.specs.Fmt.{decimal}
use Rattle.cycle_journal.specs.declared.play.Play.{Play}
use Rattle.cycle_journal.specs.declared.entry.Entry.{Entry}
use Rattle.cycle_journal.specs.declared.line_error.LineError.{LineError}
use Rattle.cycle_journal.specs.declared.line_error.LineError.TheVariants as line
use Rattle.cycle_journal.specs.Fits.{Fits, FitsEntry}
use Rattle.cycle_journal.specs.Writing.{entry_text}

-- the last line of a journal of so many entries
abbrev pub end_line : ℕ → List ℕ
end_line count = codes "end " ++ decimal count

-- the line is no entry's
abbrev pub IsNoEntry : List Play → List ℕ → Type 0
IsNoEntry plays line = (e : Entry) → FitsEntry plays e → line ≡ entry_text plays e → ⊥

-- it holds of a line that is bad; want of memory tells nothing
abbrev pub OnBadLine : LineError → Type 0 → Type 0
OnBadLine line.Bad P = P
OnBadLine line.NoMemory P = Unit {0}

-- the first of these lines, if there is one, is neither an entry's nor the last line behind so many entries
abbrev pub IsNoLine : List Play → ℕ → List (List ℕ) → Type 0
IsNoLine plays count [] = Unit {0}
IsNoLine plays count (line ∷ lines) = (line ≢ end_line count) × IsNoEntry plays line

-- the lines behind the first are those of entries, up to a line, of this number in the text, that is none of a journal
pub record Stops (plays : List Play) (lines : List (List ℕ)) (line : ℕ) : Type 0 where
  pub entries : List Entry
  pub fit : Fits plays entries
  pub rest : List (List ℕ)
  pub split : lines ≡ map (entry_text plays) entries ++ rest
  pub number : line ≡ length entries + 2
  pub bad : IsNoLine plays (length entries) rest

-- the lines are those of these entries and the last line, and then the lines after it
pub record AreEntries (plays : List Play) (lines : List (List ℕ)) (entries : List Entry) (after : List (List ℕ)) : Type 0 where
  pub fit : Fits plays entries
  pub split : lines ≡ map (entry_text plays) entries ++ end_line (length entries) ∷ after
