-- Plays by their numbers, and their names.
use Rattle.std.specs.Prelude.{◌≡◌, ℕ, zero, suc, true, List, slice_get, Option, None}
use Rattle.std.specs.List.{AllByRecursion}
use Rattle.plc_text.specs.Words.{is_upper_word}
use Rattle.cycle_journal.specs.declared.play.Play.{Play}
use Rattle.cycle_journal.specs.declared.play.Play.TheVariants.{Cycle, Change, Reset}

-- the play of this number; plays are numbered from 1
abbrev pub play_numbered : List Play → ℕ → Option Play
play_numbered plays zero = None
play_numbered plays (suc n) = slice_get plays n

-- the name of its task, or of the source that it loads
abbrev pub name_of : Play → List ℕ
name_of (Cycle task now input) = task
name_of (Change name source) = name
name_of (Reset task) = task

-- each play's name is a word in upper case; it may be a keyword
abbrev pub Named : List Play → Type 0
Named plays = AllByRecursion (λ play. is_upper_word (name_of play) ≡ true) plays
