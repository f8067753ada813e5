-- Which entries are ones for these plays.
use Rattle.std.specs.Prelude.{◌≡◌, ℕ, ◌+◌, ◌≤◌, ◌<◌, ◌^◌, Bool, true, false, ◌&&◌, ◌||◌, not, List, length, codes, Some}
use Rattle.std.specs.List.{AllByRecursion}
use Rattle.std.specs.Str.{bytes_eq}
use Rattle.plc_text.specs.Words.{is_upper_word}
use Rattle.st_tree.specs.Terminal.{is_keyword}
use Rattle.cycle_journal.specs.declared.play.Play.{Play}
use Rattle.cycle_journal.specs.declared.play.Play.TheVariants.{Cycle, Change, Reset}
use Rattle.cycle_journal.specs.declared.entry.Entry.{Entry}
use Rattle.cycle_journal.specs.declared.entry.Answer.{Answer}
use Rattle.cycle_journal.specs.declared.entry.Answer.TheVariants.{Done, Fault, Held, NoTask, Loaded, Refused, RefusedMemory, Released}
use Rattle.cycle_journal.specs.Play.{play_numbered}

-- which answers each kind of play may have
abbrev pub may_answer : Play → Answer → Bool
may_answer (Cycle task now input) (Done ticks outputs) = true
may_answer (Cycle task now input) (Fault fault) = true
may_answer (Cycle task now input) Held = true
may_answer (Cycle task now input) (NoTask since) = true
may_answer (Change name source) (Loaded version) = true
may_answer (Change name source) (Refused r) = true
may_answer (Change name source) RefusedMemory = true
may_answer (Reset task) Released = true
may_answer (Reset task) (NoTask since) = true
may_answer _ _ = false

-- what a refusal names: a dash, or a name in upper case, which is no keyword
abbrev pub is_declaration : List ℕ → Bool
is_declaration text = bytes_eq text (codes "-") || (is_upper_word text && not (is_keyword text))

-- The answer's numbers are those of the machine, there are at most 256 bytes of outputs, a refusal names a declaration, and
-- what is loaded is the version after the one that was loaded before.
abbrev pub FitsAnswer : ℕ → Answer → Type 0
FitsAnswer version (Done ticks outputs) = (ticks < 2 ^ 32) × (length outputs ≤ 256) × AllByRecursion (λ b. b < 256) outputs
FitsAnswer version (Fault fault) = fault.line < 2 ^ 32
FitsAnswer version Held = Unit {0}
FitsAnswer version (NoTask since) = since < 2 ^ 32
FitsAnswer version (Loaded next) = (next ≡ version + 1) × (next < 2 ^ 32)
FitsAnswer version (Refused r) = (is_declaration r.declaration ≡ true) × (r.line < 2 ^ 32)
FitsAnswer version RefusedMemory = Unit {0}
FitsAnswer version Released = Unit {0}

-- the entry is one for these plays
pub record FitsEntry (plays : List Play) (e : Entry) : Type 0 where
  pub version-fits : e.version < 2 ^ 32
  pub play-fits : e.play < 2 ^ 32
  pub play : Play
  pub play-is : play_numbered plays e.play ≡ Some play
  pub may : may_answer play e.answer ≡ true
  pub answer-fits : FitsAnswer e.version e.answer

-- each entry is one for these plays
abbrev pub Fits : List Play → List Entry → Type 0
Fits plays entries = AllByRecursion (FitsEntry plays) entries
