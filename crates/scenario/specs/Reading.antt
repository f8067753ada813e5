-- The form of a scenario, line by line, and which lines a scenario begins with.
use Rattle.std.specs.Prelude.{◌≡◌, ℕ, ◌+◌, ◌≤◌, Bool, true, false, ◌&&◌, nat_eq, fold, count_by, List, [], ◌∷◌, ◌++◌, length, map, drop, codes, replicate, Ok, IsUtf8, if◌then◌else◌}
use Rattle.std.specs.List.{AllByRecursion, flat_map, list_any, starts_with}
use Rattle.hex.specs.Hex.{decode_of}
use Rattle.plc_text.specs.Lines.{lines_of, text_of}
use Rattle.plc_text.specs.Numbers.{number, IsNumber32}
use Rattle.plc_text.specs.Text.{folded}
use Rattle.plc_text.specs.Words.{same, begins, is_word}
use Rattle.st_names.specs.Names.{IsAt, AreDistinct}
use Rattle.cycle_journal.specs.declared.play.Play.{Play}
use Rattle.cycle_journal.specs.declared.play.Play.TheVariants.{Cycle, Change, Reset}
use Rattle.cycle_journal.specs.Interleaving.{Phase}
use Rattle.scenario.specs.declared.scenario_error.ScenarioError.{ScenarioError}
use Rattle.scenario.specs.declared.scenario_error.ScenarioError.TheVariants.{Bad, NoMemory}
use Rattle.scenario.specs.Scenario.{Contents}

-- Lines

-- the bytes behind a byte order mark, where one stands at the front
abbrev pub unmarked : List ℕ → List ℕ
unmarked bytes = if starts_with nat_eq bytes (239 ∷ 187 ∷ 191 ∷ []) then drop 3 bytes else bytes

-- the bytes without each CR (13) that stands directly before LF (10)
abbrev pub without_returns : List ℕ → List ℕ
without_returns [] = []
without_returns (b ∷ bytes) = if nat_eq b 13 && begins (λ c. nat_eq c 10) bytes then without_returns bytes else b ∷ without_returns bytes

-- A line ends with LF, and a CR directly before it belongs to the line's end.
abbrev pub scenario_lines : List ℕ → List (List ℕ)
scenario_lines bytes = lines_of (without_returns (unmarked bytes))

-- a line of a source does not begin with `@` (64)
abbrev pub IsSourceLine : List ℕ → Type 0
IsSourceLine line = begins (λ c. nat_eq c 64) line ≡ false

-- Sources

-- the line `@source NAME`, and the lines of the source
pub record Block : Type 0 where
  pub name : List ℕ
  pub lines : List (List ℕ)

abbrev pub lines_of_block : Block → List (List ℕ)
lines_of_block block = (codes "@source " ++ block.name) ∷ block.lines

-- the source's name in upper case, and its text
abbrev pub source_of : Block → List ℕ × List ℕ
source_of block = (folded block.name, text_of block.lines)

abbrev pub IsBlock : Block → Type 0
IsBlock block = (is_word block.name ≡ true) × AllByRecursion IsSourceLine block.lines

-- the lines are those of these sources, whose names are distinct
pub record AreSources (lines : List (List ℕ)) (sources : List (List ℕ × List ℕ)) : Type 0 where
  pub blocks : List Block
  pub split : lines ≡ flat_map lines_of_block blocks
  pub good : AllByRecursion IsBlock blocks
  pub sources-are : sources ≡ map source_of blocks
  pub distinct : AreDistinct sources
  pub few : length sources ≤ 256

-- Plays

-- The field says the input bytes: a dash for none, otherwise two hexadecimal digits of either case for each byte, of which
-- there are at most 256.
abbrev pub IsInput : List ℕ → List ℕ → Type 0
IsInput field [] = field ≡ codes "-"
IsInput field (b ∷ bytes) = (decode_of field ≡ Ok (b ∷ bytes)) × (length (b ∷ bytes) ≤ 256)

-- The line is `cycle TASK NOW HEX`, `change NAME` or `reset TASK`. Names are words, kept in upper case; a change names one of
-- the sources.
abbrev pub IsPlayLine : List (List ℕ × List ℕ) → List ℕ → Play → Type 0
IsPlayLine sources line (Cycle task now input) = (name digits hex : List ℕ)
    × (line ≡ codes "cycle " ++ name ++ codes " " ++ digits ++ codes " " ++ hex)
    × (is_word name ≡ true) × (task ≡ folded name) × IsNumber32 digits × (now ≡ number digits) × IsInput hex input
IsPlayLine sources line (Change source n) = (name : List ℕ) × (line ≡ codes "change " ++ name)
    × (is_word name ≡ true) × (source ≡ folded name) × IsAt sources n source
IsPlayLine sources line (Reset task) = (name : List ℕ) × (line ≡ codes "reset " ++ name)
    × (is_word name ≡ true) × (task ≡ folded name)

-- each line is that of the play at its place
abbrev pub ArePlayLines : List (List ℕ × List ℕ) → List (List ℕ) → List Play → Type 0
ArePlayLines sources [] [] = Unit {0}
ArePlayLines sources (line ∷ lines) (play ∷ plays) = IsPlayLine sources line play × ArePlayLines sources lines plays
ArePlayLines sources [] (play ∷ plays) = ⊥
ArePlayLines sources (line ∷ lines) [] = ⊥

-- phases of so many plays each, where the first play has this number
abbrev pub phases_from : ℕ → List ℕ → List Phase
phases_from first [] = []
phases_from first (count ∷ counts) = (first, first + count) ∷ phases_from (first + count) counts

abbrev pub is_change : Play → Bool
is_change (Change source n) = true
is_change _ = false

-- the task of a cycle or a reset
abbrev pub tasks_of_play : Play → List (List ℕ)
tasks_of_play (Cycle task now input) = task ∷ []
tasks_of_play (Change source n) = []
tasks_of_play (Reset task) = task ∷ []

-- the names with one more, unless it is one of them
abbrev pub with_name : List (List ℕ) → List ℕ → List (List ℕ)
with_name names name = if list_any (same name) names then names else names ++ name ∷ []

-- the tasks that the plays name, each once
abbrev pub tasks_of : List Play → List (List ℕ)
tasks_of plays = fold with_name [] (flat_map tasks_of_play plays)

-- The lines are those of these plays: the lines of a first phase, and then for each further phase the line `sync` and its lines.
pub record ArePlayed (sources : List (List ℕ × List ℕ)) (lines : List (List ℕ)) (plays : List Play) (phases : List Phase) : Type 0 where
  pub first : List (List ℕ)
  pub further : List (List (List ℕ))
  pub split : lines ≡ first ++ flat_map (λ phase. codes "sync" ∷ phase) further
  pub plays-are : ArePlayLines sources (first ++ flat_map (λ phase. phase) further) plays
  pub phases-are : phases ≡ phases_from 1 (map length (first ∷ further))
  pub few-plays : length plays ≤ 65536
  pub few-changes : count_by is_change plays ≤ 256
  pub few-tasks : length (tasks_of plays) ≤ 32

-- The whole

-- the lines are those of a scenario that holds this
pub record IsScenario (lines : List (List ℕ)) (held : Contents) : Type 0 where
  pub program : List (List ℕ)
  pub sources : List (List ℕ)
  pub played : List (List ℕ)
  pub empty : ℕ
  pub split : lines ≡ codes "@program" ∷ program ++ sources ++ codes "@plays" ∷ played ++ codes "@end" ∷ replicate empty []
  pub utf8 : AllByRecursion IsUtf8 lines
  pub program-lines : AllByRecursion IsSourceLine program
  pub program-is : held.program ≡ text_of program
  pub sources-are : AreSources sources held.sources
  pub played-are : ArePlayed held.sources played held.plays held.phases

-- some scenario begins with these lines
abbrev pub CanBegin : List (List ℕ) → Type 0
CanBegin lines = (held : Contents) × (more : List (List ℕ)) × IsScenario (lines ++ more) held

-- no scenario has these lines
abbrev pub NoScenario : List (List ℕ) → Type 0
NoScenario lines = (held : Contents) → IsScenario lines held → ⊥

-- it holds of the line that is bad; want of memory tells nothing
abbrev pub OnBad : ScenarioError → (ℕ → Type 0) → Type 0
OnBad (Bad line) P = P line
OnBad NoMemory P = Unit {0}
