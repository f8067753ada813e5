-- The scenario that is made of a number, to try many threads: rounds, each with eight cycles of each of four tasks, and then a
-- change alone.
use Rattle.std.specs.Prelude.{ℕ, ◌+◌, ◌-◌, ◌*◌, ◌%◌, nat_eq, List, [], ◌∷◌, ◌++◌, map, codes, if◌then◌else◌}
use Rattle.std.specs.Fmt.{decimal}
use Rattle.std.specs.List.{flat_map, range_with_len}
use Rattle.plc_text.specs.Hex.{encode_lower}
use Rattle.plc_text.specs.Lines.{text_of}
use Rattle.cycle_journal.specs.declared.play.Play.{Play}
use Rattle.cycle_journal.specs.declared.play.Play.TheVariants.{Cycle, Change}
use Rattle.cycle_journal.specs.Interleaving.{Phase}
use Rattle.scenario.specs.Scenario.{Contents}
use Rattle.scenario.specs.Reading.{phases_from}

-- the program with this number and this output double word
abbrev pub made_program : List ℕ → List ℕ → List ℕ
made_program number output =
    codes "PROGRAM Work" ++ number ++ codes " VAR c : Cell; n AT %ID0 : UDINT; q AT %QD" ++ output ++ codes " : UDINT; END_VAR q := c.Step(a := n); END_PROGRAM"

-- the lines of a source whose function block has these variables and these statements before the one on `sum`
abbrev pub made_source : List ℕ → List ℕ → List (List ℕ)
made_source variables statements =
    (codes "FUNCTION_BLOCK Cell VAR " ++ variables ++ codes " END_VAR")
    ∷ codes "METHOD Step : UDINT VAR_INPUT a : UDINT; END_VAR"
    ∷ (statements ++ codes "sum := sum * 3 + a; Step := sum; END_METHOD END_FUNCTION_BLOCK")
    ∷ made_program (codes "1") (codes "0")
    ∷ made_program (codes "2") (codes "1")
    ∷ made_program (codes "3") (codes "2")
    ∷ made_program (codes "4") (codes "3")
    ∷ codes "CONFIGURATION Made TASK T1(); TASK T2(); TASK T3(); TASK T4();"
    ∷ codes "PROGRAM R1 WITH T1 : Work1; PROGRAM R2 WITH T2 : Work2; PROGRAM R3 WITH T3 : Work3; PROGRAM R4 WITH T4 : Work4;"
    ∷ codes "END_CONFIGURATION"
    ∷ []

unfoldable pub source_a : List (List ℕ)
source_a = made_source (codes "sum : UDINT;") []

unfoldable pub source_b : List (List ℕ)
source_b = made_source (codes "count : UDINT; sum : UDINT;") (codes "count := count + 1; ")

-- Rounds, turns in a round and tasks are numbered from 1.

abbrev pub task_name : ℕ → List ℕ
task_name task = codes "T" ++ decimal task

abbrev pub moment : ℕ → ℕ → ℕ
moment round turn = 10 * (8 * (round - 1) + turn)

-- the input is the task's number as four bytes, the low one first
abbrev pub made_cycle : ℕ → ℕ → Play
made_cycle now task = Cycle (task_name task) now (task ∷ 0 ∷ 0 ∷ 0 ∷ [])

abbrev pub made_turn : ℕ → List Play
made_turn now = map (made_cycle now) (range_with_len 1 4)

abbrev pub made_cycles : ℕ → List Play
made_cycles round = flat_map (λ turn. made_turn (moment round turn)) (range_with_len 1 8)

-- odd rounds load source B, even ones source A
abbrev pub made_change : ℕ → Play
made_change round = if nat_eq (round % 2) 1 then Change (codes "B") 1 else Change (codes "A") 0

abbrev pub made_round : ℕ → List Play
made_round round = made_cycles round ++ made_change round ∷ []

abbrev pub made_plays : ℕ → List Play
made_plays rounds = flat_map made_round (range_with_len 1 rounds)

-- two phases a round, and an empty one behind the last
abbrev pub made_phases : ℕ → List Phase
made_phases rounds = phases_from 1 (flat_map (λ round. 32 ∷ 1 ∷ []) (range_with_len 1 rounds) ++ 0 ∷ [])

-- the scenario with so many rounds
abbrev pub made : ℕ → Contents
made rounds = record {
  program = text_of source_a;
  sources = (codes "A", text_of source_a) ∷ (codes "B", text_of source_b) ∷ [];
  plays = made_plays rounds;
  phases = made_phases rounds;
}

-- The same as a text

abbrev pub cycle_line : ℕ → ℕ → List ℕ
cycle_line now task = codes "cycle " ++ task_name task ++ codes " " ++ decimal now ++ codes " " ++ encode_lower (task ∷ 0 ∷ 0 ∷ 0 ∷ [])

abbrev pub change_line : ℕ → List ℕ
change_line round = if nat_eq (round % 2) 1 then codes "change B" else codes "change A"

abbrev pub round_lines : ℕ → List (List ℕ)
round_lines round =
    flat_map (λ turn. map (cycle_line (moment round turn)) (range_with_len 1 4)) (range_with_len 1 8) ++ codes "sync" ∷ change_line round ∷ codes "sync" ∷ []

abbrev pub made_lines : ℕ → List (List ℕ)
made_lines rounds =
    codes "@program" ∷ source_a ++ codes "@source A" ∷ source_a ++ codes "@source B" ∷ source_b
    ++ codes "@plays" ∷ flat_map round_lines (range_with_len 1 rounds) ++ codes "@end" ∷ []

abbrev pub made_text : ℕ → List ℕ
made_text rounds = text_of (made_lines rounds)
