-- The orders in which the entries of plays may stand.
use Rattle.std.specs.Prelude.{◌≡◌, ℕ, ◌-◌, ◌≤◌, Bool, true, false, ◌&&◌, nat_eq, nat_le, nat_lt, List, [], ◌∷◌, ◌++◌, length, map, Option, Some, None, if◌then◌else◌}
use Rattle.std.specs.List.{filter, range_with_len}
use Rattle.std.specs.Str.{bytes_eq}
use Rattle.cycle_journal.specs.declared.play.Play.{Play}
use Rattle.cycle_journal.specs.declared.play.Play.TheVariants.{Cycle, Change, Reset}
use Rattle.cycle_journal.specs.declared.entry.Entry.{Entry}
use Rattle.cycle_journal.specs.Play.{play_numbered}

-- The cycles and resets of a task are its lane, and all changes are one.
pub data Lane : Type 0 where
  changes : Lane
  task_named : List ℕ → Lane

abbrev pub lane_of : Play → Lane
lane_of (Cycle task now input) = task_named task
lane_of (Change name source) = changes
lane_of (Reset task) = task_named task

abbrev pub same_lane : Lane → Lane → Bool
same_lane changes changes = true
same_lane (task_named a) (task_named b) = bytes_eq a b
same_lane changes (task_named b) = false
same_lane (task_named a) changes = false

abbrev pub is_in : Lane → Option Play → Bool
is_in lane None = false
is_in lane (Some play) = same_lane lane (lane_of play)

-- whether the play of this number is in the lane
abbrev pub in_lane : List Play → Lane → ℕ → Bool
in_lane plays lane n = is_in lane (play_numbered plays n)

-- A phase is the number of its first play and the number behind its last.
abbrev pub Phase : Type 0
Phase = ℕ × ℕ

abbrev pub has_play : ℕ → Phase → Bool
has_play n phase = nat_le phase.0 n && nat_lt n phase.1

-- how often the number stands among these
abbrev pub times : ℕ → List ℕ → ℕ
times n numbers = length (filter (λ m. nat_eq m n) numbers)

-- the numbers of the phase's plays, in order
abbrev pub numbers_of_phase : Phase → List ℕ
numbers_of_phase phase = range_with_len phase.0 (phase.1 - phase.0)

-- These are the numbers of one phase: each play of the phase once and no other, and the plays of a lane in their order.
pub record IsPhase (plays : List Play) (phase : Phase) (numbers : List ℕ) : Type 0 where
  pub once : (n : ℕ) → times n numbers ≡ (if has_play n phase then 1 else 0)
  pub in_order : (lane : Lane) → filter (in_lane plays lane) numbers ≡ filter (in_lane plays lane) (numbers_of_phase phase)

-- the numbers are those of the phases, one phase after another
abbrev pub InPhases : List Play → List Phase → List ℕ → Type 0
InPhases plays [] numbers = numbers ≡ []
InPhases plays (phase ∷ phases) numbers =
    (front : List ℕ) × (rest : List ℕ) × (numbers ≡ front ++ rest) × IsPhase plays phase front × InPhases plays phases rest

-- the numbers of the plays that the entries are of
abbrev pub numbers_of : List Entry → List ℕ
numbers_of entries = map (λ e. e.play) entries

-- the entries are those of the phases, one phase after another
abbrev pub Interleaves : List Play → List Phase → List Entry → Type 0
Interleaves plays phases entries = InPhases plays phases (numbers_of entries)

-- the plays come in order, each once: 1, 2, 3 up to the last
abbrev pub InOrder : List Play → List Entry → Type 0
InOrder plays entries = numbers_of entries ≡ range_with_len 1 (length plays)

-- the phases follow one another, from a first play up to one that is behind them all
abbrev pub Follow : ℕ → List Phase → ℕ → Type 0
Follow first [] behind = first ≡ behind
Follow first (phase ∷ phases) behind = (phase.0 ≡ first) × (first ≤ phase.1) × Follow phase.1 phases behind
