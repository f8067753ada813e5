-- The tables behind an order of plays.
use Rattle.std.specs.Prelude.{◌≡◌, ℕ, ◌+◌, ◌<◌, ◌≤◌, ◌^◌, Bool, true, false, List, ◌++◌, length, Option, None, Some, slice_get, slice_index_or}
use Rattle.cycle_journal.specs.Interleaving.{Phase, Lane, changes, task_named, lane_of}
use Rattle.cycle_journal.specs.Play.{play_numbered}
use Rattle.cycle_journal.specs.declared.play.Play.{Play}
use Rattle.plant_rules.specs.History.{phase_of}
use Rattle.plant_core.specs.play_order.Progress.{Standing}

-- names were added at the end
abbrev pub Grows : List (List ℕ) → List (List ℕ) → Type 0
Grows names names' = (more : List (List ℕ)) × (names' ≡ names ++ more)

-- this is the number of the list
abbrev pub IsLane : List (List ℕ) → Lane → ℕ → Type 0
IsLane names changes l = l ≡ 0
IsLane names (task_named name) l = (n : ℕ) × (l ≡ n + 1) × (slice_get names n ≡ Some name)

abbrev pub HasLane : List (List ℕ) → Option Play → ℕ → Type 0
HasLane names None l = l ≡ 0
HasLane names (Some play) l = IsLane names (lane_of play) l

abbrev pub number_at : List ℕ → ℕ → ℕ
number_at xs p = slice_index_or xs p 0

-- the list of each play, by the play's number
pub record HaveLanes (names : List (List ℕ)) (plays : List Play) (lanes : List ℕ) : Type 0 where
  pub total : length lanes ≡ length plays + 1
  pub each : (p : ℕ) → HasLane names (play_numbered plays p) (number_at lanes p)

-- the phase of each play
pub record HavePhases (phases : List Phase) (numbers : List ℕ) (n : ℕ) : Type 0 where
  pub total : length numbers ≡ n
  pub each : (p : ℕ) → p < n → number_at numbers p ≡ phase_of phases p

-- the play stands before the other in a lesser phase
pub record IsEarlier (numbers : List ℕ) (first p : ℕ) : Type 0 where
  pub low : first < p
  pub phase : number_at numbers first < number_at numbers p

-- q is the first play of the list from p on, or behind all plays
pub record IsFirst (lanes : List ℕ) (p l q : ℕ) : Type 0 where
  pub from : p ≤ q
  pub none : (k : ℕ) → p ≤ k → k < q → number_at lanes k ≡ l → ⊥
  pub in_lane : q < length lanes → number_at lanes q ≡ l
  pub within : q ≤ length lanes

-- behind each play the next one of its list
abbrev pub HaveNext : List ℕ → List ℕ → ℕ → Type 0
HaveNext lanes following from = (p : ℕ) → from ≤ p → p < length lanes → IsFirst lanes (p + 1) (number_at lanes p) (number_at following p)

abbrev pub Rises : List ℕ → Type 0
Rises following = (p : ℕ) → p < length following → p < number_at following p

-- the first play from p on of each list
abbrev pub HaveFirst : List ℕ → List ℕ → ℕ → Type 0
HaveFirst lanes next p = (l : ℕ) → l < length next → IsFirst lanes p l (number_at next l)

-- the plays from this one on are linked
pub record AreLinked (lanes : List ℕ) (lists play : ℕ) (following next : List ℕ) : Type 0 where
  pub from : 1 ≤ play
  pub to : play ≤ length lanes
  pub following-total : length following ≡ length lanes
  pub next-total : length next ≡ lists
  pub following-are : HaveNext lanes following play
  pub rises : Rises following
  pub first-are : HaveFirst lanes next play

-- the first play that has no entry, or behind all plays: of a list, and of all
pub record IsLeft (lanes : List ℕ) (done : List Bool) (l q : ℕ) : Type 0 where
  pub passed : (k : ℕ) → k < q → number_at lanes k ≡ l → slice_index_or done k true ≡ true
  pub in_lane : q < length lanes → number_at lanes q ≡ l
  pub within : q ≤ length lanes

pub record IsLeast (done : List Bool) (q : ℕ) : Type 0 where
  pub passed : (k : ℕ) → k < q → slice_index_or done k true ≡ true
  pub within : q ≤ length done

abbrev pub StillAt : List Bool → ℕ → Type 0
StillAt done q = q < length done → slice_index_or done q true ≡ false

-- what an order keeps of its tables
pub record IsOrdered (v : Standing) (lanes numbers following next : List ℕ) (first : ℕ) : Type 0 where
  pub few : length v.script.plays + 1 < 2 ^ 32
  pub done-total : length v.done ≡ length v.script.plays + 1
  pub none-done : slice_index_or v.done 0 true ≡ true
  pub distinct : (i j : ℕ) (name : List ℕ) → slice_get v.names i ≡ Some name → slice_get v.names j ≡ Some name → i ≡ j
  pub lanes-are : HaveLanes v.names v.script.plays lanes
  pub numbers-are : HavePhases v.script.phases numbers (length v.script.plays + 1)
  pub following-total : length following ≡ length v.script.plays + 1
  pub following-are : HaveNext lanes following 1
  pub following-rise : Rises following
  pub lists : length next ≡ length v.names + 1
  pub next-are : (l : ℕ) → l < length next → IsLeft lanes v.done l (number_at next l)
  pub next-still : (l : ℕ) → l < length next → StillAt v.done (number_at next l)
  pub first-is : IsLeast v.done first
  pub first-still : StillAt v.done first
