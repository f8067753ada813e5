-- When tasks of one phase share no region that one of them writes.
use Rattle.std.specs.Prelude.{◌≡◌, ◌≢◌, ℕ, suc, ◌≤◌, ◌<◌, Bool, true, false, List, [], ◌∷◌, ◌++◌, Some, Result, ◌⊎◌}
use Rattle.std.specs.List.{filter}
use Rattle.plc_text.specs.declared.refusal.Refusal.{Refusal}
use Rattle.cycle_journal.specs.Interleaving.{Phase, Lane, IsPhase, InPhases, in_lane, numbers_of}
use Rattle.cycle_journal.specs.Play.{play_numbered}
use Rattle.cycle_journal.specs.declared.entry.Answer.TheVariants as answer
use Rattle.cycle_journal.specs.declared.entry.Entry.{Entry}
use Rattle.cycle_journal.specs.declared.play.Play.{Play}
use Rattle.cycle_journal.specs.declared.play.Play.TheVariants as play
use Rattle.st_change.specs.StoreLaws.{Timely}
use Rattle.plant_rules.specs.Meaning.{Contents, Meaning, Has, Whole}
use Rattle.plant_rules.specs.One.{OneState, Runs}
use Rattle.plant_rules.specs.History.{is_change}

-- a change to a text comes to one thing
pub record OneChange {W : Type 0} (m : Meaning W) : Type 0 where
  pub by : (p : W) (text : List ℕ) (c : Contents) (x y : Result (W × Contents) Refusal) → m.changed p text c x → m.changed p text c y → x ≡ y

module _ (plays : List Play) where
  -- a cycle of the phase names the task
  pub record Cycles (phase : Phase) (name : List ℕ) : Type 0 where
    pub number : ℕ
    pub low : phase.0 ≤ number
    pub high : number < phase.1
    pub now : ℕ
    pub input : List ℕ
    pub is : play_numbered plays number ≡ Some (play.Cycle name now input)

  -- no play of the phase is a change
  abbrev pub HasNoChange : Phase → Type 0
  HasNoChange phase = (n : ℕ) → phase.0 ≤ n → n < phase.1 → is_change (play_numbered plays n) ≡ false

  -- the phase is one change
  abbrev pub IsOneChange : Phase → Type 0
  IsOneChange phase = (phase.1 ≡ suc phase.0) × (is_change (play_numbered plays phase.0) ≡ true)

  -- of the different tasks that its cycles name, none writes a region that another one reads
  abbrev pub Apart : {W : Type 0} → Meaning W → W → Phase → Type 0
  Apart m p phase =
      (a b : List ℕ) (t u r : ℕ) → Cycles phase a → Cycles phase b → (a ≡ b → ⊥) → m.named p a ≡ Some t → m.named p b ≡ Some u → Has (m.writes p t) r → Has (m.reads p u) r → ⊥

  abbrev pub IsDisjoint : {W : Type 0} → Meaning W → W → Phase → Type 0
  IsDisjoint m p phase = IsOneChange phase ⊎ (HasNoChange phase × Apart m p phase)

  -- the entries are runs of the phases, one after the other, each disjoint in the version then loaded
  abbrev pub DisjointRuns : {W : Type 0} → Meaning W → List (List ℕ) → List Phase → OneState W → List Entry → OneState W → Type 0
  DisjointRuns m sources [] a es b = (es ≡ []) × (a ≡ b)
  DisjointRuns {W} m sources (phase ∷ phases) a es b =
      (front : List Entry) × (back : List Entry) × (mid : OneState W) × (es ≡ front ++ back) × IsPhase plays phase (numbers_of front) × Runs m sources plays a front mid × IsDisjoint m a.version phase × DisjointRuns m sources phases mid back b

  abbrev pub entry_in : Lane → Entry → Bool
  entry_in lane e = in_lane plays lane e.play

-- no change found no memory
abbrev pub NoneWanted : List Entry → Type 0
NoneWanted [] = Unit {0}
NoneWanted (e ∷ es) = (e.answer ≢ answer.RefusedMemory) × NoneWanted es

-- each moment has 32 bits
abbrev pub AreTimely : List Play → Type 0
AreTimely plays = (n : ℕ) (x : Play) → play_numbered plays n ≡ Some x → Timely x

-- A run that interleaves the phases, and one whose phases are disjoint, from a state with all regions, neither with a change that found no memory:
-- they end in the same state, and each list has the same entries in both.
pub record SerialRuns {W : Type 0} (m : Meaning W) : Type 0 where
  pub serial : (sources : List (List ℕ)) (plays : List Play) (phases : List Phase) (a b d : OneState W) (es fs : List Entry) → AreTimely plays → m.right a.version → Whole (m.fit a.version) (m.region_total a.version) a.store
      → InPhases plays phases (numbers_of es) → Runs m sources plays a es b → DisjointRuns plays m sources phases a fs d → NoneWanted es → NoneWanted fs → (b ≡ d) × ((lane : Lane) → filter (entry_in plays lane) es ≡ filter (entry_in plays lane) fs)
