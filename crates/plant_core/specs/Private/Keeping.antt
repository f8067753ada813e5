-- What a core keeps true of its fields, said of the state that its history leads to.
use Rattle.std.specs.Prelude.{◌≡◌, ℕ, ◌<◌, ◌+◌, List, [], ◌∷◌, length, map, Option, Some, None, Bool, true, slice_index_or, ◌⊎◌}
use Rattle.cycle_journal.specs.declared.entry.Entry.{Entry}
use Rattle.plant_rules.specs.Meaning.{Contents, Meaning, bytes_at}
use Rattle.plant_rules.specs.History.{Past, Script, Legal, state_of, State, Turn, free, wanted_by, under_way, done, Writing, IsOpen}
use Rattle.plant_core.specs.play_order.Progress.{Standing}
use Rattle.plant_core.specs.declared.stage.Status.{Status}
use Rattle.plant_core.specs.declared.stage.Ongoing.{Ongoing}
use Rattle.plant_core.specs.Stage.{stage_of, turn_of, done_of, Room}
use Rattle.plant_core.specs.Hub.{Sound, HasShortInputs}
use Rattle.plant_core.specs.Private.Tasks.{AreHeld, AreSince}

-- the fields of a core
pub record Fields (W K : Type 0) : Type 0 where
  pub kits : List (Option K)
  pub loaded : W
  pub for_change : Option W
  pub home : Contents
  pub nothing : Option Contents
  pub status : List Status
  pub ongoing : Ongoing
  pub progress : Standing
  pub held : List Bool
  pub since : List ℕ
  pub entries : List Entry
  pub entry_room : ℕ
  pub event_room : ℕ

abbrev pub fields : {W K : Type 0} → List (Option K) → W → Option W → Contents → Option Contents → List Status → Ongoing → Standing → List Bool → List ℕ → List Entry → ℕ → ℕ → Fields W K
fields kits loaded for_change home nothing status ongoing progress held since entries entry_room event_room = record {
  kits = kits;
  loaded = loaded;
  for_change = for_change;
  home = home;
  nothing = nothing;
  status = status;
  ongoing = ongoing;
  progress = progress;
  held = held;
  since = since;
  entries = entries;
  entry_room = entry_room;
  event_room = event_room;
}

module _ {W : Type 0} (m : Meaning W) (script : Script) where
  -- the regions at home: all but those that an open claim writes, and none while a change is under way
  pub record AtHome (s : State W) (home : Contents) : Type 0 where
    pub total : length home ≡ m.region_total s.version
    pub here : (r : ℕ) → (Writing m script s r → ⊥) → bytes_at home r ≡ bytes_at s.store r
    pub out : (r : ℕ) → Writing m script s r → bytes_at home r ≡ None

  abbrev pub IsHome : State W → Turn → Contents → Type 0
  IsHome s free home = AtHome s home
  IsHome s (wanted_by p w) home = AtHome s home
  IsHome s (under_way p w c) home = home ≡ []

  -- another Arc of the loaded version and an empty table lie in the core, unless a change is under way
  abbrev pub IsSpare : State W → Turn → Option W → Option Contents → Type 0
  IsSpare s free o e = (o ≡ Some s.version) × (e ≡ Some [])
  IsSpare s (wanted_by p w) o e = (o ≡ Some s.version) × (e ≡ Some [])
  IsSpare s (under_way p w c) o e = Unit {0}

  -- a task's kit lies in the core, unless a cycle of the task is open
  abbrev pub KitAt : {K : Type 0} → List (Option K) → (W → ℕ → K → Type 0) → State W → ℕ → Type 0
  KitAt {K} kits good s t = (IsOpen m script s t × (slice_index_or kits t None ≡ None)) ⊎ ((k : K) × (slice_index_or kits t None ≡ Some k) × good s.version t k × (IsOpen m script s t → ⊥))

  -- the fields are those of the state
  pub record Holds {K : Type 0} (f : Fields W K) (good : W → ℕ → K → Type 0) (s : State W) : Type 0 where
    pub sound : Sound m script s
    pub loaded-is : f.loaded ≡ s.version
    pub spare-is : IsSpare s s.turn f.for_change f.nothing
    pub home-is : IsHome s s.turn f.home
    pub stages-are : map stage_of f.status ≡ done ∷ s.stages
    pub done-are : f.progress.done ≡ true ∷ map done_of s.stages
    pub turn-is : turn_of f.ongoing ≡ s.turn
    pub held-are : AreHeld f.progress.names f.held s.held
    pub since-are : AreSince f.progress.names f.since s.since
    pub entries-are : f.entries ≡ s.entries
    pub kits-all : length f.kits ≡ m.tasks s.version
    pub kits-are : (t : ℕ) → t < m.tasks s.version → KitAt f.kits good s t

  -- what the plays are never changes
  pub record Fixed {K : Type 0} (f : Fields W K) : Type 0 where
    pub script-is : f.progress.script ≡ script
    pub status-all : length f.status ≡ length script.plays + 1
    pub inputs : HasShortInputs script.plays

-- all that a core keeps
pub record Kept {W K : Type 0} (f : Fields W K) (good : W → ℕ → K → Type 0) (m : Meaning W) (v : Past W) : Type 0 where
  pub legal : Legal m v
  pub holds : Holds m v.script f good (state_of m v)
  pub fixed : Fixed m v.script f
  pub room : Room (state_of m v).stages (state_of m v).turn (length f.entries) f.entry_room (length v.history) f.event_room
