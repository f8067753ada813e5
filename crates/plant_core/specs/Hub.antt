-- What holds of contents, claims and the change at hand in every state of a core.
use Rattle.std.specs.Prelude.{◌≡◌, ℕ, ◌<◌, ◌≤◌, List, length, true}
use Rattle.cycle_journal.specs.declared.play.Play.{Play}
use Rattle.cycle_journal.specs.Play.{play_numbered}
use Rattle.plant_rules.specs.Meaning.{Contents, Meaning, Has, AgreeOn, Whole}
use Rattle.plant_rules.specs.History.{Script, State, stage_at, idle, open_by, wanted_by, under_way, at_play, is_cycle, is_change, input_of, IsOpen}

-- the input of each cycle has at most 256 bytes
abbrev pub HasShortInputs : List Play → Type 0
HasShortInputs plays = (p : ℕ) → length (input_of (play_numbered plays p)) ≤ 256

module _ {W : Type 0} (m : Meaning W) (script : Script) where
  -- an open claim is a cycle's, and has the contents that its regions still have. What it writes is in no other claim, and a change under way
  -- meets none
  pub record Sound (s : State W) : Type 0 where
    pub right : m.right s.version
    pub whole : Whole (m.fit s.version) (m.region_total s.version) s.store
    pub below : (t : ℕ) → IsOpen m script s t → t < m.tasks s.version
    pub cycles : (p w t : ℕ) (c : Contents) → stage_at s.stages p ≡ open_by w t c → is_cycle (at_play m script p) ≡ true
    pub agrees : (p w t : ℕ) (c : Contents) → stage_at s.stages p ≡ open_by w t c → AgreeOn (m.reads s.version t) c s.store
    pub apart : (p w t : ℕ) (c : Contents) (q w' t' : ℕ) (c' : Contents) → stage_at s.stages p ≡ open_by w t c → stage_at s.stages q ≡ open_by w' t' c' → (p ≡ q → ⊥)
        → (r : ℕ) → Has (m.writes s.version t) r → Has (m.reads s.version t') r → ⊥
    pub waits : (p w : ℕ) → s.turn ≡ wanted_by p w → (stage_at s.stages p ≡ idle) × (is_change (at_play m script p) ≡ true)
    pub changes : (p w : ℕ) (c : Contents) → s.turn ≡ under_way p w c → (stage_at s.stages p ≡ idle) × (is_change (at_play m script p) ≡ true) × (c ≡ s.store) × ((t : ℕ) → IsOpen m script s t → ⊥)
