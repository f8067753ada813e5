-- What one open cycle has in the way of a task.
use Rattle.std.specs.Prelude.{◌≡◌, ℕ, ◌<◌, ◌≤◌, Option, Some, None, nat_le, if◌then◌else◌}
use Rattle.plant_rules.specs.Meaning.{Meaning}
use Rattle.plant_rules.specs.History.{Script, State, IsOpen}
use Rattle.plant_core.specs.Private.Meeting.{Meets}

module _ {W : Type 0} (m : Meaning W) (script : Script) where
  -- a cycle of the other task is open, and has the region in the way of the task
  pub record MeetsWith (s : State W) (t h r : ℕ) : Type 0 where
    pub by : IsOpen m script s h
    pub meets : Meets (m.reads s.version t) (m.writes s.version t) (m.reads s.version h) (m.writes s.version h) r

  -- of the tasks below n none has anything in the way of the task
  pub record IsNone (s : State W) (t n : ℕ) : Type 0 where
    pub none : (h : ℕ) → h < n → (r : ℕ) → MeetsWith s t h r → ⊥

  -- of the tasks below n this is the least that has the least region in the way
  pub record IsBest (s : State W) (t n r h : ℕ) : Type 0 where
    pub below : h < n
    pub meets : MeetsWith s t h r
    pub least : (k q : ℕ) → k < n → MeetsWith s t k q → (r ≤ q) × (q ≡ r → h ≤ k)

  abbrev pub BestOf : State W → ℕ → ℕ → Option (ℕ × ℕ) → Type 0
  BestOf s t n None = IsNone s t n
  BestOf s t n (Some b) = IsBest s t n b.0 b.1

-- of two the one with the lesser region, of equals the first
abbrev pub nearer_of : Option (ℕ × ℕ) → Option ℕ → ℕ → Option (ℕ × ℕ)
nearer_of best None h = best
nearer_of None (Some r) h = Some (r, h)
nearer_of (Some b) (Some r) h = if nat_le b.0 r then Some b else Some (r, h)
