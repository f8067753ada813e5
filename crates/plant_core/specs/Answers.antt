-- What the calls answer, and when.
use Rattle.std.specs.Prelude.{◌≡◌, ℕ, ◌<◌, Option, Some, None, true, false, ◌⊎◌}
use Rattle.cycle_journal.specs.declared.entry.Answer.{Answer}
use Rattle.cycle_journal.specs.declared.entry.Answer.TheVariants as answer
use Rattle.plc_text.specs.declared.denied.Denied.{Denied}
use Rattle.plc_text.specs.declared.denied.Denied.TheVariants as denial
use Rattle.plant_rules.specs.Meaning.{Meaning, Has}
use Rattle.plant_rules.specs.History.{Past, Script, State, state_of, stage_at, idle, done, Turn, free, wanted_by, under_way, at_play, task_of, with_event, answered, wanted, reset, Waits, IsNext, IsOpen, Writing, Claimed, HasTask, Unable, Resets}
use Rattle.plant_core.specs.declared.answers.Timing.{Timing}
use Rattle.plant_core.specs.declared.answers.Timing.TheVariants as timing
use Rattle.plant_core.specs.declared.answers.Able.{Able}
use Rattle.plant_core.specs.declared.answers.Able.TheVariants as able
use Rattle.plant_core.specs.declared.answers.Begun.{Begun}
use Rattle.plant_core.specs.declared.answers.Begun.TheVariants as begins
use Rattle.plant_core.specs.declared.answers.Wanted.{Wanted}
use Rattle.plant_core.specs.declared.answers.Wanted.TheVariants as wants
use Rattle.plant_core.specs.declared.answers.Wish.{Wish}
use Rattle.plant_core.specs.declared.answers.Later.{Later}
use Rattle.plant_core.specs.declared.answers.Later.TheVariants as later
use Rattle.plant_core.specs.declared.answers.ResetDone.{ResetDone}
use Rattle.plant_core.specs.declared.answers.ResetDone.TheVariants as resets

-- the play of the change that is wanted or under way
abbrev pub turn_play : Turn → Option ℕ
turn_play free = None
turn_play (wanted_by p w) = Some p
turn_play (under_way p w c) = Some p

abbrev pub play_of : Turn → ℕ
play_of free = 0
play_of (wanted_by p w) = p
play_of (under_way p w c) = p

abbrev pub denial_of : Denied → Answer
denial_of (denial.Refused r) = answer.Refused r
denial_of denial.NoMemory = answer.RefusedMemory

-- the task is one of the version
abbrev pub IsTask : {W : Type 0} → Meaning W → W → Able → Type 0
IsTask m v (able.Gone k) = Unit {0}
IsTask m v able.Held = Unit {0}
IsTask m v (able.Task t) = t < m.tasks v

module _ {W : Type 0} (m : Meaning W) (script : Script) where
  -- the least play before it that has no entry
  pub record IsEarly (s : State W) (p q : ℕ) : Type 0 where
    pub idle-is : stage_at s.stages p ≡ idle
    pub waits : Waits m script s q p
    pub least : (k : ℕ) → k < q → Waits m script s k p → ⊥

  abbrev pub IsTiming : State W → ℕ → Timing → Type 0
  IsTiming s p timing.Twice = stage_at s.stages p ≡ idle → ⊥
  IsTiming s p (timing.Early q) = IsEarly s p q
  IsTiming s p timing.Next = IsNext m script s p

  -- where a change or a reset stands: it has an entry, a play before it has none, or it comes next
  abbrev pub IsTimingOnce : State W → ℕ → Timing → Type 0
  IsTimingOnce s p timing.Twice = stage_at s.stages p ≡ done
  IsTimingOnce s p (timing.Early q) = IsEarly s p q
  IsTimingOnce s p timing.Next = IsNext m script s p

  abbrev pub IsAble : State W → ℕ → Able → Type 0
  IsAble s p (able.Gone k) = (m.named s.version (task_of (at_play m script p)) ≡ None) × (k ≡ s.since (task_of (at_play m script p)))
  IsAble s p able.Held = (t : ℕ) × (m.named s.version (task_of (at_play m script p)) ≡ Some t) × (s.held (task_of (at_play m script p)) ≡ true)
  IsAble s p (able.Task t) = (m.named s.version (task_of (at_play m script p)) ≡ Some t) × (s.held (task_of (at_play m script p)) ≡ false)

  -- a region of the task's footprint that another cycle writes, or a region that it would write and another cycle has
  abbrev pub Conflict : State W → ℕ → ℕ → Type 0
  Conflict s t r = (Has (m.reads s.version t) r × Writing m script s r) ⊎ (Has (m.writes s.version t) r × Claimed m script s r)

  -- a cycle of this task is open and has the region
  pub record Holding (s : State W) (r h : ℕ) : Type 0 where
    pub by : IsOpen m script s h
    pub has : Has (m.reads s.version h) r

  -- the least region in the way, with the least task that has it
  pub record IsBusy (s : State W) (t r h : ℕ) : Type 0 where
    pub conflict : Conflict s t r
    pub least : (k : ℕ) → k < r → Conflict s t k → ⊥
    pub holding : Holding s r h
    pub least-task : (k : ℕ) → k < h → Holding s r k → ⊥

  -- at most one change is wanted or under way, of this play
  pub record IsPaused (s : State W) (p c : ℕ) : Type 0 where
    pub next : IsNext m script s p
    pub turn-is : turn_play s.turn ≡ Some c

  pub record IsAnswered (s : State W) (p : ℕ) (a : Answer) : Type 0 where
    pub next : IsNext m script s p
    pub turn-free : s.turn ≡ free
    pub unable : Unable m script s p a

  pub record IsHindered (s : State W) (p r h : ℕ) : Type 0 where
    pub next : IsNext m script s p
    pub turn-free : s.turn ≡ free
    pub task : ℕ
    pub has-task : HasTask m script s p task
    pub not-held : s.held (task_of (at_play m script p)) ≡ false
    pub busy : IsBusy s task r h

-- what begin answers, and the history after it
abbrev pub BegunAs : {C : Type 0} → Begun C → {W : Type 0} → Meaning W → Past W → Past W → ℕ → ℕ → (C → Type 0) → Type 0
BegunAs begins.Twice m v v' w p claimed = (v' ≡ v) × (stage_at (state_of m v).stages p ≡ idle → ⊥)
BegunAs (begins.Early q) m v v' w p claimed = (v' ≡ v) × IsEarly m v.script (state_of m v) p q
BegunAs (begins.Paused c) m v v' w p claimed = (v' ≡ v) × IsPaused m v.script (state_of m v) p c
BegunAs begins.Answered m v v' w p claimed = (a : Answer) × IsAnswered m v.script (state_of m v) p a × (v' ≡ with_event v w p (answered a))
BegunAs (begins.Busy r h) m v v' w p claimed = (v' ≡ v) × IsHindered m v.script (state_of m v) p r h
BegunAs (begins.Claim c) m v v' w p claimed = claimed c

-- what want answers, and the history after it
abbrev pub WantedAs : {W : Type 0} → Meaning W → Past W → Past W → ℕ → ℕ → Wanted → Type 0
WantedAs m v v' w p wants.Twice = (v' ≡ v) × (stage_at (state_of m v).stages p ≡ done)
WantedAs m v v' w p (wants.Early q) = (v' ≡ v) × IsEarly m v.script (state_of m v) p q
WantedAs m v v' w p (wants.Paused c) = (v' ≡ v) × IsPaused m v.script (state_of m v) p c
WantedAs m v v' w p (wants.Wish wish) = IsNext m v.script (state_of m v) p × ((state_of m v).turn ≡ free) × (wish.play ≡ p) × (v' ≡ with_event v w p (wanted (state_of m v).version))

-- why a change did not begin
abbrev pub LaterAs : {C : Type 0} → Later C → {W : Type 0} → Meaning W → State W → Script → Wish → C → ℕ → Type 0
LaterAs (later.Older a b given c) m s script wish change base = (a ≡ base) × (b ≡ m.number s.version) × (a ≡ b → ⊥) × (given ≡ wish) × (c ≡ change)
LaterAs (later.Busy h given c) m s script wish change base =
    (base ≡ m.number s.version) × IsOpen m script s h × ((k : ℕ) → k < h → IsOpen m script s k → ⊥) × (given ≡ wish) × (c ≡ change)

-- what reset answers, and the history after it
abbrev pub ResetAs : {W : Type 0} → Meaning W → Past W → Past W → ℕ → ℕ → ResetDone → Type 0
ResetAs m v v' w p resets.Twice = (v' ≡ v) × (stage_at (state_of m v).stages p ≡ done)
ResetAs m v v' w p (resets.Early q) = (v' ≡ v) × IsEarly m v.script (state_of m v) p q
ResetAs m v v' w p resets.Made = (a : Answer) × IsNext m v.script (state_of m v) p × Resets m v.script (state_of m v) p a × (v' ≡ with_event v w p (reset a))
