-- What holds of a claim that began, and of one that has run.
use Rattle.std.specs.Prelude.{◌≡◌, ℕ, ◌<◌, ◌≤◌, List, length, None}
use Rattle.cycle_journal.specs.declared.entry.CycleReply.{CycleReply}
use Rattle.plant_rules.specs.Meaning.{Contents, Meaning, bytes_at, Has, FitOn, last_moment}
use Rattle.plant_rules.specs.History.{Script, State, stage_at, open_by, at_play, now_of, input_of, MayBegin}

module _ {W : Type 0} (m : Meaning W) (script : Script) where
  -- the claim that began: of the loaded version, with what its task reads and writes
  pub record HasClaimed (s : State W) (p t : ℕ) (play now : ℕ) (input : List ℕ) (of : W) (carrier : Contents) : Type 0 where
    pub may : MayBegin m script s p t
    pub play-is : play ≡ p
    pub now-is : now ≡ now_of (at_play m script p)
    pub input-is : input ≡ input_of (at_play m script p)
    pub timely : now ≤ last_moment
    pub of-is : of ≡ s.version
    pub below : t < m.tasks of
    pub fits : FitOn (m.fit of) (m.reads of t) carrier
    pub rest-out : (r : ℕ) → (Has (m.reads of t) r → ⊥) → bytes_at carrier r ≡ None
    pub total : length carrier ≡ m.region_total of

  -- the cycle ran: it was begun by this caller and is open, and this is what it answers and leaves
  pub record HasRun (s : State W) (who p t now : ℕ) (input : List ℕ) (of : W) (taken : Contents) (reply : CycleReply) (left : Contents) : Type 0 where
    pub open-is : stage_at s.stages p ≡ open_by who t taken
    pub of-is : of ≡ s.version
    pub below : t < m.tasks of
    pub now-is : now ≡ now_of (at_play m script p)
    pub input-is : input ≡ input_of (at_play m script p)
    pub timely : now ≤ last_moment
    pub reply-is : reply ≡ m.reply_of of t now input taken
    pub left-is : left ≡ m.left_by of t now input taken
    pub fits : FitOn (m.fit of) (m.reads of t) taken
    pub rest-out : (r : ℕ) → (Has (m.reads of t) r → ⊥) → bytes_at taken r ≡ None
    pub total : length taken ≡ m.region_total of
