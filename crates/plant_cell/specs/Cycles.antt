-- A cycle that a pass begins in one turn and ends in another.
use Rattle.std.specs.Prelude.{◌≡◌, ℕ, List, ◌++◌, ◌⊎◌}
use Rattle.cycle_journal.specs.declared.entry.Answer.{Answer}
use Rattle.cycle_journal.specs.declared.entry.CycleReply.{CycleReply}
use Rattle.plant_rules.specs.Meaning.{Contents, Meaning, Has}
use Rattle.plant_rules.specs.History.{Past, Step, Happening, answered, finished, state_of, stage_at, idle, open_by, done, with_event}
use Rattle.plant_core.specs.Answers.{IsEarly, IsPaused, IsHindered}
use Rattle.plant_core.specs.Claim.{HasRun}
use Rattle.plant_cell.specs.Known.{Since, AllBy, past_at}
use Rattle.plant_cell.specs.declared.cycles.Tried.{Tried}
use Rattle.plant_cell.specs.declared.cycles.Tried.TheVariants as tried

module _ {W : Type 0} (m : Meaning W) where
  -- the play has its entry in the history
  abbrev pub HasEntry : Past W → List (Step W) → ℕ → Type 0
  HasEntry start log p = stage_at (state_of m (past_at start log)).stages p ≡ done

  -- what has its entry in one history has it in the other
  abbrev pub KeepsEntries : Past W → List (Step W) → List (Step W) → Type 0
  KeepsEntries start a b = (p : ℕ) → HasEntry start a p → HasEntry start b p

  -- the claim is open by this caller, and the core takes it back once it has run
  pub record HasOpened (v : Past W) (who p play t now : ℕ) (input : List ℕ) (of : W) (carrier : Contents) : Type 0 where
    pub play-is : play ≡ p
    pub run : HasRun m v.script (state_of m v) who p t now input of carrier (m.reply_of of t now input carrier) (m.left_by of t now input carrier)

  -- what was open by one of the pass's numbers is open, but for this play
  abbrev pub KeepsOthersOpen : ℕ → Past W → List ℕ → List (Step W) → Past W → Type 0
  KeepsOthersOpen q start numbers seen core = (w p t : ℕ) (c : Contents) → (p ≡ q → ⊥) → Has numbers w → stage_at (state_of m (past_at start seen)).stages p ≡ open_by w t c
      → (stage_at (state_of m core).stages p ≡ open_by w t c) × ((state_of m core).version ≡ (state_of m (past_at start seen)).version)

-- events of this number were added, and nothing else is changed
pub record GrowsBy {W : Type 0} (who : ℕ) (v v' : Past W) : Type 0 where
  pub added : List (Step W)
  pub is : v' ≡ past_at v (v.history ++ added)
  pub own : AllBy who added

-- the play cannot begin in this history: its cycle is open, a play before it has no entry, a change holds the core, or a region that it needs
-- is another cycle's
pub data IsWaiting {W : Type 0} (m : Meaning W) (v : Past W) (p : ℕ) : Type 0 where
  under-way : (stage_at (state_of m v).stages p ≡ idle → ⊥) → (stage_at (state_of m v).stages p ≡ done → ⊥) → IsWaiting m v p
  early : (q : ℕ) → IsEarly m v.script (state_of m v) p q → IsWaiting m v p
  paused : (c : ℕ) → IsPaused m v.script (state_of m v) p c → IsWaiting m v p
  hindered : (r h : ℕ) → IsHindered m v.script (state_of m v) p r h → IsWaiting m v p

-- a claim was made, the play has its entry, or it cannot begin yet
abbrev pub TriedIs : {C : Type 0} → Tried C → (C → Type 0) → Type 0 → Type 0 → Type 0
TriedIs (tried.Claim c) claimed entered waiting = claimed c
TriedIs tried.Done claimed entered waiting = entered
TriedIs tried.Again claimed entered waiting = waiting

-- what a try makes of a history: the play is begun, it has its entry, which it had or which is its answer, or all is as it was
abbrev pub TriedAdds : {C : Type 0} {W : Type 0} → Tried C → ℕ → ℕ → (C → Happening W) → Past W → Past W → Type 0
TriedAdds (tried.Claim c) w p begins v v' = v' ≡ with_event v w p (begins c)
TriedAdds tried.Done w p begins v v' = (v' ≡ v) ⊎ ((a : Answer) × (v' ≡ with_event v w p (answered a)))
TriedAdds tried.Again w p begins v v' = v' ≡ v

-- the play has its entry, of this reply
abbrev pub EndAdds : {W : Type 0} → ℕ → ℕ → CycleReply → Past W → Past W → Type 0
EndAdds w p reply v v' = v' ≡ with_event v w p (finished reply)

-- the history that a turn found goes on behind what the pass had seen, with no event of its numbers, and this is what the turn made of it
pub record TurnAdds {W : Type 0} (start : Past W) (numbers : List ℕ) (seen log : List (Step W)) (adds : Past W → Past W → Type 0) : Type 0 where
  pub found : List (Step W)
  pub since : Since numbers seen found
  pub is : adds (past_at start found) (past_at start log)
