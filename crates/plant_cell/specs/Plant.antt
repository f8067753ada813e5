-- What the calls on a plant ask of a pass, and what a turn finds and leaves.
use Rattle.std.specs.Prelude.{◌≡◌, ℕ, ◌<◌, List, [], ◌∷◌, ◌++◌, length, true, false, Option, Some, None}
use Rattle.atomic_table.specs.Table.{Me}
use Rattle.plant_rules.specs.Meaning.{Contents, Meaning, Has}
use Rattle.plant_rules.specs.History.{Past, Step, state_of, stage_at, open_by, done}
use Rattle.plant_rules.specs.plant_history.Running.{IsTurnOf}
use Rattle.plant_cell.specs.Known.{Known, Since, AllBy, past_at}

module _ {W : Type 0} (m : Meaning W) where
  -- a pass of the plant that began with this core and has so many passes: it has these numbers
  pub record IsPass (start : Past W) (limit : ℕ) (numbers : List ℕ) (v : Known W) : Type 0 where
    pub start-is : v.start ≡ Some start
    pub limit-is : v.limit ≡ limit
    pub numbers-are : v.numbers ≡ numbers
    pub some-number : 0 < length numbers
    pub right : m.right start.first

  -- it has no turn
  pub record AtRest (start : Past W) (limit : ℕ) (numbers : List ℕ) (me : Me (Option (Past W)) (Known W)) : Type 0 where
    pub pass : IsPass start limit numbers me.0
    pub slots : me.1 ≡ []
    pub no-turn : me.0.holds ≡ false

  -- it has the turn, and the core is out of the slot
  pub record InTurn (start : Past W) (limit : ℕ) (numbers : List ℕ) (me : Me (Option (Past W)) (Known W)) : Type 0 where
    pub pass : IsPass start limit numbers me.0
    pub slots : me.1 ≡ (0, None) ∷ []
    pub turn : me.0.holds ≡ true

  -- what was open by one of the pass's numbers in what it had seen is open now, with the contents taken, in the version that was loaded then
  abbrev pub KeepsOpen : Past W → List ℕ → List (Step W) → Past W → Type 0
  KeepsOpen start numbers seen core = (w p t : ℕ) (c : Contents) → Has numbers w → stage_at (state_of m (past_at start seen)).stages p ≡ open_by w t c
      → (stage_at (state_of m core).stages p ≡ open_by w t c) × ((state_of m core).version ≡ (state_of m (past_at start seen)).version)

  -- what had its entry has it
  abbrev pub KeepsDone : Past W → List (Step W) → Past W → Type 0
  KeepsDone start seen core = (p : ℕ) → stage_at (state_of m (past_at start seen)).stages p ≡ done → stage_at (state_of m core).stages p ≡ done

  -- a change that was wanted or under way by one of the pass's numbers is so now, in the same version
  abbrev pub KeepsTurn : Past W → List ℕ → List (Step W) → Past W → Type 0
  KeepsTurn start numbers seen core = (w p : ℕ) → Has numbers w → IsTurnOf w p (state_of m (past_at start seen)).turn
      → ((state_of m core).turn ≡ (state_of m (past_at start seen)).turn) × ((state_of m core).version ≡ (state_of m (past_at start seen)).version)

module _ {W : Type 0} where
  -- the core began as the plant did, and its history goes on behind what the pass had seen, with no event of its numbers
  pub record Found (start : Past W) (numbers : List ℕ) (seen : List (Step W)) (core : Past W) : Type 0 where
    pub is : core ≡ past_at start core.history
    pub since : Since numbers seen core.history

  -- the core that comes back: its history begins with the one found, and what was added carries the pass's first number
  pub record Grown (start : Past W) (first : ℕ) (found : List (Step W)) (core : Past W) : Type 0 where
    pub added : List (Step W)
    pub is : core ≡ past_at start (found ++ added)
    pub own : AllBy first added
