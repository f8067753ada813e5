-- Plays one after the other.
use Rattle.std.specs.Prelude.{◌≡◌, ℕ, List, [], ◌∷◌, ◌++◌, ◌≤◌, length, map, Option, Some, None}
use Rattle.std.specs.List.{range_with_len}
use Rattle.plc_text.specs.declared.refusal.Refusal.{Refusal}
use Rattle.cycle_journal.specs.declared.entry.Answer.{Answer}
use Rattle.cycle_journal.specs.declared.entry.Answer.TheVariants as answer
use Rattle.cycle_journal.specs.declared.entry.Entry.{Entry}
use Rattle.cycle_journal.specs.declared.play.Play.{Play}
use Rattle.cycle_journal.specs.declared.play.Play.TheVariants as play
use Rattle.st_values.specs.Program.{Program}
use Rattle.st_values.specs.Value.{Store}
use Rattle.st_values.specs.View.{program_of}
use Rattle.st_change.specs.OneThread.{Controller, One, Steps}
use Rattle.region_instances.specs.Instances.{RegionsUnfold}
use Rattle.reference_journal.specs.Private.Versions.{state_of}
use Rattle.reference_journal.specs.declared.next.Version.{Version}
use Rattle.reference_journal.specs.declared.playing.Step.{Step}
use Rattle.reference_journal.specs.declared.playing.Step.TheVariants as step

-- a play is a change to the source of this number
pub record IsChangeTo (p : Play) (source : ℕ) : Type 0 where
  pub name : List ℕ
  pub is : p ≡ play.Change name source

-- ---- one play

abbrev pub StepUnfolds : Step → Type 0
StepUnfolds (step.Answered a) = Unit {0}
StepUnfolds (step.Loaded v) = RegionsUnfold (program_of v.program)

abbrev pub NextsUnfold : Option Version → Type 0
NextsUnfold None = Unit {0}
NextsUnfold (Some v) = RegionsUnfold (program_of v.program)

-- the entry of a step stands behind the others, and this is the program that it loaded
abbrev pub Enters : ℕ → ℕ → Step → Option Version → List Entry → List Entry → Type 0
Enters version number (step.Answered a) next before after = (after ≡ before ++ record { version = version; play = number; answer = a } ∷ []) × (next ≡ None)
Enters version number (step.Loaded v) next before after = (after ≡ before ++ record { version = version; play = number; answer = answer.Loaded v.state.version } ∷ []) × (next ≡ Some v)

-- the state with a program that is loaded, or else this one
abbrev pub behind : Option Version → Controller → Controller
behind None c = c
behind (Some v) c = state_of v.program v.state

-- ---- all plays

-- the plays of the entries are numbered from 1
abbrev pub AreNumbered : List Entry → Type 0
AreNumbered entries = map (λ e. e.play) entries ≡ range_with_len 1 (length entries)

-- the version that is loaded first: no task is held and none is gone
abbrev pub first : Program → Store → Controller
first p s = record { version = 1; program = p; store = s; held = []; gone = [] }

module _ (Accepts : List ℕ → Program → Type 0) (Refuses : List ℕ → Refusal → Type 0) (sources : List (List ℕ)) where
  -- what a play did is a step
  abbrev pub StepOf : Controller → Play → Step → Controller → Type 0
  StepOf c p (step.Answered a) end = One Accepts Refuses sources c p a end
  StepOf c p (step.Loaded v) end = One Accepts Refuses sources c p (answer.Loaded v.state.version) (state_of v.program v.state)

  -- entries that lead from a first state to one become entries that lead from there to another
  pub record RunsOn (plays : List Play) (before : List Entry) (c : Controller) (after : List Entry) (end : Controller) : Type 0 where
    pub steps : (first_state : Controller) → Steps Accepts Refuses sources plays first_state before c → Steps Accepts Refuses sources plays first_state after end
    pub numbers : AreNumbered before → AreNumbered after
    pub within : length before ≤ length plays → length after ≤ length plays

  -- the entries are steps from this state on, each play once and in order
  pub record RunsFrom (c : Controller) (plays : List Play) (entries : List Entry) : Type 0 where
    pub end : Controller
    pub steps : Steps Accepts Refuses sources plays c entries end
    pub numbers : AreNumbered entries
    pub whole : length entries ≡ length plays
