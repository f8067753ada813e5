-- Runs on one thread whose phases are disjoint.
use Rattle.std.specs.Prelude.{◌≡◌, ℕ, List, [], ◌∷◌, ◌++◌, Some, ◌⊎◌}
use Rattle.plc_text.specs.declared.refusal.Refusal.{Refusal}
use Rattle.std.specs.List.{filter}
use Rattle.cycle_journal.specs.Interleaving.{Phase, Lane, Interleaves, IsPhase, numbers_of}
use Rattle.cycle_journal.specs.Summary.{summary}
use Rattle.cycle_journal.specs.declared.entry.Entry.{Entry}
use Rattle.cycle_journal.specs.declared.play.Play.{Play}
use Rattle.st_values.specs.Program.{Program}
use Rattle.st_meaning.specs.st_frame.Footprint.{Footprint, Writes}
use Rattle.st_values.specs.Value.{Store}
use Rattle.st_change.specs.Hook.{ran}
use Rattle.st_change.specs.Change.{start}
use Rattle.st_change.specs.OneThread.{Controller, task_named, is_held, Steps, OneThread}
use Rattle.serial_laws.specs.Disjoint.{Cycles, HasNoChange, IsOneChange, NoneWanted, AreTimely, entry_in}

-- the same but for the order in which the tasks are held
pub record AreAlike (c d : Controller) : Type 0 where
  pub held : List (List ℕ)
  pub is : d ≡ record c { held = held }
  pub same : (n : List ℕ) → is_held c.held n ≡ is_held held n

module _ (plays : List Play) where
  -- of the different tasks that the phase's cycles name, none writes a region of another's footprint
  abbrev pub AreApart : Program → Phase → Type 0
  AreApart p phase =
      (a b : List ℕ) (t u r : ℕ) → Cycles plays phase a → Cycles plays phase b → (a ≡ b → ⊥) → task_named p a ≡ Some t → task_named p b ≡ Some u → Writes p t r → Footprint p u r → ⊥

  abbrev pub IsDisjointPhase : Program → Phase → Type 0
  IsDisjointPhase p phase = IsOneChange plays phase ⊎ (HasNoChange plays phase × AreApart p phase)

  module _ (Accepts : List ℕ → Program → Type 0) (Refuses : List ℕ → Refusal → Type 0) (sources : List (List ℕ)) where
    -- the entries are steps of the phases, one after the other, each disjoint in the version then loaded
    abbrev pub DisjointSteps : List Phase → Controller → List Entry → Controller → Type 0
    DisjointSteps [] c es d = (es ≡ []) × (c ≡ d)
    DisjointSteps (phase ∷ phases) c es d =
        (front : List Entry) × (back : List Entry) × (mid : Controller) × (es ≡ front ++ back) × IsPhase plays phase (numbers_of front) × Steps Accepts Refuses sources plays c front mid
        × IsDisjointPhase c.program phase × DisjointSteps phases mid back d

    abbrev pub first : Program → Store → Controller
    first p s = record { version = 1; program = p; store = s; held = []; gone = [] }

    -- each phase is disjoint in the version that is loaded where it begins
    abbrev pub AreDisjoint : List Phase → Controller → List Entry → Type 0
    AreDisjoint [] c es = Unit {0}
    AreDisjoint (phase ∷ phases) c es =
        IsDisjointPhase c.program phase
        × ((front back : List Entry) (mid : Controller) → es ≡ front ++ back → IsPhase plays phase (numbers_of front) → Steps Accepts Refuses sources plays c front mid → AreDisjoint phases mid back)

    -- a run on one thread whose phases are disjoint
    pub record DisjointThread (text : List ℕ) (phases : List Phase) (entries : List Entry) : Type 0 where
      pub program : Program
      pub accepted : Accepts text program
      pub store : Store
      pub ticks : ℕ
      pub started : start program ≡ ran store ticks
      pub end : Controller
      pub steps : DisjointSteps phases (first program store) entries end

-- What texts are accepted, as which program, and with what they are refused.
module _ (Accepts : List ℕ → Program → Type 0) (Refuses : List ℕ → Refusal → Type 0) where
  -- Of a run on one thread that interleaves the phases, and one whose phases are disjoint, neither with a change that found no memory.
  pub record SerialThreads : Type 0 where
    pub serial : (sources : List (List ℕ)) (text : List ℕ) (plays : List Play) (phases : List Phase) (es fs : List Entry) → AreTimely plays → (j : OneThread Accepts Refuses sources text plays es) → Interleaves plays phases es
        → (k : DisjointThread plays Accepts Refuses sources text phases fs) → NoneWanted es → NoneWanted fs → AreAlike j.end k.end × ((l : Lane) → filter (entry_in plays l) es ≡ filter (entry_in plays l) fs)
    pub summaries : (sources : List (List ℕ)) (n : ℕ) (text : List ℕ) (plays : List Play) (phases : List Phase) (es fs : List Entry) → AreTimely plays → OneThread Accepts Refuses sources text plays es → Interleaves plays phases es
        → DisjointThread plays Accepts Refuses sources text phases fs → NoneWanted es → NoneWanted fs → summary n plays es ≡ summary n plays fs
    -- a run on one thread is one whose phases are disjoint, where they are
    pub disjoint : (sources : List (List ℕ)) (text : List ℕ) (plays : List Play) (phases : List Phase) (fs : List Entry) (k : OneThread Accepts Refuses sources text plays fs) → Interleaves plays phases fs
        → AreDisjoint plays Accepts Refuses sources phases (first plays Accepts Refuses sources k.program k.store) fs → DisjointThread plays Accepts Refuses sources text phases fs
    -- and one whose phases are disjoint is a run on one thread, which interleaves them
    pub thread : (sources : List (List ℕ)) (text : List ℕ) (plays : List Play) (phases : List Phase) (fs : List Entry) → DisjointThread plays Accepts Refuses sources text phases fs → OneThread Accepts Refuses sources text plays fs × Interleaves plays phases fs
