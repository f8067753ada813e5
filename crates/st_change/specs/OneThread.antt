-- Runs on one thread: what each play is answered, and the state that it leaves.
use Rattle.std.specs.Prelude.{◌≡◌, ℕ, suc, ◌+◌, Bool, true, false, if◌then◌else◌, List, [], ◌∷◌, ◌++◌, Option, Some, None, refl, slice_get}
use Rattle.plc_text.specs.Words.{same}
use Rattle.plc_text.specs.declared.code.Code.TheVariants as code
use Rattle.plc_text.specs.declared.fault.FaultKind.{FaultKind}
use Rattle.plc_text.specs.declared.refusal.Refusal.{Refusal}
use Rattle.cycle_journal.specs.Play.{play_numbered}
use Rattle.cycle_journal.specs.declared.entry.Answer.{Answer}
use Rattle.cycle_journal.specs.declared.entry.Answer.TheVariants as answer
use Rattle.cycle_journal.specs.declared.entry.CycleReply.{CycleReply}
use Rattle.cycle_journal.specs.declared.entry.CycleReply.TheVariants as reply
use Rattle.cycle_journal.specs.declared.entry.Entry.{Entry}
use Rattle.cycle_journal.specs.declared.play.Play.{Play}
use Rattle.cycle_journal.specs.declared.play.Play.TheVariants as play
use Rattle.st_tree.specs.declared.program.TaskDecl.{TaskDecl}
use Rattle.st_values.specs.Program.{Program}
use Rattle.st_values.specs.Value.{Store}
use Rattle.st_meaning.specs.Cycle.{cycle}
use Rattle.st_meaning.specs.st_frame.Footprint.{IsFootprint}
use Rattle.st_change.specs.Hook.{ran, stopped}
use Rattle.st_change.specs.Change.{start, change}

-- ---- states

-- the version that is loaded, its program and store, the tasks that are held, and tasks that are gone with the version whose loading
-- removed them last
pub record Controller : Type 0 where
  pub version : ℕ
  pub program : Program
  pub store : Store
  pub held : List (List ℕ)
  pub gone : List (List ℕ × ℕ)

abbrev pub task_from : ℕ → List TaskDecl → List ℕ → Option ℕ
task_from t [] name = None
task_from t (d ∷ ds) name = if same d.name name then Some t else task_from (suc t) ds name

abbrev pub task_named : Program → List ℕ → Option ℕ
task_named p name = task_from 0 p.tasks name

abbrev pub is_held : List (List ℕ) → List ℕ → Bool
is_held [] name = false
is_held (n ∷ ns) name = if same n name then true else is_held ns name

abbrev pub released : List (List ℕ) → List ℕ → List (List ℕ)
released [] name = []
released (n ∷ ns) name = if same n name then released ns name else n ∷ released ns name

-- the version that removed the task, 0 where none did
abbrev pub since : List (List ℕ × ℕ) → List ℕ → ℕ
since [] name = 0
since (g ∷ gs) name = if same g.0 name then g.1 else since gs name

abbrev pub has_task : List TaskDecl → List ℕ → Bool
has_task [] name = false
has_task (d ∷ ds) name = if same d.name name then true else has_task ds name

-- those that a program does not have again
abbrev pub still_gone : Program → List (List ℕ × ℕ) → List (List ℕ × ℕ)
still_gone p [] = []
still_gone p (g ∷ gs) = if has_task p.tasks g.0 then still_gone p gs else g ∷ still_gone p gs

-- the tasks of a program that the next one lacks
abbrev pub removed : ℕ → Program → List TaskDecl → List (List ℕ × ℕ)
removed version next [] = []
removed version next (d ∷ ds) = if has_task next.tasks d.name then removed version next ds else (d.name, version) ∷ removed version next ds

abbrev pub loaded : Controller → Program → Store → Controller
loaded c p s = record {
  version = c.version + 1;
  program = p;
  store = s;
  held = [];
  gone = removed (c.version + 1) p c.program.tasks ++ still_gone p c.gone;
}

-- ---- steps

-- what a cycle answers, and the state behind it: a fault holds the task
abbrev pub cycle_answer : CycleReply → Answer
cycle_answer (reply.Done ticks outputs) = answer.Done ticks outputs
cycle_answer (reply.Fault fault) = answer.Fault fault

abbrev pub held_after : CycleReply → List ℕ → List (List ℕ) → List (List ℕ)
held_after (reply.Done ticks outputs) name held = held
held_after (reply.Fault fault) name held = name ∷ held

abbrev pub after_cycle : Controller → List ℕ → CycleReply × Store → Controller
after_cycle c name r = record c { store = r.1; held = held_after r.0 name c.held }

-- a refusal by a hook: it names the class that declares the hook
abbrev pub hook_refusal : List ℕ → FaultKind → ℕ → Refusal
hook_refusal class kind line = record { code = code.E17; declaration = class; line = line; kind = Some kind; kind_with_e17 = refl }

-- What texts are accepted, as which program, and with what they are refused.
module _ (Accepts : List ℕ → Program → Type 0) (Refuses : List ℕ → Refusal → Type 0) (sources : List (List ℕ)) where
  pub data One (c : Controller) : Play → Answer → Controller → Type 0 where
    cycle_without_task : {name : List ℕ} {now : ℕ} {input : List ℕ} → task_named c.program name ≡ None → One c (play.Cycle name now input) (answer.NoTask (since c.gone name)) c
    cycle_held : {name : List ℕ} {now : ℕ} {input : List ℕ} (t : ℕ) → task_named c.program name ≡ Some t → is_held c.held name ≡ true → One c (play.Cycle name now input) answer.Held c
    cycle_run : {name : List ℕ} {now : ℕ} {input : List ℕ} (t : ℕ) (fs : List ℕ) → task_named c.program name ≡ Some t → is_held c.held name ≡ false → IsFootprint c.program t fs
        → One c (play.Cycle name now input) (cycle_answer (cycle c.program fs t now input c.store).0) (after_cycle c name (cycle c.program fs t now input c.store))
    reset_without_task : {name : List ℕ} → task_named c.program name ≡ None → One c (play.Reset name) (answer.NoTask (since c.gone name)) c
    reset_done : {name : List ℕ} (t : ℕ) → task_named c.program name ≡ Some t → One c (play.Reset name) answer.Released (record c { held = released c.held name })
    change_loaded : {name : List ℕ} {source : ℕ} (text : List ℕ) (p : Program) (s : Store) (ticks : ℕ) → slice_get sources source ≡ Some text → Accepts text p → change c.program p c.store ≡ ran s ticks
        → One c (play.Change name source) (answer.Loaded (c.version + 1)) (loaded c p s)
    change_refused : {name : List ℕ} {source : ℕ} (text : List ℕ) (r : Refusal) → slice_get sources source ≡ Some text → Refuses text r → One c (play.Change name source) (answer.Refused r) c
    change_stopped : {name : List ℕ} {source : ℕ} (text : List ℕ) (p : Program) (class : List ℕ) (kind : FaultKind) (line : ℕ) → slice_get sources source ≡ Some text → Accepts text p
        → change c.program p c.store ≡ stopped class kind line → One c (play.Change name source) (answer.Refused (hook_refusal class kind line)) c
    -- the only free choice
    change_without_memory : {name : List ℕ} {source : ℕ} → One c (play.Change name source) answer.RefusedMemory c

  -- the entries, each with the version before its step
  abbrev pub Steps : List Play → Controller → List Entry → Controller → Type 0
  Steps plays c [] end = c ≡ end
  Steps plays c (e ∷ es) end =
      (p : Play) × (next : Controller) × (play_numbered plays e.play ≡ Some p) × (e.version ≡ c.version) × One c p e.answer next × Steps plays next es end

  -- The first program is accepted, its first load ends, and the entries are steps from there.
  pub record OneThread (text : List ℕ) (plays : List Play) (entries : List Entry) : Type 0 where
    pub program : Program
    pub accepted : Accepts text program
    pub store : Store
    pub ticks : ℕ
    pub started : start program ≡ ran store ticks
    pub end : Controller
    pub steps : Steps plays (record { version = 1; program = program; store = store; held = []; gone = [] }) entries end
