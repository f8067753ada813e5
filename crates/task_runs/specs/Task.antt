-- The runs of a task's bodies on the machine, one after another.
use Rattle.std.specs.Prelude.{◌≡◌, ℕ, Bool, true, false, List, [], ◌∷◌, length, Option, slice_get}
use Rattle.st_rules.specs.Chains.{is_among}
use Rattle.plc_text.specs.declared.fault.Fault.{Fault as FaultAt}
use Rattle.st_values.specs.Program.{Program}
use Rattle.st_values.specs.Shape.{region_shape}
use Rattle.st_meaning.specs.State as meaning
use Rattle.stack_code.specs.declared.code.MachineCode.{MachineCode}
use Rattle.stack_code.specs.declared.machine.Outcome.{Outcome}
use Rattle.stack_code.specs.declared.memory.Address.{Address}
use Rattle.stack_code.specs.Machine.{Gives, hook, machine}
use Rattle.stack_code.specs.declared.machine.Outcome.TheVariants as outcome
use Rattle.mem_layout.specs.store_bytes.Spells.{Shows}

-- Each entry runs with the ticks and the regions that the one before leaves; a fault ends all.
pub data BodiesRun (code : MachineCode) (now : ℕ) : List ℕ → List (Option (List ℕ)) → ℕ → Outcome → List (Option (List ℕ)) → Type 0 where
  all_done : {regions : List (Option (List ℕ))} {ticks : ℕ} → BodiesRun code now [] regions ticks (outcome.Done ticks) regions
  one_done : {entry ticks n : ℕ} {entries : List ℕ} {regions left out : List (Option (List ℕ))} {o : Outcome} → Gives (machine code regions entry now ticks) (outcome.Done n) left → BodiesRun code now entries left n o out → BodiesRun code now (entry ∷ entries) regions ticks o out
  one_faults : {entry ticks : ℕ} {entries : List ℕ} {regions left : List (Option (List ℕ))} {f : FaultAt} → Gives (machine code regions entry now ticks) (outcome.Fault f) left → BodiesRun code now (entry ∷ entries) regions ticks (outcome.Fault f) left

-- a run of the machine ends as the meaning says: with its ticks and regions that show its store, or with its fault
abbrev pub EndsAs : {A : Type 0} → (Outcome → List (Option (List ℕ)) → Type 0) → Program → (ℕ → Bool) → meaning.Outcome A → Type 0
EndsAs ends p is_there (meaning.Done a t) = (left : List (Option (List ℕ))) × ends (outcome.Done t.ticks) left × Shows (region_shape p) is_there left t.store
EndsAs ends p is_there (meaning.Fault kind line) = (left : List (Option (List ℕ))) × ends (outcome.Fault (record { kind = kind; line = line })) left

-- regions that are not listed stay as they are
pub record OthersStay (fs : List ℕ) (before after : List (Option (List ℕ))) : Type 0 where
  pub long : length after ≡ length before
  pub stay : (r : ℕ) → is_among r fs ≡ false → slice_get after r ≡ slice_get before r

-- a task's programs have run as the program means: of images after a fault nothing is known
abbrev pub TaskCame : {A : Type 0} → Program → List ℕ → List (Option (List ℕ)) → Outcome → List (Option (List ℕ)) → meaning.Outcome A → Type 0
TaskCame p fs before o after (meaning.Done a t) = (o ≡ outcome.Done t.ticks) × Shows (region_shape p) (λ r. is_among r fs) after t.store × OthersStay fs before after
TaskCame p fs before o after (meaning.Fault kind line) = o ≡ outcome.Fault (record { kind = kind; line = line })

pub record TaskRuns {A : Type 0} (p : Program) (code : MachineCode) (now ticks : ℕ) (entries fs : List ℕ) (before : List (Option (List ℕ))) (meant : meaning.Outcome A) : Type 0 where
  pub outcome_is : Outcome
  pub after : List (Option (List ℕ))
  pub runs : BodiesRun code now entries before ticks outcome_is after
  pub came : TaskCame p fs before outcome_is after meant

-- a hook has run as the program means
abbrev pub HookCame : {A : Type 0} → Program → List (Option (List ℕ)) → Outcome → List (Option (List ℕ)) → meaning.Outcome A → Type 0
HookCame p before o after (meaning.Done a t) = (o ≡ outcome.Done t.ticks) × Shows (region_shape p) (λ r. true) after t.store × (length after ≡ length before)
HookCame p before o after (meaning.Fault kind line) = (o ≡ outcome.Fault (record { kind = kind; line = line })) × (length after ≡ length before)

pub record HookRuns {A : Type 0} (p : Program) (code : MachineCode) (routine : ℕ) (own : Address) (first second : Bool) (ticks : ℕ) (before : List (Option (List ℕ))) (meant : meaning.Outcome A) : Type 0 where
  pub outcome_is : Outcome
  pub after : List (Option (List ℕ))
  pub runs : Gives (hook code before routine own first second ticks) outcome_is after
  pub came : HookCame p before outcome_is after meant
