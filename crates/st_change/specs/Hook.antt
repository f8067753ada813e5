-- The hooks of instances: which are called, in which order, and what they do.
use Rattle.std.specs.Prelude.{ℕ, Bool, not, if◌then◌else◌, List, [], ◌∷◌, ◌++◌, reverse, codes, Option, Some, None, is_some}
use Rattle.plc_text.specs.declared.fault.FaultKind.{FaultKind}
use Rattle.st_values.specs.Program.{Parameter, Class, Routine, Program, class_at, chain_of, own_method}
use Rattle.st_values.specs.Value.{Path, Store}
use Rattle.st_meaning.specs.State.{Frame, Outcome, Done, Fault, Run, ◌>>◌, spend}
use Rattle.st_meaning.specs.Operation.{truth}
use Rattle.st_meaning.specs.Call.{Given, given_value}
use Rattle.st_meaning.specs.Enter.{most_calls, enter}
use Rattle.st_change.specs.Instances.{Member}

pub data When : Type 0 where
  at_init at_exit at_reinit : When

abbrev pub hook_name : When → List ℕ
hook_name at_init = codes "FB_INIT"
hook_name at_exit = codes "FB_EXIT"
hook_name at_reinit = codes "FB_REINIT"

-- a hook of an instance: the class that declares it, and the values of its inputs
pub record Hook : Type 0 where
  pub path : Path
  pub class : ℕ
  pub when : When
  pub flags : List Bool

-- ---- the hooks of one instance

abbrev pub declares_hook : Program → When → ℕ → Bool
declares_hook p w c = is_some (own_method p (hook_name w) c)

-- of the classes that declare one, in this order
abbrev pub hooks_along : Program → When → Path → List Bool → List ℕ → List Hook
hooks_along p w q flags [] = []
hooks_along p w q flags (c ∷ cs) = (if declares_hook p w c then record { path = q; class = c; when = w; flags = flags } ∷ [] else []) ++ hooks_along p w q flags cs

abbrev pub chain : Program → ℕ → List ℕ
chain p c = chain_of (class_at p c)

-- base first
abbrev pub init_hooks : Program → List Bool → Member → List Hook
init_hooks p flags m = hooks_along p at_init m.path flags (reverse (chain p m.class))

-- derived first
abbrev pub exit_hooks : Program → List Bool → Member → List Hook
exit_hooks p flags m = hooks_along p at_exit m.path flags (chain p m.class)

abbrev pub first_only : List Hook → List Hook
first_only [] = []
first_only (h ∷ hs) = h ∷ []

-- the nearest alone
abbrev pub reinit_hooks : Program → Member → List Hook
reinit_hooks p m = first_only (hooks_along p at_reinit m.path [] (chain p m.class))

-- FB_init(bInitRetains, bInCopyCode)
abbrev pub init_flags : Bool → List Bool
init_flags copied = not copied ∷ copied ∷ []

-- ---- what hooks do

-- a store and the ticks left, or a fault with the class that declares the hook
pub data Ran : Type 0 where
  ran : Store → ℕ → Ran
  stopped : List ℕ → FaultKind → ℕ → Ran

abbrev pub go_on : Ran → (Store → ℕ → Ran) → Ran
go_on (ran s n) f = f s n
go_on (stopped class kind line) f = stopped class kind line

abbrev pub routine_of : Program → Hook → Option Routine
routine_of p h = own_method p (hook_name h.when) h.class

-- the inputs in order
abbrev pub given_flags : List Parameter → List Bool → List Given
given_flags [] flags = []
given_flags (q ∷ qs) [] = []
given_flags (q ∷ qs) (b ∷ bs) = given_value q.to (truth b) ∷ given_flags qs bs

-- A tick, and the call, which is the first open one.
abbrev pub hook_run : Program → Hook → Routine → Run Frame
hook_run p h r = spend >> enter p most_calls r (Some h.path) (given_flags r.parameters h.flags)

abbrev pub class_name : Program → ℕ → List ℕ
class_name p c = name_of (class_at p c)
  where
    name_of : Option Class → List ℕ
    name_of None = []
    name_of (Some k) = k.name

abbrev pub hooked : List ℕ → Outcome Frame → Ran
hooked class (Done f s) = ran s.store s.ticks
hooked class (Fault kind line) = stopped class kind line

-- a hook being entered has the line of its METHOD, and the moment is 0
abbrev pub run_hook : Program → Hook → Option Routine → Store → ℕ → Ran
run_hook p h None s n = ran s n
run_hook p h (Some r) s n = hooked (class_name p h.class) (hook_run p h r r.line (record { store = s; frames = []; ticks = n; now = 0 }))

abbrev pub run_hooks : Program → List Hook → Store → ℕ → Ran
run_hooks p [] s n = ran s n
run_hooks p (h ∷ hs) s n = go_on (run_hook p h (routine_of p h) s n) (run_hooks p hs)
