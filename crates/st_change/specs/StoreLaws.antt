-- Stores stay good: after a first load, after a change with its hooks, and after each play.
use Rattle.std.specs.Prelude.{◌≡◌, ◌≤◌, ℕ, true, false, List, length, Some, slice_get}
use Rattle.plc_text.specs.declared.refusal.Refusal.{Refusal}
use Rattle.cycle_journal.specs.declared.entry.Answer.{Answer}
use Rattle.cycle_journal.specs.declared.play.Play.{Play}
use Rattle.cycle_journal.specs.declared.play.Play.TheVariants as play
use Rattle.st_types.specs.declared.st_type.StType.TheVariants as type
use Rattle.st_values.specs.Program.{Variable, to_local, Parameter, Routine, Program, own_method}
use Rattle.st_values.specs.Value.{Store}
use Rattle.st_meaning.specs.Call.{is_in_out}
use Rattle.st_meaning.specs.st_frame.Good.{Names, Good}
use Rattle.st_meaning.specs.st_frame.Promise.Types.{IsBool}
use Rattle.st_meaning.specs.st_frame.Promise.Declarations.{Each, RoutineIs}
use Rattle.st_meaning.specs.st_frame.Promise.Programs.{ProgramIs}
use Rattle.st_meaning.specs.st_frame.FrameLaws.{last_moment}
use Rattle.st_change.specs.Instances.{members_first, of_regions}
use Rattle.st_change.specs.Hook.{When, at_init, at_exit, at_reinit, Hook, hook_name, routine_of, ran}
use Rattle.st_change.specs.Change as change
use Rattle.st_change.specs.OneThread.{Controller, One}

-- a parameter of a hook is an input of the type BOOL
abbrev pub IsFlag : Routine → Parameter → Type 0
IsFlag r q = (n : ℕ) × (v : Variable) × (q.to ≡ to_local n) × (slice_get r.locals n ≡ Some v) × (is_in_out v.sort ≡ false) × IsBool v.kind

-- as many as a hook is given
abbrev pub hook_inputs : When → ℕ
hook_inputs at_init = 2
hook_inputs at_exit = 1
hook_inputs at_reinit = 0

-- what the checker promises of hooks
pub record HooksAre (p : Program) : Type 0 where
  pub by : (w : When) (c : ℕ) (r : Routine) → own_method p (hook_name w) c ≡ Some r → RoutineIs p r × (r.class ≡ Some c) × Each (IsFlag r) r.parameters × (length r.parameters ≡ hook_inputs w)

-- a hook is of an instance of the class that declares it, and has a routine
pub record IsHook (p : Program) (h : Hook) : Type 0 where
  pub names : Names p h.path (type.Instance h.class)
  pub routine : Routine
  pub there : routine_of p h ≡ Some routine

-- what it promises of all that it accepts
pub record Promises (Accepts : List ℕ → Program → Type 0) : Type 0 where
  pub program : (text : List ℕ) (p : Program) → Accepts text p → ProgramIs p
  pub hooks : (text : List ℕ) (p : Program) → Accepts text p → HooksAre p

-- a controller whose program is right and whose store is good
pub record IsGood (c : Controller) : Type 0 where
  pub program : ProgramIs c.program
  pub hooks : HooksAre c.program
  pub store : Good c.program c.store

-- moments have 32 bits
abbrev pub Timely : Play → Type 0
Timely (play.Cycle name now input) = now ≤ last_moment
Timely _ = Unit {0}

pub record StoreLaws : Type 0 where
  -- each hook of a first load and of a change is one of an instance
  pub starts : (p : Program) → Each (IsHook p) (change.first_inits p (of_regions p (λ r. true) members_first 0 p.regions))
  pub exits : (old new : Program) → Each (IsHook old) (change.exits old new (change.leaving old new))
  pub inits : (old new : Program) → Each (IsHook new) (change.inits old new (change.coming old new))
  pub reinits : (old new : Program) → Each (IsHook new) (change.reinits old new (change.coming old new))
  -- good stores
  pub start : (p : Program) (s : Store) (n : ℕ) → ProgramIs p → HooksAre p → change.start p ≡ ran s n → Good p s
  pub change : (old new : Program) (before s : Store) (n : ℕ) → ProgramIs old → ProgramIs new → HooksAre old → HooksAre new → Good old before → change.change old new before ≡ ran s n → Good new s

-- A play leaves a good program and store.
abbrev pub PlaysKeep : (List ℕ → Program → Type 0) → (List ℕ → Refusal → Type 0) → List (List ℕ) → Type 0
PlaysKeep Accepts Refuses sources = (c d : Controller) (p : Play) (a : Answer) → Timely p → One Accepts Refuses sources c p a d → IsGood c → IsGood d
