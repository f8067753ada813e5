-- Which code is valid: what the kinds of the operands tell before it runs.
use Rattle.std.specs.Prelude.{◌≡◌, ◌≢◌, ◌≤◌, ◌<◌, ◌⊎◌, ℕ, ◌+◌, ◌++◌, List, [], ◌∷◌, length, reverse, Bool, true, Option, Some, None, slice_get}
use Rattle.stack_code.specs.declared.memory.Address.{Address}
use Rattle.stack_code.specs.declared.memory.Word.{Word}
use Rattle.stack_code.specs.declared.memory.Word.TheVariants as word
use Rattle.stack_code.specs.declared.machine.Ending.{Ending}
use Rattle.stack_code.specs.declared.machine.Ending.TheVariants.{Broken}
use Rattle.stack_code.specs.declared.op.Kind.{Kind}
use Rattle.stack_code.specs.declared.op.Kind.TheVariants.{Num, Addr}
use Rattle.stack_code.specs.declared.op.Op.{Op}
use Rattle.stack_code.specs.declared.op.Op.TheVariants as op
use Rattle.stack_code.specs.declared.code.InterfaceTarget.{InterfaceTarget}
use Rattle.stack_code.specs.declared.code.MethodRoutine.{MethodRoutine}
use Rattle.stack_code.specs.declared.code.Body.{Body}
use Rattle.stack_code.specs.declared.code.RoutineCode.{RoutineCode}
use Rattle.stack_code.specs.declared.code.MachineCode.{MachineCode}
use Rattle.stack_code.specs.Steps.{Goes}
use Rattle.stack_code.specs.Machine.{in_slot, conforms, target_of, Result, Ends, machine, hook}

infixl 10 ◌>>=◌
abbrev pub ◌>>=◌ : {A B : Type 0} → Option A → (A → Option B) → Option B
◌>>=◌ None f = None
◌>>=◌ (Some a) f = f a

abbrev pub pop : Kind → List Kind → Option (List Kind)
pop Num (Num ∷ ks) = Some ks
pop Addr (Addr ∷ ks) = Some ks
pop _ _ = None

abbrev pub pop_any : List Kind → Option (List Kind)
pop_any [] = None
pop_any (k ∷ ks) = Some ks

-- the kind on top twice
abbrev pub doubled : List Kind → Option (List Kind)
doubled [] = None
doubled (k ∷ ks) = Some (k ∷ k ∷ ks)

-- a number for a number
abbrev pub after_one : List Kind → Option (List Kind)
after_one ks = do
  below ← pop Num ks
  Some (Num ∷ below)

-- a number for two
abbrev pub after_two : List Kind → Option (List Kind)
after_two ks = do
  numbers ← pop Num ks
  below ← pop Num numbers
  Some (Num ∷ below)

-- an address or a reference for one
abbrev pub after_address : List Kind → Option (List Kind)
after_address ks = do
  below ← pop Addr ks
  Some (Addr ∷ below)

-- what an instruction leaves, the top first, where it finds on top what it pops; calls, RET and END have rules of their own
abbrev pub after : Op → List Kind → Option (List Kind)
after (op.Push n) ks = Some (Num ∷ ks)
after op.Null ks = Some (Addr ∷ ks)
after op.Drop ks = do
  below ← pop_any ks
  Some below
after op.Dup ks = doubled ks
after (op.Local n) ks = Some (Addr ∷ ks)
after (op.This n) ks = Some (Addr ∷ ks)
after (op.Region r n) ks = Some (Addr ∷ ks)
after (op.Offset n) ks = after_address ks
after (op.Index lo hi size) ks = do
  addresses ← pop Num ks
  below ← pop Addr addresses
  Some (Addr ∷ below)
after op.Deref ks = after_address ks
after (op.Load e) ks = do
  below ← pop Addr ks
  Some (Num ∷ below)
after (op.Store e) ks = do
  numbers ← pop Addr ks
  below ← pop Num numbers
  Some below
after op.LoadRef ks = after_address ks
after op.StoreRef ks = do
  addresses ← pop Addr ks
  below ← pop Addr addresses
  Some below
after (op.Copy n) ks = do
  addresses ← pop Addr ks
  below ← pop Addr addresses
  Some below
after (op.Add e) ks = after_two ks
after (op.Sub e) ks = after_two ks
after (op.Mul e) ks = after_two ks
after (op.Div e) ks = after_two ks
after (op.Mod e) ks = after_two ks
after (op.Neg e) ks = after_one ks
after (op.AddC e) ks = do
  numbers ← pop Num ks
  below ← pop Num numbers
  Some (Num ∷ Num ∷ below)
after op.Eq ks = after_two ks
after op.Ne ks = after_two ks
after op.Lt ks = after_two ks
after op.Le ks = after_two ks
after op.Gt ks = after_two ks
after op.Ge ks = after_two ks
after op.Same ks = do
  references ← pop Addr ks
  below ← pop Addr references
  Some (Num ∷ below)
after (op.And e) ks = after_two ks
after (op.Or e) ks = after_two ks
after (op.Xor e) ks = after_two ks
after (op.Not e) ks = after_one ks
after (op.Conv e f) ks = after_one ks
after op.NoZero ks = after_one ks
after (op.Jump to) ks = Some ks
after (op.JumpF to) ks = do
  below ← pop Num ks
  Some below
after op.Tick ks = Some ks
after (op.Try target) ks = after_address ks
after op.Now ks = Some (Num ∷ ks)
after (op.Call k n) ks = None
after (op.CallM c s n) ks = None
after (op.CallI i m n) ks = None
after (op.Ret n) ks = None
after op.End ks = None

-- a list of the code, where there is one, with the top first
abbrev pub listed : Option (Option (List Kind)) → Option (List Kind)
listed None = None
listed (Some None) = None
listed (Some (Some ks)) = Some (reverse ks)

-- the operand kinds that an instruction finds
abbrev pub kinds_at : RoutineCode → ℕ → Option (List Kind)
kinds_at r at = listed (slice_get r.kinds at)

-- what is left is the list of the instruction there
pub record Leads (r : RoutineCode) (left : Option (List Kind)) (to : ℕ) : Type 0 where
  pub ks : List Kind
  pub leaves : left ≡ Some ks
  pub finds : kinds_at r to ≡ Some ks

-- a later instruction, or a TICK
abbrev pub IsForward : RoutineCode → ℕ → ℕ → Type 0
IsForward r at to = (at < to) ⊎ (slice_get r.ops to ≡ Some op.Tick)

-- a class that conforms to the target has the routine in the slot
abbrev pub MayEnterMethod : MachineCode → ℕ → ℕ → ℕ → Type 0
MayEnterMethod code target s k = (class : ℕ) × (conforms code class target ≡ true) × (in_slot code class s ≡ Goes k)

-- a class implements the method of the interface by the routine
abbrev pub MayEnterTarget : MachineCode → ℕ → ℕ → ℕ → Type 0
MayEnterTarget code i m k = (class : ℕ) × (target_of code i m class ≡ Goes k)

-- a call finds an address and above it n arguments of each routine that it may enter, and leaves that routine's results
pub record IsCall (code : MachineCode) (r : RoutineCode) (at n : ℕ) (ks : List Kind) (may : ℕ → Type 0) : Type 0 where
  pub args : List Kind
  pub below : List Kind
  pub finds : ks ≡ args ++ Addr ∷ below
  pub count : length args ≡ n
  pub enters : (k : ℕ) (routine : RoutineCode) → may k → slice_get code.routines k ≡ Some routine
      → (args ≡ reverse routine.args) × Leads r (Some (reverse routine.rets ++ below)) (at + 1)

-- the rule for an instruction with these kinds
abbrev pub IsFine : MachineCode → RoutineCode → ℕ → Op → List Kind → Type 0
IsFine code r at (op.Jump to) ks = Leads r (after (op.Jump to) ks) to × IsForward r at to
IsFine code r at (op.JumpF to) ks = Leads r (after (op.JumpF to) ks) to × Leads r (after (op.JumpF to) ks) (at + 1) × IsForward r at to
IsFine code r at (op.Ret n) ks = (ks ≡ reverse r.rets) × (n ≡ length ks)
IsFine code r at op.End ks = ks ≡ []
IsFine code r at (op.Call k n) ks = IsCall code r at n ks (λ j. j ≡ k)
IsFine code r at (op.CallM target s n) ks = IsCall code r at n ks (MayEnterMethod code target s)
IsFine code r at (op.CallI i m n) ks = IsCall code r at n ks (MayEnterTarget code i m)
IsFine code r at o ks = Leads r (after o ks) (at + 1)

pub record IsValidRoutine (code : MachineCode) (r : RoutineCode) : Type 0 where
  pub lists : length r.kinds ≡ length r.ops
  pub lines : length r.lines ≡ length r.ops
  pub start : kinds_at r 0 ≡ Some []
  pub room : (at : ℕ) (ks : List Kind) → kinds_at r at ≡ Some ks → length ks ≤ r.room
  pub each : (at : ℕ) (o : Op) (ks : List Kind) → slice_get r.ops at ≡ Some o → kinds_at r at ≡ Some ks → IsFine code r at o ks

pub record IsValid (code : MachineCode) : Type 0 where
  pub routines : (k : ℕ) (r : RoutineCode) → slice_get code.routines k ≡ Some r → IsValidRoutine code r
  -- each number of a routine is that of one
  pub calls : (j : ℕ) (r : RoutineCode) (at k n : ℕ) → slice_get code.routines j ≡ Some r → slice_get r.ops at ≡ Some (op.Call k n) → k < length code.routines
  pub slots : (class s k : ℕ) → in_slot code class s ≡ Goes k → k < length code.routines
  pub targets : (i : ℕ) (t : InterfaceTarget) → slice_get code.targets i ≡ Some t → t.routine < length code.routines
  pub bodies : (i : ℕ) (b : Body) → slice_get code.bodies i ≡ Some b → b.routine < length code.routines
  pub methods : (i : ℕ) (m : MethodRoutine) → slice_get code.methods i ≡ Some m → m.routine < length code.routines

abbrev pub kind_of : Word → Kind
kind_of (word.Number v) = Num
kind_of (word.Address a) = Addr
kind_of word.Null = Addr

-- how a run ends: never for want of an operand, of one of the right kind, or of an instruction
pub record Finishes (run : ℕ → Result) : Type 0 where
  pub count : ℕ
  pub ending : Ending
  pub left : List (Option (List ℕ))
  pub ends : run count ≡ Ends ending left
  pub sound : ending ≢ Broken

-- every run of a body ends so, and every hook
abbrev pub BodiesFinish : Type 0
BodiesFinish = (code : MachineCode) → IsValid code → (regions : List (Option (List ℕ))) (entry now ticks : ℕ) → Finishes (machine code regions entry now ticks)

abbrev pub HooksFinish : Type 0
HooksFinish = (code : MachineCode) → IsValid code → (regions : List (Option (List ℕ))) (k : ℕ) (own : Address) (first second : Bool) (ticks : ℕ) → Finishes (hook code regions k own first second ticks)
