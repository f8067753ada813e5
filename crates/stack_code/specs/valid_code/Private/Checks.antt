-- What the checks of a routine ask, place by place.
use Rattle.std.specs.Prelude.{◌≡◌, ◌+◌, ◌≤◌, ℕ, Bool, true, nat_lt, List, [], length, reverse, Option, Some, None, slice_get}
use Rattle.std.specs.List.{list_all}
use Rattle.stack_code.specs.declared.op.Kind.{Kind}
use Rattle.stack_code.specs.declared.op.Op.{Op}
use Rattle.stack_code.specs.declared.code.RoutineCode.{RoutineCode}
use Rattle.stack_code.specs.declared.code.MachineCode.{MachineCode}
use Rattle.stack_code.specs.declared.op.Op.TheVariants as op
use Rattle.stack_code.specs.declared.valid_code.rules.Flow.{Flow}
use Rattle.stack_code.specs.declared.valid_code.rules.Flow.TheVariants as flow
use Rattle.stack_code.specs.Validity.{kinds_at, after, Leads, IsForward, IsCall, MayEnterMethod, MayEnterTarget, IsFine, IsValidRoutine}

-- the list of an instruction is within the room, and its rule holds
abbrev pub IsFineAt : MachineCode → RoutineCode → ℕ → Type 0
IsFineAt code r at = (o : Op) (ks : List Kind) → slice_get r.ops at ≡ Some o → kinds_at r at ≡ Some ks → (length ks ≤ r.room) × IsFine code r at o ks

-- where a run goes behind an instruction
abbrev pub flow_of : Op → Flow
flow_of (op.Jump to) = flow.Jump to
flow_of (op.JumpF to) = flow.Branch to
flow_of (op.Ret n) = flow.Return n
flow_of op.End = flow.End
flow_of (op.Call k n) = flow.Routine k n
flow_of (op.CallM target s n) = flow.Method target s n
flow_of (op.CallI i m n) = flow.Interface i m n
flow_of _ = flow.Next

-- the rule by that
abbrev pub IsFineFlow : MachineCode → RoutineCode → ℕ → Op → List Kind → Flow → Type 0
IsFineFlow code r at o ks flow.Next = Leads r (after o ks) (at + 1)
IsFineFlow code r at o ks (flow.Jump to) = Leads r (after o ks) to × IsForward r at to
IsFineFlow code r at o ks (flow.Branch to) = Leads r (after o ks) to × Leads r (after o ks) (at + 1) × IsForward r at to
IsFineFlow code r at o ks (flow.Return n) = (ks ≡ reverse r.rets) × (n ≡ length ks)
IsFineFlow code r at o ks flow.End = ks ≡ []
IsFineFlow code r at o ks (flow.Routine k n) = IsCall code r at n ks (λ j. j ≡ k)
IsFineFlow code r at o ks (flow.Method target s n) = IsCall code r at n ks (MayEnterMethod code target s)
IsFineFlow code r at o ks (flow.Interface i m n) = IsCall code r at n ks (MayEnterTarget code i m)

abbrev pub AreValidRoutines : MachineCode → Type 0
AreValidRoutines code = (k : ℕ) (r : RoutineCode) → slice_get code.routines k ≡ Some r → IsValidRoutine code r

-- ---- numbers of routines

abbrev pub op_within : ℕ → Op → Bool
op_within count (op.Call k n) = nat_lt k count
op_within count _ = true

abbrev pub calls_within : ℕ → RoutineCode → Bool
calls_within count r = list_all (op_within count) r.ops

abbrev pub slot_within : ℕ → Option ℕ → Bool
slot_within count None = true
slot_within count (Some k) = nat_lt k count

abbrev pub slots_within : ℕ → List (Option ℕ) → Bool
slots_within count slots = list_all (slot_within count) slots

abbrev pub all_calls_within : ℕ → MachineCode → Bool
all_calls_within count code = list_all (calls_within count) code.routines

abbrev pub all_slots_within : ℕ → MachineCode → Bool
all_slots_within count code = list_all (slots_within count) code.slots

abbrev pub targets_within : ℕ → MachineCode → Bool
targets_within count code = list_all (λ t. nat_lt t.routine count) code.targets

abbrev pub bodies_within : ℕ → MachineCode → Bool
bodies_within count code = list_all (λ b. nat_lt b.routine count) code.bodies

abbrev pub methods_within : ℕ → MachineCode → Bool
methods_within count code = list_all (λ m. nat_lt m.routine count) code.methods

-- each number of a routine is below their number
pub record AreWithin (code : MachineCode) : Type 0 where
  pub calls : all_calls_within (length code.routines) code ≡ true
  pub slots : all_slots_within (length code.routines) code ≡ true
  pub targets : targets_within (length code.routines) code ≡ true
  pub bodies : bodies_within (length code.routines) code ≡ true
  pub methods : methods_within (length code.routines) code ≡ true
