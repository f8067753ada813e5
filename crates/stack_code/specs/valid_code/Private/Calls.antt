-- What the routines that a call may enter have in common.
use Rattle.std.specs.Prelude.{◌≡◌, ◌+◌, ◌++◌, ◌⊎◌, ℕ, List, [], ◌∷◌, reverse, Option, Some, None, slice_get}
use Rattle.stack_code.specs.declared.op.Kind.{Kind}
use Rattle.stack_code.specs.declared.code.RoutineCode.{RoutineCode}
use Rattle.stack_code.specs.declared.code.MachineCode.{MachineCode}
use Rattle.stack_code.specs.declared.valid_code.calls.Common.{Common}
use Rattle.stack_code.specs.declared.valid_code.calls.Common.TheVariants.{Nobody, Like, Mixed}
use Rattle.stack_code.specs.Validity.{Leads}

abbrev pub IsAmong : ℕ → List ℕ → Type 0
IsAmong k [] = ⊥
IsAmong k (j ∷ js) = (k ≡ j) ⊎ IsAmong k js

abbrev pub SameSignature : RoutineCode → RoutineCode → Type 0
SameSignature a b = (a.args ≡ b.args) × (a.rets ≡ b.rets)

-- a routine among those
pub record IsEntered (code : MachineCode) (ks : List ℕ) (k : ℕ) (r : RoutineCode) : Type 0 where
  pub among : IsAmong k ks
  pub is : slice_get code.routines k ≡ Some r

-- two of them have different signatures
pub record Differ (code : MachineCode) (ks : List ℕ) : Type 0 where
  pub j : ℕ
  pub k : ℕ
  pub q : RoutineCode
  pub r : RoutineCode
  pub one : IsEntered code ks j q
  pub other : IsEntered code ks k r
  pub differ : SameSignature q r → ⊥

-- all have the signature of one of them
pub record AreLike (code : MachineCode) (ks : List ℕ) (k : ℕ) : Type 0 where
  pub r : RoutineCode
  pub one : IsEntered code ks k r
  pub all : (j : ℕ) (q : RoutineCode) → IsEntered code ks j q → SameSignature q r

abbrev pub Shares : MachineCode → List ℕ → Common → Type 0
Shares code ks Nobody = (k : ℕ) (r : RoutineCode) → IsEntered code ks k r → ⊥
Shares code ks (Like k) = AreLike code ks k
Shares code ks Mixed = Differ code ks

abbrev pub option_joined : Option (Option ℕ) → Option ℕ
option_joined None = None
option_joined (Some o) = o

abbrev pub slot_in : Option (List (Option ℕ)) → ℕ → Option ℕ
slot_in None s = None
slot_in (Some slots) s = option_joined (slice_get slots s)

-- the routine in the slot of the class, if there is one
abbrev pub in_slot_of : MachineCode → ℕ → ℕ → Option ℕ
in_slot_of code class s = slot_in (slice_get code.slots class) s

abbrev pub with_some : Option ℕ → List ℕ → List ℕ
with_some None ks = ks
with_some (Some k) ks = k ∷ ks

-- the routines in the slot of these classes
abbrev pub methods_of : MachineCode → List ℕ → ℕ → List ℕ
methods_of code [] s = []
methods_of code (class ∷ classes) s = with_some (in_slot_of code class s) (methods_of code classes s)

-- with the top last: the arguments are the routine's, and its results on what is below lead on
abbrev pub Enters : RoutineCode → ℕ → List Kind → List Kind → RoutineCode → Type 0
Enters r at below args routine = (args ≡ routine.args) × Leads r (Some (reverse (below ++ routine.rets))) (at + 1)
