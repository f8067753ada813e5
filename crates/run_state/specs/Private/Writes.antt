-- A value is put into a local.
use Rattle.std.specs.Prelude.{◌≡◌, ℕ, Bool, true, false, List, Option, Some, None}
use Rattle.st_tree.specs.declared.path.Step.{Step}
use Rattle.st_values.specs.Value.{Value, value_with, ◌>>=◌}
use Rattle.st_meaning.specs.State.{State, Run, Done, there, Slot, holds, Frame, frame_at, frame_value, held_in, with_local}

abbrev pub SlotPut : Bool → Slot → List Step → Value → Slot → Type 0
SlotPut true slot ss new after = (w : Value) × ((held_in slot >>= λ v. value_with v ss new) ≡ Some w) × (after ≡ holds w)
SlotPut false slot ss new after = (held_in slot >>= λ v. value_with v ss new) ≡ None

abbrev pub LocalPut : Bool → List Frame → ℕ → ℕ → List Step → Value → List Frame → Type 0
LocalPut true before d n ss new after = (w : Value) × ((frame_value (frame_at before d) n >>= λ v. value_with v ss new) ≡ Some w) × (after ≡ with_local before d n w (frame_at before d))
LocalPut false before d n ss new after = (frame_value (frame_at before d) n >>= λ v. value_with v ss new) ≡ None

-- the state that may be there
abbrev pub written : Option State → Run (Unit {0})
written None = there None
written (Some t) = λ line s. Done tt t
