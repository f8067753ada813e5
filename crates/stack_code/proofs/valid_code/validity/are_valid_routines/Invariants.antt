use Rattle.std.proofs.Common.{◌≡◌, ◌<◌, ℕ}
use Rattle.std.specs.Prelude.{Some, slice_get}
use Rattle.stack_code.specs.declared.code.RoutineCode.{RoutineCode}
use Rattle.stack_code.specs.Validity.{IsValidRoutine}
use Rattle.stack_code.specs.valid_code.Private.Entered.{IsKnown}
use Rattle.stack_code.proofs.valid_code.validity.are_valid_routines.Given as goal

abbrev pub invariant-numbers : goal.invariant-numbers
invariant-numbers l = IsKnown l.code l.entered × ((k : ℕ) → k < l.k → (r : RoutineCode) → slice_get l.code.routines k ≡ Some r → IsValidRoutine l.code r)
