use Rattle.std.proofs.Common.{◌≡◌, ◌≤◌, ◌<◌, ℕ, List, Some, length}
use Rattle.std.specs.Prelude.{slice_get}
use Rattle.stack_code.specs.declared.op.Kind.{Kind}
use Rattle.code_cells.proofs.whole.room.Given as goal

abbrev pub invariant-loop-ks : goal.invariant-loop-ks
invariant-loop-ks l = (n : ℕ) (ks : List Kind) → n < l.ks-index → slice_get l.kinds n ≡ Some (Some ks) → length ks ≤ l.most
