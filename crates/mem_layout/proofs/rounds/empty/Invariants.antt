use Rattle.std.proofs.Common.{◌≡◌, ◌≢◌, ℕ, Some, length}
use Rattle.std.specs.Prelude.{slice_get}
use Rattle.mem_layout.specs.declared.sizes.Entry.{Entry}
use Rattle.mem_layout.proofs.rounds.empty.Given as goal

abbrev pub invariant-loop-k : goal.invariant-loop-k
invariant-loop-k l = record { long : length l.all ≡ l._k; none : (k : ℕ) (e : Entry) → slice_get l.all k ≢ Some (Some e) }
