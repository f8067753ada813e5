use Rattle.std.proofs.Common.{◌≡◌, ◌≤◌, ◌<◌, ◌-◌, ℕ, Some, length}
use Rattle.std.specs.Prelude.{slice_get}
use Rattle.mem_layout.specs.declared.sizes.Field.{Field}
use Rattle.mem_layout.specs.Private.Way.{AreRising}
use Rattle.mem_layout.proofs.ways.fields_before.Given as goal

abbrev pub invariant-halves : goal.invariant-halves
invariant-halves l =
    record {
      order : l.low ≤ l.high;
      within : l.high ≤ length l.rows;
      few : AreRising l.rows → (k : ℕ) (a : Field) → k < l.low → slice_get l.rows k ≡ Some a → a.offset ≤ l.left;
      others : AreRising l.rows → (k : ℕ) (a : Field) → l.high ≤ k → slice_get l.rows k ≡ Some a → l.left < a.offset;
    }

abbrev pub decreases-halves : goal.decreases-halves
decreases-halves l = l.high - l.low
