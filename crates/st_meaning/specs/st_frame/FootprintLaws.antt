-- Laws of footprints.
use Rattle.std.specs.Prelude.{◌≡◌, ℕ, List}
use Rattle.st_values.specs.Program.{Program}
use Rattle.st_values.specs.Value.{Store}
use Rattle.st_meaning.specs.Cycle.{cycle}
use Rattle.st_meaning.specs.st_frame.Footprint.{Footprint, Writes, IsFootprint}

pub record FootprintLaws : Type 0 where
  -- what is written is in the footprint
  pub writes_read : (p : Program) (task r : ℕ) → Writes p task r → Footprint p task r
  -- a cycle does not hang on how the footprint is listed
  pub one_cycle : (p : Program) (task : ℕ) (fs gs : List ℕ) (now : ℕ) (input : List ℕ) (s : Store) → IsFootprint p task fs → IsFootprint p task gs → cycle p fs task now input s ≡ cycle p gs task now input s
