-- The regions that a task writes, as a list.
use Rattle.std.specs.Prelude.{ℕ, List}
use Rattle.st_values.specs.Program.{Program}
use Rattle.st_meaning.specs.st_frame.Footprint.{Has, Writes}

-- the list has what the task writes
pub record IsWritten (p : Program) (task : ℕ) (ws : List ℕ) : Type 0 where
  pub sound : (r : ℕ) → Has ws r → Writes p task r
  pub complete : (r : ℕ) → Writes p task r → Has ws r
