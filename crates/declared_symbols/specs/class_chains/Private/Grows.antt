-- Cells that grow.
use Rattle.std.specs.Prelude.{ℕ, List, Option}
use Rattle.declared_symbols.specs.declared.class_chains.cells.Cell.{Cell}
use Rattle.declared_symbols.specs.class_chains.Cells.{Lists}

-- each list stays
pub record Grows (cells more : List Cell) : Type 0 where
  pub stays : (o : Option ℕ) (xs : List ℕ) → Lists cells o xs → Lists more o xs
