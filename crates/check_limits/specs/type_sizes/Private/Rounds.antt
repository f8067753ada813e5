-- Sizes by number, as one level makes the next.
use Rattle.std.specs.Prelude.{ℕ, suc, List, flat_map, Option, Some, None}
use Rattle.st_types.specs.declared.st_type.StType.TheVariants as type
use Rattle.st_rules.specs.Scope.{Scope}
use Rattle.declared_symbols.specs.declared.class_chains.cells.Cell.{Cell}
use Rattle.declared_symbols.specs.class_chains.Cells.{Lists}
use Rattle.check_limits.specs.declared.type_sizes.size.Size.{Size}
use Rattle.check_limits.specs.type_sizes.Size.{nothing, both, structure, instance}
use Rattle.check_limits.specs.type_sizes.Levels.{IsSize, Tells, size_or, own_kinds}

abbrev pub size_there : List Size → ℕ → Size
size_there sizes k = size_or sizes k nothing

abbrev pub total_behind : List Size → Option ℕ → Size
total_behind totals None = nothing
total_behind totals (Some i) = size_there totals i

abbrev pub total_at : List Size → List Size → Cell → Size
total_at own totals cell = both (size_there own cell.class) (total_behind totals cell.behind)

abbrev pub instance_from : List Size → ℕ → Size
instance_from totals i = instance (size_there totals i)

pub record AreStructures (s : Scope) (r : ℕ) (sizes : List Size) : Type 0 where
  pub each : (k : ℕ) → IsSize s (suc r) (size_or sizes k (structure nothing)) (type.Structure k)

-- what each class has by itself
pub record AreOwn (s : Scope) (r : ℕ) (sizes : List Size) : Type 0 where
  pub each : (b : ℕ) → Tells s r (size_there sizes b) (own_kinds s b)

-- what the classes from a cell on have together
pub record AreTotals (s : Scope) (r : ℕ) (cells : List Cell) (totals : List Size) : Type 0 where
  pub each : (i : ℕ) (xs : List ℕ) → Lists cells (Some i) xs → Tells s r (size_there totals i) (flat_map (own_kinds s) xs)
