-- Chains that are known so far.
use Rattle.std.specs.Prelude.{◌≡◌, ℕ, List, Option, Some, slice_get}
use Rattle.st_tree.specs.declared.declaration.ClassDecl.{ClassDecl}
use Rattle.declared_symbols.specs.declared.class_chains.cells.Cell.{Cell}
use Rattle.declared_symbols.specs.class_chains.Cells.{HasChain}

pub record AreKnown (cells : List Cell) (classes : List (ClassDecl ℕ)) (firsts : List (Option ℕ)) : Type 0 where
  pub each : (c i : ℕ) → slice_get firsts c ≡ Some (Some i) → HasChain cells classes c i
