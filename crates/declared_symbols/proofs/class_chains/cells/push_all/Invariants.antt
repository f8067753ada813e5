use Rattle.std.proofs.Common.{◌≡◌, ◌++◌, ℕ, List, length}
use Rattle.declared_symbols.specs.class_chains.Cells.{Lists}
use Rattle.declared_symbols.specs.class_chains.Private.Grows.{Grows}
use Rattle.declared_symbols.proofs.class_chains.cells.push_all.Given as goal

abbrev pub invariant-classes : goal.invariant-classes
invariant-classes l = record {
  grows : Grows l.initial.cells.items l.cells.items;
  done : (xs : List ℕ) × (Lists l.cells.items l.first xs × (l.left ++ xs ≡ l.classes));
}

abbrev pub decreases-classes : goal.decreases-classes
decreases-classes l = length l.left
