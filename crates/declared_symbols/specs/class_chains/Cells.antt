-- The lists of classes that cells make, and the chains among them.
use Rattle.std.specs.Prelude.{◌≡◌, ℕ, ◌+◌, ◌<◌, Bool, List, [], ◌∷◌, Option, Some, None, slice_get}
use Rattle.std.specs.List.{list_any}
use Rattle.st_tree.specs.declared.declaration.ClassDecl.{ClassDecl}
use Rattle.st_rules.specs.Classes.{chain}
use Rattle.declared_symbols.specs.declared.class_chains.cells.Cell.{Cell}

abbrev pub Precedes : Option ℕ → ℕ → Type 0
Precedes None i = Unit {0}
Precedes (Some j) i = j < i

-- the list from a cell on: its class, and the list behind it
pub data Lists (cells : List Cell) : Option ℕ → List ℕ → Type 0 where
  ended : Lists cells None []
  onward : (i : ℕ) (cell : Cell) (xs : List ℕ) → slice_get cells i ≡ Some cell → Precedes cell.behind i → Lists cells cell.behind xs → Lists cells (Some i) (cell.class ∷ xs)

abbrev pub total : (ℕ → ℕ) → List ℕ → ℕ
total f [] = 0
total f (x ∷ xs) = f x + total f xs

-- two lists of the same classes, maybe in another order
pub record SameClasses (xs ys : List ℕ) : Type 0 where
  pub totals : (f : ℕ → ℕ) → total f xs ≡ total f ys
  pub any : (test : ℕ → Bool) → list_any test xs ≡ list_any test ys

-- from the cell on stand the classes of the chain of a class
pub record HasChain (cells : List Cell) (classes : List (ClassDecl ℕ)) (c i : ℕ) : Type 0 where
  pub list : List ℕ
  pub lists : Lists cells (Some i) list
  pub same : SameClasses list (chain classes c)

-- each is the first cell of the chain of the class at its place
pub record AreChains (cells : List Cell) (classes : List (ClassDecl ℕ)) (firsts : List ℕ) : Type 0 where
  pub each : (c i : ℕ) → slice_get firsts c ≡ Some i → HasChain cells classes c i
