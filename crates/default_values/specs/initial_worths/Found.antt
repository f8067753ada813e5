-- What is found of initial values.
use Rattle.std.specs.Prelude.{ℕ, ◌≤◌, List, Option}
use Rattle.st_tree.specs.declared.declaration.TypeDecl.{TypeDecl}
use Rattle.st_rules.specs.Scope.{Scope}
use Rattle.st_unit_rules.specs.Worth.{Worth}
use Rattle.default_values.specs.declared.worth_numbers.node.Node.{Node}
use Rattle.default_values.specs.worth_numbers.Numbers.{Grows}
use Rattle.default_values.specs.declared.initial_worths.structures.Structure.{Structure}
use Rattle.default_values.specs.initial_worths.Structures.{IsTold, AreStructures}

-- the number of this worth, in every unit with these structures
pub record Finds (old new : List Node) (structures : List Structure) (steps : ℕ) (r : Option ℕ) (worth : Scope → List (TypeDecl ℕ) → Option Worth) : Type 0 where
  pub grows : Grows old new
  pub told : (unit : Scope) (entries : List (TypeDecl ℕ)) → AreStructures old unit entries steps structures → steps ≤ 66 → IsTold new r (worth unit entries)
