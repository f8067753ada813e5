-- Structures with what their fields are worth where nothing is given.
use Rattle.std.specs.Prelude.{ℕ, List}
use Rattle.st_tree.specs.declared.declaration.TypeDecl.{TypeDecl}
use Rattle.st_rules.specs.Scope.{Scope}
use Rattle.default_values.specs.declared.worth_numbers.node.Node.{Node}
use Rattle.default_values.specs.worth_numbers.Numbers.{Grows}
use Rattle.default_values.specs.declared.initial_worths.structures.Structure.{Structure}
use Rattle.default_values.specs.initial_worths.Structures.{AreStructures}
use Rattle.default_values.specs.declared.structure_worths.unweighed.DeclaredStructure.{DeclaredStructure}
use Rattle.default_values.specs.structure_worths.Unweighed.{AreDeclared}

-- the structures of a unit as they are declared, and with all worths
pub record WeighsAll (old new : List Node) (unit : Scope) (declared : List DeclaredStructure) (weighed : List Structure) : Type 0 where
  pub grows : Grows old new
  pub structures : (entries : List (TypeDecl ℕ)) → AreDeclared unit entries declared → AreStructures new unit entries 66 weighed
