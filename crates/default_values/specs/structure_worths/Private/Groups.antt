-- The fields of one structure, weighed within so many steps.
use Rattle.std.specs.Prelude.{◌≡◌, ℕ, ◌≤◌, List, map, Option, option_map}
use Rattle.st_types.specs.declared.st_type.StType.{StType}
use Rattle.st_tree.specs.declared.declaration.TypeDecl.{TypeDecl}
use Rattle.st_tree.specs.Initial.{initial_of}
use Rattle.st_rules.specs.Scope.{Scope}
use Rattle.st_unit_rules.specs.Worth.{typed_worth, worth_within}
use Rattle.default_values.specs.declared.worth_numbers.node.Node.{Node}
use Rattle.default_values.specs.worth_numbers.Numbers.{Grows}
use Rattle.default_values.specs.declared.initial_worths.structures.Group.{Group}
use Rattle.default_values.specs.declared.initial_worths.structures.Structure.{Structure}
use Rattle.default_values.specs.initial_worths.Structures.{IsTold, AreGroups, AreStructures}
use Rattle.default_values.specs.structure_worths.Unweighed.{AreKinds}

-- by the type that is noted for the group
pub record WeighsGroup (old new : List Node) (structures : List Structure) (unit : Scope) (steps : ℕ) (x : Group) (w : Option ℕ) : Type 0 where
  pub grows : Grows old new
  pub told : (entries : List (TypeDecl ℕ)) → AreStructures old unit entries steps structures → steps ≤ 66 → IsTold new w (typed_worth unit entries (worth_within unit entries steps) unit x.kind (option_map initial_of x.declared.now.initial))

pub record WeighsGroups (old new : List Node) (structures : List Structure) (unit : Scope) (steps : ℕ) (xs ys : List Group) : Type 0 where
  pub grows : Grows old new
  pub declared : map (λ g. g.declared.now) ys ≡ map (λ g. g.declared.now) xs
  pub kinds : AreKinds unit xs → AreKinds unit ys
  pub groups : (entries : List (TypeDecl ℕ)) → AreStructures old unit entries steps structures → steps ≤ 66 → AreKinds unit xs → AreGroups new unit entries steps ys
