-- Structures weighed in rounds: in each those that take one step of containment more.
use Rattle.std.specs.Prelude.{◌≡◌, ℕ, suc, ◌<◌, ◌≤◌, List, length, Option, Some, None, slice_get}
use Rattle.st_tree.specs.declared.declaration.TypeDecl.{TypeDecl}
use Rattle.st_rules.specs.Scope.{Scope}
use Rattle.default_values.specs.declared.worth_numbers.node.Node.{Node}
use Rattle.default_values.specs.worth_numbers.Numbers.{Grows}
use Rattle.default_values.specs.declared.initial_worths.structures.Structure.{Structure}
use Rattle.default_values.specs.initial_worths.Structures.{IsStructure, AreStructures}
use Rattle.default_values.specs.structure_worths.Private.Counted.{AreCounted}
use Rattle.default_values.specs.structure_worths.Private.Groups.{WeighsGroups}

-- a structure with its fields weighed, where they take just so many steps
abbrev pub IsWeighed : List Node → List Node → List Structure → Scope → ℕ → Structure → Option Structure → Type 0
IsWeighed old new structures unit below x None = x.steps ≡ suc below → ⊥
IsWeighed old new structures unit below x (Some y) = (x.steps ≡ suc below) × (y.steps ≡ x.steps) × WeighsGroups old new structures unit below x.groups.items y.groups.items

pub record WeighsOne (old new : List Node) (structures : List Structure) (unit : Scope) (below number : ℕ) (y : Option Structure) : Type 0 where
  pub grows : Grows old new
  pub one : (x : Structure) → slice_get structures number ≡ Some x → IsWeighed old new structures unit below x y

-- those whose fields take fewer steps are weighed, and of the first ones those whose fields take just so many
pub record IsRound (nodes : List Node) (unit : Scope) (entries : List (TypeDecl ℕ)) (below : ℕ) (xs : List Structure) (place : ℕ) : Type 0 where
  pub declared : AreCounted unit entries xs
  pub fewer : AreStructures nodes unit entries below xs
  pub first : (n : ℕ) (x : Structure) → n < place → slice_get xs n ≡ Some x → IsStructure nodes unit entries (suc below) n x

pub record TriesTo (old new : List Node) (unit : Scope) (below : ℕ) (xs : List Structure) (i : ℕ) (ys : List Structure) (j : ℕ) : Type 0 where
  pub grows : Grows old new
  pub long : length ys ≡ length xs
  pub round : (entries : List (TypeDecl ℕ)) → IsRound old unit entries below xs i → IsRound new unit entries below ys j

-- all rounds
pub record WeighsCounted (old new : List Node) (unit : Scope) (xs ys : List Structure) : Type 0 where
  pub grows : Grows old new
  pub long : length ys ≡ length xs
  pub structures : (entries : List (TypeDecl ℕ)) → AreCounted unit entries xs → AreStructures new unit entries 66 ys
