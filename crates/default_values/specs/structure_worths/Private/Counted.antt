-- Structures with the steps that they take, of which nothing need be weighed.
use Rattle.std.specs.Prelude.{◌≡◌, ℕ, ◌≤◌, List, [], ◌∷◌, map, flat_map, length, Option, Some, slice_get}
use Rattle.st_types.specs.declared.st_type.StType.{StType}
use Rattle.st_types.specs.declared.st_type.StType.TheVariants as type
use Rattle.st_tree.specs.declared.declaration.TypeDecl.{TypeDecl}
use Rattle.st_rules.specs.Scope.{Scope}
use Rattle.st_unit_rules.specs.Worth.{groups_of}
use Rattle.default_values.specs.worth_steps.Steps.{IsCount, AreCounts}
use Rattle.default_values.specs.declared.initial_worths.structures.Group.{Group}
use Rattle.default_values.specs.declared.initial_worths.structures.Structure.{Structure}
use Rattle.default_values.specs.declared.structure_worths.unweighed.DeclaredStructure.{DeclaredStructure}
use Rattle.default_values.specs.structure_worths.Unweighed.{AreKinds, AreDeclared}

-- the types of the fields that a group declares, as they are noted
abbrev pub kinds_of_group : Group → List (Option StType)
kinds_of_group g = map (λ n. g.kind) g.declared.now.names

abbrev pub kinds_of : DeclaredStructure → List (Option StType)
kinds_of x = flat_map kinds_of_group x.groups.items

module _ (unit : Scope) (entries : List (TypeDecl ℕ)) where
  pub record IsCounted (n : ℕ) (x : Structure) : Type 0 where
    pub steps : IsCount unit entries x.steps (type.Structure n)
    pub declared : map (λ g. g.declared.now) x.groups.items ≡ groups_of (slice_get entries n)
    pub kinds : AreKinds unit x.groups.items

  pub record AreCounted (xs : List Structure) : Type 0 where
    pub long : length entries ≤ length xs
    pub each : (n : ℕ) (x : Structure) → slice_get xs n ≡ Some x → IsCounted n x

-- a structure with the steps that are counted
pub record CountsOne (counts : List ℕ) (n : ℕ) (x : DeclaredStructure) (y : Structure) : Type 0 where
  pub groups : y.groups.items ≡ x.groups.items
  pub steps : (unit : Scope) (entries : List (TypeDecl ℕ)) → AreCounts unit entries counts → IsCount unit entries y.steps (type.Structure n)

pub record Counts (counts : List ℕ) (xs : List DeclaredStructure) (ys : List Structure) : Type 0 where
  pub long : length ys ≡ length xs
  pub each : (n : ℕ) (x : DeclaredStructure) (y : Structure) → slice_get xs n ≡ Some x → slice_get ys n ≡ Some y → CountsOne counts n x y
