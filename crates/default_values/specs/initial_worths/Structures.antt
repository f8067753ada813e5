-- What is declared for structures, with the worths of what is not given.
use Rattle.std.specs.Prelude.{◌≡◌, ℕ, suc, ◌<◌, ◌≤◌, List, [], ◌∷◌, map, length, Option, Some, None, option_map, slice_get}
use Rattle.st_types.specs.declared.st_type.StType.TheVariants as type
use Rattle.st_tree.specs.declared.declaration.TypeDecl.{TypeDecl}
use Rattle.st_tree.specs.Initial.{initial_of}
use Rattle.st_rules.specs.Scope.{Scope}
use Rattle.st_unit_rules.specs.declared_names.WrittenTypes.{type_written}
use Rattle.st_unit_rules.specs.Worth.{Worth, groups_of, typed_worth, worth_within}
use Rattle.default_values.specs.declared.worth_numbers.node.Node.{Node}
use Rattle.default_values.specs.worth_numbers.Numbers.{HasWorth}
use Rattle.default_values.specs.worth_steps.Steps.{IsCount}
use Rattle.default_values.specs.declared.initial_worths.structures.Group.{Group}
use Rattle.default_values.specs.declared.initial_worths.structures.Structure.{Structure}

-- the number of a worth, where there is one
abbrev pub IsTold : List Node → Option ℕ → Option Worth → Type 0
IsTold nodes None None = Unit {0}
IsTold nodes (Some k) (Some w) = HasWorth nodes k w
IsTold nodes _ _ = ⊥

module _ (nodes : List Node) (unit : Scope) (entries : List (TypeDecl ℕ)) where
  -- within so many steps
  pub record IsGroup (k : ℕ) (x : Group) : Type 0 where
    pub kind : x.kind ≡ type_written unit x.declared.now.kind
    pub worth : IsTold nodes x.worth (typed_worth unit entries (worth_within unit entries k) unit (type_written unit x.declared.now.kind) (option_map initial_of x.declared.now.initial))

  -- a group without names is in no value
  abbrev pub IsNamed : ℕ → Group → Type 0
  IsNamed k x = 0 < length x.declared.now.names → IsGroup k x

  abbrev pub AreGroups : ℕ → List Group → Type 0
  AreGroups k [] = Unit {0}
  AreGroups k (x ∷ xs) = IsNamed k x × AreGroups k xs

  pub record IsStructure (most n : ℕ) (x : Structure) : Type 0 where
    pub steps : IsCount unit entries x.steps (type.Structure n)
    pub declared : map (λ g. g.declared.now) x.groups.items ≡ groups_of (slice_get entries n)
    pub groups : (k : ℕ) → x.steps ≤ suc k → suc k ≤ most → AreGroups k x.groups.items

  -- the structures of a unit, by the number of their entry of TYPE, with the worths of those that take at most so many steps
  pub record AreStructures (most : ℕ) (xs : List Structure) : Type 0 where
    pub long : length entries ≤ length xs
    pub each : (n : ℕ) (x : Structure) → slice_get xs n ≡ Some x → IsStructure most n x
