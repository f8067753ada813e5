-- The structures of a unit as they are declared, of which nothing is weighed.
use Rattle.std.specs.Prelude.{◌≡◌, ℕ, ◌≤◌, List, [], ◌∷◌, map, length, Option, Some, slice_get}
use Rattle.st_tree.specs.declared.declaration.TypeDecl.{TypeDecl}
use Rattle.st_rules.specs.Scope.{Scope}
use Rattle.st_unit_rules.specs.declared_names.WrittenTypes.{type_written}
use Rattle.st_unit_rules.specs.Worth.{groups_of}
use Rattle.default_values.specs.declared.initial_worths.structures.Group.{Group}
use Rattle.default_values.specs.declared.structure_worths.unweighed.DeclaredStructure.{DeclaredStructure}

module _ (unit : Scope) where
  abbrev pub AreKinds : List Group → Type 0
  AreKinds [] = Unit {0}
  AreKinds (x ∷ xs) = (x.kind ≡ type_written unit x.declared.now.kind) × AreKinds xs

  module _ (entries : List (TypeDecl ℕ)) where
    pub record IsDeclared (n : ℕ) (x : DeclaredStructure) : Type 0 where
      pub groups : map (λ g. g.declared.now) x.groups.items ≡ groups_of (slice_get entries n)
      pub kinds : AreKinds x.groups.items

    -- one for each entry of TYPE
    pub record AreDeclared (xs : List DeclaredStructure) : Type 0 where
      pub long : length xs ≡ length entries
      pub each : (n : ℕ) (x : DeclaredStructure) → slice_get xs n ≡ Some x → IsDeclared n x
