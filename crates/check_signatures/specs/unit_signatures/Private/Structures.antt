-- Structures as a unit declares them.
use Rattle.std.specs.Prelude.{◌≡◌, ℕ, List, [], ◌∷◌, ◌++◌, map, slice_get}
use Rattle.st_tree.specs.declared.declaration.FieldGroup.{FieldGroup}
use Rattle.st_tree.specs.declared.declaration.TypeBody.{TypeBody}
use Rattle.st_tree.specs.declared.declaration.TypeBody.TheVariants as body
use Rattle.st_tree.specs.declared.declaration.TypeDecl.{TypeDecl}
use Rattle.st_rules.specs.Scope.{Scope}
use Rattle.st_unit_rules.specs.declared_names.WrittenTypes.{type_written}
use Rattle.default_values.specs.declared.initial_worths.structures.Group.{Group}
use Rattle.default_values.specs.declared.structure_worths.unweighed.DeclaredStructure.{DeclaredStructure}
use Rattle.default_values.specs.structure_worths.Unweighed.{AreKinds}
use Rattle.default_values.specs.numbered_signatures.Alike.{AreAlike}

abbrev pub groups_in : TypeBody ℕ → List (FieldGroup ℕ)
groups_in (body.Structure gs) = gs
groups_in (body.Alias t) = []
groups_in (body.Enumeration ns) = []

pub record DeclaresGroup (s : Scope) (declared : FieldGroup ℕ) (x : Group) : Type 0 where
  pub group : x.declared.now ≡ declared
  pub kind : x.kind ≡ type_written s declared.kind

pub record DeclaresGroups (s : Scope) (declared : List (FieldGroup ℕ)) (xs : List Group) : Type 0 where
  pub groups : map (λ g. g.declared.now) xs ≡ declared
  pub kinds : AreKinds s xs

-- what an entry of TYPE declares
abbrev pub DeclaresEntry : Scope → DeclaredStructure → TypeDecl ℕ → Type 0
DeclaresEntry s x t = DeclaresGroups s (groups_in t.body) x.groups.items

pub record AddsEntries (s : Scope) (xs ys : List DeclaredStructure) (more : List (TypeDecl ℕ)) : Type 0 where
  pub told : (ts : List (TypeDecl ℕ)) → AreAlike (DeclaresEntry s) xs ts → AreAlike (DeclaresEntry s) ys (ts ++ more)
