-- The tables of a unit say of it what they were built of.
use Rattle.std.specs.Prelude.{◌≡◌, ℕ, List}
use Rattle.std.proofs.Common.{Bor}
use Rattle.st_tree.specs.declared.declaration.ClassDecl.{ClassDecl}
use Rattle.st_tree.specs.declared.unit.Unit.{Unit}
use Rattle.st_rules.specs.Classes.{classes_in}
use Rattle.st_rules.specs.Scope.{Scope}
use Rattle.st_unit_rules.specs.declared_names.UnitNames.{unit_names}
use Rattle.section_rules.specs.Variables.{classes_of}
use Rattle.name_resolution.specs.Tables.{Told, Knows}
use Rattle.check_limits.specs.declared.type_sizes.sizes.TypeSizes.{TypeSizes}
use Rattle.check_limits.specs.type_sizes.Sizes.{Measures}

pub record AreTables (u : Unit) (classes : List (Bor (ClassDecl ℕ))) (interfaces : Unit) (names : Told) (sizes : TypeSizes) (graph : Unit) : Type 0 where
  pub classes-are : classes_of classes ≡ classes_in u.decls
  pub interfaces-are : interfaces ≡ u
  pub names-are : names.names ≡ unit_names u.decls
  pub names-know : Knows names (classes_in u.decls)
  pub sizes-are : (s : Scope) → s.classes ≡ classes_in u.decls → s.names ≡ unit_names u.decls → Measures sizes s
  pub graph-is : graph ≡ u
