-- Names of which all is told that can be.
use Rattle.std.specs.Prelude.{◌≡◌, ℕ, List}
use Rattle.st_tree.specs.declared.unit.Decl.{Decl}
use Rattle.st_rules.specs.declared.names.DeclaredNames.{DeclaredNames}
use Rattle.st_unit_rules.specs.declared_names.UnitNames.{names_from, unit_names}
use Rattle.resolution_order.specs.told_laws.TellingLaws.{Sound}

-- all types of entries and all constants are told, and what is told from it is what the unit says of its names
pub record TellsAll (decls : List (Decl ℕ)) (a : DeclaredNames) : Type 0 where
  pub sound : Sound decls a
  pub whole : names_from decls a ≡ unit_names decls
