-- What is found out about the names of classes and interfaces in headings.
use Rattle.std.specs.Prelude.{◌≡◌, ℕ, List, flat_map, Option}
use Rattle.plc_text.specs.declared.code.Code.{Code}
use Rattle.st_types.specs.declared.st_type.StType.{StType}
use Rattle.st_tree.specs.declared.name.Used.{Used}
use Rattle.st_tree.specs.declared.program.Note.{Note}
use Rattle.st_tree.specs.declared.unit.Decl.{Decl}
use Rattle.st_rules.specs.Faults.{Faults, least}
use Rattle.st_unit_rules.specs.Checked.{Each, IfThere, TypedUsed, class_meant, interface_meant}
use Rattle.st_unit_rules.specs.DeclarationRules.{base_not_found, interface_not_found}
use Rattle.check_classes.specs.declared.base_rules.used.CheckedBase.{CheckedBase}
use Rattle.check_classes.specs.declared.base_rules.used.CheckedInterfaces.{CheckedInterfaces}

-- the least of what a name breaks, and its typed tree
pub record ChecksUsed (faults : Faults) (means : List ℕ → Option StType) (found : Option (Code × ℕ)) (x : Used ℕ) (y : Used Note) : Type 0 where
  pub least : found ≡ least faults
  pub tree : TypedUsed means x y

pub record ChecksBase (c : CheckedBase) (decls : List (Decl ℕ)) (base : Option (Used ℕ)) : Type 0 where
  pub least : c.least ≡ least (base_not_found decls base)
  pub tree : IfThere (TypedUsed (class_meant decls)) base c.base

pub record ChecksInterfaces (c : CheckedInterfaces) (decls : List (Decl ℕ)) (names : List (Used ℕ)) : Type 0 where
  pub least : c.least ≡ least (flat_map (interface_not_found decls) names)
  pub trees : Each (TypedUsed (interface_meant decls)) names c.interfaces
