-- What is found out about the methods of an interface.
use Rattle.std.specs.Prelude.{◌≡◌, ℕ, List, flat_map}
use Rattle.st_tree.specs.declared.declaration.Prototype.{Prototype}
use Rattle.st_tree.specs.declared.unit.Decl.{Decl}
use Rattle.st_rules.specs.Faults.{least}
use Rattle.st_unit_rules.specs.Checked.{Each, TypedPrototype}
use Rattle.st_unit_rules.specs.DeclarationRules.{prototype_faults}
use Rattle.check_classes.specs.declared.interface_rules.prototypes.CheckedPrototypes.{CheckedPrototypes}

pub record ChecksPrototypes (c : CheckedPrototypes) (decls : List (Decl ℕ)) (ms : List (Prototype ℕ)) : Type 0 where
  pub least : c.least ≡ least (flat_map (prototype_faults decls) ms)
  pub trees : Each (TypedPrototype decls) ms c.prototypes
