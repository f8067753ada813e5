-- What is found out about an interface, by its number.
use Rattle.std.specs.Prelude.{◌≡◌, ℕ, List}
use Rattle.st_tree.specs.declared.declaration.InterfaceDecl.{InterfaceDecl}
use Rattle.st_tree.specs.declared.unit.Decl.{Decl}
use Rattle.st_rules.specs.Faults.{least}
use Rattle.st_unit_rules.specs.Checked.{TypedInterface}
use Rattle.st_unit_rules.specs.DeclarationRules.{interface_declaration_faults}
use Rattle.check_classes.specs.declared.interface_rules.interfaces.CheckedInterface.{CheckedInterface}

pub record ChecksInterface (c : CheckedInterface) (decls : List (Decl ℕ)) (number : ℕ) (d : InterfaceDecl ℕ) : Type 0 where
  pub least : c.least ≡ least (interface_declaration_faults decls number d)
  pub tree : TypedInterface decls d c.interface
