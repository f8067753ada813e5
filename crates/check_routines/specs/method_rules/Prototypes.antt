-- What is found out about a method of an interface.
use Rattle.std.specs.Prelude.{◌≡◌, ℕ, List}
use Rattle.st_tree.specs.declared.declaration.Prototype.{Prototype}
use Rattle.st_tree.specs.declared.unit.Decl.{Decl}
use Rattle.st_rules.specs.Faults.{least}
use Rattle.st_unit_rules.specs.Checked.{TypedPrototype}
use Rattle.st_unit_rules.specs.DeclarationRules.{prototype_faults}
use Rattle.check_routines.specs.declared.method_rules.prototypes.CheckedPrototype.{CheckedPrototype}

pub record ChecksPrototype (c : CheckedPrototype) (decls : List (Decl ℕ)) (m : Prototype ℕ) : Type 0 where
  pub least : c.least ≡ least (prototype_faults decls m)
  pub tree : TypedPrototype decls m c.method
