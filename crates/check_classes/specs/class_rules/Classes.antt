-- What is found out about a class, by its place among the declarations and its number.
use Rattle.std.specs.Prelude.{◌≡◌, ℕ, List, None}
use Rattle.st_tree.specs.declared.declaration.ClassDecl.{ClassDecl}
use Rattle.st_tree.specs.declared.unit.Decl.{Decl}
use Rattle.st_rules.specs.Faults.{least}
use Rattle.st_unit_rules.specs.Checked.{TypedClass}
use Rattle.st_unit_rules.specs.DeclarationRules.{class_declaration_faults}
use Rattle.check_classes.specs.declared.class_rules.parts.CheckedClass.{CheckedClass}

pub record ChecksClass (c : CheckedClass) (decls : List (Decl ℕ)) (place number : ℕ) (d : ClassDecl ℕ) : Type 0 where
  pub least : c.least ≡ least (class_declaration_faults decls place number d)
  pub tree : c.least ≡ None → TypedClass decls number d c.class
