-- What is found out about the members of a class.
use Rattle.std.specs.Prelude.{◌≡◌, ℕ, List, None, flat_map}
use Rattle.st_tree.specs.declared.declaration.Member.{Member}
use Rattle.st_tree.specs.declared.unit.Decl.{Decl}
use Rattle.st_rules.specs.Classes.{methods_in}
use Rattle.st_rules.specs.Faults.{least}
use Rattle.st_unit_rules.specs.declared_names.UnitNames.{class_scope, unit_names}
use Rattle.st_unit_rules.specs.declared_names.Variables.{sections_in}
use Rattle.st_unit_rules.specs.Checked.{Each, TypedMember}
use Rattle.st_unit_rules.specs.DeclarationRules.{method_faults}
use Rattle.st_unit_rules.specs.VariableRules.{Home, sections_faults}
use Rattle.check_classes.specs.declared.member_rules.members.CheckedMembers.{CheckedMembers}

pub record ChecksMembers (c : CheckedMembers) (decls : List (Decl ℕ)) (home : Home) (class : ℕ) (ms : List (Member ℕ)) : Type 0 where
  pub of_sections : c.sections ≡ least (sections_faults (class_scope decls (unit_names decls) class) home (sections_in ms))
  pub of_methods : c.methods ≡ least (flat_map (method_faults decls class) (methods_in ms))
  pub trees : c.methods ≡ None → Each (TypedMember decls class) ms c.members
