-- What a class breaks besides its trees, and what is found out about these.
use Rattle.std.specs.Prelude.{◌≡◌, ℕ, List}
use Rattle.st_tree.specs.declared.declaration.ClassDecl.{ClassDecl}
use Rattle.st_tree.specs.declared.unit.Decl.{Decl}
use Rattle.st_rules.specs.Classes.{classes_in}
use Rattle.st_rules.specs.ClassRules.{class_faults}
use Rattle.st_rules.specs.Faults.{least}
use Rattle.st_rules.specs.InterfaceRules.{concrete_class_faults}
use Rattle.st_rules.specs.Interfaces.{interfaces_in}
use Rattle.st_unit_rules.specs.declared_names.UnitNames.{class_scope, unit_names}
use Rattle.st_unit_rules.specs.declared_names.Variables.{sections_in, sections_written}
use Rattle.st_unit_rules.specs.Cycles.{inner_cycles}
use Rattle.st_unit_rules.specs.DeclarationRules.{class_home, class_limits, signatures}
use Rattle.st_unit_rules.specs.NameRules.{member_name_faults, word_twice}
use Rattle.st_unit_rules.specs.Worth.{same_worth}
use Rattle.check_classes.specs.base_rules.Used.{ChecksBase, ChecksInterfaces}
use Rattle.check_classes.specs.member_rules.Members.{ChecksMembers}
use Rattle.check_routines.specs.routine_rules.Bodies.{FindsBody}
use Rattle.check_classes.specs.declared.class_rules.parts.Broken.{Broken}
use Rattle.check_classes.specs.declared.class_rules.parts.Trees.{Trees}

pub record BrokenBy (b : Broken) (decls : List (Decl ℕ)) (place number : ℕ) (d : ClassDecl ℕ) : Type 0 where
  pub words : b.words ≡ least (word_twice d.line d.modifiers)
  pub names : b.names ≡ least (member_name_faults (classes_in decls) number d)
  pub bases : b.bases ≡ least (class_faults same_worth (classes_in decls) (signatures decls) number)
  pub concrete : b.concrete ≡ least (concrete_class_faults (classes_in decls) (interfaces_in decls) same_worth (signatures decls) number)
  pub cycles : b.cycles ≡ least (inner_cycles (sections_written (sections_in d.members)))
  pub limits : b.limits ≡ least (class_limits decls (class_scope decls (unit_names decls) number) place number d)

pub record TreesFound (p : Trees) (decls : List (Decl ℕ)) (number : ℕ) (d : ClassDecl ℕ) : Type 0 where
  pub base : ChecksBase p.base decls d.base
  pub interfaces : ChecksInterfaces p.interfaces decls d.interfaces
  pub members : ChecksMembers p.members decls (class_home decls d.sort) number d.members
  pub body : FindsBody p.body (class_scope decls (unit_names decls) number) d.body
