-- A method of an interface in its scope.
use Rattle.std.specs.Prelude.{◌≡◌, ℕ, List}
use Rattle.st_tree.specs.declared.declaration.Prototype.{Prototype}
use Rattle.st_tree.specs.declared.name.Name.{Name}
use Rattle.st_tree.specs.declared.unit.Decl.{Decl}
use Rattle.st_rules.specs.Faults.{least}
use Rattle.st_rules.specs.Scope.{Scope}
use Rattle.st_unit_rules.specs.Checked.{Each, IfThere, TypedSection, TypedSpec}
use Rattle.st_unit_rules.specs.VariableRules.{of_prototype}
use Rattle.check_routines.specs.declared.routine_rules.variables.CheckedVariables.{CheckedVariables}
use Rattle.check_routines.specs.routine_rules.Variables.{variables_faults}
use Rattle.check_routines.specs.declared.method_rules.prototypes.CheckedPrototype.{CheckedPrototype}

pub record IsPrototype (c : CheckedPrototype) (heading : ℕ) (own : Name) (found : CheckedVariables) : Type 0 where
  pub least : c.least ≡ found.least
  pub line : c.method.line ≡ heading
  pub name : c.method.name ≡ own
  pub result : c.method.result ≡ found.result
  pub sections : c.method.sections ≡ found.sections

pub record PrototypeIn (c : CheckedPrototype) (decls : List (Decl ℕ)) (s : Scope) (m : Prototype ℕ) : Type 0 where
  pub least : c.least ≡ least (variables_faults decls s of_prototype m.line m.result m.sections)
  pub line : c.method.line ≡ m.line
  pub name : c.method.name ≡ m.name
  pub result : IfThere (TypedSpec s) m.result c.method.result
  pub sections : Each (TypedSection s) m.sections c.method.sections
