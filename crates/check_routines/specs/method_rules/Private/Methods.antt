-- A method in its scope.
use Rattle.std.specs.Prelude.{◌≡◌, ℕ, List, ◌++◌, Option, None}
use Rattle.plc_text.specs.declared.code.Code.{Code}
use Rattle.st_tree.specs.declared.declaration.Method.{Method}
use Rattle.st_tree.specs.declared.declaration.Modifier.{Modifier}
use Rattle.st_tree.specs.declared.name.Name.{Name}
use Rattle.st_tree.specs.declared.unit.Decl.{Decl}
use Rattle.st_rules.specs.Faults.{Faults, least, earlier}
use Rattle.st_rules.specs.Scope.{Scope}
use Rattle.st_unit_rules.specs.Checked.{Each, IfThere, TypedBody, TypedSection, TypedSpec}
use Rattle.st_unit_rules.specs.DeclarationRules.{routine_faults}
use Rattle.st_unit_rules.specs.NameRules.{local_name_faults, word_twice}
use Rattle.st_unit_rules.specs.VariableRules.{of_routine}
use Rattle.check_routines.specs.declared.routine_rules.routines.CheckedRoutine.{CheckedRoutine}
use Rattle.check_routines.specs.declared.method_rules.methods.CheckedMethod.{CheckedMethod}

pub record IsMethod (c : CheckedMethod) (heading : ℕ) (written : List Modifier) (own : Name) (words : Option (Code × ℕ)) (found : CheckedRoutine) : Type 0 where
  pub least : c.least ≡ earlier words found.least
  pub line : c.method.line ≡ heading
  pub modifiers : c.method.modifiers ≡ written
  pub name : c.method.name ≡ own
  pub result : c.method.result ≡ found.result
  pub sections : c.method.sections ≡ found.sections
  pub body : c.method.body ≡ found.body

-- all rules of a method in the scope with its locals
abbrev pub method_faults_in : List (Decl ℕ) → Scope → Method ℕ → Faults
method_faults_in decls s m =
    word_twice m.line m.modifiers
    ++ local_name_faults m.name.text m.sections
    ++ routine_faults decls s of_routine m.line m.name.text m.result m.sections m.body

pub record MethodIn (c : CheckedMethod) (decls : List (Decl ℕ)) (s : Scope) (m : Method ℕ) : Type 0 where
  pub least : c.least ≡ least (method_faults_in decls s m)
  pub line : c.method.line ≡ m.line
  pub modifiers : c.method.modifiers ≡ m.modifiers
  pub name : c.method.name ≡ m.name
  pub result : IfThere (TypedSpec s) m.result c.method.result
  pub sections : Each (TypedSection s) m.sections c.method.sections
  pub body : c.least ≡ None → TypedBody s m.body c.method.body
