-- What a name of TYPE stands for.
use Rattle.std.specs.Prelude.{◌≡◌, ℕ, List, ◌++◌, Option, None}
use Rattle.plc_text.specs.declared.code.Code.{Code}
use Rattle.st_tree.specs.declared.declaration.TypeBody.{TypeBody}
use Rattle.st_tree.specs.declared.declaration.TypeBody.TheVariants as body
use Rattle.st_tree.specs.declared.name.Name.{Name}
use Rattle.st_tree.specs.declared.unit.Decl.{Decl}
use Rattle.st_rules.specs.Faults.{least, earlier}
use Rattle.st_unit_rules.specs.Checked.{TypedTypeBody}
use Rattle.st_unit_rules.specs.DeclarationRules.{type_body_faults, body_depth}
use Rattle.check_declared_variables.specs.declared.type_rules.types.CheckedType.{CheckedType}
use Rattle.check_declared_variables.specs.declared.entry_rules.bodies.CheckedBody.{CheckedBody}
use Rattle.check_declared_variables.specs.declared.entry_rules.groups.CheckedGroups.{CheckedGroups}

pub record IsAlias (c : CheckedBody) (found : CheckedType) (own depth : Option (Code × ℕ)) : Type 0 where
  pub least : c.least ≡ earlier (earlier found.least own) depth
  pub body : c.body ≡ body.Alias found.tree

pub record IsEnumeration (c : CheckedBody) (names : List Name) : Type 0 where
  pub least : c.least ≡ None
  pub body : c.body ≡ body.Enumeration names

pub record IsStructure (c : CheckedBody) (found : CheckedGroups) (depth : Option (Code × ℕ)) : Type 0 where
  pub least : c.least ≡ earlier found.least depth
  pub body : c.body ≡ body.Structure found.groups

pub record BodyChecks (c : CheckedBody) (decls : List (Decl ℕ)) (own : Name) (place number : ℕ) (t : TypeBody ℕ) : Type 0 where
  pub least : c.least ≡ least (type_body_faults decls own.text t ++ body_depth decls own.line place number t)
  pub body : TypedTypeBody decls t c.body
