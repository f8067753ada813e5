-- The scope of a routine.
use Rattle.std.proofs.Common.{◌≡◌, ℕ, Bool, List, [], Option, ap, ◌∙◌}
use Rattle.st_tree.specs.declared.declaration.Section.{Section}
use Rattle.st_tree.specs.declared.type_spec.TypeSpec.{TypeSpec}
use Rattle.st_tree.specs.declared.unit.Decl.{Decl}
use Rattle.st_rules.specs.declared.names.DeclaredVariable.{DeclaredVariable}
use Rattle.st_rules.specs.Scope.{Scope}
use Rattle.st_unit_rules.specs.declared_names.UnitNames.{locals_of}
use Rattle.symbol_table.specs.unit_tables.Scopes.{scope_in}

module _ (decls : List (Decl ℕ)) (c : Option ℕ) (m : Bool) (name : List ℕ) (result : Option (TypeSpec ℕ)) (sections : List (Section ℕ)) (vs ws : List DeclaredVariable) (s : Scope) (told : vs ≡ locals_of (scope_in decls c m []) name result sections) (lent : ws ≡ vs)
    (with_locals : s ≡ scope_in decls c m ws) where
  pub routine_is : s ≡ scope_in decls c m (locals_of (scope_in decls c m []) name result sections)
  routine_is = with_locals ∙ ap (scope_in decls c m) (lent ∙ told)
