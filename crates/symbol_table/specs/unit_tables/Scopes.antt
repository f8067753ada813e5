-- The scopes of the texts of a unit.
use Rattle.std.specs.Prelude.{ℕ, Bool, List, Option}
use Rattle.st_tree.specs.declared.unit.Decl.{Decl}
use Rattle.st_rules.specs.declared.names.DeclaredVariable.{DeclaredVariable}
use Rattle.st_rules.specs.Scope.{Scope}
use Rattle.st_unit_rules.specs.declared_names.UnitNames.{unit_names, unit_scope}

-- of a class or of none, of a method or not, with these locals
abbrev pub scope_in : List (Decl ℕ) → Option ℕ → Bool → List DeclaredVariable → Scope
scope_in decls c m vs = record (unit_scope decls (unit_names decls)) { class = c; in_method = m; locals = vs }
