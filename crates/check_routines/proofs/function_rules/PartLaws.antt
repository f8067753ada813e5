-- What serves the scopes of a unit.
use Rattle.std.proofs.Common.{◌≡◌, ℕ, Bool, List, Option, refl, sym, ap, subst}
use Rattle.st_tree.specs.declared.unit.Decl.{Decl}
use Rattle.st_rules.specs.declared.names.DeclaredVariable.{DeclaredVariable}
use Rattle.st_rules.specs.Classes.{classes_in}
use Rattle.st_rules.specs.Scope.{Scope}
use Rattle.st_unit_rules.specs.declared_names.UnitNames.{unit_names}
use Rattle.section_rules.specs.Variables.{classes_of}
use Rattle.check_limits.specs.type_sizes.Sizes.{Measures}
use Rattle.check_routines.specs.declared.routine_rules.parts.UnitParts.{UnitParts}
use Rattle.check_routines.specs.routine_rules.Parts.{Serves}
use Rattle.symbol_table.specs.unit_tables.Scopes.{scope_in}

pub serves_all : (p : UnitParts) (decls : List (Decl ℕ)) → p.names.now.names ≡ unit_names decls → classes_of p.classes.now ≡ classes_in decls
    → ((s : Scope) → s.classes ≡ classes_in decls → s.names ≡ unit_names decls → Measures p.sizes.now s) → (class : Option ℕ) (in_method : Bool) (vs : List DeclaredVariable) → Serves p (scope_in decls class in_method vs)
serves_all p decls n c m class in_method vs = record {
  names = n;
  classes = c;
  sizes = m (scope_in decls class in_method vs) refl refl;
}

-- a scope of the unit, by what it is equal to
pub serves_scope : (p : UnitParts) (decls : List (Decl ℕ)) (class : Option ℕ) (in_method : Bool) (vs : List DeclaredVariable) (s : Scope) → ((c : Option ℕ) (m : Bool) (us : List DeclaredVariable) → Serves p (scope_in decls c m us)) → s ≡ scope_in decls class in_method vs → Serves p s
serves_scope p decls class in_method vs s all e = subst (λ (z : Scope). Serves p z) (sym e) (all class in_method vs)

pub own_locals : (decls : List (Decl ℕ)) (class : Option ℕ) (in_method : Bool) (vs : List DeclaredVariable) (s : Scope) → s ≡ scope_in decls class in_method vs → vs ≡ s.locals
own_locals decls class in_method vs s e = sym (ap (λ z. z.locals) e)
