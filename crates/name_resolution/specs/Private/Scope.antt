-- What a scope keeps.
use Rattle.std.specs.Prelude.{◌≡◌, ℕ, true, List}
use Rattle.st_tree.specs.declared.declaration.InterfaceDecl.{InterfaceDecl}
use Rattle.st_rules.specs.Scope.{Scope}
use Rattle.name_resolution.specs.Tables.{Told, Holds}
use Rattle.name_resolution.specs.Private.Places.{Table, IsTableOf}

-- the tables hold what the scope sees, and know its locals by name; those of interfaces are of its interfaces
pub record Sees (t : Told) (s : Scope) (table : Table) (interfaces : List (InterfaceDecl ℕ)) : Type 0 where
  pub holds : Holds t s
  pub locals_are : IsTableOf (λ v. v.name) (λ v. true) table s.locals
  pub interfaces_are : interfaces ≡ s.interfaces
