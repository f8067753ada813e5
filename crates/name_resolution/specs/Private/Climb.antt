-- The variables of classes, and tables of them.
use Rattle.std.specs.Prelude.{ℕ, Bool, List, filter, Option, option_map}
use Rattle.st_rules.specs.declared.names.DeclaredVariable.{DeclaredVariable}
use Rattle.st_rules.specs.declared.names.DeclaredClass.{DeclaredClass}
use Rattle.st_rules.specs.Scope.{first_named}
use Rattle.name_resolution.specs.Private.Places.{Table, AreTables, items_at}

abbrev pub variables_at : List DeclaredClass → ℕ → List DeclaredVariable
variables_at classes c = items_at (λ class. class.variables) classes c

-- each table is one of the variables of its class that pass
abbrev pub AreTablesOf : (DeclaredVariable → Bool) → List Table → List DeclaredClass → Type 0
AreTablesOf test ts cs = AreTables (λ v. v.name) test (λ c. c.variables) ts cs

-- the first variable of the name that a class declares itself and that passes
abbrev pub own : (DeclaredVariable → Bool) → List DeclaredClass → List ℕ → ℕ → Option DeclaredVariable
own test classes name c = first_named (λ v. v.name) name (filter test (variables_at classes c))

-- the same with the class's number
abbrev pub own_with_class : (DeclaredVariable → Bool) → List DeclaredClass → List ℕ → ℕ → Option (ℕ × DeclaredVariable)
own_with_class test classes name c = option_map (λ v. (c, v)) (own test classes name c)
