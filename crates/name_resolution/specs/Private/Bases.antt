-- The bases of classes by number, and which have one.
use Rattle.std.specs.Prelude.{ℕ, Bool, List, map, Option, option_and_then}
use Rattle.std.specs.Option.{is_some}
use Rattle.st_tree.specs.declared.name.Used.{Used}
use Rattle.st_tree.specs.declared.declaration.ClassDecl.{ClassDecl}
use Rattle.st_rules.specs.Classes.{class_named}

abbrev pub base_number : List (ClassDecl ℕ) → Option (Used ℕ) → Option ℕ
base_number classes base = option_and_then (λ b. class_named classes b.text) base

-- of these classes, by the names of all
abbrev pub bases_by : List (ClassDecl ℕ) → List (ClassDecl ℕ) → List (Option ℕ)
bases_by all classes = map (λ class. base_number all class.base) classes

-- whether a class has EXTENDS
abbrev pub is_derived : ClassDecl ℕ → Bool
is_derived class = is_some class.base
