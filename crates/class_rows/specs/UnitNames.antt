-- The names of a unit's classes, interfaces and methods.
use Rattle.std.specs.Prelude.{◌≡◌, ℕ, List, [], ◌∷◌, ◌++◌, map, flat_map, length, is_some, if◌then◌else◌}
use Rattle.std.specs.Map.{keys_of}
use Rattle.st_tree.specs.declared.declaration.ClassDecl.{ClassDecl}
use Rattle.st_tree.specs.declared.declaration.InterfaceDecl.{InterfaceDecl}
use Rattle.st_rules.specs.Named.{first_place}
use Rattle.st_rules.specs.Classes.{method_names}
use Rattle.class_rows.specs.declared.unit_names.UnitNames.{UnitNames}
use Rattle.class_rows.specs.Index.{Indexes}

-- the names with those that are new, each once
abbrev pub with_new : List (List ℕ) → List (List ℕ) → List (List ℕ)
with_new names [] = names
with_new names (n ∷ ns) = with_new (if is_some (first_place n names) then names else names ++ n ∷ []) ns

-- the names of all methods, in the order of the text
abbrev pub all_names : {A : Type 0} → List (ClassDecl A) → List (List ℕ)
all_names classes = with_new [] (flat_map method_names classes)

abbrev pub class_names : {A : Type 0} → List (ClassDecl A) → List (List ℕ)
class_names classes = map (λ class. class.name.text) classes

abbrev pub interface_names : {A : Type 0} → List (InterfaceDecl A) → List (List ℕ)
interface_names interfaces = map (λ interface. interface.name.text) interfaces

-- the names of these classes and their methods
pub record HasClasses {A : Type 0} (names : UnitNames) (classes : List (ClassDecl A)) : Type 0 where
  pub methods : keys_of names.methods ≡ all_names classes
  pub places : Indexes names.classes (class_names classes)
  pub count : names.class_count ≡ length classes

-- the names of these interfaces
pub record HasInterfaces {A : Type 0} (names : UnitNames) (interfaces : List (InterfaceDecl A)) : Type 0 where
  pub places : Indexes names.interfaces (interface_names interfaces)
  pub count : names.interface_count ≡ length interfaces
