-- What is added to names and rows.
use Rattle.std.specs.Prelude.{◌≡◌, ℕ, ◌⊎◌, List, [], ◌∷◌, ◌++◌, map}
use Rattle.st_names.specs.Names.{HasName}
use Rattle.st_tree.specs.declared.declaration.ClassDecl.{ClassDecl}
use Rattle.st_tree.specs.declared.declaration.InterfaceDecl.{InterfaceDecl}
use Rattle.st_tree.specs.declared.unit.Decl.{Decl}
use Rattle.st_rules.specs.Classes.{classes_in}
use Rattle.st_rules.specs.Interfaces.{interfaces_in}
use Rattle.class_rows.specs.declared.rows.UnitRows.{UnitRows}
use Rattle.class_rows.specs.UnitNames.{all_names, class_names, interface_names}
use Rattle.class_rows.specs.Rows.{class_row, interface_row}

-- the name with the value, if the name was not there
abbrev pub IsAdded : {V : Type 0} → List (List ℕ × V) → List ℕ → V → List (List ℕ × V) → Type 0
IsAdded old name value new = (HasName old name × (new ≡ old)) ⊎ ((HasName old name → ⊥) × (new ≡ old ++ (name, value) ∷ []))

-- the row of a declaration is added, if that is a class or an interface
pub record AddsRows {A : Type 0} (classes : List (ClassDecl A)) (interfaces : List (InterfaceDecl A)) (decl : Decl A) (old new : UnitRows) : Type 0 where
  pub class_rows : new.classes ≡ old.classes ++ map (class_row (all_names classes) (class_names classes) (interface_names interfaces)) (classes_in (decl ∷ []))
  pub interface_rows : new.interfaces ≡ old.interfaces ++ map (interface_row (interface_names interfaces)) (interfaces_in (decl ∷ []))
