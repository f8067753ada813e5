-- What is told of a constant in the checked program of a unit.
use Rattle.std.specs.Prelude.{◌≡◌, ℕ, Bool, true, List, Option, Some}
use Rattle.st_types.specs.declared.st_type.StType.{StType}
use Rattle.st_tree.specs.declared.declaration.Section.{Section}
use Rattle.st_tree.specs.declared.program.Program.{Program as Checked}
use Rattle.st_tree.specs.declared.type_spec.TypeSpec.{TypeSpec}
use Rattle.st_tree.specs.declared.unit.Decl.{Decl}
use Rattle.st_rules.specs.declared.names.DeclaredVariable.{DeclaredVariable}
use Rattle.st_rules.specs.Scope.{Scope, a_variable, sought}
use Rattle.st_unit_rules.specs.Checked.{IsChecked}
use Rattle.st_unit_rules.specs.declared_names.Constants.{is_told}
use Rattle.st_values.specs.View.{program_of}
use Rattle.accepted_texts.specs.told_units.Told.{WrittenIn}
use Rattle.place_laws.specs.Agrees.{ConstantIs}

pub record ConstantLaws : Type 0 where
  -- a constant that is told is a number of its type
  pub told : (decls : List (Decl ℕ)) (p : Checked) → IsChecked decls p → (s : Scope) (o : Option (TypeSpec ℕ)) (ss : List (Section ℕ)) → WrittenIn decls s o ss → (called : Bool) (name : List ℕ) (c : Option ℕ) (v : DeclaredVariable) → sought s called name ≡ Some (a_variable c v)
      → v.constant ≡ true → is_told v.target ≡ true → (t : StType) → v.kind ≡ Some t → ConstantIs (program_of p) v.target t
