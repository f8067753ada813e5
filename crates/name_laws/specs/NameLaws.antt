-- What names mean in a unit is there in its checked program.
use Rattle.std.specs.Prelude.{◌≡◌, ◌<◌, ℕ, List, length, Some}
use Rattle.st_types.specs.declared.st_type.StType.{StType}
use Rattle.st_types.specs.declared.st_type.StType.TheVariants as type
use Rattle.st_tree.specs.declared.declaration.Method.{Method}
use Rattle.st_tree.specs.declared.program.Note.{Note}
use Rattle.st_tree.specs.declared.program.Program.{Program}
use Rattle.st_tree.specs.declared.unit.Decl.{Decl}
use Rattle.st_rules.specs.declared.ids.MethodId.{MethodId}
use Rattle.st_rules.specs.declared.names.DeclaredField.{DeclaredField}
use Rattle.st_rules.specs.Classes.{classes_in, method_at, lookup}
use Rattle.st_rules.specs.Scope.{field_named}
use Rattle.st_unit_rules.specs.declared_names.UnitNames.{unit_names, unit_scope}
use Rattle.st_unit_rules.specs.Checked.{IsChecked}
use Rattle.st_values.specs.Program as seen
use Rattle.st_values.specs.View.{method_of, program_of}
use Rattle.st_meaning.specs.st_frame.Promise.Places.{FieldIs}
use Rattle.accepted_texts.specs.told_units.Told.{AllIsTold}

pub record NameLaws : Type 0 where
  -- the method that a name means in a class is the one that is found in the checked program
  pub methods : (decls : List (Decl ℕ)) (p : Program) → IsChecked decls p → (c : ℕ) (name : List ℕ) (id : MethodId) → c < length (classes_in decls) → lookup (classes_in decls) c name ≡ Some id
      → (m : Method Note) × (method_at p.classes id ≡ Some m) × (seen.lookup (program_of p) c name ≡ Some (method_of id.class m))
  -- the field that a name means in a structure is the one of that type and place
  pub fields : (decls : List (Decl ℕ)) (p : Program) → IsChecked decls p → AllIsTold decls → (n : ℕ) (name : List ℕ) (f : ℕ × DeclaredField) → field_named (unit_scope decls (unit_names decls)) n name ≡ Some f
      → (t : StType) × (f.1.kind ≡ Some t) × FieldIs (program_of p) (type.Structure n) f.0 t
