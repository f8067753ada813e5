-- Where a text of a unit stands that breaks no rule, the rules and the meaning agree on what names are.
use Rattle.std.specs.Prelude.{◌≡◌, ℕ, List, Some, slice_get}
use Rattle.st_tree.specs.declared.declaration.ClassDecl.{ClassDecl}
use Rattle.st_tree.specs.declared.declaration.FunctionDecl.{FunctionDecl}
use Rattle.st_tree.specs.declared.program.Note.{Note}
use Rattle.st_tree.specs.declared.program.Program.{Program}
use Rattle.st_tree.specs.declared.unit.Decl.{Decl}
use Rattle.st_rules.specs.Classes.{classes_in}
use Rattle.st_unit_rules.specs.declared_names.Declarations.{functions_in}
use Rattle.st_unit_rules.specs.declared_names.UnitNames.{unit_names, class_scope, function_scope}
use Rattle.st_unit_rules.specs.Checked.{TypedFunction, IsChecked}
use Rattle.st_unit_rules.specs.UnitRefusal.{BreaksNothing}
use Rattle.st_values.specs.View.{class_of, function_of, program_of}
use Rattle.st_meaning.specs.st_frame.Promise.Declarations.{scope_of}
use Rattle.accepted_texts.specs.formed_units.Formed.{IsFormed}
use Rattle.class_laws.specs.ClassLaws.{HasNoCycle}
use Rattle.place_laws.specs.Agrees.{Agrees}
use Rattle.scope_laws.specs.Agreement.{HasNumbers, MeetsInterfaces}

pub record ScopeLaws : Type 0 where
  -- in a function
  pub functions : (most : ℕ) (decls : List (Decl ℕ)) (p : Program) → IsFormed most decls → BreaksNothing decls → IsChecked decls p → HasNoCycle p → MeetsInterfaces decls p
      → (k : ℕ) (f : FunctionDecl ℕ) (y : FunctionDecl Note) → slice_get (functions_in decls) k ≡ Some f → TypedFunction decls f y → HasNumbers (program_of p) (function_scope decls (unit_names decls) f) → Agrees (function_scope decls (unit_names decls) f) (program_of p) (scope_of (function_of y))
  -- in the body of a class
  pub bodies : (most : ℕ) (decls : List (Decl ℕ)) (p : Program) → IsFormed most decls → BreaksNothing decls → IsChecked decls p → HasNoCycle p → MeetsInterfaces decls p
      → (c : ℕ) (d : ClassDecl ℕ) (y : ClassDecl Note) → slice_get (classes_in decls) c ≡ Some d → HasNumbers (program_of p) (class_scope decls (unit_names decls) c) → Agrees (class_scope decls (unit_names decls) c) (program_of p) (scope_of (class_of p.classes p.interfaces c y).body)
