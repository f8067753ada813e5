-- The checked program of a good unit keeps what is promised: its declarations, its bodies, its classes and its hooks are right. So does each program as which a source is accepted.
use Rattle.std.specs.Prelude.{◌≡◌, ◌≤◌, ℕ, List, Some, slice_get}
use Rattle.st_tree.specs.declared.declaration.ClassDecl.{ClassDecl}
use Rattle.st_tree.specs.declared.declaration.FunctionDecl.{FunctionDecl}
use Rattle.st_tree.specs.declared.declaration.Method.{Method}
use Rattle.st_tree.specs.declared.declaration.ProgramDecl.{ProgramDecl}
use Rattle.st_tree.specs.declared.program.Program.{Program as Checked}
use Rattle.st_tree.specs.declared.unit.Decl.{Decl}
use Rattle.st_rules.specs.Classes.{classes_in, methods_in}
use Rattle.st_unit_rules.specs.declared_names.Declarations.{functions_in, programs_in}
use Rattle.st_unit_rules.specs.declared_names.UnitNames.{unit_names, class_scope, method_scope, function_scope, program_scope}
use Rattle.st_unit_rules.specs.Checked.{IsChecked}
use Rattle.st_unit_rules.specs.RefusalLaws.{IsGood}
use Rattle.st_unit_rules.specs.UnitRefusal.{BreaksNothing}
use Rattle.st_values.specs.Program.{Program}
use Rattle.st_values.specs.View.{program_of}
use Rattle.st_meaning.specs.st_frame.Promise.Programs.{ProgramIs}
use Rattle.st_change.specs.StoreLaws.{HooksAre, Promises}
use Rattle.accepted_texts.specs.formed_units.Formed.{IsFormed}
use Rattle.accepted_texts.specs.st_accepted.Judge.{Accepts, Holds}
use Rattle.class_laws.specs.ClassLaws.{HasNoCycle}
use Rattle.promise_laws.specs.BodiesAre.{BodiesAre}
use Rattle.promise_laws.specs.KeepsPromise.{KeepsPromise}
use Rattle.declaration_laws.specs.DeclarationsAre.{DeclarationsAre}
use Rattle.scope_laws.specs.Agreement.{HasNumbers, MeetsInterfaces}

-- what constants come to, in all scopes of texts
pub record AllHaveNumbers (decls : List (Decl ℕ)) (p : Checked) : Type 0 where
  pub methods : (c k : ℕ) (d : ClassDecl ℕ) (m : Method ℕ) → slice_get (classes_in decls) c ≡ Some d → slice_get (methods_in d.members) k ≡ Some m → HasNumbers (program_of p) (method_scope decls (unit_names decls) c m)
  pub functions : (k : ℕ) (f : FunctionDecl ℕ) → slice_get (functions_in decls) k ≡ Some f → HasNumbers (program_of p) (function_scope decls (unit_names decls) f)
  pub classes : (c : ℕ) (d : ClassDecl ℕ) → slice_get (classes_in decls) c ≡ Some d → HasNumbers (program_of p) (class_scope decls (unit_names decls) c)
  pub programs : (i : ℕ) (d : ProgramDecl ℕ) → slice_get (programs_in decls) i ≡ Some d → HasNumbers (program_of p) (program_scope decls (unit_names decls) d)

pub record PromiseLaws : Type 0 where
  pub bodies : (most : ℕ) (decls : List (Decl ℕ)) (p : Checked) → IsFormed most decls → BreaksNothing decls → IsChecked decls p → HasNoCycle p → MeetsInterfaces decls p → AllHaveNumbers decls p → BodiesAre (program_of p)
  -- declarations, bodies and the chains of classes together
  pub joined : (p : Checked) → HasNoCycle p → DeclarationsAre (program_of p) → BodiesAre (program_of p) → ProgramIs (program_of p)
  -- the checked program of a good unit that is formed keeps the promise
  pub program : (most : ℕ) (decls : List (Decl ℕ)) (p : Checked) → IsFormed most decls → IsGood decls → IsChecked decls p → ProgramIs (program_of p)
  pub hooks : (most : ℕ) (decls : List (Decl ℕ)) (p : Checked) → IsFormed most decls → IsGood decls → IsChecked decls p → HooksAre (program_of p)
  pub kept : (most : ℕ) (decls : List (Decl ℕ)) (p : Checked) → most ≤ 4_294_967_296 → IsFormed most decls → IsGood decls → IsChecked decls p → KeepsPromise (program_of p)
  -- and so does each program as which a source is accepted
  pub held : (text : List ℕ) (p : Checked) → Holds text p → KeepsPromise (program_of p)
  pub accepted : (text : List ℕ) (p : Program) → Accepts text p → KeepsPromise p
  pub promises : Promises Accepts
