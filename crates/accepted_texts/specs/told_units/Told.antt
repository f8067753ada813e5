-- In a unit that breaks no rule all is told: every written type, every constant and every result, in every scope. And each unit has a
-- checked program.
use Rattle.std.specs.Prelude.{◌≡◌, ℕ, true, false, List, [], Option, Some, None, slice_get}
use Rattle.std.specs.Option.{is_some}
use Rattle.st_tree.specs.declared.declaration.ClassDecl.{ClassDecl}
use Rattle.st_tree.specs.declared.declaration.FieldGroup.{FieldGroup}
use Rattle.st_tree.specs.declared.declaration.FunctionDecl.{FunctionDecl}
use Rattle.st_tree.specs.declared.declaration.InterfaceDecl.{InterfaceDecl}
use Rattle.st_tree.specs.declared.declaration.Method.{Method}
use Rattle.st_tree.specs.declared.declaration.ProgramDecl.{ProgramDecl}
use Rattle.st_tree.specs.declared.declaration.Prototype.{Prototype}
use Rattle.st_tree.specs.declared.declaration.Section.{Section}
use Rattle.st_tree.specs.declared.declaration.TypeBody.TheVariants as body
use Rattle.st_tree.specs.declared.declaration.TypeDecl.{TypeDecl}
use Rattle.st_tree.specs.declared.program.Program.{Program}
use Rattle.st_tree.specs.declared.type_spec.TypeSpec.{TypeSpec}
use Rattle.st_tree.specs.declared.unit.Decl.{Decl}
use Rattle.st_rules.specs.declared.names.DeclaredGlobal.{DeclaredGlobal}
use Rattle.st_rules.specs.declared.names.DeclaredGlobal.TheVariants as global
use Rattle.st_rules.specs.declared.names.DeclaredRoutine.{DeclaredRoutine}
use Rattle.st_rules.specs.declared.names.DeclaredType.{DeclaredType}
use Rattle.st_rules.specs.declared.names.DeclaredVariable.{DeclaredVariable}
use Rattle.st_rules.specs.declared.signature.ResultType.{ResultType}
use Rattle.st_rules.specs.declared.signature.ResultType.TheVariants as outcome
use Rattle.st_rules.specs.Classes.{classes_in, methods_in}
use Rattle.st_rules.specs.Expressions.{value_target}
use Rattle.st_rules.specs.Scope.{Scope, sought}
use Rattle.st_unit_rules.specs.declared_names.Constants.{is_told, is_constant_meaning}
use Rattle.st_unit_rules.specs.declared_names.Declarations.{Placed, an_entry, an_interface, a_function, a_program, declarations, placed}
use Rattle.st_unit_rules.specs.declared_names.UnitNames.{unit_names, unit_scope, class_scope, method_scope, function_scope, prototype_scope, program_scope, class_declared, method_declared, prototype_declared}
use Rattle.st_unit_rules.specs.declared_names.Variables.{sections_written, sections_in}
use Rattle.st_unit_rules.specs.declared_names.WrittenTypes.{type_written, type_faults}
use Rattle.st_unit_rules.specs.Checked.{IsChecked}
use Rattle.st_unit_rules.specs.UnitRefusal.{BreaksNothing}
use Rattle.resolution_order.specs.told_laws.ToldLaws.{Every}
use Rattle.accepted_texts.specs.told_units.Formed.{IsFormedType, IsFormedResult, IsFormedWritten, IsFormedDeclaration}

-- ---- what is told

-- a constant has its value
abbrev pub HasValue : DeclaredVariable → Type 0
HasValue v = v.constant ≡ true → is_told v.target ≡ true

-- a variable or a constant has its type, and a constant its value
abbrev pub IsToldVariable : DeclaredVariable → Type 0
IsToldVariable v = (is_some v.kind ≡ true) × HasValue v

abbrev pub IsToldOutcome : ResultType → Type 0
IsToldOutcome outcome.Nothing = Unit {0}
IsToldOutcome (outcome.Written t) = is_some t ≡ true

abbrev pub IsToldRoutine : DeclaredRoutine → Type 0
IsToldRoutine r = IsToldOutcome r.outcome × Every IsToldVariable r.parameters

abbrev pub IsToldGlobal : DeclaredGlobal → Type 0
IsToldGlobal (global.Variable v) = IsToldVariable v
IsToldGlobal (global.Function k r) = IsToldRoutine r

-- where a name means a constant or an enumerator, its value is told
abbrev pub IsToldName : Scope → List ℕ → Type 0
IsToldName s name = is_constant_meaning s (sought s false name) ≡ true → is_told (value_target (sought s false name)) ≡ true

-- every name in a scope is told, and every type that is written there and breaks no rule
pub record AllTold (s : Scope) : Type 0 where
  pub names : (name : List ℕ) → IsToldName s name
  pub written : (t : TypeSpec ℕ) → IsFormedType t → type_faults s t ≡ [] → is_some (type_written s t) ≡ true

module _ (decls : List (Decl ℕ)) where
  -- ---- the sections of a unit, with the scope that they are written in and the result beside them

  pub data WrittenIn : Scope → Option (TypeSpec ℕ) → List (Section ℕ) → Type 0 where
    in_class : (c : ℕ) (d : ClassDecl ℕ) → slice_get (classes_in decls) c ≡ Some d → WrittenIn (class_scope decls (unit_names decls) c) None (sections_in d.members)
    in_method : (c : ℕ) (d : ClassDecl ℕ) (k : ℕ) (m : Method ℕ) → slice_get (classes_in decls) c ≡ Some d → slice_get (methods_in d.members) k ≡ Some m → WrittenIn (method_scope decls (unit_names decls) c m) m.result m.sections
    in_function : (i : ℕ) (x : Placed) (f : FunctionDecl ℕ) → slice_get (placed decls) i ≡ Some x → x.declaration ≡ a_function f → WrittenIn (function_scope decls (unit_names decls) f) f.result f.sections
    in_prototype : (i : ℕ) (x : Placed) (d : InterfaceDecl ℕ) (k : ℕ) (m : Prototype ℕ) → slice_get (placed decls) i ≡ Some x → x.declaration ≡ an_interface d → slice_get d.methods k ≡ Some m
        → WrittenIn (prototype_scope decls (unit_names decls) m) m.result m.sections
    in_program : (i : ℕ) (x : Placed) (p : ProgramDecl ℕ) → slice_get (placed decls) i ≡ Some x → x.declaration ≡ a_program p → WrittenIn (program_scope decls (unit_names decls) p) None p.sections

  -- arguments with names have names, in all types, values and results of the unit
  pub record IsFormedUnit : Type 0 where
    pub declared : Every IsFormedDeclaration (declarations decls)
    pub inner : (s : Scope) (r : Option (TypeSpec ℕ)) (ss : List (Section ℕ)) → WrittenIn s r ss → Every IsFormedWritten (sections_written ss)
    pub results : (s : Scope) (r : Option (TypeSpec ℕ)) (ss : List (Section ℕ)) → WrittenIn s r ss → IsFormedResult r

  -- ---- all

  pub record AllIsTold : Type 0 where
    -- what the unit declares
    pub types : Every (λ (t : DeclaredType). is_some t.kind ≡ true) (unit_names decls).types
    pub globals : Every IsToldGlobal (unit_names decls).globals
    pub fields : (i : ℕ) (x : Placed) (t : TypeDecl ℕ) (gs : List (FieldGroup ℕ)) (k : ℕ) (g : FieldGroup ℕ) → slice_get (placed decls) i ≡ Some x → x.declaration ≡ an_entry t → t.body ≡ body.Structure gs → slice_get gs k ≡ Some g
        → is_some (type_written (unit_scope decls (unit_names decls)) g.kind) ≡ true
    pub variables : (c : ℕ) (d : ClassDecl ℕ) → slice_get (classes_in decls) c ≡ Some d → Every IsToldVariable (class_declared decls (unit_names decls) c d).variables
    pub methods : (c : ℕ) (d : ClassDecl ℕ) (k : ℕ) (m : Method ℕ) → slice_get (classes_in decls) c ≡ Some d → slice_get (methods_in d.members) k ≡ Some m → IsToldRoutine (method_declared decls (unit_names decls) c m)
    pub prototypes : (i : ℕ) (x : Placed) (d : InterfaceDecl ℕ) (k : ℕ) (m : Prototype ℕ) → slice_get (placed decls) i ≡ Some x → x.declaration ≡ an_interface d → slice_get d.methods k ≡ Some m → IsToldRoutine (prototype_declared decls (unit_names decls) m)
    -- what is seen and written in its scopes
    pub unit : AllTold (unit_scope decls (unit_names decls))
    pub scopes : (s : Scope) (r : Option (TypeSpec ℕ)) (ss : List (Section ℕ)) → WrittenIn s r ss → AllTold s
    pub locals : (s : Scope) (r : Option (TypeSpec ℕ)) (ss : List (Section ℕ)) → WrittenIn s r ss → Every IsToldVariable s.locals
    pub outcomes : (s : Scope) (t : TypeSpec ℕ) (ss : List (Section ℕ)) → WrittenIn s (Some t) ss → is_some (type_written s t) ≡ true

-- its typed trees are those of a program
pub record HasProgram (decls : List (Decl ℕ)) : Type 0 where
  pub program : Program
  pub checked : IsChecked decls program

pub record ToldUnitLaws : Type 0 where
  pub all_is_told : (decls : List (Decl ℕ)) → BreaksNothing decls → IsFormedUnit decls → AllIsTold decls
  pub has_program : (decls : List (Decl ℕ)) → HasProgram decls
