-- What a unit says of its names. Types need constants for bounds, and constants need types and other constants: what can be told is told
-- in so many steps, each from what the step before tells. Every step has all names, and at first nothing is told of them, so that a name
-- means the same at each step. What lies on a cycle, or behind one, is never told.
use Rattle.std.specs.Prelude.{ℕ, zero, suc, ◌+◌, Bool, true, false, if◌then◌else◌, List, [], ◌∷◌, ◌++◌, map, flat_map, filter, length, drop, Option, Some, None, slice_get}
use Rattle.st_types.specs.declared.st_type.StType.{StType}
use Rattle.st_types.specs.declared.st_type.StType.TheVariants as type
use Rattle.st_tree.specs.declared.declaration.ClassDecl.{ClassDecl}
use Rattle.st_tree.specs.declared.declaration.FieldGroup.{FieldGroup}
use Rattle.st_tree.specs.declared.declaration.FunctionDecl.{FunctionDecl}
use Rattle.st_tree.specs.declared.declaration.InterfaceDecl.{InterfaceDecl}
use Rattle.st_tree.specs.declared.declaration.Method.{Method}
use Rattle.st_tree.specs.declared.declaration.Modifier.{Modifier}
use Rattle.st_tree.specs.declared.declaration.ProgramDecl.{ProgramDecl}
use Rattle.st_tree.specs.declared.declaration.Prototype.{Prototype}
use Rattle.st_tree.specs.declared.declaration.Section.{Section}
use Rattle.st_tree.specs.declared.declaration.TypeBody.{TypeBody}
use Rattle.st_tree.specs.declared.declaration.TypeBody.TheVariants as body
use Rattle.st_tree.specs.declared.declaration.TypeDecl.{TypeDecl}
use Rattle.st_tree.specs.declared.program.Target.{Target}
use Rattle.st_tree.specs.declared.program.Target.TheVariants as target
use Rattle.st_tree.specs.declared.type_spec.TypeSpec.{TypeSpec}
use Rattle.st_tree.specs.declared.unit.Decl.{Decl}
use Rattle.st_tree.specs.declared.unit.Decl.TheVariants as declaration
use Rattle.st_rules.specs.declared.signature.ResultType.{ResultType}
use Rattle.st_rules.specs.declared.signature.ResultType.TheVariants as outcome
use Rattle.st_rules.specs.declared.names.DeclaredVariable.{DeclaredVariable}
use Rattle.st_rules.specs.declared.names.DeclaredRoutine.{DeclaredRoutine}
use Rattle.st_rules.specs.declared.names.DeclaredClass.{DeclaredClass}
use Rattle.st_rules.specs.declared.names.DeclaredField.{DeclaredField}
use Rattle.st_rules.specs.declared.names.DeclaredType.{DeclaredType}
use Rattle.st_rules.specs.declared.names.DeclaredGlobal.{DeclaredGlobal}
use Rattle.st_rules.specs.declared.names.DeclaredGlobal.TheVariants as global
use Rattle.st_rules.specs.declared.names.TypeParts.{TypeParts}
use Rattle.st_rules.specs.declared.names.TypeParts.TheVariants as parts
use Rattle.st_rules.specs.declared.names.DeclaredNames.{DeclaredNames}
use Rattle.st_rules.specs.Classes.{classes_in, methods_in, chain}
use Rattle.st_rules.specs.Interfaces.{interfaces_in}
use Rattle.st_rules.specs.Modifiers.{method_access, is_abstract}
use Rattle.st_rules.specs.Numbered.{each_numbered}
use Rattle.st_rules.specs.Scope.{Scope}
use Rattle.st_rules.specs.Calls.{is_parameter}
use Rattle.st_unit_rules.specs.declared_names.WrittenTypes.{type_written}
use Rattle.st_unit_rules.specs.declared_names.Variables.{Written, sections_written, sections_in, is_kept_written, is_body_written, constant_target, constant_of, declared_with, members_declared, routine_locals}
use Rattle.st_unit_rules.specs.declared_names.Declarations.{configuration_globals, entries_in, globals_declared}

-- ---- routines

abbrev pub forgotten_target : Bool → Target → Target
forgotten_target constant t = if constant then target.Nothing else t

-- a variable of which the name is known alone
abbrev pub forgotten : DeclaredVariable → DeclaredVariable
forgotten v = record v { kind = None; target = forgotten_target v.constant v.target }

abbrev pub forgotten_outcome : ResultType → ResultType
forgotten_outcome outcome.Nothing = outcome.Nothing
forgotten_outcome (outcome.Written t) = outcome.Written None

abbrev pub forgotten_routine : DeclaredRoutine → DeclaredRoutine
forgotten_routine r = record r { outcome = forgotten_outcome r.outcome; parameters = map forgotten r.parameters }

abbrev pub forgotten_type : DeclaredType → DeclaredType
forgotten_type t = record t { kind = None }

abbrev pub forgotten_field : DeclaredField → DeclaredField
forgotten_field f = record f { kind = None }

abbrev pub forgotten_parts : TypeParts → TypeParts
forgotten_parts parts.Nothing = parts.Nothing
forgotten_parts (parts.Values names) = parts.Values names
forgotten_parts (parts.Fields fields) = parts.Fields (map forgotten_field fields)

abbrev pub forgotten_global : DeclaredGlobal → DeclaredGlobal
forgotten_global (global.Variable v) = global.Variable (forgotten v)
forgotten_global (global.Function k r) = global.Function k (forgotten_routine r)

abbrev pub forgotten_class : DeclaredClass → DeclaredClass
forgotten_class c = record c { variables = map forgotten c.variables; methods = map forgotten_routine c.methods }

-- all names, of which nothing is told
abbrev pub forgotten_names : DeclaredNames → DeclaredNames
forgotten_names n = record {
  types = map forgotten_type n.types;
  parts = map forgotten_parts n.parts;
  classes = map forgotten_class n.classes;
  interfaces = map (λ ms. map forgotten_routine ms) n.interfaces;
  globals = map forgotten_global n.globals;
}

abbrev pub constants_written : List (Section ℕ) → List Written
constants_written ss = filter (λ w. w.constant) (sections_written ss)

-- what a routine leaves, in the scope of its text
abbrev pub result_written : Scope → Option (TypeSpec ℕ) → ResultType
result_written s None = outcome.Nothing
result_written s (Some t) = outcome.Written (type_written s t)

module _ (s : Scope) where
  -- the locals that `gives` gives from what is told of them, in so many steps
  abbrev pub told_locals : (Scope → List DeclaredVariable) → ℕ → List DeclaredVariable
  told_locals gives zero = map forgotten (gives s)
  told_locals gives (suc k) = gives (record s { locals = told_locals gives k })

  -- the locals of a function or a method, or of a method of an interface
  unfoldable pub locals_of : List ℕ → Option (TypeSpec ℕ) → List (Section ℕ) → List DeclaredVariable
  locals_of name result ss = told_locals (λ t. routine_locals t name result ss) (suc (length (constants_written ss)))

  -- all variables of a program
  unfoldable pub program_locals : List (Section ℕ) → List DeclaredVariable
  program_locals ss = told_locals (λ t. members_declared t 0 0 ss) (suc (length (constants_written ss)))

  -- a result's type is written in the routine, whose constants are seen in it
  abbrev pub routine_declared : List ℕ → List Modifier → Option (TypeSpec ℕ) → List (Section ℕ) → DeclaredRoutine
  routine_declared name modifiers result ss = record {
    name = name;
    access = method_access modifiers;
    abstract_method = is_abstract modifiers;
    outcome = result_written (record s { locals = locals_of name result ss }) result;
    parameters = filter is_parameter (locals_of name result ss);
  }

-- ---- scopes

module _ (decls : List (Decl ℕ)) where
  module _ (names : DeclaredNames) where
    -- of a declaration that is no class
    abbrev pub unit_scope : Scope
    unit_scope = record { classes = classes_in decls; interfaces = interfaces_in decls; names = names; class = None; in_method = false; locals = [] }

    -- of a class or a function block, and its body
    abbrev pub class_scope : ℕ → Scope
    class_scope c = record unit_scope { class = Some c }

    -- of a routine before its locals are known
    abbrev pub outer_scope : Option ℕ → Scope
    outer_scope c = record unit_scope { class = c; in_method = true }

    unfoldable pub method_scope : ℕ → Method ℕ → Scope
    method_scope c m = record (outer_scope (Some c)) { locals = locals_of (outer_scope (Some c)) m.name.text m.result m.sections }

    unfoldable pub function_scope : FunctionDecl ℕ → Scope
    function_scope f = record unit_scope { locals = locals_of unit_scope f.name.text f.result f.sections }

    unfoldable pub prototype_scope : Prototype ℕ → Scope
    prototype_scope m = record unit_scope { locals = locals_of unit_scope m.name.text m.result m.sections }

    unfoldable pub program_scope : ProgramDecl ℕ → Scope
    program_scope p = record unit_scope { locals = program_locals unit_scope p.sections }

    -- ---- types

    abbrev pub entry_kind : ℕ → TypeBody ℕ → Option StType
    entry_kind n (body.Alias t) = type_written unit_scope t
    entry_kind n (body.Enumeration ns) = Some (type.Enumeration n)
    entry_kind n (body.Structure gs) = Some (type.Structure n)

    abbrev pub entries_declared : ℕ → List (TypeDecl ℕ) → List DeclaredType
    entries_declared n [] = []
    entries_declared n (t ∷ ts) = record { name = t.name.text; kind = entry_kind n t.body } ∷ entries_declared (suc n) ts

    -- in the order of the text; the next entry of TYPE has number n, the next class number c, the next interface number i
    abbrev pub types_declared : ℕ → ℕ → ℕ → List (Decl ℕ) → List DeclaredType
    types_declared n c i [] = []
    types_declared n c i (declaration.Types l ts ∷ ds) = entries_declared n ts ++ types_declared (n + length ts) c i ds
    types_declared n c i (declaration.Class d ∷ ds) = record { name = d.name.text; kind = Some (type.Instance c) } ∷ types_declared n (suc c) i ds
    types_declared n c i (declaration.Interface d ∷ ds) = record { name = d.name.text; kind = Some (type.Interface i) } ∷ types_declared n c (suc i) ds
    types_declared n c i (_ ∷ ds) = types_declared n c i ds

    abbrev pub group_declared : FieldGroup ℕ → List DeclaredField
    group_declared g = map (λ n. record { name = n.text; kind = type_written unit_scope g.kind }) g.names

    abbrev pub parts_declared : TypeBody ℕ → TypeParts
    parts_declared (body.Alias t) = parts.Nothing
    parts_declared (body.Enumeration ns) = parts.Values (map (λ n. n.text) ns)
    parts_declared (body.Structure gs) = parts.Fields (flat_map group_declared gs)

    -- ---- classes and interfaces

    abbrev pub written_by : Option (ClassDecl ℕ) → List Written
    written_by None = []
    written_by (Some d) = sections_written (sections_in d.members)

    -- what the bases of a class declare
    abbrev pub written_above : ℕ → List Written
    written_above c = flat_map (λ b. written_by (slice_get (classes_in decls) b)) (drop 1 (chain (classes_in decls) c))

    abbrev pub method_declared : ℕ → Method ℕ → DeclaredRoutine
    method_declared c m = routine_declared (outer_scope (Some c)) m.name.text m.modifiers m.result m.sections

    -- variables and body locals are numbered behind those of the bases
    abbrev pub class_declared : ℕ → ClassDecl ℕ → DeclaredClass
    class_declared c d = record {
      sort = d.sort;
      variables = members_declared (class_scope c) (length (filter is_kept_written (written_above c))) (length (filter is_body_written (written_above c))) (sections_in d.members);
      methods = map (method_declared c) (methods_in d.members);
    }

    abbrev pub prototype_declared : Prototype ℕ → DeclaredRoutine
    prototype_declared m = routine_declared unit_scope m.name.text [] m.result m.sections

    abbrev pub interface_declared : InterfaceDecl ℕ → List DeclaredRoutine
    interface_declared d = map prototype_declared d.methods

    -- ---- globals and functions

    abbrev pub variables_declared : ℕ → List Written → List DeclaredGlobal
    variables_declared r [] = []
    variables_declared r (w ∷ ws) =
        if w.constant
        then global.Variable (declared_with unit_scope (constant_target (constant_of unit_scope w)) w) ∷ variables_declared r ws
        else global.Variable (declared_with unit_scope (target.Region r) w) ∷ variables_declared (suc r) ws

    -- the regions that globals make: constants make none
    abbrev pub region_count : List Written → ℕ
    region_count ws = length (filter (λ w. if w.constant then false else true) ws)

    -- in the order of the text; the next region has number r, the next function number k
    abbrev pub globals_from : ℕ → ℕ → List (Decl ℕ) → List DeclaredGlobal
    globals_from r k [] = []
    globals_from r k (declaration.Globals s ∷ ds) = variables_declared r (sections_written (s ∷ [])) ++ globals_from (r + region_count (sections_written (s ∷ []))) k ds
    globals_from r k (declaration.Function f ∷ ds) = global.Function k (routine_declared unit_scope f.name.text [] f.result f.sections) ∷ globals_from r (suc k) ds
    globals_from r k (declaration.Configuration c ∷ ds) =
        variables_declared r (sections_written (configuration_globals c))
        ++ globals_from (r + (region_count (sections_written (configuration_globals c)) + length c.instances)) k ds
    globals_from r k (_ ∷ ds) = globals_from r k ds

    -- what is told from what was told before
    unfoldable pub names_from : DeclaredNames
    names_from = record {
      types = types_declared 0 0 0 decls;
      parts = map (λ t. parts_declared t.body) (entries_in decls);
      classes = each_numbered (λ c d. class_declared c d ∷ []) 0 (classes_in decls);
      interfaces = map interface_declared (interfaces_in decls);
      globals = globals_from 0 0 decls;
    }

  abbrev pub no_names : DeclaredNames
  no_names = record { types = []; parts = []; classes = []; interfaces = []; globals = [] }

  -- in so many steps
  abbrev pub names_told : ℕ → DeclaredNames
  names_told zero = forgotten_names (names_from no_names)
  names_told (suc k) = names_from (names_told k)

  -- a step more than what may need another: entries of TYPE and constants
  abbrev pub steps_needed : ℕ
  steps_needed =
      length (entries_in decls) + (length (filter (λ w. w.constant) (flat_map globals_declared decls)) + length (flat_map (λ d. constants_written (sections_in d.members)) (classes_in decls)))

  -- what the unit says of its names
  unfoldable pub unit_names : DeclaredNames
  unit_names = names_told (suc (suc steps_needed))
