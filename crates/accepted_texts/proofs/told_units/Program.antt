-- Each unit has a checked program: its typed trees are those of trees of the code.
use Rattle.std.proofs.Common.{ℕ, suc, true, false, List, [], ◌∷◌, Option, Some, None, refl}
use Rattle.st_types.specs.declared.st_type.StType.{StType}
use Rattle.st_tree.specs.declared.configuration.TaskSpec.{TaskSpec}
use Rattle.st_tree.specs.declared.declaration.ClassDecl.{ClassDecl}
use Rattle.st_tree.specs.declared.declaration.FieldGroup.{FieldGroup}
use Rattle.st_tree.specs.declared.declaration.FunctionDecl.{FunctionDecl}
use Rattle.st_tree.specs.declared.declaration.InterfaceDecl.{InterfaceDecl}
use Rattle.st_tree.specs.declared.declaration.Item.{Item}
use Rattle.st_tree.specs.declared.declaration.Member.{Member}
use Rattle.st_tree.specs.declared.declaration.Member.TheVariants as member
use Rattle.st_tree.specs.declared.declaration.Method.{Method}
use Rattle.st_tree.specs.declared.declaration.ProgramDecl.{ProgramDecl}
use Rattle.st_tree.specs.declared.declaration.Prototype.{Prototype}
use Rattle.st_tree.specs.declared.declaration.Section.{Section}
use Rattle.st_tree.specs.declared.declaration.TypeBody.{TypeBody}
use Rattle.st_tree.specs.declared.declaration.TypeBody.TheVariants as body
use Rattle.st_tree.specs.declared.declaration.TypeDecl.{TypeDecl}
use Rattle.st_tree.specs.declared.initial.Init.{Init}
use Rattle.st_tree.specs.declared.name.Used.{Used}
use Rattle.st_tree.specs.declared.program.Note.{Note}
use Rattle.st_tree.specs.declared.program.Target.TheVariants as target
use Rattle.st_tree.specs.declared.statement.Stmt.{Stmt}
use Rattle.st_tree.specs.declared.type_spec.ArraySpec.{ArraySpec}
use Rattle.st_tree.specs.declared.type_spec.Bounds.{Bounds}
use Rattle.st_tree.specs.declared.type_spec.SimpleSpec.{SimpleSpec}
use Rattle.st_tree.specs.declared.type_spec.SimpleSpec.TheVariants as spec
use Rattle.st_tree.specs.declared.type_spec.TypeSpec.{TypeSpec}
use Rattle.st_tree.specs.declared.unit.Decl.{Decl}
use Rattle.st_tree.specs.Expression.{expression_of}
use Rattle.st_tree.specs.Initial.{initial_of}
use Rattle.st_tree.specs.Reads.{no_marks}
use Rattle.st_tree.specs.Statement.{statements_of}
use Rattle.st_rules.specs.declared.asked.Asked.TheVariants.{Anything}
use Rattle.st_rules.specs.Classes.{classes_in}
use Rattle.st_rules.specs.Interfaces.{interfaces_in}
use Rattle.st_rules.specs.Expressions.{note, told}
use Rattle.st_rules.specs.Scope.{Scope}
use Rattle.st_rules.specs.Statements.{typed_statements}
use Rattle.st_unit_rules.specs.declared_names.Declarations.{Region, of_global, of_instance, entries_in, functions_in, programs_in, configurations_in}
use Rattle.st_unit_rules.specs.declared_names.UnitNames.{class_scope, method_scope, function_scope, prototype_scope, program_scope}
use Rattle.st_unit_rules.specs.declared_names.WrittenTypes.{element_written, type_written}
use Rattle.st_unit_rules.specs.Checked.{Each, EachFrom, IfThere, noted, TypedBounds, TypedElement, type_from, TypedArrays, TypedSpec, TypedInitial, TypedItem, TypedSection, TypedBody, TypedGroup, TypedUsed, names, unit, TypedTypeBody, TypedEntry, TypedMethod, TypedMember, class_meant, interface_meant, TypedClass, TypedPrototype, TypedInterface, TypedFunction, TypedProgram, unit_regions, marks_of, program_type, TypedRegion, setting_value, region_of_task, TypedTask, tasks_of}
use Rattle.st_unit_rules.specs.ConfigurationRules.{is_interval, is_priority}
use Rattle.st_unit_rules.specs.Initials.{typed_constant, typed_initial}
use Rattle.accepted_texts.specs.told_units.Told.{HasProgram}
use Rattle.accepted_texts.proofs.told_units.Trees.{tree, tree_is, initial_tree, initial_tree_is, statement_trees, statement_trees_are}

-- ---- lists

-- what is related to one
record Some-of {X Y : Type 0} (R : X → Y → Type 0) (x : X) : Type 0 where
  item : Y
  related : R x item

record All-of {X Y : Type 0} (R : X → Y → Type 0) (xs : List X) : Type 0 where
  items : List Y
  related : Each R xs items

each : {X Y : Type 0} (R : X → Y → Type 0) → ((x : X) → Some-of R x) → (xs : List X) → All-of R xs
each R f [] = record { items = []; related = tt }
each R f (x ∷ xs) = let y = f x in let ys = each R f xs in record { items = y.item ∷ ys.items; related = (y.related, ys.related) }

record All-from {X Y : Type 0} (R : ℕ → X → Y → Type 0) (n : ℕ) (xs : List X) : Type 0 where
  items : List Y
  related : EachFrom R n xs items

each-from : {X Y : Type 0} (R : ℕ → X → Y → Type 0) → ((n : ℕ) (x : X) → Some-of (R n) x) → (n : ℕ) (xs : List X) → All-from R n xs
each-from R f n [] = record { items = []; related = tt }
each-from R f n (x ∷ xs) = let y = f n x in let ys = each-from R f (suc n) xs in record { items = y.item ∷ ys.items; related = (y.related, ys.related) }

record Maybe-of {X Y : Type 0} (R : X → Y → Type 0) (o : Option X) : Type 0 where
  item : Option Y
  related : IfThere R o item

if-there : {X Y : Type 0} (R : X → Y → Type 0) → ((x : X) → Some-of R x) → (o : Option X) → Maybe-of R o
if-there R f None = record { item = None; related = tt }
if-there R f (Some x) = let y = f x in record { item = Some y.item; related = y.related }

-- ---- in a scope

module _ (s : Scope) where
  bounds : (b : Bounds ℕ) → Some-of (TypedBounds s) b
  bounds b = record {
    item = record { low = tree (typed_constant s Anything (expression_of b.low)); high = tree (typed_constant s Anything (expression_of b.high)) };
    related = record { low = tree_is (typed_constant s Anything (expression_of b.low)); high = tree_is (typed_constant s Anything (expression_of b.high)) };
  }

  element : (x : SimpleSpec ℕ) → Some-of (TypedElement s) x
  element (spec.Elementary l e) = record { item = spec.Elementary (noted s l (element_written s (spec.Elementary l e))) e; related = refl }
  element (spec.Named l name) = record { item = spec.Named (noted s l (element_written s (spec.Named l name))) name; related = refl }
  element (spec.Reference l k name) = record { item = spec.Reference (noted s l (element_written s (spec.Reference l k name))) (noted s k (element_written s (spec.Named k name))) name; related = refl }

  record Arrays-of (x : SimpleSpec ℕ) (as' : List (ArraySpec ℕ)) : Type 0 where
    items : List (ArraySpec Note)
    related : TypedArrays s x as' items

  arrays : (x : SimpleSpec ℕ) (as' : List (ArraySpec ℕ)) → Arrays-of x as'
  arrays x [] = record { items = []; related = tt }
  arrays x (a ∷ as') =
      let bs = each (TypedBounds s) bounds a.bounds in
      let rest = arrays x as' in
      record { items = (record { note = noted s a.note (type_from s (a ∷ as') x); bounds = bs.items }) ∷ rest.items; related = (refl, bs.related, rest.related) }

  written : (t : TypeSpec ℕ) → Some-of (TypedSpec s) t
  written t =
      let as' = arrays t.element t.arrays in
      let x = element t.element in
      record { item = record { arrays = as'.items; element = x.item }; related = record { arrays = as'.related; element = x.related } }

  initial : (t : TypeSpec ℕ) (i : Init ℕ) → Some-of (TypedInitial s t) i
  initial t i = record { item = initial_tree (typed_initial s (type_written s t) (initial_of i)); related = initial_tree_is (typed_initial s (type_written s t) (initial_of i)) }

  item : (x : Item ℕ) → Some-of (TypedItem s) x
  item x =
      let t = written x.kind in
      let i = if-there (TypedInitial s x.kind) (initial x.kind) x.initial in
      record { item = record { marks = x.marks; names = x.names; address = x.address; kind = t.item; initial = i.item }; related = record { marks = refl; names = refl; address = refl; kind = t.related; initial = i.related } }

  section : (x : Section ℕ) → Some-of (TypedSection s) x
  section x =
      let ys = each (TypedItem s) item x.items in
      record { item = record { line = x.line; sort = x.sort; modifiers = x.modifiers; items = ys.items }; related = record { line = refl; sort = refl; modifiers = refl; items = ys.related } }

  text : (x : List (Stmt ℕ)) → Some-of (TypedBody s) x
  text x = record { item = statement_trees (typed_statements s (statements_of x)); related = statement_trees_are (typed_statements s (statements_of x)) }

  group : (x : FieldGroup ℕ) → Some-of (TypedGroup s) x
  group x =
      let t = written x.kind in
      let i = if-there (TypedInitial s x.kind) (initial x.kind) x.initial in
      record { item = record { names = x.names; kind = t.item; initial = i.item }; related = record { names = refl; kind = t.related; initial = i.related } }

used : (means : List ℕ → Option StType) (x : Used ℕ) → Some-of (TypedUsed means) x
used means x = record { item = record { note = note x.note (means x.text) target.Nothing; text = x.text }; related = (refl, refl) }

-- ---- declarations

module _ (decls : List (Decl ℕ)) where
  type-body : (x : TypeBody ℕ) → Some-of (TypedTypeBody decls) x
  type-body (body.Alias t) = let u = written (unit decls) t in record { item = body.Alias u.item; related = u.related }
  type-body (body.Enumeration ns) = record { item = body.Enumeration ns; related = refl }
  type-body (body.Structure gs) = let hs = each (TypedGroup (unit decls)) (group (unit decls)) gs in record { item = body.Structure hs.items; related = hs.related }

  entry : (x : TypeDecl ℕ) → Some-of (TypedEntry decls) x
  entry x = let b = type-body x.body in record { item = record { name = x.name; body = b.item }; related = record { name = refl; body = b.related } }

  method : (c : ℕ) (x : Method ℕ) → Some-of (TypedMethod decls c) x
  method c x =
      let s = method_scope decls (names decls) c x in
      let r = if-there (TypedSpec s) (written s) x.result in
      let ss = each (TypedSection s) (section s) x.sections in
      let b = text s x.body in
      record {
        item = record { line = x.line; modifiers = x.modifiers; name = x.name; result = r.item; sections = ss.items; body = b.item };
        related = record { line = refl; modifiers = refl; name = refl; result = r.related; sections = ss.related; body = b.related };
      }

  member-of : (c : ℕ) (x : Member ℕ) → Some-of (TypedMember decls c) x
  member-of c (member.Section x) = let y = section (class_scope decls (names decls) c) x in record { item = member.Section y.item; related = y.related }
  member-of c (member.Method x) = let y = method c x in record { item = member.Method y.item; related = y.related }

  class : (c : ℕ) (x : ClassDecl ℕ) → Some-of (TypedClass decls c) x
  class c x =
      let b = if-there (TypedUsed (class_meant decls)) (used (class_meant decls)) x.base in
      let is = each (TypedUsed (interface_meant decls)) (used (interface_meant decls)) x.interfaces in
      let ms = each (TypedMember decls c) (member-of c) x.members in
      let t = text (class_scope decls (names decls) c) x.body in
      record {
        item = record { line = x.line; sort = x.sort; modifiers = x.modifiers; name = x.name; base = b.item; interfaces = is.items; members = ms.items; body = t.item };
        related = record { line = refl; sort = refl; modifiers = refl; name = refl; base = b.related; interfaces = is.related; members = ms.related; body = t.related };
      }

  prototype : (x : Prototype ℕ) → Some-of (TypedPrototype decls) x
  prototype x =
      let s = prototype_scope decls (names decls) x in
      let r = if-there (TypedSpec s) (written s) x.result in
      let ss = each (TypedSection s) (section s) x.sections in
      record { item = record { line = x.line; name = x.name; result = r.item; sections = ss.items }; related = record { line = refl; name = refl; result = r.related; sections = ss.related } }

  interface : (x : InterfaceDecl ℕ) → Some-of (TypedInterface decls) x
  interface x =
      let bs = each (TypedUsed (interface_meant decls)) (used (interface_meant decls)) x.bases in
      let ms = each (TypedPrototype decls) prototype x.methods in
      record { item = record { line = x.line; name = x.name; bases = bs.items; methods = ms.items }; related = record { line = refl; name = refl; bases = bs.related; methods = ms.related } }

  function : (x : FunctionDecl ℕ) → Some-of (TypedFunction decls) x
  function x =
      let s = function_scope decls (names decls) x in
      let r = if-there (TypedSpec s) (written s) x.result in
      let ss = each (TypedSection s) (section s) x.sections in
      let b = text s x.body in
      record {
        item = record { line = x.line; name = x.name; result = r.item; sections = ss.items; body = b.item };
        related = record { line = refl; name = refl; result = r.related; sections = ss.related; body = b.related };
      }

  program : (x : ProgramDecl ℕ) → Some-of (TypedProgram decls) x
  program x =
      let s = program_scope decls (names decls) x in
      let ss = each (TypedSection s) (section s) x.sections in
      let b = text s x.body in
      record { item = record { line = x.line; name = x.name; sections = ss.items; body = b.item }; related = record { line = refl; name = refl; sections = ss.related; body = b.related } }

  region : (x : Region) → Some-of (TypedRegion decls) x
  region (of_global w) =
      let i = if-there (TypedInitial (unit decls) w.item.kind) (initial (unit decls) w.item.kind) w.item.initial in
      record {
        item = record { name = w.name.text; program = false; kind = told (type_written (unit decls) w.item.kind); marks = marks_of decls w; initial = i.item; address = w.item.address };
        related = record { name = refl; program = refl; kind = refl; marks = refl; initial = i.related; address = refl };
      }
  region (of_instance x) = record {
    item = record { name = x.name.text; program = true; kind = told (program_type decls x.program.text); marks = no_marks; initial = None; address = None };
    related = record { name = refl; program = refl; kind = refl; marks = refl; initial = refl; address = refl };
  }

  task : (x : TaskSpec) → Some-of (TypedTask decls) x
  task x = record {
    item = record { name = x.name.text; interval = setting_value decls is_interval x.settings; priority = setting_value decls is_priority x.settings; programs = region_of_task decls x.name.text 0 (unit_regions decls) };
    related = record { name = refl; interval = refl; priority = refl; programs = refl };
  }

  -- ---- all

  pub has-program : HasProgram decls
  has-program =
      let ts = each (TypedEntry decls) entry (entries_in decls) in
      let cs = each-from (TypedClass decls) class 0 (classes_in decls) in
      let is = each (TypedInterface decls) interface (interfaces_in decls) in
      let fs = each (TypedFunction decls) function (functions_in decls) in
      let ps = each (TypedProgram decls) program (programs_in decls) in
      let rs = each (TypedRegion decls) region (unit_regions decls) in
      let ks = each (TypedTask decls) task (tasks_of decls (configurations_in decls)) in
      record {
        program = record { types = ts.items; classes = cs.items; interfaces = is.items; functions = fs.items; programs = ps.items; regions = rs.items; tasks = ks.items };
        checked = record { types = ts.related; classes = cs.related; interfaces = is.related; functions = fs.related; programs = ps.related; regions = rs.related; tasks = ks.related };
      }
