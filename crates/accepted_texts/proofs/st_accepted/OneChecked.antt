-- A unit has one checked program: what is typed at each node is told by the node.
use Rattle.std.proofs.Common.{◌≡◌, ℕ, suc, Bool, List, [], ◌∷◌, Option, Some, None, refl, sym, ap, ap₂, ◌∙◌}
use Rattle.st_types.specs.declared.elem.Elem.{Elem}
use Rattle.st_types.specs.declared.st_type.StType.{StType}
use Rattle.st_tree.specs.declared.declaration.ClassDecl.{ClassDecl}
use Rattle.st_tree.specs.declared.declaration.ClassSort.{ClassSort}
use Rattle.st_tree.specs.declared.declaration.FieldGroup.{FieldGroup}
use Rattle.st_tree.specs.declared.declaration.FunctionDecl.{FunctionDecl}
use Rattle.st_tree.specs.declared.declaration.InterfaceDecl.{InterfaceDecl}
use Rattle.st_tree.specs.declared.declaration.Item.{Item}
use Rattle.st_tree.specs.declared.declaration.Member.{Member}
use Rattle.st_tree.specs.declared.declaration.Member.TheVariants as member
use Rattle.st_tree.specs.declared.declaration.Method.{Method}
use Rattle.st_tree.specs.declared.declaration.Modifier.{Modifier}
use Rattle.st_tree.specs.declared.declaration.ProgramDecl.{ProgramDecl}
use Rattle.st_tree.specs.declared.declaration.Prototype.{Prototype}
use Rattle.st_tree.specs.declared.declaration.Section.{Section}
use Rattle.st_tree.specs.declared.declaration.SectionSort.{SectionSort}
use Rattle.st_tree.specs.declared.declaration.TypeBody.{TypeBody}
use Rattle.st_tree.specs.declared.declaration.TypeBody.TheVariants as body
use Rattle.st_tree.specs.declared.declaration.TypeDecl.{TypeDecl}
use Rattle.st_tree.specs.declared.configuration.TaskSpec.{TaskSpec}
use Rattle.st_tree.specs.declared.expression.Expr.{Expr}
use Rattle.st_tree.specs.declared.initial.Init.{Init}
use Rattle.st_tree.specs.declared.marks.Marks.{Marks}
use Rattle.st_tree.specs.declared.name.Name.{Name}
use Rattle.st_tree.specs.declared.name.Used.{Used}
use Rattle.st_tree.specs.declared.program.Note.{Note}
use Rattle.st_tree.specs.declared.program.Program.{Program}
use Rattle.st_tree.specs.declared.program.RegionDecl.{RegionDecl}
use Rattle.st_tree.specs.declared.program.TaskDecl.{TaskDecl}
use Rattle.st_tree.specs.declared.statement.Stmt.{Stmt}
use Rattle.st_tree.specs.declared.type_spec.ArraySpec.{ArraySpec}
use Rattle.st_tree.specs.declared.type_spec.Bounds.{Bounds}
use Rattle.st_tree.specs.declared.type_spec.SimpleSpec.{SimpleSpec}
use Rattle.st_tree.specs.declared.type_spec.SimpleSpec.TheVariants as spec
use Rattle.st_tree.specs.declared.type_spec.TypeSpec.{TypeSpec}
use Rattle.st_tree.specs.declared.unit.Decl.{Decl}
use Rattle.st_tree.specs.Expression.{expression_of}
use Rattle.st_tree.specs.Initial.{initial_of}
use Rattle.st_tree.specs.Statement.{statements_of}
use Rattle.st_tree.proofs.Views.{expression_from, back-expression, initial_from, back-initial, statements_from, back-statements}
use Rattle.st_rules.specs.Scope.{Scope}
use Rattle.st_unit_rules.specs.declared_names.Declarations.{Region, of_global, of_instance}
use Rattle.st_unit_rules.specs.declared_names.UnitNames.{unit_names, class_scope, method_scope, function_scope, prototype_scope, program_scope}
use Rattle.st_unit_rules.specs.Checked.{Each, EachFrom, IfThere, TypedBounds, TypedElement, TypedArrays, TypedSpec, TypedInitial, TypedItem, TypedSection, TypedBody, TypedGroup, TypedUsed, unit, TypedTypeBody, TypedEntry, TypedMethod, TypedMember, class_meant, interface_meant, TypedClass, TypedPrototype, TypedInterface, TypedFunction, TypedProgram, GlobalRegion, InstanceRegion, TypedRegion, TypedTask, IsChecked}

-- ---- lists and options

each : {A B : Type 0} (R : A → B → Type 0) → ((a : A) (b c : B) → R a b → R a c → b ≡ c) → (xs : List A) (ys zs : List B) → Each R xs ys → Each R xs zs → ys ≡ zs
each R one [] [] [] h k = refl
each R one [] [] (z ∷ zs) h k = absurd k
each R one [] (y ∷ ys) zs h k = absurd h
each R one (x ∷ xs) [] zs h k = absurd h
each R one (x ∷ xs) (y ∷ ys) [] h k = absurd k
each R one (x ∷ xs) (y ∷ ys) (z ∷ zs) h k = ap₂ (λ u us. u ∷ us) (one x y z h.0 k.0) (each R one xs ys zs h.1 k.1)

each_from : {A B : Type 0} (R : ℕ → A → B → Type 0) → ((n : ℕ) (a : A) (b c : B) → R n a b → R n a c → b ≡ c) → (n : ℕ) (xs : List A) (ys zs : List B) → EachFrom R n xs ys → EachFrom R n xs zs → ys ≡ zs
each_from R one n [] [] [] h k = refl
each_from R one n [] [] (z ∷ zs) h k = absurd k
each_from R one n [] (y ∷ ys) zs h k = absurd h
each_from R one n (x ∷ xs) [] zs h k = absurd h
each_from R one n (x ∷ xs) (y ∷ ys) [] h k = absurd k
each_from R one n (x ∷ xs) (y ∷ ys) (z ∷ zs) h k = ap₂ (λ u us. u ∷ us) (one n x y z h.0 k.0) (each_from R one (suc n) xs ys zs h.1 k.1)

if_there : {A B : Type 0} (R : A → B → Type 0) → ((a : A) (b c : B) → R a b → R a c → b ≡ c) → (x : Option A) (y z : Option B) → IfThere R x y → IfThere R x z → y ≡ z
if_there R one None None None h k = refl
if_there R one None None (Some z) h k = absurd k
if_there R one None (Some y) z h k = absurd h
if_there R one (Some x) None z h k = absurd h
if_there R one (Some x) (Some y) None h k = absurd k
if_there R one (Some x) (Some y) (Some z) h k = ap Some (one x y z h k)

-- ---- trees

one_expression : (x y : Expr Note) → expression_of x ≡ expression_of y → x ≡ y
one_expression x y e = sym (back-expression x) ∙ ap expression_from e ∙ back-expression y

one_initial : (x y : Init Note) → initial_of x ≡ initial_of y → x ≡ y
one_initial x y e = sym (back-initial x) ∙ ap initial_from e ∙ back-initial y

one_body : (x y : List (Stmt Note)) → statements_of x ≡ statements_of y → x ≡ y
one_body x y e = sym (back-statements x) ∙ ap statements_from e ∙ back-statements y

-- ---- records of what they have

abbrev bounds_with : Expr Note → Expr Note → Bounds Note
bounds_with l h = record { low = l; high = h }

abbrev array_with : Note → List (Bounds Note) → ArraySpec Note
array_with n bs = record { note = n; bounds = bs }

abbrev spec_with : List (ArraySpec Note) → SimpleSpec Note → TypeSpec Note
spec_with as' e = record { arrays = as'; element = e }

abbrev item_with : Marks → List Name → Option (List ℕ) → TypeSpec Note → Option (Init Note) → Item Note
item_with m ns a k i = record { marks = m; names = ns; address = a; kind = k; initial = i }

abbrev section_with : ℕ → SectionSort → List Modifier → List (Item Note) → Section Note
section_with l s ms is = record { line = l; sort = s; modifiers = ms; items = is }

abbrev group_with : List Name → TypeSpec Note → Option (Init Note) → FieldGroup Note
group_with ns k i = record { names = ns; kind = k; initial = i }

abbrev used_with : Note → List ℕ → Used Note
used_with n t = record { note = n; text = t }

abbrev entry_with : Name → TypeBody Note → TypeDecl Note
entry_with n b = record { name = n; body = b }

abbrev method_with : ℕ → List Modifier → Name → Option (TypeSpec Note) → List (Section Note) → List (Stmt Note) → Method Note
method_with l ms n r ss b = record { line = l; modifiers = ms; name = n; result = r; sections = ss; body = b }

abbrev prototype_with : ℕ → Name → Option (TypeSpec Note) → List (Section Note) → Prototype Note
prototype_with l n r ss = record { line = l; name = n; result = r; sections = ss }

abbrev class_with : ℕ → ClassSort → List Modifier → Name → Option (Used Note) → List (Used Note) → List (Member Note) → List (Stmt Note) → ClassDecl Note
class_with l s ms n b is es ss = record { line = l; sort = s; modifiers = ms; name = n; base = b; interfaces = is; members = es; body = ss }

abbrev interface_with : ℕ → Name → List (Used Note) → List (Prototype Note) → InterfaceDecl Note
interface_with l n bs ms = record { line = l; name = n; bases = bs; methods = ms }

abbrev function_with : ℕ → Name → Option (TypeSpec Note) → List (Section Note) → List (Stmt Note) → FunctionDecl Note
function_with l n r ss b = record { line = l; name = n; result = r; sections = ss; body = b }

abbrev program_with : ℕ → Name → List (Section Note) → List (Stmt Note) → ProgramDecl Note
program_with l n ss b = record { line = l; name = n; sections = ss; body = b }

abbrev region_with : List ℕ → Bool → StType → Marks → Option (Init Note) → Option (List ℕ) → RegionDecl
region_with n p k m i a = record { name = n; program = p; kind = k; marks = m; initial = i; address = a }

abbrev task_with : List ℕ → Option ℕ → Option ℕ → List ℕ → TaskDecl
task_with n i p ps = record { name = n; interval = i; priority = p; programs = ps }

-- ---- what is typed in a scope

module _ (s : Scope) where
  one_bounds : (b : Bounds ℕ) (x y : Bounds Note) → TypedBounds s b x → TypedBounds s b y → x ≡ y
  one_bounds b x y h k = ap₂ bounds_with (one_expression x.low y.low (h.low ∙ sym k.low)) (one_expression x.high y.high (h.high ∙ sym k.high))

  one_element : (e : SimpleSpec ℕ) (x y : SimpleSpec Note) → TypedElement s e x → TypedElement s e y → x ≡ y
  one_element (spec.Elementary l e) x y h k = h ∙ sym k
  one_element (spec.Named l name) x y h k = h ∙ sym k
  one_element (spec.Reference l m name) x y h k = h ∙ sym k

  one_arrays : (e : SimpleSpec ℕ) (as' : List (ArraySpec ℕ)) (xs ys : List (ArraySpec Note)) → TypedArrays s e as' xs → TypedArrays s e as' ys → xs ≡ ys
  one_arrays e [] [] [] h k = refl
  one_arrays e [] [] (y ∷ ys) h k = absurd k
  one_arrays e [] (x ∷ xs) ys h k = absurd h
  one_arrays e (a ∷ as') [] ys h k = absurd h
  one_arrays e (a ∷ as') (x ∷ xs) [] h k = absurd k
  one_arrays e (a ∷ as') (x ∷ xs) (y ∷ ys) h k =
      ap₂ (λ u us. u ∷ us) (ap₂ array_with (h.0 ∙ sym k.0) (each (TypedBounds s) one_bounds a.bounds x.bounds y.bounds h.1 k.1)) (one_arrays e as' xs ys h.2 k.2)

  one_spec : (t : TypeSpec ℕ) (x y : TypeSpec Note) → TypedSpec s t x → TypedSpec s t y → x ≡ y
  one_spec t x y h k = ap₂ spec_with (one_arrays t.element t.arrays x.arrays y.arrays h.arrays k.arrays) (one_element t.element x.element y.element h.element k.element)

  given : (t : TypeSpec ℕ) (i : Init ℕ) (x y : Init Note) → TypedInitial s t i x → TypedInitial s t i y → x ≡ y
  given t i x y h k = one_initial x y (h ∙ sym k)

  one_item : (i : Item ℕ) (x y : Item Note) → TypedItem s i x → TypedItem s i y → x ≡ y
  one_item i x y h k =
      ap (λ m. item_with m x.names x.address x.kind x.initial) (h.marks ∙ sym k.marks)
      ∙ ap (λ ns. item_with y.marks ns x.address x.kind x.initial) (h.names ∙ sym k.names)
      ∙ ap (λ a. item_with y.marks y.names a x.kind x.initial) (h.address ∙ sym k.address)
      ∙ ap₂ (item_with y.marks y.names y.address) (one_spec i.kind x.kind y.kind h.kind k.kind) (if_there (TypedInitial s i.kind) (given i.kind) i.initial x.initial y.initial h.initial k.initial)

  one_section : (i : Section ℕ) (x y : Section Note) → TypedSection s i x → TypedSection s i y → x ≡ y
  one_section i x y h k =
      ap (λ l. section_with l x.sort x.modifiers x.items) (h.line ∙ sym k.line)
      ∙ ap (λ q. section_with y.line q x.modifiers x.items) (h.sort ∙ sym k.sort)
      ∙ ap₂ (section_with y.line y.sort) (h.modifiers ∙ sym k.modifiers) (each (TypedItem s) one_item i.items x.items y.items h.items k.items)

  one_typed : (b : List (Stmt ℕ)) (x y : List (Stmt Note)) → TypedBody s b x → TypedBody s b y → x ≡ y
  one_typed b x y h k = one_body x y (h ∙ sym k)

  one_group : (g : FieldGroup ℕ) (x y : FieldGroup Note) → TypedGroup s g x → TypedGroup s g y → x ≡ y
  one_group g x y h k =
      ap (λ ns. group_with ns x.kind x.initial) (h.names ∙ sym k.names)
      ∙ ap₂ (group_with y.names) (one_spec g.kind x.kind y.kind h.kind k.kind) (if_there (TypedInitial s g.kind) (given g.kind) g.initial x.initial y.initial h.initial k.initial)

  -- ---- what routines have

  one_result : (r : Option (TypeSpec ℕ)) (x y : Option (TypeSpec Note)) → IfThere (TypedSpec s) r x → IfThere (TypedSpec s) r y → x ≡ y
  one_result r x y h k = if_there (TypedSpec s) one_spec r x y h k

  one_sections : (i : List (Section ℕ)) (x y : List (Section Note)) → Each (TypedSection s) i x → Each (TypedSection s) i y → x ≡ y
  one_sections i x y h k = each (TypedSection s) one_section i x y h k

one_used : (means : List ℕ → Option StType) (u : Used ℕ) (x y : Used Note) → TypedUsed means u x → TypedUsed means u y → x ≡ y
one_used means u x y h k = ap₂ used_with (h.0 ∙ sym k.0) (h.1 ∙ sym k.1)

-- ---- declarations of a unit

module _ (decls : List (Decl ℕ)) where
  groups : (gs : List (FieldGroup ℕ)) (x y : List (FieldGroup Note)) → Each (TypedGroup (unit decls)) gs x → Each (TypedGroup (unit decls)) gs y → x ≡ y
  groups gs x y h k = each (TypedGroup (unit decls)) (one_group (unit decls)) gs x y h k

  one_type : (b : TypeBody ℕ) (x y : TypeBody Note) → TypedTypeBody decls b x → TypedTypeBody decls b y → x ≡ y
  one_type (body.Alias t) (body.Alias u) (body.Alias v) h k = ap body.Alias (one_spec (unit decls) t u v h k)
  one_type (body.Alias t) (body.Alias u) (body.Enumeration ns) h k = absurd k
  one_type (body.Alias t) (body.Alias u) (body.Structure gs) h k = absurd k
  one_type (body.Alias t) (body.Enumeration ns) y h k = absurd h
  one_type (body.Alias t) (body.Structure gs) y h k = absurd h
  one_type (body.Enumeration ns) (body.Enumeration ms) (body.Enumeration ls) h k = ap body.Enumeration (h ∙ sym k)
  one_type (body.Enumeration ns) (body.Enumeration ms) (body.Alias t) h k = absurd k
  one_type (body.Enumeration ns) (body.Enumeration ms) (body.Structure gs) h k = absurd k
  one_type (body.Enumeration ns) (body.Alias t) y h k = absurd h
  one_type (body.Enumeration ns) (body.Structure gs) y h k = absurd h
  one_type (body.Structure gs) (body.Structure hs) (body.Structure is) h k = ap body.Structure (groups gs hs is h k)
  one_type (body.Structure gs) (body.Structure hs) (body.Alias t) h k = absurd k
  one_type (body.Structure gs) (body.Structure hs) (body.Enumeration ns) h k = absurd k
  one_type (body.Structure gs) (body.Alias t) y h k = absurd h
  one_type (body.Structure gs) (body.Enumeration ns) y h k = absurd h

  one_entry : (t : TypeDecl ℕ) (x y : TypeDecl Note) → TypedEntry decls t x → TypedEntry decls t y → x ≡ y
  one_entry t x y h k = ap₂ entry_with (h.name ∙ sym k.name) (one_type t.body x.body y.body h.body k.body)

  one_method : (c : ℕ) (m : Method ℕ) (x y : Method Note) → TypedMethod decls c m x → TypedMethod decls c m y → x ≡ y
  one_method c m x y h k =
      let s : Scope = method_scope decls (unit_names decls) c m in
      ap (λ l. method_with l x.modifiers x.name x.result x.sections x.body) (h.line ∙ sym k.line)
      ∙ ap (λ ms. method_with y.line ms x.name x.result x.sections x.body) (h.modifiers ∙ sym k.modifiers)
      ∙ ap (λ n. method_with y.line y.modifiers n x.result x.sections x.body) (h.name ∙ sym k.name)
      ∙ ap (λ r. method_with y.line y.modifiers y.name r x.sections x.body) (one_result s m.result x.result y.result h.result k.result)
      ∙ ap₂ (method_with y.line y.modifiers y.name y.result) (one_sections s m.sections x.sections y.sections h.sections k.sections) (one_typed s m.body x.body y.body h.body k.body)

  one_member : (c : ℕ) (m : Member ℕ) (x y : Member Note) → TypedMember decls c m x → TypedMember decls c m y → x ≡ y
  one_member c (member.Section a) (member.Section x) (member.Section y) h k = ap member.Section (one_section (class_scope decls (unit_names decls) c) a x y h k)
  one_member c (member.Section a) (member.Section x) (member.Method y) h k = absurd k
  one_member c (member.Section a) (member.Method x) y h k = absurd h
  one_member c (member.Method a) (member.Method x) (member.Method y) h k = ap member.Method (one_method c a x y h k)
  one_member c (member.Method a) (member.Method x) (member.Section y) h k = absurd k
  one_member c (member.Method a) (member.Section x) y h k = absurd h

  one_class : (c : ℕ) (d : ClassDecl ℕ) (x y : ClassDecl Note) → TypedClass decls c d x → TypedClass decls c d y → x ≡ y
  one_class c d x y h k =
      ap (λ l. class_with l x.sort x.modifiers x.name x.base x.interfaces x.members x.body) (h.line ∙ sym k.line)
      ∙ ap (λ q. class_with y.line q x.modifiers x.name x.base x.interfaces x.members x.body) (h.sort ∙ sym k.sort)
      ∙ ap (λ ms. class_with y.line y.sort ms x.name x.base x.interfaces x.members x.body) (h.modifiers ∙ sym k.modifiers)
      ∙ ap (λ n. class_with y.line y.sort y.modifiers n x.base x.interfaces x.members x.body) (h.name ∙ sym k.name)
      ∙ ap (λ b. class_with y.line y.sort y.modifiers y.name b x.interfaces x.members x.body) (if_there (TypedUsed (class_meant decls)) (one_used (class_meant decls)) d.base x.base y.base h.base k.base)
      ∙ ap (λ is. class_with y.line y.sort y.modifiers y.name y.base is x.members x.body) (each (TypedUsed (interface_meant decls)) (one_used (interface_meant decls)) d.interfaces x.interfaces y.interfaces h.interfaces k.interfaces)
      ∙ ap₂ (class_with y.line y.sort y.modifiers y.name y.base y.interfaces) (each (TypedMember decls c) (one_member c) d.members x.members y.members h.members k.members)
      (one_typed (class_scope decls (unit_names decls) c) d.body x.body y.body h.body k.body)

  one_prototype : (m : Prototype ℕ) (x y : Prototype Note) → TypedPrototype decls m x → TypedPrototype decls m y → x ≡ y
  one_prototype m x y h k =
      let s : Scope = prototype_scope decls (unit_names decls) m in
      ap (λ l. prototype_with l x.name x.result x.sections) (h.line ∙ sym k.line)
      ∙ ap (λ n. prototype_with y.line n x.result x.sections) (h.name ∙ sym k.name)
      ∙ ap₂ (prototype_with y.line y.name) (one_result s m.result x.result y.result h.result k.result) (one_sections s m.sections x.sections y.sections h.sections k.sections)

  one_interface : (i : InterfaceDecl ℕ) (x y : InterfaceDecl Note) → TypedInterface decls i x → TypedInterface decls i y → x ≡ y
  one_interface i x y h k =
      ap (λ l. interface_with l x.name x.bases x.methods) (h.line ∙ sym k.line)
      ∙ ap (λ n. interface_with y.line n x.bases x.methods) (h.name ∙ sym k.name)
      ∙ ap₂ (interface_with y.line y.name) (each (TypedUsed (interface_meant decls)) (one_used (interface_meant decls)) i.bases x.bases y.bases h.bases k.bases)
      (each (TypedPrototype decls) one_prototype i.methods x.methods y.methods h.methods k.methods)

  one_function : (f : FunctionDecl ℕ) (x y : FunctionDecl Note) → TypedFunction decls f x → TypedFunction decls f y → x ≡ y
  one_function f x y h k =
      let s : Scope = function_scope decls (unit_names decls) f in
      ap (λ l. function_with l x.name x.result x.sections x.body) (h.line ∙ sym k.line)
      ∙ ap (λ n. function_with y.line n x.result x.sections x.body) (h.name ∙ sym k.name)
      ∙ ap (λ r. function_with y.line y.name r x.sections x.body) (one_result s f.result x.result y.result h.result k.result)
      ∙ ap₂ (function_with y.line y.name y.result) (one_sections s f.sections x.sections y.sections h.sections k.sections) (one_typed s f.body x.body y.body h.body k.body)

  one_program : (p : ProgramDecl ℕ) (x y : ProgramDecl Note) → TypedProgram decls p x → TypedProgram decls p y → x ≡ y
  one_program p x y h k =
      let s : Scope = program_scope decls (unit_names decls) p in
      ap (λ l. program_with l x.name x.sections x.body) (h.line ∙ sym k.line)
      ∙ ap (λ n. program_with y.line n x.sections x.body) (h.name ∙ sym k.name)
      ∙ ap₂ (program_with y.line y.name) (one_sections s p.sections x.sections y.sections h.sections k.sections) (one_typed s p.body x.body y.body h.body k.body)

  -- ---- regions and tasks

  one_region : (r : Region) (x y : RegionDecl) → TypedRegion decls r x → TypedRegion decls r y → x ≡ y
  one_region (of_global w) x y h k =
      ap (λ n. region_with n x.program x.kind x.marks x.initial x.address) (h.name ∙ sym k.name)
      ∙ ap (λ b. region_with y.name b x.kind x.marks x.initial x.address) (h.program ∙ sym k.program)
      ∙ ap (λ t. region_with y.name y.program t x.marks x.initial x.address) (h.kind ∙ sym k.kind)
      ∙ ap (λ m. region_with y.name y.program y.kind m x.initial x.address) (h.marks ∙ sym k.marks)
      ∙ ap₂ (region_with y.name y.program y.kind y.marks) (if_there (TypedInitial (unit decls) w.item.kind) (given (unit decls) w.item.kind) w.item.initial x.initial y.initial h.initial k.initial) (h.address ∙ sym k.address)
  one_region (of_instance i) x y h k =
      ap (λ n. region_with n x.program x.kind x.marks x.initial x.address) (h.name ∙ sym k.name)
      ∙ ap (λ b. region_with y.name b x.kind x.marks x.initial x.address) (h.program ∙ sym k.program)
      ∙ ap (λ t. region_with y.name y.program t x.marks x.initial x.address) (h.kind ∙ sym k.kind)
      ∙ ap (λ m. region_with y.name y.program y.kind m x.initial x.address) (h.marks ∙ sym k.marks)
      ∙ ap₂ (region_with y.name y.program y.kind y.marks) (h.initial ∙ sym k.initial) (h.address ∙ sym k.address)

  one_task : (t : TaskSpec) (x y : TaskDecl) → TypedTask decls t x → TypedTask decls t y → x ≡ y
  one_task t x y h k =
      ap (λ n. task_with n x.interval x.priority x.programs) (h.name ∙ sym k.name)
      ∙ ap (λ i. task_with y.name i x.priority x.programs) (h.interval ∙ sym k.interval)
      ∙ ap₂ (task_with y.name y.interval) (h.priority ∙ sym k.priority) (h.programs ∙ sym k.programs)

  -- ---- the program

  abbrev whole_with : List (TypeDecl Note) → List (ClassDecl Note) → List (InterfaceDecl Note) → List (FunctionDecl Note) → List (ProgramDecl Note) → List RegionDecl → List TaskDecl → Program
  whole_with ts cs is fs ps rs ks = record { types = ts; classes = cs; interfaces = is; functions = fs; programs = ps; regions = rs; tasks = ks }

  pub one_checked : (p q : Program) → IsChecked decls p → IsChecked decls q → p ≡ q
  one_checked p q h k =
      ap (λ ts. whole_with ts p.classes p.interfaces p.functions p.programs p.regions p.tasks) (each (TypedEntry decls) one_entry _ p.types q.types h.types k.types)
      ∙ ap (λ cs. whole_with q.types cs p.interfaces p.functions p.programs p.regions p.tasks) (each_from (TypedClass decls) one_class 0 _ p.classes q.classes h.classes k.classes)
      ∙ ap (λ is. whole_with q.types q.classes is p.functions p.programs p.regions p.tasks) (each (TypedInterface decls) one_interface _ p.interfaces q.interfaces h.interfaces k.interfaces)
      ∙ ap (λ fs. whole_with q.types q.classes q.interfaces fs p.programs p.regions p.tasks) (each (TypedFunction decls) one_function _ p.functions q.functions h.functions k.functions)
      ∙ ap (λ ps. whole_with q.types q.classes q.interfaces q.functions ps p.regions p.tasks) (each (TypedProgram decls) one_program _ p.programs q.programs h.programs k.programs)
      ∙ ap₂ (whole_with q.types q.classes q.interfaces q.functions q.programs) (each (TypedRegion decls) one_region _ p.regions q.regions h.regions k.regions) (each (TypedTask decls) one_task _ p.tasks q.tasks h.tasks k.tasks)
