-- The routines of a unit that breaks no rule: what is asked of each is told, and methods of equal signature declare the same parameters.
use Rattle.std.proofs.Common.{◌≡◌, ◌≤◌, ℕ, ◌+◌, Bool, true, false, List, [], ◌∷◌, ◌++◌, map, length, Option, Some, None, refl, sym, ap, ◌∙◌, subst, arith, ltb-false}
use Rattle.std.specs.Prelude.{if◌then◌else◌, not, ◌&&◌, nat_lt, filter, flat_map, option_and_then, option_map, slice_get}
use Rattle.std.specs.Option.{is_some}
use Rattle.std.proofs.lemmas.List.Elements.{filter-append}
use Rattle.std.proofs.lemmas.Option.{slice_get-map}
use Rattle.plc_text.specs.Words.{same}
use Rattle.plc_text.specs.declared.code.Code.TheVariants.{E16}
use Rattle.st_types.specs.declared.st_type.StType.{StType}
use Rattle.st_tree.specs.declared.declaration.ClassDecl.{ClassDecl}
use Rattle.st_tree.specs.declared.declaration.FunctionDecl.{FunctionDecl}
use Rattle.st_tree.specs.declared.declaration.InterfaceDecl.{InterfaceDecl}
use Rattle.st_tree.specs.declared.declaration.Item.{Item}
use Rattle.st_tree.specs.declared.declaration.Method.{Method}
use Rattle.st_tree.specs.declared.declaration.Prototype.{Prototype}
use Rattle.st_tree.specs.declared.declaration.Section.{Section}
use Rattle.st_tree.specs.declared.declaration.SectionSort.{SectionSort}
use Rattle.st_tree.specs.declared.declaration.SectionSort.TheVariants as sort
use Rattle.st_tree.specs.declared.initial.Init.{Init}
use Rattle.st_tree.specs.declared.name.Name.{Name}
use Rattle.st_tree.specs.declared.statement.Stmt.{Stmt}
use Rattle.st_tree.specs.declared.type_spec.TypeSpec.{TypeSpec}
use Rattle.st_tree.specs.declared.unit.Decl.{Decl}
use Rattle.st_tree.specs.Initial.{initial_of}
use Rattle.st_tree.specs.Statement.{statements_of}
use Rattle.st_rules.specs.declared.ids.MethodId.{MethodId}
use Rattle.st_rules.specs.declared.ids.PrototypeId.{PrototypeId}
use Rattle.st_rules.specs.declared.names.DeclaredClass.{DeclaredClass}
use Rattle.st_rules.specs.declared.names.DeclaredNames.{DeclaredNames}
use Rattle.st_rules.specs.declared.names.DeclaredRoutine.{DeclaredRoutine}
use Rattle.st_rules.specs.declared.names.DeclaredVariable.{DeclaredVariable}
use Rattle.st_rules.specs.declared.signature.Parameter.{Parameter as Signed}
use Rattle.st_rules.specs.declared.signature.ResultType.TheVariants as outcome
use Rattle.st_rules.specs.declared.signature.Signature.{Signature}
use Rattle.st_rules.specs.Calls as calls
use Rattle.st_rules.specs.Classes.{classes_in, methods_in}
use Rattle.st_rules.specs.ClassRules.{class_faults, class_faults_of}
use Rattle.st_rules.specs.Interfaces.{interfaces_in}
use Rattle.st_rules.specs.Modifiers.{is_constant}
use Rattle.st_rules.specs.Scope.{Scope, is_external, method_routine, prototype_routine}
use Rattle.st_rules.specs.Signatures.{is_parameter_sort, parameter, section_parameters, result_type, signature, same_sort, same_if_told, same_result, same_parameter, same_parameters, same_signature, signature_of, prototype_signature}
use Rattle.st_rules.specs.Statements.{body_faults}
use Rattle.st_rules.specs.Types.{same_type}
use Rattle.st_rules.proofs.Booleans.{false≢true, both}
use Rattle.st_rules.proofs.TypeLaws.{type_decided}
use Rattle.st_unit_rules.specs.declared_names.Declarations.{functions_in, entries_in}
use Rattle.st_unit_rules.specs.declared_names.UnitNames.{unit_names, unit_scope, outer_scope, method_scope, function_scope, prototype_scope, result_written, method_declared, prototype_declared, class_declared, interface_declared, names_from}
use Rattle.st_unit_rules.specs.declared_names.Variables.{Written, item_written, section_written, sections_written, is_parameter_written, declares_constants, result_declared, result_count, locals_declared, routine_locals}
use Rattle.st_unit_rules.specs.declared_names.WrittenTypes.{type_written}
use Rattle.st_unit_rules.specs.Checked.{Each}
use Rattle.st_unit_rules.specs.DeclarationRules.{count_parameters, parameter_limits, local_limits, routine_faults, item_too_deep, items_in, result_too_deep, class_declaration_faults, signatures, signature_in, class_signatures, interface_signatures}
use Rattle.st_unit_rules.specs.NameRules.{local_name_faults, word_twice}
use Rattle.st_unit_rules.specs.UnitRefusal.{BreaksNothing}
use Rattle.st_unit_rules.specs.VariableRules.{of_routine, of_prototype, sections_faults, result_faults}
use Rattle.st_unit_rules.specs.Cycles.{inner_cycles}
use Rattle.st_unit_rules.specs.Limits.{too_many_parameters}
use Rattle.st_unit_rules.specs.Worth.{Worth, same_worth, worth_of}
use Rattle.st_meaning.specs.st_frame.Promise.Calls.{most_parameters}
use Rattle.resolution_order.specs.told_laws.ToldLaws.{Every}
use Rattle.resolution_order.proofs.told_laws.LocalTelling.{local_laws}
use Rattle.resolution_order.proofs.told_laws.Telling.{told_laws}
use Rattle.accepted_texts.specs.formed_units.Formed.{IsFormed}
use Rattle.accepted_texts.specs.told_units.Told.{IsToldVariable, WrittenIn, in_method, in_function, in_prototype, AllIsTold}
use Rattle.accepted_texts.proofs.unfolding_laws.CycleLaws.{none_in, not_when}
use Rattle.accepted_texts.proofs.unfolding_laws.ListLaws.{every_mapped, every_joined, every_one, numbered_get}
use Rattle.accepted_texts.proofs.told_units.Classes.{every-filtered}
use Rattle.accepted_texts.proofs.told_units.Inner.{AreRows, locals-rows}
use Rattle.accepted_texts.proofs.told_units.Law.{function-rules, method-rules, prototype-rules}
use Rattle.accepted_texts.proofs.told_units.Whole.{class-rules}
use Rattle.accepted_texts.proofs.sized_units.Variables.{each_append}
use Rattle.class_laws.proofs.Signed.{sort_same}
use Rattle.name_laws.proofs.Stands.{IsInside, sections_inside, function_stands, interface_stands, method_formed, prototype_formed}

-- ---- what is asked of a text with its result and its sections

pub record IsText (s : Scope) (own : List ℕ) (result : Option (TypeSpec ℕ)) (ss : List (Section ℕ)) : Type 0 where
  pub settled : routine_locals s own result ss ≡ s.locals
  pub told_all : Every IsToldVariable s.locals
  pub outcome : (t : TypeSpec ℕ) → result ≡ Some t → is_some (type_written s t) ≡ true
  pub inside : Every IsInside (sections_written ss)
  pub few : count_parameters ss ≤ most_parameters

module _ (most : ℕ) (decls : List (Decl ℕ)) (well : IsFormed most decls) (good : BreaksNothing decls) (all : AllIsTold decls) where
  written_text : (s : Scope) (own : List ℕ) (result : Option (TypeSpec ℕ)) (ss : List (Section ℕ)) → WrittenIn decls s result ss → routine_locals s own result ss ≡ s.locals → Every IsInside (sections_written ss) → count_parameters ss ≤ most_parameters → IsText s own result ss
  written_text s own result ss w e i f = record {
    settled = e;
    told_all = all.locals s result ss w;
    outcome = λ t q. all.outcomes s t ss (subst (λ o. WrittenIn decls s o ss) q w);
    inside = i;
    few = f;
  }

  -- what the rules say of the number of parameters, and of a body
  limited : (s : Scope) (line : ℕ) (result : Option (TypeSpec ℕ)) (ss : List (Section ℕ)) → parameter_limits decls s line result ss ≡ [] → count_parameters ss ≤ most_parameters
  limited s line result ss h =
      let a = none_in _ (result_too_deep decls s line result) h in
      let b = none_in (too_many_parameters line (count_parameters ss)) (flat_map (item_too_deep decls s) (items_in (filter (λ (x : Section ℕ). not (is_external x.sort)) ss))) a.0 in
      ltb-false 32 (count_parameters ss) (not_when (nat_lt 32 (count_parameters ss)) E16 line b.0)

  record Ruled (s : Scope) (ss : List (Section ℕ)) (text : List (Stmt ℕ)) : Type 0 where
    few : count_parameters ss ≤ most_parameters
    body : body_faults s (statements_of text) ≡ []

  ruled : (s : Scope) (line : ℕ) (name : List ℕ) (result : Option (TypeSpec ℕ)) (ss : List (Section ℕ)) (text : List (Stmt ℕ)) → routine_faults decls s of_routine line name result ss text ≡ [] → Ruled s ss text
  ruled s line name result ss text h =
      let but_body = none_in _ (body_faults s (statements_of text)) h in
      let number = none_in _ (local_limits decls s line) but_body.0 in
      let depths = none_in _ (parameter_limits decls s line result ss) number.0 in
      record { few = limited s line result ss depths.1; body = but_body.1 }

  method_ruled : (c j : ℕ) (d : ClassDecl ℕ) (m : Method ℕ) → slice_get (classes_in decls) c ≡ Some d → slice_get (methods_in d.members) j ≡ Some m → Ruled (method_scope decls (unit_names decls) c m) m.sections m.body
  method_ruled c j d m e f =
      let s = method_scope decls (unit_names decls) c m in
      ruled s m.line m.name.text m.result m.sections m.body
      (none_in (word_twice m.line m.modifiers ++ local_name_faults m.name.text m.sections) (routine_faults decls s of_routine m.line m.name.text m.result m.sections m.body) (method-rules decls good c d j m e f)).1

  pub method_text : (c j : ℕ) (d : ClassDecl ℕ) (m : Method ℕ) → slice_get (classes_in decls) c ≡ Some d → slice_get (methods_in d.members) j ≡ Some m → IsText (method_scope decls (unit_names decls) c m) m.name.text m.result m.sections
  unfolding method_scope
  method_text c j d m e f =
      written_text (method_scope decls (unit_names decls) c m) m.name.text m.result m.sections (in_method c d j m e f)
      (local_laws.routine (outer_scope decls (unit_names decls) (Some c)) m.name.text m.result m.sections).settled
      (sections_inside m.sections (method_formed most decls well c d j m e f).sections) (method_ruled c j d m e f).few

  pub method_body : (c j : ℕ) (d : ClassDecl ℕ) (m : Method ℕ) → slice_get (classes_in decls) c ≡ Some d → slice_get (methods_in d.members) j ≡ Some m → body_faults (method_scope decls (unit_names decls) c m) (statements_of m.body) ≡ []
  method_body c j d m e f = (method_ruled c j d m e f).body

  function_ruled : (k : ℕ) (f : FunctionDecl ℕ) → slice_get (functions_in decls) k ≡ Some f → Ruled (function_scope decls (unit_names decls) f) f.sections f.body
  function_ruled k f e =
      let x = function_stands most decls well k f e in
      let s = function_scope decls (unit_names decls) f in
      ruled s f.line f.name.text f.result f.sections f.body
      (none_in (local_name_faults f.name.text f.sections) (routine_faults decls s of_routine f.line f.name.text f.result f.sections f.body) (function-rules decls good x.place x.item f x.there x.is)).1

  pub function_text : (k : ℕ) (f : FunctionDecl ℕ) → slice_get (functions_in decls) k ≡ Some f → IsText (function_scope decls (unit_names decls) f) f.name.text f.result f.sections
  unfolding function_scope
  function_text k f e =
      let x = function_stands most decls well k f e in
      written_text (function_scope decls (unit_names decls) f) f.name.text f.result f.sections (in_function x.place x.item f x.there x.is)
      (local_laws.routine (unit_scope decls (unit_names decls)) f.name.text f.result f.sections).settled
      (sections_inside f.sections x.formed.sections) (function_ruled k f e).few

  pub function_body : (k : ℕ) (f : FunctionDecl ℕ) → slice_get (functions_in decls) k ≡ Some f → body_faults (function_scope decls (unit_names decls) f) (statements_of f.body) ≡ []
  function_body k f e = (function_ruled k f e).body

  pub prototype_text : (i j : ℕ) (d : InterfaceDecl ℕ) (m : Prototype ℕ) → slice_get (interfaces_in decls) i ≡ Some d → slice_get d.methods j ≡ Some m → IsText (prototype_scope decls (unit_names decls) m) m.name.text m.result m.sections
  unfolding prototype_scope
  prototype_text i j d m e f =
      let x = interface_stands most decls well i d e in
      let s = prototype_scope decls (unit_names decls) m in
      let rules = none_in (sections_faults s of_prototype m.sections ++ result_faults s m.line m.result ++ inner_cycles (sections_written m.sections)) (parameter_limits decls s m.line m.result m.sections)
      (prototype-rules decls good x.place x.item d j m x.there x.is f) in
      written_text s m.name.text m.result m.sections (in_prototype x.place x.item d j m x.there x.is f)
      (local_laws.routine (unit_scope decls (unit_names decls)) m.name.text m.result m.sections).settled
      (sections_inside m.sections (prototype_formed most decls well i d j m e f).sections) (limited s m.line m.result m.sections rules.1)

-- ---- bases and methods of classes

pub class_rules_good : (decls : List (Decl ℕ)) → BreaksNothing decls → (c : ℕ) → class_faults same_worth (classes_in decls) (signatures decls) c ≡ []
class_rules_good decls good c = by (slice_get (classes_in decls) c) refl
  where
    declared : (i : ℕ) (d : ClassDecl ℕ) → class_declaration_faults decls i c d ≡ [] → class_faults same_worth (classes_in decls) (signatures decls) c ≡ []
    declared i d h =
        let body = none_in _ _ h in
        let limits = none_in _ _ body.0 in
        let methods = none_in _ _ limits.0 in
        let cycles = none_in _ _ methods.0 in
        let sections = none_in _ _ cycles.0 in
        let concrete = none_in _ _ sections.0 in
        (none_in _ (class_faults same_worth (classes_in decls) (signatures decls) c) concrete.0).1

    by : (o : Option (ClassDecl ℕ)) → slice_get (classes_in decls) c ≡ o → class_faults same_worth (classes_in decls) (signatures decls) c ≡ []
    by None e = ap (class_faults_of same_worth (classes_in decls) (signatures decls) c) e
    by (Some d) e = let r = class-rules decls good c d e in declared r.0 d r.1

-- ---- lists item by item

each_through : {A B C : Type 0} (R : A → B → Type 0) (S : B → C → Type 0) (Q : A → C → Type 0) → ((a : A) (b : B) (c : C) → R a b → S b c → Q a c) → (xs : List A) (ys : List B) (zs : List C) → Each R xs ys → Each S ys zs → Each Q xs zs
each_through R S Q f [] [] [] h k = tt
each_through R S Q f [] [] (z ∷ zs) h k = absurd k
each_through R S Q f [] (y ∷ ys) zs h k = absurd h
each_through R S Q f (x ∷ xs) [] zs h k = absurd h
each_through R S Q f (x ∷ xs) (y ∷ ys) [] h k = absurd k
each_through R S Q f (x ∷ xs) (y ∷ ys) (z ∷ zs) h k = (f x y z h.0 k.0, each_through R S Q f xs ys zs h.1 k.1)

all_kept : (test : Written → Bool) (ws : List Written) → Every (λ (w : Written). test w ≡ true) ws → filter test ws ≡ ws
all_kept test [] h = refl
all_kept test (w ∷ ws) h = ap (λ b. if b then w ∷ filter test ws else filter test ws) h.0 ∙ ap (λ l. w ∷ l) (all_kept test ws h.1)

none_kept : (test : Written → Bool) (ws : List Written) → Every (λ (w : Written). test w ≡ false) ws → filter test ws ≡ []
none_kept test [] h = refl
none_kept test (w ∷ ws) h = ap (λ b. if b then w ∷ filter test ws else filter test ws) h.0 ∙ none_kept test ws h.1

section_tests : (m : Bool) (so : SectionSort) → (is_parameter_sort so && not (m && not (is_external so))) ≡ (is_parameter_sort so && not m)
section_tests true sort.Var = refl
section_tests true sort.Input = refl
section_tests true sort.Output = refl
section_tests true sort.InOut = refl
section_tests true sort.Temp = refl
section_tests true sort.Global = refl
section_tests true sort.External = refl
section_tests false sort.Var = refl
section_tests false sort.Input = refl
section_tests false sort.Output = refl
section_tests false sort.InOut = refl
section_tests false sort.Temp = refl
section_tests false sort.Global = refl
section_tests false sort.External = refl

second_false : (a b : Bool) → (a && not b) ≡ true → b ≡ false
second_false a false h = refl
second_false true true h = cc
second_false false true h = cc

-- ---- a signature has the parameters that are declared

module _ {V : Type 0} (s : Scope) (value : TypeSpec ℕ → Option (Init ℕ) → Option V) where
  abbrev IsSigned : Written → Signed V → Type 0
  IsSigned w q = (q.kind ≡ type_written s w.item.kind) × (q.sort ≡ w.sort) × (w.constant ≡ false)

  names_signed : (x : Section ℕ) (item : Item ℕ) → declares_constants x ≡ false → (f : Name → Written) → ((n : Name) → (f n).item ≡ item) → ((n : Name) → (f n).sort ≡ x.sort) → ((n : Name) → (f n).constant ≡ declares_constants x)
      → (ns : List Name) → Each IsSigned (map f ns) (map (parameter (type_written s) value x.sort item) ns)
  names_signed x item e f fi fs fc [] = tt
  names_signed x item e f fi fs fc (n ∷ ns) = ((ap (λ (i : Item ℕ). type_written s i.kind) (sym (fi n)), sym (fs n), fc n ∙ e), names_signed x item e f fi fs fc ns)

  items_signed : (x : Section ℕ) → declares_constants x ≡ false → (items : List (Item ℕ)) → Each IsSigned (flat_map (item_written x) items) (flat_map (λ i. map (parameter (type_written s) value x.sort i) i.names) items)
  items_signed x e [] = tt
  items_signed x e (i ∷ items) =
      each_append IsSigned (item_written x i) (flat_map (item_written x) items) (map (parameter (type_written s) value x.sort i) i.names) (flat_map (λ j. map (parameter (type_written s) value x.sort j) j.names) items)
      (names_signed x i e _ (λ n. refl) (λ n. refl) (λ n. refl) i.names) (items_signed x e items)

  of_section : (P : Written → Type 0) (x : Section ℕ) → ((w : Written) → w.sort ≡ x.sort → w.constant ≡ declares_constants x → P w) → Every P (section_written x)
  of_section P x h = every_joined P (item_written x) x.items (every_one (λ (item : Item ℕ). Every P (item_written x item)) (λ item. every_mapped P _ item.names (every_one _ (λ n. h _ refl refl) item.names)) x.items)

  section_signed : (x : Section ℕ) → Each IsSigned (filter is_parameter_written (section_written x)) (section_parameters (type_written s) value x)
  section_signed x = by (is_parameter_sort x.sort && not (is_constant x.modifiers)) refl
    where
      test : (b : Bool) → (is_parameter_sort x.sort && not (is_constant x.modifiers)) ≡ b → (w : Written) → w.sort ≡ x.sort → w.constant ≡ declares_constants x → is_parameter_written w ≡ b
      test b q w e f = ap (λ z. is_parameter_sort z && not w.constant) e ∙ (ap (λ z. is_parameter_sort x.sort && not z) f ∙ (section_tests (is_constant x.modifiers) x.sort ∙ q))

      by : (b : Bool) → (is_parameter_sort x.sort && not (is_constant x.modifiers)) ≡ b → Each IsSigned (filter is_parameter_written (section_written x)) (if b then flat_map (λ i. map (parameter (type_written s) value x.sort i) i.names) x.items else [])
      by true q =
          subst (λ l. Each IsSigned l (flat_map (λ i. map (parameter (type_written s) value x.sort i) i.names) x.items))
          (sym (all_kept is_parameter_written (section_written x) (of_section (λ (w : Written). is_parameter_written w ≡ true) x (test true q))))
          (items_signed x (second_false (is_parameter_sort x.sort) (declares_constants x) (section_tests (is_constant x.modifiers) x.sort ∙ q)) x.items)
      by false q = subst (λ l. Each IsSigned l []) (sym (none_kept is_parameter_written (section_written x) (of_section (λ (w : Written). is_parameter_written w ≡ false) x (test false q)))) tt

  sections_signed : (ss : List (Section ℕ)) → Each IsSigned (filter is_parameter_written (sections_written ss)) (flat_map (section_parameters (type_written s) value) ss)
  sections_signed [] = tt
  sections_signed (x ∷ ss) =
      subst (λ l. Each IsSigned l (section_parameters (type_written s) value x ++ flat_map (section_parameters (type_written s) value) ss)) (sym (filter-append is_parameter_written (section_written x) (sections_written ss)))
      (each_append IsSigned (filter is_parameter_written (section_written x)) (filter is_parameter_written (sections_written ss)) (section_parameters (type_written s) value x) (flat_map (section_parameters (type_written s) value) ss) (section_signed x) (sections_signed ss))

  -- a declared variable, and the parameter of the signature
  abbrev pub IsShared : DeclaredVariable → Signed V → Type 0
  IsShared d q = (d.kind ≡ q.kind) × (d.sort ≡ q.sort) × (d.constant ≡ false)

  abbrev IsPassed : DeclaredVariable → Written → Type 0
  IsPassed d w = (d.kind ≡ type_written s w.item.kind) × (d.sort ≡ w.sort) × (d.constant ≡ w.constant)

  rows_pass : (ws : List Written) (ds : List DeclaredVariable) → AreRows s ws ds → Each IsPassed (filter calls.is_parameter ds) (filter is_parameter_written ws)
  rows_pass [] [] r = tt
  rows_pass [] (d ∷ ds) r = absurd r
  rows_pass (w ∷ ws) [] r = absurd r
  rows_pass (w ∷ ws) (d ∷ ds) r = by (calls.is_parameter d) (is_parameter_written w) (ap (λ z. is_parameter_sort z && not d.constant) (r.0).4 ∙ ap (λ z. is_parameter_sort w.sort && not z) (r.0).1) (rows_pass ws ds r.1)
    where
      by : (a b : Bool) → a ≡ b → Each IsPassed (filter calls.is_parameter ds) (filter is_parameter_written ws)
          → Each IsPassed (if a then d ∷ filter calls.is_parameter ds else filter calls.is_parameter ds) (if b then w ∷ filter is_parameter_written ws else filter is_parameter_written ws)
      by true true e k = (((r.0).2, (r.0).4, (r.0).1), k)
      by false false e k = k
      by true false e k = cc
      by false true e k = cc

  shared : (ws : List Written) (ds : List DeclaredVariable) (qs : List (Signed V)) → AreRows s ws ds → Each IsSigned (filter is_parameter_written ws) qs → Each IsShared (filter calls.is_parameter ds) qs
  shared ws ds qs r h =
      each_through IsPassed IsSigned IsShared (λ d w q a b. (a.0 ∙ sym b.0, a.1 ∙ sym b.1, a.2 ∙ b.2)) (filter calls.is_parameter ds) (filter is_parameter_written ws) qs (rows_pass ws ds r) h

  none_of_result : (own : List ℕ) (result : Option (TypeSpec ℕ)) → filter calls.is_parameter (result_declared s own result) ≡ []
  none_of_result own None = refl
  none_of_result own (Some t) = refl

  -- the parameters of a text
  pub text_shared : (own : List ℕ) (result : Option (TypeSpec ℕ)) (ss : List (Section ℕ)) → IsText s own result ss → Each IsShared (filter calls.is_parameter s.locals) (flat_map (section_parameters (type_written s) value) ss)
  unfolding routine_locals
  text_shared own result ss t =
      let ws = sections_written ss in
      let first = result_declared s own result in
      let rest = locals_declared s result ss in
      let e : filter calls.is_parameter s.locals ≡ filter calls.is_parameter rest =
      ap (filter calls.is_parameter) (sym t.settled) ∙ (filter-append calls.is_parameter first rest ∙ ap (λ l. l ++ filter calls.is_parameter rest) (none_of_result own result)) in
      subst (λ l. Each IsShared l (flat_map (section_parameters (type_written s) value) ss)) (sym e)
      (shared ws rest (flat_map (section_parameters (type_written s) value) ss) (locals-rows s (result_count s result) (result_count s result + length (filter is_parameter_written ws)) ws) (sections_signed ss))

-- ---- equal signatures

pub record SameParameter (v w : DeclaredVariable) : Type 0 where
  pub kind : v.kind ≡ w.kind
  pub sort : v.sort ≡ w.sort
  pub plain : v.constant ≡ w.constant

-- two routines with equal parameters and results
pub record AlikeRoutines (r q : DeclaredRoutine) : Type 0 where
  pub parameters : Each SameParameter r.parameters q.parameters
  pub outcome : r.outcome ≡ q.outcome

each_itself : (vs : List DeclaredVariable) → Each SameParameter vs vs
each_itself [] = tt
each_itself (v ∷ vs) = (record { kind = refl; sort = refl; plain = refl }, each_itself vs)

pub alike_itself : (r : DeclaredRoutine) → AlikeRoutines r r
alike_itself r = record { parameters = each_itself r.parameters; outcome = refl }

pub alike_through : (r q t : DeclaredRoutine) → AlikeRoutines r q → AlikeRoutines q t → AlikeRoutines r t
alike_through r q t h k = record {
  parameters = each_through SameParameter SameParameter SameParameter (λ a b c x y. record { kind = x.kind ∙ y.kind; sort = x.sort ∙ y.sort; plain = x.plain ∙ y.plain }) r.parameters q.parameters t.parameters h.parameters k.parameters;
  outcome = h.outcome ∙ k.outcome;
}

same_told : (o q : Option StType) → is_some o ≡ true → is_some q ≡ true → same_if_told same_type o q ≡ true → o ≡ q
same_told (Some a) (Some b) h k e = ap Some ((type_decided a b).0 e)
same_told None q h k e = absurd (false≢true h)
same_told (Some a) None h k e = absurd (false≢true k)

module _ (s t : Scope) (value given : TypeSpec ℕ → Option (Init ℕ) → Option Worth) where
  parameters_alike : (ds es : List DeclaredVariable) (ps qs : List (Signed Worth)) → Each (IsShared s value) ds ps → Each (IsShared t given) es qs → Every IsToldVariable ds → Every IsToldVariable es → same_parameters same_worth ps qs ≡ true → Each SameParameter ds es
  parameters_alike [] [] [] [] h k i j e = tt
  parameters_alike [] (x ∷ es) [] [] h k i j e = absurd k
  parameters_alike (d ∷ ds) es [] qs h k i j e = absurd h
  parameters_alike [] es (p ∷ ps) qs h k i j e = absurd h
  parameters_alike [] es [] (q ∷ qs) h k i j e = cc
  parameters_alike (d ∷ ds) es (p ∷ ps) [] h k i j e = cc
  parameters_alike (d ∷ ds) [] (p ∷ ps) (q ∷ qs) h k i j e = absurd k
  parameters_alike (d ∷ ds) (x ∷ es) (p ∷ ps) (q ∷ qs) h k i j e =
      let a = both (same_parameter same_worth p q) (same_parameters same_worth ps qs) e in
      let b = both (same_sort p.sort q.sort && same p.name q.name && same_if_told same_type p.kind q.kind) (same_if_told same_worth p.initial q.initial) a.0 in
      let c = both (same_sort p.sort q.sort && same p.name q.name) (same_if_told same_type p.kind q.kind) b.0 in
      let f = both (same_sort p.sort q.sort) (same p.name q.name) c.0 in
      let g = same_told p.kind q.kind (ap is_some (sym (h.0).0) ∙ (i.0).0) (ap is_some (sym (k.0).0) ∙ (j.0).0) c.1 in (
        record { kind = (h.0).0 ∙ (g ∙ sym (k.0).0); sort = (h.0).1 ∙ (sort_same p.sort q.sort f.0 ∙ sym (k.0).1); plain = (h.0).2 ∙ sym (k.0).2 },
        parameters_alike ds es ps qs h.1 k.1 i.1 j.1 a.1,
      )

  results_alike : (o q : Option (TypeSpec ℕ)) → ((u : TypeSpec ℕ) → o ≡ Some u → is_some (type_written s u) ≡ true) → ((u : TypeSpec ℕ) → q ≡ Some u → is_some (type_written t u) ≡ true)
      → same_result (result_type (type_written s) value o) (result_type (type_written t) given q) ≡ true → result_written s o ≡ result_written t q
  results_alike None None h k e = refl
  results_alike None (Some u) h k e = cc
  results_alike (Some u) None h k e = cc
  results_alike (Some u) (Some w) h k e = ap outcome.Written (same_told (type_written s u) (type_written t w) (h u refl) (k w refl) e)

  pub record TextsAlike (o q : Option (TypeSpec ℕ)) : Type 0 where
    pub parameters : Each SameParameter (filter calls.is_parameter s.locals) (filter calls.is_parameter t.locals)
    pub outcome : result_written s o ≡ result_written t q

  pub texts_alike : (own other : List ℕ) (o q : Option (TypeSpec ℕ)) (ss ts : List (Section ℕ)) → IsText s own o ss → IsText t other q ts
      → same_signature same_worth (signature (type_written s) value o ss) (signature (type_written t) given q ts) ≡ true → TextsAlike o q
  texts_alike own other o q ss ts h k e =
      let a = both (same_result (result_type (type_written s) value o) (result_type (type_written t) given q)) (same_parameters same_worth (flat_map (section_parameters (type_written s) value) ss) (flat_map (section_parameters (type_written t) given) ts)) e in
      record {
        parameters = parameters_alike (filter calls.is_parameter s.locals) (filter calls.is_parameter t.locals) (flat_map (section_parameters (type_written s) value) ss) (flat_map (section_parameters (type_written t) given) ts)
            (text_shared s value own o ss h) (text_shared t given other q ts k) (every-filtered IsToldVariable calls.is_parameter s.locals h.told_all) (every-filtered IsToldVariable calls.is_parameter t.locals k.told_all) a.1;
        outcome = results_alike o q h.outcome k.outcome a.0;
      }

-- ---- by number

module _ (decls : List (Decl ℕ)) where
  pub class_there : (c : ℕ) (d : ClassDecl ℕ) → slice_get (classes_in decls) c ≡ Some d → slice_get (unit_names decls).classes c ≡ Some (class_declared decls (unit_names decls) c d)
  unfolding names_from
  class_there c d e =
      let z : 0 + c ≡ c = omega arith in
      ap (λ (a : DeclaredNames). slice_get a.classes c) (sym (told_laws.settled decls)) ∙ (numbered_get (class_declared decls (unit_names decls)) 0 (classes_in decls) c d e ∙ ap (λ k. Some (class_declared decls (unit_names decls) k d)) z)

  pub method_there : (s : Scope) → s.names ≡ unit_names decls → (id : MethodId) (d : ClassDecl ℕ) (m : Method ℕ) → slice_get (classes_in decls) id.class ≡ Some d → slice_get (methods_in d.members) id.method ≡ Some m → method_routine s id ≡ Some (method_declared decls (unit_names decls) id.class m)
  method_there s q id d m e f =
      ap (λ (a : DeclaredNames). option_and_then (λ (k : DeclaredClass). slice_get k.methods id.method) (slice_get a.classes id.class)) q
      ∙ (ap (option_and_then (λ (k : DeclaredClass). slice_get k.methods id.method)) (class_there id.class d e)
      ∙ (slice_get-map (method_declared decls (unit_names decls) id.class) (methods_in d.members) id.method ∙ ap (option_map (method_declared decls (unit_names decls) id.class)) f))

  pub prototype_there : (s : Scope) → s.names ≡ unit_names decls → (id : PrototypeId) (d : InterfaceDecl ℕ) (m : Prototype ℕ) → slice_get (interfaces_in decls) id.interface ≡ Some d → slice_get d.methods id.method ≡ Some m → prototype_routine s id ≡ Some (prototype_declared decls (unit_names decls) m)
  unfolding names_from
  prototype_there s q id d m e f =
      ap (λ (a : DeclaredNames). option_and_then (λ (ms : List DeclaredRoutine). slice_get ms id.method) (slice_get a.interfaces id.interface)) (q ∙ sym (told_laws.settled decls))
      ∙ (ap (option_and_then (λ (ms : List DeclaredRoutine). slice_get ms id.method)) (slice_get-map (interface_declared decls (unit_names decls)) (interfaces_in decls) id.interface ∙ ap (option_map (interface_declared decls (unit_names decls))) e)
      ∙ (slice_get-map (prototype_declared decls (unit_names decls)) d.methods id.method ∙ ap (option_map (prototype_declared decls (unit_names decls))) f))

  -- what an initial value is worth
  abbrev pub value_in : Scope → TypeSpec ℕ → Option (Init ℕ) → Option Worth
  value_in s t i = worth_of (unit_scope decls (unit_names decls)) (entries_in decls) s t (option_map initial_of i)

  abbrev pub method_sign : ℕ → Method ℕ → Signature Worth
  method_sign c m = signature_in decls (method_scope decls (unit_names decls) c m) m.result m.sections

  abbrev prototype_sign : Prototype ℕ → Signature Worth
  prototype_sign m = signature_in decls (prototype_scope decls (unit_names decls) m) m.result m.sections

  -- the signatures of the rules
  pub method_signature : (id : MethodId) (d : ClassDecl ℕ) (m : Method ℕ) → slice_get (classes_in decls) id.class ≡ Some d → slice_get (methods_in d.members) id.method ≡ Some m → signature_of (signatures decls) id ≡ Some (method_sign id.class m)
  unfolding signatures
  method_signature id d m e f =
      let z : 0 + id.class ≡ id.class = omega arith in
      ap (option_and_then (λ (ms : List (Signature Worth)). slice_get ms id.method)) (numbered_get (class_signatures decls) 0 (classes_in decls) id.class d e ∙ ap (λ k. Some (class_signatures decls k d)) z)
      ∙ (slice_get-map (method_sign id.class) (methods_in d.members) id.method ∙ ap (option_map (method_sign id.class)) f)

  pub interface_signature : (id : PrototypeId) (d : InterfaceDecl ℕ) (m : Prototype ℕ) → slice_get (interfaces_in decls) id.interface ≡ Some d → slice_get d.methods id.method ≡ Some m → prototype_signature (signatures decls) id ≡ Some (prototype_sign m)
  unfolding signatures
  interface_signature id d m e f =
      ap (option_and_then (λ (ms : List (Signature Worth)). slice_get ms id.method)) (slice_get-map (interface_signatures decls) (interfaces_in decls) id.interface ∙ ap (option_map (interface_signatures decls)) e)
      ∙ (slice_get-map prototype_sign d.methods id.method ∙ ap (option_map prototype_sign) f)
