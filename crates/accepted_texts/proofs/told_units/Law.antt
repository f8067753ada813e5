-- In a unit that breaks no rule, and in which nothing needs itself, all is told.
use Rattle.std.proofs.Common.{◌≡◌, ℕ, true, false, List, [], ◌++◌, Option, Some, None, refl, sym, ap, ◌∙◌, subst}
use Rattle.std.specs.Prelude.{slice_get, flat_map, option_map}
use Rattle.std.proofs.lemmas.Option.{slice_get-map}
use Rattle.std.specs.Option.{is_some}
use Rattle.st_tree.specs.declared.declaration.ClassDecl.{ClassDecl}
use Rattle.st_tree.specs.declared.declaration.FunctionDecl.{FunctionDecl}
use Rattle.st_tree.specs.declared.declaration.InterfaceDecl.{InterfaceDecl}
use Rattle.st_tree.specs.declared.declaration.Method.{Method}
use Rattle.st_tree.specs.declared.declaration.ProgramDecl.{ProgramDecl}
use Rattle.st_tree.specs.declared.declaration.Prototype.{Prototype}
use Rattle.st_tree.specs.declared.declaration.FieldGroup.{FieldGroup}
use Rattle.st_tree.specs.declared.declaration.Section.{Section}
use Rattle.st_tree.specs.declared.declaration.TypeBody.TheVariants as body
use Rattle.st_tree.specs.declared.declaration.TypeDecl.{TypeDecl}
use Rattle.st_tree.specs.declared.type_spec.TypeSpec.{TypeSpec}
use Rattle.st_tree.specs.declared.unit.Decl.{Decl}
use Rattle.st_rules.specs.declared.names.DeclaredGlobal.{DeclaredGlobal}
use Rattle.st_rules.specs.declared.names.DeclaredGlobal.TheVariants as global
use Rattle.st_rules.specs.declared.names.DeclaredNames.{DeclaredNames}
use Rattle.st_rules.specs.Classes.{classes_in, methods_in}
use Rattle.st_rules.specs.Calls.{is_parameter}
use Rattle.st_rules.specs.Scope.{Scope, global_name}
use Rattle.st_rules.proofs.Booleans.{none≢some, some-same}
use Rattle.st_unit_rules.specs.Cycles.{is_global_or_function}
use Rattle.st_unit_rules.specs.declared_names.Declarations.{Declaration, Placed, an_entry, a_global, an_interface, a_function, a_program, declarations, placed}
use Rattle.st_unit_rules.specs.declared_names.UnitNames.{unit_names, unit_scope, class_scope, method_scope, function_scope, prototype_scope, program_scope, method_declared, prototype_declared, routine_declared, result_written, names_from}
use Rattle.st_unit_rules.specs.declared_names.Variables.{sections_written, sections_in}
use Rattle.st_unit_rules.specs.declared_names.WrittenTypes.{type_written, type_faults}
use Rattle.st_unit_rules.specs.DeclarationRules.{sort_faults, function_faults, program_faults, prototype_faults, method_faults, group_faults, type_body_faults}
use Rattle.st_unit_rules.specs.NameRules.{space_faults, part_names}
use Rattle.st_unit_rules.specs.declared_names.Declarations.{item_line_of}
use Rattle.st_unit_rules.specs.UnitRefusal.{BreaksNothing}
use Rattle.st_unit_rules.specs.VariableRules.{result_faults, instance_out_of_place}
use Rattle.resolution_order.specs.told_laws.ToldLaws.{Every}
use Rattle.accepted_texts.proofs.unfolding_laws.ListLaws.{every_at, every_from, every_both}
use Rattle.accepted_texts.proofs.unfolding_laws.CycleLaws.{none_in, none_there, none_of_each, all_placed}
use Rattle.st_unit_rules.specs.Cycles.{needs_itself, needs_inner}
use Rattle.accepted_texts.specs.told_units.Formed.{IsFormedType, IsFormedResult, IsFormedBody, IsFormedDeclaration}
use Rattle.accepted_texts.specs.told_units.Told.{IsToldVariable, IsToldOutcome, IsToldRoutine, IsToldGlobal, AllTold, WrittenIn, in_class, in_method, in_function, in_prototype, in_program, IsFormedUnit, AllIsTold}
use Rattle.accepted_texts.proofs.told_units.Inner.{IsWellWritten}
use Rattle.accepted_texts.proofs.told_units.Above.{none-above-itself}
use Rattle.accepted_texts.proofs.told_units.Classes.{every-filtered}
use Rattle.accepted_texts.proofs.told_units.Rows.{rows-every}
use Rattle.accepted_texts.proofs.told_units.UnitRows.{GlobalOf, globals-rows}
use Rattle.accepted_texts.proofs.told_units.Unit as unit
use Rattle.accepted_texts.proofs.told_units.Whole as whole

module _ (decls : List (Decl ℕ)) where
  -- nothing needs itself
  pub record NothingNeedsItself : Type 0 where
    pub declared : (i : ℕ) → needs_itself (declarations decls) i ≡ false
    pub inner : (s : Scope) (r : Option (TypeSpec ℕ)) (ss : List (Section ℕ)) → WrittenIn decls s r ss → (i : ℕ) → needs_inner (sections_written ss) i ≡ false

  module _ (good : BreaksNothing decls) where
    rules-at : (i : ℕ) (x : Placed) → slice_get (placed decls) i ≡ Some x → sort_faults decls i x x.declaration ≡ []
    rules-at i x e = (none_there decls good i x e).1

    pub function-rules : (i : ℕ) (x : Placed) (f : FunctionDecl ℕ) → slice_get (placed decls) i ≡ Some x → x.declaration ≡ a_function f → function_faults decls f ≡ []
    function-rules i x f e q = sym (ap (sort_faults decls i x) q) ∙ rules-at i x e

    pub program-rules : (i : ℕ) (x : Placed) (p : ProgramDecl ℕ) → slice_get (placed decls) i ≡ Some x → x.declaration ≡ a_program p → program_faults decls p ≡ []
    program-rules i x p e q = sym (ap (sort_faults decls i x) q) ∙ rules-at i x e

    pub prototype-rules : (i : ℕ) (x : Placed) (d : InterfaceDecl ℕ) (k : ℕ) (m : Prototype ℕ) → slice_get (placed decls) i ≡ Some x → x.declaration ≡ an_interface d → slice_get d.methods k ≡ Some m → prototype_faults decls m ≡ []
    prototype-rules i x d k m e q t =
        let f = sym (ap (sort_faults decls i x) q) ∙ rules-at i x e in
        let a = none_in _ _ f in
        let b = none_in _ _ a.0 in
        let c = none_in _ (flat_map (prototype_faults decls) d.methods) b.0 in
        every_at (λ y. prototype_faults decls y ≡ []) d.methods k m (none_of_each (prototype_faults decls) d.methods c.1) t

    pub method-rules : (c : ℕ) (d : ClassDecl ℕ) (k : ℕ) (m : Method ℕ) → slice_get (classes_in decls) c ≡ Some d → slice_get (methods_in d.members) k ≡ Some m → method_faults decls c m ≡ []
    method-rules c d k m e t =
        let r = whole.class-rules decls good c d e in
        every_at (λ y. method_faults decls c y ≡ []) (methods_in d.members) k m
        (none_of_each (method_faults decls c) (methods_in d.members) (whole.class-methods decls r.0 c d r.1)) t

  module _ (good : BreaksNothing decls) (free : NothingNeedsItself) (well : IsFormedUnit decls) where
    inner : (c : ℕ) (d : ClassDecl ℕ) → slice_get (classes_in decls) c ≡ Some d → (i : ℕ) → needs_inner (sections_written (sections_in d.members)) i ≡ false
    inner c d e = free.inner _ _ _ (in_class c d e)

    wells : (c : ℕ) (d : ClassDecl ℕ) → slice_get (classes_in decls) c ≡ Some d → Every (IsWellWritten (class_scope decls (unit_names decls) c)) (sections_written (sections_in d.members))
    wells c d e = well.inner _ _ _ (in_class c d e)

    scopes : (s : Scope) (r : Option (TypeSpec ℕ)) (ss : List (Section ℕ)) → WrittenIn decls s r ss → AllTold s
    unfolding function_scope prototype_scope program_scope method_scope
    scopes _ _ _ (in_class c d e) = whole.class-told decls good well.declared free.declared wells inner (none-above-itself decls good) c d e
    scopes _ _ _ (in_method c d k m e t) =
        whole.method-told decls good well.declared free.declared wells inner (none-above-itself decls good) c d e m (method-rules good c d k m e t) (free.inner _ _ _ (in_method c d k m e t)) (well.inner _ _ _ (in_method c d k m e t))
    scopes _ _ _ (in_function i x f e q) = whole.function-told decls good well.declared free.declared f (function-rules good i x f e q) (free.inner _ _ _ (in_function i x f e q)) (well.inner _ _ _ (in_function i x f e q))
    scopes _ _ _ (in_prototype i x d k m e q t) =
        whole.prototype-told decls good well.declared free.declared m (prototype-rules good i x d k m e q t) (free.inner _ _ _ (in_prototype i x d k m e q t)) (well.inner _ _ _ (in_prototype i x d k m e q t))
    scopes _ _ _ (in_program i x p e q) = whole.program-all decls good well.declared free.declared p (program-rules good i x p e q) (free.inner _ _ _ (in_program i x p e q)) (well.inner _ _ _ (in_program i x p e q))

    locals : (s : Scope) (r : Option (TypeSpec ℕ)) (ss : List (Section ℕ)) → WrittenIn decls s r ss → Every IsToldVariable s.locals
    unfolding function_scope prototype_scope program_scope method_scope
    locals _ _ _ (in_class c d e) = tt
    locals _ _ _ (in_method c d k m e t) =
        whole.method-locals decls good well.declared free.declared wells inner (none-above-itself decls good) c d e m (method-rules good c d k m e t) (free.inner _ _ _ (in_method c d k m e t)) (well.inner _ _ _ (in_method c d k m e t))
        (well.results _ _ _ (in_method c d k m e t))
    locals _ _ _ (in_function i x f e q) =
        whole.function-locals decls good well.declared free.declared f (function-rules good i x f e q) (free.inner _ _ _ (in_function i x f e q)) (well.inner _ _ _ (in_function i x f e q)) (well.results _ _ _ (in_function i x f e q))
    locals _ _ _ (in_prototype i x d k m e q t) =
        whole.prototype-locals decls good well.declared free.declared m (prototype-rules good i x d k m e q t) (free.inner _ _ _ (in_prototype i x d k m e q t)) (well.inner _ _ _ (in_prototype i x d k m e q t)) (well.results _ _ _ (in_prototype i x d k m e q t))
    locals _ _ _ (in_program i x p e q) = whole.program-variables decls good well.declared free.declared p (program-rules good i x p e q) (free.inner _ _ _ (in_program i x p e q)) (well.inner _ _ _ (in_program i x p e q))

    result-told : (s : Scope) (line : ℕ) (t : TypeSpec ℕ) → AllTold s → IsFormedResult (Some t) → result_faults s line (Some t) ≡ [] → is_some (type_written s t) ≡ true
    result-told s line t a w f = a.written t w (none_in (type_faults s t) _ f).0

    abbrev IsToldResult : Scope → Option (TypeSpec ℕ) → Type 0
    IsToldResult s None = Unit {0}
    IsToldResult s (Some t) = is_some (type_written s t) ≡ true

    some-result : (s : Scope) (line : ℕ) (r : Option (TypeSpec ℕ)) → AllTold s → IsFormedResult r → result_faults s line r ≡ [] → IsToldResult s r
    some-result s line None a w f = tt
    some-result s line (Some t) a w f = result-told s line t a w f

    results-told : (s : Scope) (r : Option (TypeSpec ℕ)) (ss : List (Section ℕ)) → WrittenIn decls s r ss → IsToldResult s r
    unfolding function_scope prototype_scope program_scope method_scope
    results-told _ _ _ (in_class c d e) = tt
    results-told _ _ _ (in_method c d k m e t) =
        some-result (method_scope decls (unit_names decls) c m) m.line m.result (scopes _ _ _ (in_method c d k m e t)) (well.results _ _ _ (in_method c d k m e t))
        (whole.method-parts decls good well.declared free.declared wells inner (none-above-itself decls good) c d e m (method-rules good c d k m e t) (free.inner _ _ _ (in_method c d k m e t)) (well.inner _ _ _ (in_method c d k m e t))).1
    results-told _ _ _ (in_function i x f e q) =
        some-result (function_scope decls (unit_names decls) f) f.line f.result (scopes _ _ _ (in_function i x f e q)) (well.results _ _ _ (in_function i x f e q))
        (whole.unfolded decls good well.declared free.declared f (function-rules good i x f e q) (free.inner _ _ _ (in_function i x f e q)) (well.inner _ _ _ (in_function i x f e q))).1
    results-told _ _ _ (in_prototype i x d k m e q t) =
        some-result (prototype_scope decls (unit_names decls) m) m.line m.result (scopes _ _ _ (in_prototype i x d k m e q t)) (well.results _ _ _ (in_prototype i x d k m e q t))
        (whole.prototype-parts decls good well.declared free.declared m (prototype-rules good i x d k m e q t) (free.inner _ _ _ (in_prototype i x d k m e q t)) (well.inner _ _ _ (in_prototype i x d k m e q t))).1
    results-told _ _ _ (in_program i x p e q) = tt

    group-told : (g : FieldGroup ℕ) → IsFormedType g.kind → group_faults decls g ≡ [] → is_some (type_written (unit_scope decls (unit_names decls)) g.kind) ≡ true
    group-told g w f =
        let a = none_in (type_faults (unit_scope decls (unit_names decls)) g.kind ++ instance_out_of_place (item_line_of g.names) false (type_written (unit_scope decls (unit_names decls)) g.kind)) _ f in
        let b = none_in (type_faults (unit_scope decls (unit_names decls)) g.kind) _ a.0 in
        (whole.unit-told decls good well.declared free.declared).written g.kind w b.0

    entry-rules : (i : ℕ) (x : Placed) (t : TypeDecl ℕ) → slice_get (placed decls) i ≡ Some x → x.declaration ≡ an_entry t → type_body_faults decls t.name.text t.body ≡ []
    entry-rules i x t e q =
        let f = sym (ap (sort_faults decls i x) q) ∙ rules-at good i x e in
        (none_in (space_faults (part_names t.body)) (type_body_faults decls t.name.text t.body) (none_in (space_faults (part_names t.body) ++ type_body_faults decls t.name.text t.body) _ f).0).1

    -- ---- declarations by place

    record PlacedAt (d : Declaration) : Type 0 where
      place : ℕ
      item : Placed
      there : slice_get (placed decls) place ≡ Some item
      is : item.declaration ≡ d

    placed-at : (i : ℕ) (d : Declaration) → slice_get (declarations decls) i ≡ Some d → PlacedAt d
    placed-at i d e = by (slice_get (placed decls) i) refl (sym (slice_get-map (λ (x : Placed). x.declaration) (placed decls) i) ∙ ap (λ xs. slice_get xs i) (all_placed decls) ∙ e)
      where
        by : (o : Option Placed) → slice_get (placed decls) i ≡ o → option_map (λ (x : Placed). x.declaration) o ≡ Some d → PlacedAt d
        by None q h = absurd (none≢some h)
        by (Some x) q h = record { place = i; item = x; there = q; is = some-same h }

    each-placed : Every PlacedAt (declarations decls)
    each-placed = every_from PlacedAt (declarations decls) placed-at

    fields-told : (i : ℕ) (x : Placed) (t : TypeDecl ℕ) (gs : List (FieldGroup ℕ)) (k : ℕ) (g : FieldGroup ℕ) → slice_get (placed decls) i ≡ Some x → x.declaration ≡ an_entry t → t.body ≡ body.Structure gs → slice_get gs k ≡ Some g
        → is_some (type_written (unit_scope decls (unit_names decls)) g.kind) ≡ true
    fields-told i x t gs k g e q b h =
        let place = sym (slice_get-map (λ (y : Placed). y.declaration) (placed decls) i) ∙ ap (λ xs. slice_get xs i) (all_placed decls) in
        let there : slice_get (declarations decls) i ≡ Some (an_entry t) = sym place ∙ ap (option_map (λ (y : Placed). y.declaration)) e ∙ ap Some q in
        let formed : IsFormedBody t.body = every_at IsFormedDeclaration (declarations decls) i (an_entry t) well.declared there in
        group-told g (every_at (λ (y : FieldGroup ℕ). IsFormedType y.kind) gs k g (subst IsFormedBody b formed) h)
        (every_at (λ y. group_faults decls y ≡ []) gs k g (none_of_each (group_faults decls) gs (sym (ap (type_body_faults decls t.name.text) b) ∙ entry-rules i x t e q)) h)

    -- ---- routines

    some-outcome : (s : Scope) (r : Option (TypeSpec ℕ)) → IsToldResult s r → IsToldOutcome (result_written s r)
    some-outcome s None h = tt
    some-outcome s (Some t) h = h

    method-is-told : (c : ℕ) (d : ClassDecl ℕ) (k : ℕ) (m : Method ℕ) → slice_get (classes_in decls) c ≡ Some d → slice_get (methods_in d.members) k ≡ Some m → IsToldRoutine (method_declared decls (unit_names decls) c m)
    unfolding method_scope
    method-is-told c d k m e t = (
      some-outcome (method_scope decls (unit_names decls) c m) m.result (results-told _ _ _ (in_method c d k m e t)),
      every-filtered IsToldVariable is_parameter (method_scope decls (unit_names decls) c m).locals (locals _ _ _ (in_method c d k m e t)),
    )

    prototype-is-told : (i : ℕ) (x : Placed) (d : InterfaceDecl ℕ) (k : ℕ) (m : Prototype ℕ) → slice_get (placed decls) i ≡ Some x → x.declaration ≡ an_interface d → slice_get d.methods k ≡ Some m → IsToldRoutine (prototype_declared decls (unit_names decls) m)
    unfolding prototype_scope
    prototype-is-told i x d k m e q t = (
      some-outcome (prototype_scope decls (unit_names decls) m) m.result (results-told _ _ _ (in_prototype i x d k m e q t)),
      every-filtered IsToldVariable is_parameter (prototype_scope decls (unit_names decls) m).locals (locals _ _ _ (in_prototype i x d k m e q t)),
    )

    function-is-told : (f : FunctionDecl ℕ) → PlacedAt (a_function f) → IsToldRoutine (routine_declared (unit_scope decls (unit_names decls)) f.name.text [] f.result f.sections)
    unfolding function_scope
    function-is-told f p = (
      some-outcome (function_scope decls (unit_names decls) f) f.result (results-told _ _ _ (in_function p.place p.item f p.there p.is)),
      every-filtered IsToldVariable is_parameter (function_scope decls (unit_names decls) f).locals (locals _ _ _ (in_function p.place p.item f p.there p.is)),
    )

    -- ---- globals and functions

    abbrev KnownAt : Declaration → Type 0
    KnownAt d = whole.Known decls good well.declared free.declared d × PlacedAt d

    global-row : (d : Declaration) (g : DeclaredGlobal) → GlobalOf decls (unit_names decls) d g → KnownAt d → IsToldGlobal g
    global-row (a_global g) (global.Variable v) r k = whole.global-told decls good well.declared free.declared g v r k.0
    global-row (a_function f) (global.Function n q) r k = subst IsToldRoutine (sym r) (function-is-told f k.1)
    global-row d g r k = absurd r

    globals-told : Every IsToldGlobal (unit_names decls).globals
    unfolding names_from declarations
    globals-told =
        subst (λ (n : DeclaredNames). Every IsToldGlobal n.globals) (unit.fixed decls)
        (rows-every is_global_or_function global_name (GlobalOf decls (unit_names decls)) KnownAt IsToldGlobal global-row (declarations decls) (names_from decls (unit_names decls)).globals (globals-rows decls (unit_names decls) 0 0 decls)
        (every_both (whole.Known decls good well.declared free.declared) PlacedAt KnownAt (λ d a b. (a, b)) (declarations decls) (whole.known decls good well.declared free.declared) each-placed))

    pub all-is-told : AllIsTold decls
    all-is-told = record {
      types = whole.types-told decls good well.declared free.declared;
      globals = globals-told;
      fields = fields-told;
      variables = whole.class-variables decls good well.declared free.declared wells inner (none-above-itself decls good);
      methods = method-is-told;
      prototypes = prototype-is-told;
      unit = whole.unit-told decls good well.declared free.declared;
      scopes = scopes;
      locals = locals;
      outcomes = λ s t ss w. results-told s (Some t) ss w;
    }
