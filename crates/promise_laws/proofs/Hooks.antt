-- The hooks of a good unit take the flags that they are given: each has as many inputs of the type BOOL as its name asks.
use Rattle.std.proofs.Common.{◌≡◌, ℕ, suc, ◌+◌, true, false, List, [], ◌∷◌, map, length, Option, Some, None, refl, sym, ap, ◌∙◌, subst, inl, inr, arith}
use Rattle.std.specs.Prelude.{◌&&◌, filter, flat_map, option_and_then, slice_get}
use Rattle.std.proofs.lemmas.List.{length-map}
use Rattle.std.proofs.lemmas.Option.{slice_get_within}
use Rattle.plc_text.specs.Words.{same}
use Rattle.st_types.specs.declared.elem.Elem.TheVariants as elem
use Rattle.st_types.specs.declared.st_type.StType.{StType}
use Rattle.st_types.specs.declared.st_type.StType.TheVariants as type
use Rattle.st_tree.specs.declared.declaration.ClassDecl.{ClassDecl}
use Rattle.st_tree.specs.declared.declaration.SectionSort.TheVariants as sort
use Rattle.st_tree.specs.declared.initial.Init.{Init}
use Rattle.st_tree.specs.declared.program.Note.{Note}
use Rattle.st_tree.specs.declared.program.Program.{Program as Checked}
use Rattle.st_tree.specs.declared.type_spec.TypeSpec.{TypeSpec}
use Rattle.st_tree.specs.declared.unit.Decl.{Decl}
use Rattle.st_tree.specs.Statement.{statements_of}
use Rattle.st_rules.specs.declared.ids.MethodId.{MethodId}
use Rattle.st_rules.specs.declared.names.DeclaredVariable.{DeclaredVariable}
use Rattle.st_rules.specs.declared.signature.Parameter.{Parameter as Signed}
use Rattle.st_rules.specs.Calls as calls
use Rattle.st_rules.specs.Chains.{◌or_else◌}
use Rattle.st_rules.specs.Classes as rules
use Rattle.st_rules.specs.Classes.{classes_in, base_of, method_id, method_names}
use Rattle.st_rules.specs.ClassRules.{is_no_hook}
use Rattle.st_rules.specs.Named.{first_place}
use Rattle.st_rules.specs.Scope.{Scope}
use Rattle.st_rules.specs.Signatures.{section_parameters, result_type, same_sort, same_if_told, same_result, same_parameter, same_parameters, differ, signature_of, hook_with, init_inputs, exit_inputs, hook_signature}
use Rattle.st_rules.specs.Types.{same_type}
use Rattle.st_rules.proofs.Booleans.{none≢some, some-same, both}
use Rattle.st_rules.proofs.ClassLaws.{lookup_law}
use Rattle.st_rules.proofs.TypeLaws.{type_decided}
use Rattle.st_unit_rules.specs.declared_names.UnitNames.{unit_names, method_scope}
use Rattle.st_unit_rules.specs.declared_names.WrittenTypes.{type_written}
use Rattle.st_unit_rules.specs.Checked.{Each as EachPair, TypedClass, IsChecked}
use Rattle.st_unit_rules.specs.DeclarationRules.{signatures}
use Rattle.st_unit_rules.specs.UnitRefusal.{BreaksNothing}
use Rattle.st_unit_rules.specs.Worth.{Worth, same_worth}
use Rattle.st_values.specs.Program as seen
use Rattle.st_values.specs.Program.{Variable, to_local, Parameter, Routine, Class, class_at, named}
use Rattle.st_values.specs.View.{is_parameter, those, variables_in, result_of, local_parameters, method_of, program_of}
use Rattle.st_values.proofs.ShapeLaws.{mapped_some}
use Rattle.st_meaning.specs.Call.{is_in_out}
use Rattle.st_meaning.specs.st_frame.Promise.Calls.{recipient_variable}
use Rattle.st_meaning.specs.st_frame.Promise.Declarations.{Each, ParameterIs, RoutineIs}
use Rattle.st_meaning.specs.st_frame.Promise.Programs.{ProgramIs}
use Rattle.st_change.specs.Hook.{When, at_init, at_exit, at_reinit, hook_name}
use Rattle.st_change.specs.StoreLaws.{IsFlag, hook_inputs, HooksAre}
use Rattle.resolution_order.specs.told_laws.ToldLaws.{Every}
use Rattle.accepted_texts.specs.formed_units.Formed.{IsFormed}
use Rattle.accepted_texts.specs.told_units.Told.{AllIsTold}
use Rattle.accepted_texts.proofs.unfolding_laws.ListLaws.{There, if_found, from_get}
use Rattle.class_laws.proofs.Above.{at_number}
use Rattle.class_laws.proofs.Overrides.{own_rules}
use Rattle.class_laws.proofs.Signed.{sort_same, sorts_same, sections_pass}
use Rattle.place_laws.specs.Agrees.{Fills, TakesBy}
use Rattle.name_laws.proofs.Found.{same_is, MethodShown, own_found, own_none, looked_up}
use Rattle.name_laws.proofs.Routines.{locals_long, routine_takes}
use Rattle.scope_laws.proofs.Entered.{not_differ}
use Rattle.scope_laws.proofs.Texts.{class_rules_good, method_text, IsShared, text_shared, value_in, method_sign, method_signature}

-- ---- inputs of a hook

abbrev flag : StType
flag = type.Elementary elem.Bool

abbrev IsInput : Signed Worth → Type 0
IsInput q = (q.sort ≡ sort.Input) × (q.kind ≡ Some flag)

abbrev hook_parameters : Worth → When → List (Signed Worth)
hook_parameters falsehood at_init = init_inputs falsehood
hook_parameters falsehood at_exit = exit_inputs falsehood
hook_parameters falsehood at_reinit = []

hook_asks : (falsehood : Worth) (w : When) → hook_signature falsehood (hook_name w) ≡ Some (hook_with (hook_parameters falsehood w))
hook_asks falsehood at_init = refl
hook_asks falsehood at_exit = refl
hook_asks falsehood at_reinit = refl

are_inputs : (falsehood : Worth) (w : When) → Every IsInput (hook_parameters falsehood w)
are_inputs falsehood at_init = ((refl, refl), ((refl, refl), tt))
are_inputs falsehood at_exit = ((refl, refl), tt)
are_inputs falsehood at_reinit = tt

as_many : (falsehood : Worth) (w : When) → length (hook_parameters falsehood w) ≡ hook_inputs w
as_many falsehood at_init = refl
as_many falsehood at_exit = refl
as_many falsehood at_reinit = refl

-- ---- a parameter that is equal to an input of a hook

one_type : (o q : Option StType) (t u : StType) → o ≡ Some t → q ≡ Some u → same_if_told same_type o q ≡ true → t ≡ u
one_type o q t u e f h = (type_decided t u).0 (sym (ap (λ x. same_if_told same_type x (Some u)) e) ∙ (sym (ap (same_if_told same_type o) f) ∙ h))

abbrev IsNumbered : Parameter → Type 0
IsNumbered q = (n : ℕ) × (q.to ≡ to_local n)

all_numbered : (n : ℕ) (vs : List Variable) → Each IsNumbered (local_parameters n vs)
all_numbered n [] = tt
all_numbered n (v ∷ vs) = ((n, refl), all_numbered (suc n) vs)

module _ (p : seen.Program) (r : Routine) (s : Scope) (value : TypeSpec ℕ → Option (Init ℕ) → Option Worth) where
  one_flag : (d : DeclaredVariable) (a h : Signed Worth) (q : Parameter) → Fills p r d q → IsShared s value d a → same_parameter same_worth a h ≡ true → IsInput h → ParameterIs p r q → IsNumbered q → IsFlag r q
  one_flag d a h q f e g i x l =
      let b = both (same_sort a.sort h.sort && same a.name h.name && same_if_told same_type a.kind h.kind) (same_if_told same_worth a.initial h.initial) g in
      let c = both (same_sort a.sort h.sort && same a.name h.name) (same_if_told same_type a.kind h.kind) b.0 in
      let sorts = both (same_sort a.sort h.sort) (same a.name h.name) c.0 in
      let v = f.there in
      let input : q.sort ≡ sort.Input = f.declares.sort ∙ (e.1 ∙ (sort_same a.sort h.sort sorts.0 ∙ i.0)) in
      let there : recipient_variable p r (to_local l.0) ≡ Some v.0 = ap (recipient_variable p r) (sym l.1) ∙ v.1 in
      let same_one : x.0 ≡ v.0 = some-same (sym x.1 ∙ v.1) in
      let kept : is_in_out (v.0).sort ≡ false = ap (λ (y : Variable). is_in_out y.sort) (sym same_one) ∙ ap is_in_out (x.2 ∙ input) in
      (l.0, v.0, l.1, there, kept, v.2 ∙ one_type a.kind h.kind f.declares.kind flag (sym e.0 ∙ f.declares.told) i.1 c.1)

  flags : (ds : List DeclaredVariable) (gs hs : List (Signed Worth)) (qs : List Parameter) → TakesBy p (Some r) ds qs → EachPair (IsShared s value) ds gs → same_parameters same_worth gs hs ≡ true → Every IsInput hs → Each (ParameterIs p r) qs → Each IsNumbered qs → length qs ≡ length hs → Each (IsFlag r) qs
  flags [] [] [] [] f e g i x l n = tt
  flags [] [] [] (q ∷ qs) f e g i x l n = cc
  flags [] [] (h ∷ hs) qs f e g i x l n = cc
  flags [] (a ∷ gs) hs qs f e g i x l n = absurd e
  flags (d ∷ ds) [] hs qs f e g i x l n = absurd e
  flags (d ∷ ds) (a ∷ gs) [] qs f e g i x l n = cc
  flags (d ∷ ds) (a ∷ gs) (h ∷ hs) [] f e g i x l n = absurd f
  flags (d ∷ ds) (a ∷ gs) (h ∷ hs) (q ∷ qs) f e g i x l n =
      let b = both (same_parameter same_worth a h) (same_parameters same_worth gs hs) g in
      let m : length qs ≡ length hs = omega (arith, n) in
      (one_flag d a h q f.0 e.0 b.0 i.0 x.0 l.0, flags ds gs hs qs f.1 e.1 b.1 i.1 x.1 l.1 m)

-- ---- in a unit

module _ (most : ℕ) (decls : List (Decl ℕ)) (p : Checked) (checked : IsChecked decls p) (well : IsFormed most decls) (good : BreaksNothing decls) (all : AllIsTold decls) (kept : ProgramIs (program_of p)) where
  abbrev pp : seen.Program
  pp = program_of p

  -- a method that is found in its own class is one of the text, and the one that its name means there
  record IsOwn (name : List ℕ) (c : ℕ) (r : Routine) : Type 0 where
    id : MethodId
    method : MethodShown decls p checked id
    own : rules.own_method (classes_in decls) name c ≡ Some id
    class : id.class ≡ c
    is : r ≡ method_of id.class method.shown
    found : seen.lookup pp c name ≡ Some r

  in_class : (name : List ℕ) (c : ℕ) (r : Routine) → There (ClassDecl ℕ) (classes_in decls) c → seen.own_method pp name c ≡ Some r → IsOwn name c r
  in_class name c r t e = by (rules.own_method (classes_in decls) name c) refl
    where
      by : (o : Option MethodId) → rules.own_method (classes_in decls) name c ≡ o → IsOwn name c r
      by None q = absurd (none≢some (sym (own_none decls p checked c name t q) ∙ e))
      by (Some id) q =
          let f = own_found decls p checked c name id t q in
          let l = looked_up decls p checked c name id (slice_get_within (classes_in decls) c t.item t.there) (lookup_law (classes_in decls) c name ∙ ap (λ o. o or_else option_and_then (λ b. rules.lookup (classes_in decls) b name) (base_of (classes_in decls) c)) q) in
          let k = mapped_some (method_id c) (option_and_then (λ (d : ClassDecl ℕ). first_place name (method_names d)) (slice_get (classes_in decls) c)) id q in
          let one : r ≡ method_of id.class f.method.shown = some-same (sym e ∙ f.is) in
          let shown : l.method.shown ≡ f.method.shown = some-same (sym l.method.shown_there ∙ f.method.shown_there) in
          record {
            id = id;
            method = f.method;
            own = q;
            class = ap (λ (i : MethodId). i.class) (sym k.2);
            is = one;
            found = l.is ∙ ap Some (ap (method_of id.class) shown ∙ sym one);
          }

  own_is : (name : List ℕ) (c : ℕ) (r : Routine) → seen.own_method pp name c ≡ Some r → IsOwn name c r
  own_is name c r e = by (class_at pp c) refl e
    where
      class_there : (d : ClassDecl Note) → slice_get p.classes c ≡ Some d → There (ClassDecl ℕ) (classes_in decls) c
      class_there d h = let x = if_found (TypedClass decls (0 + c)) (slice_get (classes_in decls) c) (slice_get p.classes c) d h (from_get (TypedClass decls) 0 (classes_in decls) p.classes c checked.classes) in record { item = x.0; there = x.1 }

      by : (o : Option Class) → class_at (program_of p) c ≡ o → seen.method_of o name ≡ Some r → IsOwn name c r
      by None q f = absurd (none≢some f)
      by (Some k) q f = elim (at_number p c k q) [
        | inl a ↦ in_class name c r (class_there a.decl a.there) e
        | inr a ↦ absurd (none≢some (sym (ap (λ ms. named ms name) a.methods) ∙ f))
      ]

  -- its signature is that of the hook
  module _ (w : When) (id : MethodId) (x : MethodShown decls p checked id) where
    abbrev scope : Scope
    scope = method_scope decls (unit_names decls) id.class x.method

    abbrev routine : Routine
    routine = method_of id.class x.shown

    abbrev asked : List (Signed Worth)
    asked = hook_parameters (signatures decls).falsehood w

    abbrev signed : List (Signed Worth)
    signed = flat_map (section_parameters (type_written scope) (value_in decls scope)) x.method.sections

    equal : is_no_hook same_worth (classes_in decls) (signatures decls) id (hook_name w) ≡ false → same_parameters same_worth signed asked ≡ true
    equal e =
        let hook = hook_with asked in
        let h : differ same_worth (Some (method_sign decls id.class x.method)) (Some hook) ≡ false =
        ap (λ o. differ same_worth o (Some hook)) (sym (method_signature decls id x.class x.method x.class_there x.there)) ∙ (ap (differ same_worth (signature_of (signatures decls) id)) (sym (hook_asks (signatures decls).falsehood w)) ∙ e) in
        (both (same_result (result_type (type_written scope) (value_in decls scope) x.method.result) hook.result) (same_parameters same_worth signed asked) (not_differ (method_sign decls id.class x.method) hook h)).1

    long : same_parameters same_worth signed asked ≡ true → length routine.parameters ≡ length asked
    long e =
        let vs = those is_parameter (variables_in x.shown.sections) in
        let sorts : map (λ (v : Variable). v.sort) vs ≡ map (λ (q : Signed Worth). q.sort) asked = sections_pass (type_written scope) (value_in decls scope) scope x.method.sections x.shown.sections x.typed.sections ∙ sorts_same same_worth signed asked e in
        locals_long (length (result_of x.shown.name.text x.shown.result)) vs
        ∙ (sym (length-map vs (λ (v : Variable). v.sort)) ∙ (ap length sorts ∙ length-map asked (λ (q : Signed Worth). q.sort)))

    hook_flags : is_no_hook same_worth (classes_in decls) (signatures decls) id (hook_name w) ≡ false → Each (ParameterIs pp routine) routine.parameters → Each (IsFlag routine) routine.parameters × (length routine.parameters ≡ hook_inputs w)
    hook_flags e h =
        let m = x.method in
        let y = x.shown in
        let t = method_text most decls well good all id.class id.method x.class m x.class_there x.there in
        let takes = routine_takes pp scope (Some id.class) y.line y.name.text m.name.text m.result y.result m.sections y.sections (statements_of y.body) t.settled t.told_all t.outcome t.inside x.typed.result x.typed.sections t.few in
        let g = equal e in
        let n = long g in (
          flags pp routine scope (value_in decls scope) (filter calls.is_parameter scope.locals) signed asked routine.parameters takes (text_shared scope (value_in decls scope) m.name.text m.result m.sections t) g (are_inputs (signatures decls).falsehood w) h
              (all_numbered (length (result_of y.name.text y.result)) (those is_parameter (variables_in y.sections))) n,
          n ∙ as_many (signatures decls).falsehood w,
        )

  pub hooks_are : HooksAre pp
  hooks_are = record { by = right }
    where
      right : (w : When) (c : ℕ) (r : Routine) → seen.own_method (program_of p) (hook_name w) c ≡ Some r → RoutineIs (program_of p) r × (r.class ≡ Some c) × Each (IsFlag r) r.parameters × (length r.parameters ≡ hook_inputs w)
      right w c r e =
          let o = own_is (hook_name w) c r e in
          let rule = own_rules same_worth (classes_in decls) (signatures decls) (class_rules_good decls good) same_is c (hook_name w) o.id o.own in
          let routine = kept.methods c (hook_name w) r o.found in
          let h = hook_flags w o.id o.method rule.hook (subst (λ (z : Routine). Each (ParameterIs (program_of p) z) z.parameters) o.is routine.parameters) in
          let f = subst (λ (z : Routine). Each (IsFlag z) z.parameters × (length z.parameters ≡ hook_inputs w)) (sym o.is) h in
          (routine, ap (λ (z : Routine). z.class) o.is ∙ ap Some o.class, f.0, f.1)
