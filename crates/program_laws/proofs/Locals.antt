-- The locals of whatever is called have types that can be laid out.
use Rattle.std.proofs.Common.{◌≡◌, ◌≤◌, ℕ, ◌+◌, Bool, true, false, List, [], ◌∷◌, ◌++◌, map, reverse, length, Option, Some, None, refl, sym, ap, ◌∙◌, subst, inl, inr, arith}
use Rattle.std.specs.Prelude.{if◌then◌else◌, filter, slice_get}
use Rattle.std.proofs.lemmas.Option.{slice_get-map}
use Rattle.plc_text.specs.Words.{same}
use Rattle.st_types.specs.declared.elem.Elem.TheVariants as elem
use Rattle.st_types.specs.declared.st_type.StType.{StType}
use Rattle.st_types.specs.declared.st_type.StType.TheVariants as type
use Rattle.st_tree.specs.declared.declaration.ClassDecl.{ClassDecl}
use Rattle.st_tree.specs.declared.declaration.FunctionDecl.{FunctionDecl}
use Rattle.st_tree.specs.declared.declaration.Method.{Method}
use Rattle.st_tree.specs.declared.declaration.Section.{Section}
use Rattle.st_tree.specs.declared.program.Note.{Note}
use Rattle.st_tree.specs.declared.program.Program.{Program as Checked}
use Rattle.st_tree.specs.declared.type_spec.TypeSpec.{TypeSpec}
use Rattle.st_tree.specs.declared.unit.Decl.{Decl}
use Rattle.st_rules.specs.Classes.{classes_in, methods_in, chain}
use Rattle.st_rules.specs.Expressions.{told}
use Rattle.st_rules.specs.Scope.{Scope}
use Rattle.st_rules.proofs.Booleans.{none≢some, some-same}
use Rattle.st_unit_rules.specs.Checked.{Each, IfThere, TypedSpec, TypedSection, TypedMethod, TypedFunction, TypedClass, IsChecked}
use Rattle.st_unit_rules.specs.declared_names.Declarations.{functions_in}
use Rattle.st_unit_rules.specs.declared_names.UnitNames.{unit_names, class_scope, method_scope, function_scope}
use Rattle.st_unit_rules.specs.declared_names.Variables as written
use Rattle.st_unit_rules.specs.declared_names.Variables.{Written}
use Rattle.st_unit_rules.specs.declared_names.WrittenTypes.{type_written}
use Rattle.st_unit_rules.specs.UnitRefusal.{BreaksNothing}
use Rattle.st_values.specs.Program.{Variable, Routine, a_program, Class, Program, class_at, chain_of, named, method_of as method_found, own_method, lookup, body_in}
use Rattle.st_values.specs.Shape.{Shape, Elementary, shape_by, shape_within, shape_of}
use Rattle.st_values.specs.View.{kind_of, sections_in, variables_in, those, negated, is_parameter, is_of_body, result_of, declared_by, declared_along, method_of, function_of, class_of, program_of}
use Rattle.st_values.proofs.ShapeLaws.{mapped_some}
use Rattle.st_meaning.specs.Call.{is_in_out}
use Rattle.st_meaning.specs.st_frame.Footprint.{Has}
use Rattle.st_meaning.specs.st_frame.Promise.Declarations as promise
use Rattle.st_meaning.specs.st_frame.Promise.Declarations.{LocalIs}
use Rattle.st_meaning.specs.st_frame.Promise.Programs.{ProgramIs}
use Rattle.mem_layout.specs.loaded_meaning.Sized.{values_of}
use Rattle.resolution_order.specs.told_laws.ToldLaws.{Every}
use Rattle.accepted_texts.specs.sized_units.Locals.{shape_values, local_values, values_of_locals, LocalsAre}
use Rattle.accepted_texts.proofs.sized_units.Counted.{counted}
use Rattle.accepted_texts.proofs.sized_units.Kept.{EnumerationsAreFew, PartsAreTold, keeps}
use Rattle.accepted_texts.proofs.sized_units.Locals.{class_or_program}
use Rattle.accepted_texts.proofs.sized_units.Outputs.{every_has}
use Rattle.accepted_texts.proofs.sized_units.Parts.{NoEmptyArray, part_small}
use Rattle.accepted_texts.proofs.sized_units.Sound.{Sound, ToldSound, TypesSound, unit_sound, written_sound}
use Rattle.accepted_texts.proofs.sized_units.Variables.{IsOf, is_variable, all_of}
use Rattle.accepted_texts.proofs.unfolding_laws.ChainLaws.{sections_typed}
use Rattle.accepted_texts.proofs.unfolding_laws.DeclaredLaws.{scope}
use Rattle.accepted_texts.proofs.unfolding_laws.ListLaws.{every_append, if_found, each_get, from_get}
use Rattle.accepted_texts.proofs.unfolding_laws.ViewLaws.{kind_shown}
use Rattle.class_laws.proofs.Same.{methods_each}
use Rattle.initial_laws.proofs.Members.{nearest_has}
use Rattle.program_laws.specs.Layouts.{LocalsHaveShapes}

-- ---- one local among all

-- a local has no more values than all together
one_of_all : (p : Program) (vs : List Variable) (v : Variable) (sh : Shape) → Has vs v → is_in_out v.sort ≡ false → shape_of p v.kind ≡ Some sh → values_of sh ≤ values_of_locals p vs
one_of_all p [] v sh h i e = absurd h
one_of_all p (w ∷ vs) v sh (inl q) i e =
    let a : local_values p w ≡ shape_values (shape_of p w.kind) = ap (λ b. if b then 1 else shape_values (shape_of p w.kind)) (ap (λ (x : Variable). is_in_out x.sort) (sym q) ∙ i) in
    let b : shape_values (shape_of p w.kind) ≡ values_of sh = ap (λ (x : Variable). shape_values (shape_of p x.kind)) (sym q) ∙ ap shape_values e in
    omega (arith, a, b)
one_of_all p (w ∷ vs) v sh (inr h) i e = let k = one_of_all p vs v sh h i e in omega (arith, k)

each_has : (P : Variable → Type 0) (vs : List Variable) (v : Variable) → promise.Each P vs → Has vs v → P v
each_has P [] v h k = absurd k
each_has P (w ∷ vs) v h (inl e) = subst P (sym e) h.0
each_has P (w ∷ vs) v h (inr k) = each_has P vs v h.1 k

every_test : (P : Variable → Type 0) (test : Variable → Bool) (vs : List Variable) → Every P vs → Every P (filter test vs)
every_test P test [] h = tt
every_test P test (v ∷ vs) h = by (test v) (every_test P test vs h.1)
  where
    by : (b : Bool) → Every P (filter test vs) → Every P (if b then v ∷ filter test vs else filter test vs)
    by true k = (h.0, k)
    by false k = k

named_has : (rs : List Routine) (name : List ℕ) (r : Routine) → named rs name ≡ Some r → Has rs r
named_has [] name r e = absurd (none≢some e)
named_has (x ∷ rs) name r e = by (same x.name name) e (named_has rs name r)
  where
    by : (b : Bool) → (if b then Some x else named rs name) ≡ Some r → (named rs name ≡ Some r → Has rs r) → Has (x ∷ rs) r
    by true q f = inl (sym (some-same q))
    by false q f = inr (f q)

module _ (decls : List (Decl ℕ)) (p : Checked) (checked : IsChecked decls p) (good : BreaksNothing decls) (told_parts : PartsAreTold decls) (few : EnumerationsAreFew decls) where
  abbrev Seen : Program
  Seen = program_of p

  -- no array in the shape of its type is empty
  abbrev Filled : Variable → Type 0
  Filled v = (sh : Shape) → shape_of Seen v.kind ≡ Some sh → NoEmptyArray sh

  told_filled : (o : Option StType) → ToldSound decls o → (sh : Shape) → shape_of Seen (told o) ≡ Some sh → NoEmptyArray sh
  unfolding told
  told_filled None g sh e =
      let d : Some (Elementary elem.Dint) ≡ Some sh = sym (ap (shape_by Seen (shape_within Seen 64)) (type.outs-Elementary elem.Dint)) ∙ e in
      subst NoEmptyArray (some-same d) tt
  told_filled (Some u) g sh e = (counted (scope decls []) Seen (Sound decls) (keeps decls p checked good told_parts few []) 65 u sh g e).filled

  kind_filled : (s : Scope) (t : TypeSpec ℕ) → TypesSound decls s.names.types → (k : StType) → k ≡ told (type_written s t) → (sh : Shape) → shape_of Seen k ≡ Some sh → NoEmptyArray sh
  kind_filled s t all k q sh e = told_filled (type_written s t) (written_sound decls s t all) sh (subst (λ z. shape_of Seen z ≡ Some sh) q e)

  each_filled : (s : Scope) → TypesSound decls s.names.types → (vs : List Variable) (ws : List Written) → Each (IsOf s) vs ws → Every Filled vs
  each_filled s all [] [] h = tt
  each_filled s all [] (w ∷ ws) h = absurd h
  each_filled s all (v ∷ vs) [] h = absurd h
  each_filled s all (v ∷ vs) (w ∷ ws) h = (kind_filled s w.item.kind all v.kind h.0.kind, each_filled s all vs ws h.1)

  sections_filled : (s : Scope) → TypesSound decls s.names.types → (xs : List (Section ℕ)) (ys : List (Section Note)) → Each (TypedSection s) xs ys → Every Filled (variables_in ys)
  sections_filled s all xs ys t = each_filled s all (variables_in ys) (filter is_variable (written.sections_written xs)) (all_of s xs ys t)

  result_filled : (s : Scope) → TypesSound decls s.names.types → (name : List ℕ) (o : Option (TypeSpec ℕ)) (q : Option (TypeSpec Note)) → IfThere (TypedSpec s) o q → Every Filled (result_of name q)
  result_filled s all name None None h = tt
  result_filled s all name None (Some y) h = absurd h
  result_filled s all name (Some x) None h = absurd h
  result_filled s all name (Some x) (Some y) h = (kind_filled s x all (kind_of y) (kind_shown s x y h), tt)

  all_filled : (first vs : List Variable) → Every Filled first → Every Filled vs → Every Filled (first ++ (those is_parameter vs ++ those (negated is_parameter) vs))
  all_filled first vs h k =
      every_append Filled first (those is_parameter vs ++ those (negated is_parameter) vs) h
      (every_append Filled (those is_parameter vs) (those (negated is_parameter) vs) (every_test Filled (λ v. is_parameter v.sort) vs k) (every_test Filled (λ v. negated is_parameter v.sort) vs k))

  -- ---- routines

  abbrev LocalsFilled : Routine → Type 0
  LocalsFilled r = Every Filled r.locals

  function_filled : (x : FunctionDecl ℕ) (y : FunctionDecl Note) → TypedFunction decls x y → LocalsFilled (function_of y)
  unfolding function_scope
  function_filled x y t =
      let s = function_scope decls (unit_names decls) x in
      all_filled (result_of y.name.text y.result) (variables_in y.sections) (result_filled s (unit_sound decls) y.name.text x.result y.result t.result) (sections_filled s (unit_sound decls) x.sections y.sections t.sections)

  method_filled : (c : ℕ) (x : Method ℕ) (y : Method Note) → TypedMethod decls c x y → LocalsFilled (method_of c y)
  unfolding method_scope
  method_filled c x y t =
      let s = method_scope decls (unit_names decls) c x in
      all_filled (result_of y.name.text y.result) (variables_in y.sections) (result_filled s (unit_sound decls) y.name.text x.result y.result t.result) (sections_filled s (unit_sound decls) x.sections y.sections t.sections)

  methods_filled : (c : ℕ) (xs : List (Method ℕ)) (ys : List (Method Note)) → Each (TypedMethod decls c) xs ys → Every LocalsFilled (map (method_of c) ys)
  methods_filled c [] [] h = tt
  methods_filled c [] (y ∷ ys) h = absurd h
  methods_filled c (x ∷ xs) [] h = absurd h
  methods_filled c (x ∷ xs) (y ∷ ys) h = (method_filled c x y h.0, methods_filled c xs ys h.1)

  record TypedAt (c : ℕ) (y : ClassDecl Note) : Type 0 where
    decl : ClassDecl ℕ
    typed : TypedClass decls c decl y

  typed_at : (c : ℕ) (y : ClassDecl Note) → slice_get p.classes c ≡ Some y → TypedAt c y
  typed_at c y e =
      let z : 0 + c ≡ c = omega arith in
      let d = if_found (TypedClass decls (0 + c)) (slice_get (classes_in decls) c) (slice_get p.classes c) y e (from_get (TypedClass decls) 0 (classes_in decls) p.classes c checked.classes) in
      record { decl = d.0; typed = subst (λ n. TypedClass decls n d.0 y) z d.2 }

  class_filled : (b : ℕ) (o : Option (ClassDecl Note)) → slice_get p.classes b ≡ o → Every Filled (declared_by o)
  class_filled b None e = tt
  class_filled b (Some y) e =
      let t = typed_at b y e in
      sections_filled (class_scope decls (unit_names decls) b) (unit_sound decls) (written.sections_in (t.decl).members) (sections_in y.members) (sections_typed decls b (t.decl).members y.members (t.typed).members)

  along_filled : (cs : List ℕ) → Every Filled (declared_along p.classes cs)
  along_filled [] = tt
  along_filled (c ∷ cs) = every_append Filled (declared_by (slice_get p.classes c)) (declared_along p.classes cs) (class_filled c (slice_get p.classes c) refl) (along_filled cs)

  -- ---- as they are found

  module _ (right : ProgramIs Seen) (sizes : LocalsAre Seen) where
    shaped : (r : Routine) → values_of_locals Seen r.locals ≤ 1_024 → LocalsFilled r → promise.Each (LocalIs Seen) r.locals → LocalsHaveShapes Seen r
    shaped r l f h v k i =
        let x = each_has (LocalIs Seen) r.locals v h k i in
        let n = one_of_all Seen r.locals v x.0 k i x.1 in
        record { shape = x.0; unfolds = x.1; small = part_small x.0 (omega (arith, l, n)) (every_has Filled r.locals v f k x.0 x.1) }

    pub functions_shaped : (k : ℕ) (r : Routine) → slice_get Seen.functions k ≡ Some r → LocalsHaveShapes Seen r
    functions_shaped k r e =
        let y = mapped_some function_of (slice_get p.functions k) r (sym (slice_get-map function_of p.functions k) ∙ e) in
        let x = if_found (TypedFunction decls) (slice_get (functions_in decls) k) (slice_get p.functions k) y.0 y.1 (each_get (TypedFunction decls) (functions_in decls) p.functions k checked.functions) in
        shaped r (sizes.functions k r e) (subst LocalsFilled y.2 (function_filled x.0 y.0 x.2)) (right.functions k r e).0.locals

    record Fine (r : Routine) : Type 0 where
      few_values : values_of_locals Seen r.locals ≤ 1_024
      filled : LocalsFilled r

    own_fine : (c : ℕ) (k : Class) (r : Routine) → class_at Seen c ≡ Some k → Has k.methods r → Fine r
    own_fine c k r e h = elim (class_or_program p.classes p.interfaces 0 p.classes (length p.classes) p.programs c k e) [
      | inl q ↦
          let z : 0 + c ≡ c = omega arith in
          let t = typed_at c q.decl q.there in
          let all = methods_filled c (methods_in (t.decl).members) (methods_in (q.decl).members) (methods_each decls p checked c (t.decl).members (q.decl).members (t.typed).members) in
          let seen : Has (map (method_of c) (methods_in (q.decl).members)) r = subst (λ n. Has (map (method_of n) (methods_in (q.decl).members)) r) z (subst (λ (y : Class). Has y.methods r) (sym q.is) h) in
          record { few_values = sizes.methods c k r e h; filled = every_has LocalsFilled (map (method_of c) (methods_in (q.decl).members)) r all seen }
      | inr q ↦ absurd (subst (λ rs. Has rs r) q.none h)
    ]

    found_fine : (c : ℕ) (name : List ℕ) (r : Routine) → own_method Seen name c ≡ Some r → Fine r
    found_fine c name r e = by (class_at Seen c) refl e
      where
        by : (o : Option Class) → class_at Seen c ≡ o → method_found o name ≡ Some r → Fine r
        by None q h = absurd (none≢some h)
        by (Some k) q h = own_fine c k r q (named_has k.methods name r h)

    lookup_fine : (c : ℕ) (name : List ℕ) (r : Routine) → lookup Seen c name ≡ Some r → Fine r
    unfolding lookup
    lookup_fine c name r e = nearest_has Fine (own_method Seen name) (λ b x h. found_fine b name x h) (chain_of (class_at Seen c)) r e

    pub methods_shaped : (c : ℕ) (name : List ℕ) (r : Routine) → lookup Seen c name ≡ Some r → LocalsHaveShapes Seen r
    methods_shaped c name r e = let f = lookup_fine c name r e in shaped r f.few_values f.filled (right.methods c name r e).locals

    pub bodies_shaped : (c : ℕ) (k : Class) → class_at Seen c ≡ Some k → (k.sort ≡ a_program → ⊥) → LocalsHaveShapes Seen k.body
    bodies_shaped c k e n = elim (class_or_program p.classes p.interfaces 0 p.classes (length p.classes) p.programs c k e) [
      | inl q ↦
          let vs = declared_along p.classes (reverse (chain p.classes (0 + c))) in
          let filled : LocalsFilled (class_of p.classes p.interfaces (0 + c) q.decl).body = every_test Filled (λ v. is_of_body v.sort) vs (along_filled (reverse (chain p.classes (0 + c)))) in
          shaped k.body (sizes.bodies c k e n) (subst (λ (y : Class). LocalsFilled y.body) q.is filled) (right.bodies c k.body (ap body_in e)).locals
      | inr q ↦ absurd (n q.marked)
    ]
