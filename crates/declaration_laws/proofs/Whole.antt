-- The declarations of the checked program of a good unit that is formed are as is promised.
use Rattle.std.proofs.Common.{◌≡◌, ℕ, suc, ◌+◌, List, [], ◌∷◌, map, reverse, length, Option, Some, None, refl, sym, ap, ◌∙◌, subst, inl, inr, arith}
use Rattle.std.specs.Prelude.{slice_get, if◌then◌else◌, Bool, true, false}
use Rattle.std.proofs.lemmas.Option.{slice_get-map}
use Rattle.plc_text.specs.Words.{same}
use Rattle.st_tree.specs.declared.declaration.ClassDecl.{ClassDecl}
use Rattle.st_tree.specs.declared.declaration.FunctionDecl.{FunctionDecl}
use Rattle.st_tree.specs.declared.declaration.Method.{Method}
use Rattle.st_tree.specs.declared.declaration.ProgramDecl.{ProgramDecl}
use Rattle.st_tree.specs.declared.program.Note.{Note}
use Rattle.st_tree.specs.declared.program.Program.{Program as Checked}
use Rattle.st_tree.specs.declared.unit.Decl.{Decl}
use Rattle.st_tree.specs.Statement.{statements_of}
use Rattle.st_rules.specs.Classes.{classes_in, methods_in, chain}
use Rattle.st_rules.proofs.Booleans.{none≢some, some-same}
use Rattle.st_unit_rules.specs.Checked.{TypedClass, TypedMethod, TypedFunction, TypedProgram, IsChecked}
use Rattle.st_unit_rules.specs.declared_names.Declarations.{a_function, functions_in, programs_in}
use Rattle.st_unit_rules.specs.RefusalLaws.{IsGood}
use Rattle.st_values.specs.Program.{Routine, Class, Program, class_at, named, method_of as method_found, own_method, lookup, chain_of, body_in, body_of}
use Rattle.st_values.specs.View.{method_of, function_of, class_of, classes_from, programs_from, body_routine, those, is_of_body, variables_in, declared_along, program_of}
use Rattle.st_values.proofs.ShapeLaws.{mapped_some}
use Rattle.st_meaning.specs.st_frame.Promise.Declarations.{LocalIs}
use Rattle.resolution_order.specs.told_laws.ToldLaws.{Every}
use Rattle.accepted_texts.specs.formed_units.Formed.{IsFormed}
use Rattle.accepted_texts.proofs.sized_units.Promised.{few_regions, located_right, tasks_right}
use Rattle.accepted_texts.proofs.unfolding_laws.ListLaws.{every_append, every_at, if_found, each_get, from_get}
use Rattle.class_laws.proofs.Above.{ClassAt, at_number}
use Rattle.class_laws.proofs.Same.{methods_each}
use Rattle.declaration_laws.specs.DeclarationsAre.{RoutineDeclared, DeclarationsAre}
use Rattle.declaration_laws.specs.DeclarationLaws.{AreRight, DeclarationLaws}
use Rattle.declaration_laws.proofs.Alive.{living}
use Rattle.declaration_laws.proofs.Bodies.{block_locals, program_bodies}
use Rattle.declaration_laws.proofs.BodyParameters.{block_parameters, program_parameters}
use Rattle.initial_laws.proofs.Items.{no_cycle}
use Rattle.initial_laws.proofs.Knowing.{programs_at}
use Rattle.initial_laws.proofs.Members.{nearest_has}
use Rattle.declaration_laws.proofs.Numbered.{numbered, conforms_itself}
use Rattle.initial_laws.proofs.Meanings.{scope_constants}
use Rattle.declaration_laws.proofs.Implemented.{met}
use Rattle.initial_laws.proofs.Places.{PlacedAt, all_at, of_sorts}
use Rattle.declaration_laws.proofs.Regions.{each_every, regions_fit}
use Rattle.declaration_laws.proofs.Routines.{method_locals, function_locals, parameters_are}

-- a method that is found is one of them
found_method : (c : ℕ) (ms : List (Method Note)) (name : List ℕ) (r : Routine) → named (map (method_of c) ms) name ≡ Some r → (k : ℕ) × (y : Method Note) × (slice_get ms k ≡ Some y) × (r ≡ method_of c y)
found_method c [] name r e = absurd (none≢some e)
found_method c (m ∷ ms) name r e = by (same m.name.text name) e (found_method c ms name r)
  where
    by : (b : Bool) → (if b then Some (method_of c m) else named (map (method_of c) ms) name) ≡ Some r → (named (map (method_of c) ms) name ≡ Some r → (k : ℕ) × (y : Method Note) × (slice_get ms k ≡ Some y) × (r ≡ method_of c y))
        → (k : ℕ) × (y : Method Note) × (slice_get (m ∷ ms) k ≡ Some y) × (r ≡ method_of c y)
    by true q f = (0, m, refl, sym (some-same q))
    by false q f = let x = f q in (suc x.0, x.1, x.2, x.3)

module _ (most : ℕ) (decls : List (Decl ℕ)) (p : Checked) (fine : IsFormed most decls) (good : IsGood decls) (checked : IsChecked decls p) where
  abbrev Seen : Program
  Seen = program_of p

  method_right : (c : ℕ) (y : Method Note) → Every (LocalIs Seen) (method_of c y).locals → RoutineDeclared Seen (method_of c y)
  method_right c y h = record { locals = each_every (LocalIs Seen) (method_of c y).locals h; parameters = parameters_are Seen (Some c) y.name.text y.line y.result (variables_in y.sections) (statements_of y.body) h }

  class_methods : (c : ℕ) (k : Class) (name : List ℕ) (r : Routine) → ClassAt p c k → named k.methods name ≡ Some r → RoutineDeclared Seen r
  class_methods c k name r a e =
      let x = found_method c (methods_in (a.decl).members) name r (subst (λ (z : Class). named z.methods name ≡ Some r) a.is e) in
      let z : 0 + c ≡ c = omega arith in
      let d = if_found (TypedClass decls (0 + c)) (slice_get (classes_in decls) c) (slice_get p.classes c) a.decl a.there (from_get (TypedClass decls) 0 (classes_in decls) p.classes c checked.classes) in
      let typed : TypedClass decls c d.0 a.decl = subst (λ n. TypedClass decls n d.0 a.decl) z d.2 in
      let ms = methods_each decls p checked c (d.0).members (a.decl).members typed.members in
      let m = if_found (TypedMethod decls c) (slice_get (methods_in (d.0).members) x.0) (slice_get (methods_in (a.decl).members) x.0) x.1 x.2 (each_get (TypedMethod decls c) (methods_in (d.0).members) (methods_in (a.decl).members) x.0 ms) in
      subst (RoutineDeclared Seen) (sym x.3) (method_right c x.1 (method_locals most decls p fine good.nothing checked c d.0 x.0 m.0 x.1 d.1 m.1 m.2))

  methods_right : (c : ℕ) (name : List ℕ) (r : Routine) → own_method Seen name c ≡ Some r → RoutineDeclared Seen r
  methods_right c name r e = by (class_at Seen c) refl e
    where
      by : (o : Option Class) → class_at Seen c ≡ o → method_found o name ≡ Some r → RoutineDeclared Seen r
      by None q h = absurd (none≢some h)
      by (Some k) q h = elim (at_number p c k q) [
        | inl a ↦ class_methods c k name r a h
        | inr a ↦ absurd (none≢some (sym (ap (λ ms. named ms name) a.methods) ∙ h))
      ]

  functions_right : (k : ℕ) (r : Routine) → slice_get Seen.functions k ≡ Some r → RoutineDeclared Seen r
  functions_right k r e =
      let y = mapped_some function_of (slice_get p.functions k) r (sym (slice_get-map function_of p.functions k) ∙ e) in
      let x = if_found (TypedFunction decls) (slice_get (functions_in decls) k) (slice_get p.functions k) y.0 y.1 (each_get (TypedFunction decls) (functions_in decls) p.functions k checked.functions) in
      let place = every_at (λ (f : FunctionDecl ℕ). PlacedAt decls (a_function f)) (functions_in decls) k x.0 (of_sorts (PlacedAt decls) decls (all_at decls)).functions x.1 in
      let f : FunctionDecl Note = y.0 in
      let h = function_locals most decls p fine good.nothing checked x.0 f place x.2 in
      let declared : RoutineDeclared Seen (function_of f) = record { locals = each_every (LocalIs Seen) (function_of f).locals h; parameters = parameters_are Seen None f.name.text f.line f.result (variables_in f.sections) (statements_of f.body) h } in
      subst (RoutineDeclared Seen) y.2 declared

  -- ---- bodies

  abbrev BodyRight : Class → Type 0
  BodyRight k = RoutineDeclared Seen k.body

  classes_right : (n : ℕ) (ds : List (ClassDecl Note)) → ((i : ℕ) (d : ClassDecl Note) → slice_get ds i ≡ Some d → RoutineDeclared Seen (class_of p.classes p.interfaces (n + i) d).body) → Every BodyRight (classes_from p.classes p.interfaces n ds)
  classes_right n [] f = tt
  classes_right n (d ∷ ds) f =
      let z : n + 0 ≡ n = omega arith in
      (subst (λ m. RoutineDeclared Seen (class_of p.classes p.interfaces m d).body) z (f 0 d refl), classes_right (suc n) ds (λ i x e. let w : n + suc i ≡ suc n + i = omega arith in subst (λ m. RoutineDeclared Seen (class_of p.classes p.interfaces m x).body) w (f (suc i) x e)))

  abbrev ProgramRight : ℕ → ProgramDecl Note → Type 0
  ProgramRight c d = RoutineDeclared Seen (body_routine c d.name.text d.line (variables_in d.sections) (statements_of d.body))

  programs_right : (n : ℕ) (ds : List (ProgramDecl Note)) → ((i : ℕ) (d : ProgramDecl Note) → slice_get ds i ≡ Some d → ProgramRight (n + i) d) → Every BodyRight (programs_from n ds)
  programs_right n [] f = tt
  programs_right n (d ∷ ds) f =
      let z : n + 0 ≡ n = omega arith in
      (subst (λ m. ProgramRight m d) z (f 0 d refl), programs_right (suc n) ds (λ i x e. let w : n + suc i ≡ suc n + i = omega arith in subst (λ m. ProgramRight m x) w (f (suc i) x e)))

  block_right : (i : ℕ) (d : ClassDecl Note) → slice_get p.classes i ≡ Some d → RoutineDeclared Seen (class_of p.classes p.interfaces (0 + i) d).body
  block_right i d e =
      let z : i ≡ 0 + i = omega arith in
      let vs = those is_of_body (declared_along p.classes (reverse (chain p.classes i))) in
      let declared : RoutineDeclared Seen (class_of p.classes p.interfaces i d).body =
      record { locals = each_every (LocalIs Seen) vs (block_locals most decls p fine good.nothing checked (reverse (chain p.classes i))); parameters = block_parameters most decls p fine good.nothing checked i d e } in
      subst (λ m. RoutineDeclared Seen (class_of p.classes p.interfaces m d).body) z declared

  program_right : (i : ℕ) (d : ProgramDecl Note) → slice_get p.programs i ≡ Some d → ProgramRight (length p.classes + i) d
  program_right i d e =
      let x = if_found (TypedProgram decls) (slice_get (programs_in decls) i) (slice_get p.programs i) d e (each_get (TypedProgram decls) (programs_in decls) p.programs i checked.programs) in
      let place = programs_at most decls p fine good.nothing checked i x.0 x.1 in
      record { locals = each_every (LocalIs Seen) (those is_of_body (variables_in d.sections)) (program_bodies most decls p fine good.nothing checked x.0 d place x.2); parameters = program_parameters most decls p fine good.nothing checked i x.0 d e place x.2 }

  all_bodies : Every BodyRight Seen.classes
  all_bodies =
      every_append BodyRight (classes_from p.classes p.interfaces 0 p.classes) (programs_from (length p.classes) p.programs)
      (classes_right 0 p.classes block_right) (programs_right (length p.classes) p.programs program_right)

  bodies_right : (c : ℕ) (r : Routine) → body_of Seen c ≡ Some r → RoutineDeclared Seen r
  bodies_right c r e = by (class_at Seen c) refl e
    where
      by : (o : Option Class) → class_at Seen c ≡ o → body_in o ≡ Some r → RoutineDeclared Seen r
      by None q h = absurd (none≢some h)
      by (Some k) q h = subst (RoutineDeclared Seen) (some-same h) (every_at BodyRight Seen.classes c k all_bodies q)

  found_right : (c : ℕ) (name : List ℕ) (r : Routine) → lookup Seen c name ≡ Some r → RoutineDeclared Seen r
  unfolding lookup
  found_right c name r e = nearest_has (RoutineDeclared Seen) (own_method Seen name) (λ b x h. methods_right b name x h) (chain_of (class_at Seen c)) r e

  -- all that is declared
  pub declarations_are : DeclarationsAre Seen
  declarations_are = record {
    numbered = numbered decls good.nothing p checked;
    itself = conforms_itself p;
    methods = found_right;
    bodies = bodies_right;
    functions = functions_right;
    few = few_regions decls p good checked;
    regions = regions_fit most decls p fine good checked;
    located = located_right decls p good checked;
    tasks = tasks_right decls p good checked;
  }

  right : AreRight decls p
  right = record {
    declarations = declarations_are;
    constants = λ s o ss w called name c v e k. scope_constants most decls p fine good.nothing checked s o ss w called name c v e k;
    no_cycle = no_cycle decls good.nothing p checked;
    living = living most decls p fine good.nothing checked;
    met = met most decls p fine good.nothing checked;
  }

pub declaration_laws : DeclarationLaws
declaration_laws = record { right = λ most decls p fine good checked. right most decls p fine good checked }
