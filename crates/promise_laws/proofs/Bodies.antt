-- The bodies of a unit that breaks no rule are as it is promised.
use Rattle.std.proofs.Common.{◌≡◌, ℕ, zero, suc, ◌+◌, Bool, true, false, List, [], ◌∷◌, ◌++◌, map, length, Option, Some, None, refl, sym, ap, ◌∙◌, subst, inl, inr, ◌⊎◌, arith}
use Rattle.std.specs.Prelude.{if◌then◌else◌, option_and_then, slice_get}
use Rattle.std.proofs.lemmas.Option.{slice_get-map}
use Rattle.plc_text.specs.Words.{same}
use Rattle.st_tree.specs.declared.declaration.ClassDecl.{ClassDecl}
use Rattle.st_tree.specs.declared.declaration.FunctionDecl.{FunctionDecl}
use Rattle.st_tree.specs.declared.declaration.Method.{Method}
use Rattle.st_tree.specs.declared.declaration.ProgramDecl.{ProgramDecl}
use Rattle.st_tree.specs.declared.program.Note.{Note}
use Rattle.st_tree.specs.declared.program.Program.{Program as Checked}
use Rattle.st_tree.specs.declared.unit.Decl.{Decl}
use Rattle.st_tree.specs.Statement.{Statements, statements_of}
use Rattle.st_rules.specs.declared.ids.MethodId.{MethodId}
use Rattle.st_rules.specs.Chains.{nearest, ◌or_else◌}
use Rattle.st_rules.specs.Classes.{classes_in, methods_in, method_id}
use Rattle.st_rules.specs.ClassRules.{class_faults}
use Rattle.st_rules.specs.Scope.{Scope}
use Rattle.st_rules.specs.Statements.{body_faults, typed_statements}
use Rattle.st_rules.proofs.Booleans.{none≢some, some-same}
use Rattle.st_unit_rules.specs.declared_names.Declarations.{functions_in, programs_in}
use Rattle.st_unit_rules.specs.declared_names.UnitNames.{unit_names, class_scope, method_scope, function_scope, program_scope}
use Rattle.st_unit_rules.specs.Checked.{Each, TypedMethod, TypedClass, TypedFunction, TypedProgram, IsChecked}
use Rattle.st_unit_rules.specs.DeclarationRules.{signatures}
use Rattle.st_unit_rules.specs.UnitRefusal.{BreaksNothing}
use Rattle.st_unit_rules.specs.Worth.{same_worth}
use Rattle.st_values.specs.Program as seen
use Rattle.st_values.specs.Program.{Routine, Class, class_at, chain_of, named, own_method, lookup, body_of, body_in}
use Rattle.st_values.specs.View.{method_of, function_of, class_of, classes_from, programs_from, body_routine, variables_in, program_of}
use Rattle.st_values.proofs.ShapeLaws.{mapped_some}
use Rattle.st_meaning.specs.st_frame.Promise.Names.{Scope as Around}
use Rattle.st_meaning.specs.st_frame.Promise.Statements.{StatementsAre}
use Rattle.st_meaning.specs.st_frame.Promise.Declarations.{scope_of}
use Rattle.accepted_texts.specs.formed_units.Formed.{FormedBody, IsFormed}
use Rattle.accepted_texts.specs.told_units.Told.{AllIsTold}
use Rattle.accepted_texts.proofs.unfolding_laws.CycleLaws.{none_in}
use Rattle.accepted_texts.proofs.unfolding_laws.ListLaws.{if_found, each_get, from_get}
use Rattle.accepted_texts.proofs.told_units.Law.{program-rules}
use Rattle.accepted_texts.proofs.told_units.Whole.{class-rules}
use Rattle.class_laws.proofs.Above.{NoCycle, at_number}
use Rattle.class_laws.proofs.Same.{methods_each}
use Rattle.place_laws.specs.Agrees.{Agrees}
use Rattle.promise_laws.specs.BodiesAre.{BodyIs, BodiesAre}
use Rattle.scope_laws.specs.Agreement.{HasNumbers, MeetsInterfaces}
use Rattle.name_laws.proofs.Found.{MethodShown}
use Rattle.scope_laws.proofs.Instances.{method_agrees, function_agrees, body_agrees, program_agrees}
use Rattle.name_laws.proofs.Stands.{class_formed, method_formed, function_stands, program_stands}
use Rattle.scope_laws.proofs.Texts.{method_body, function_body}
use Rattle.statement_laws.proofs.Bodies.{statements}

-- a text that breaks no rule, as it is seen
body_right : (s : Scope) (p : seen.Program) (g : Around) (text : Statements ℕ) (body : Statements Note) → Agrees s p g → FormedBody text → body_faults s text ≡ [] → body ≡ typed_statements s text → StatementsAre p g body
body_right s p g text body a f h e = subst (StatementsAre p g) (sym e) (statements s p g a false text f h)

-- a program among the classes
pub record ProgramShown (n : ℕ) (ds : List (ProgramDecl Note)) (i : ℕ) (k : Class) : Type 0 where
  pub text : ProgramDecl Note
  pub there : slice_get ds i ≡ Some text
  pub is : k.body ≡ body_routine (n + i) text.name.text text.line (variables_in text.sections) (statements_of text.body)

program_from : (n : ℕ) (ds : List (ProgramDecl Note)) (i : ℕ) (k : Class) → slice_get (programs_from n ds) i ≡ Some k → ProgramShown n ds i k
program_from n [] i k e = absurd (none≢some e)
program_from n (d ∷ ds) zero k e =
    let z : n ≡ n + 0 = omega arith in
    record { text = d; there = refl; is = ap (λ (x : Class). x.body) (sym (some-same e)) ∙ ap (λ c. body_routine c d.name.text d.line (variables_in d.sections) (statements_of d.body)) z }
program_from n (d ∷ ds) (suc i) k e =
    let r = program_from (suc n) ds i k e in
    let z : suc n + i ≡ n + suc i = omega arith in
    record { text = r.text; there = r.there; is = r.is ∙ ap (λ c. body_routine c r.text.name.text r.text.line (variables_in r.text.sections) (statements_of r.text.body)) z }

module _ (p : Checked) where
  -- a class of the text, or a program, by its number
  pub record AsClass (c : ℕ) (k : Class) : Type 0 where
    pub decl : ClassDecl Note
    pub there : slice_get p.classes c ≡ Some decl
    pub is : k ≡ class_of p.classes p.interfaces c decl

  pub record AsProgram (c : ℕ) (k : Class) : Type 0 where
    pub number : ℕ
    pub at : c ≡ length p.classes + number
    pub shown : ProgramShown (length p.classes) p.programs number k

  class_or_program : (n : ℕ) (ds : List (ClassDecl Note)) (l i : ℕ) (k : Class) → l ≡ n + length ds → slice_get (classes_from p.classes p.interfaces n ds ++ programs_from l p.programs) i ≡ Some k
      → ((d : ClassDecl Note) × (slice_get ds i ≡ Some d) × (k ≡ class_of p.classes p.interfaces (n + i) d)) ⊎ ((j : ℕ) × (n + i ≡ l + j) × ProgramShown l p.programs j k)
  class_or_program n [] l i k h e =
      let z : n + i ≡ l + i = omega (arith, h) in
      inr (i, z, program_from l p.programs i k e)
  class_or_program n (d ∷ ds) l zero k h e =
      let z : n ≡ n + 0 = omega arith in
      inl (d, refl, sym (some-same e) ∙ ap (λ m. class_of p.classes p.interfaces m d) z)
  class_or_program n (d ∷ ds) l (suc i) k h e =
      let g : l ≡ suc n + length ds = omega (arith, h) in
      let z : suc n + i ≡ n + suc i = omega arith in
      elim (class_or_program (suc n) ds l i k g e) [
        | inl r ↦ inl (r.0, r.1, r.2 ∙ ap (λ m. class_of p.classes p.interfaces m r.0) z)
        | inr r ↦ inr (r.0, sym z ∙ r.1, r.2)
      ]

  pub by_number : (c : ℕ) (k : Class) → class_at (program_of p) c ≡ Some k → AsClass c k ⊎ AsProgram c k
  by_number c k e =
      let l : length p.classes ≡ 0 + length p.classes = omega arith in
      let z : 0 + c ≡ c = omega arith in
      elim (class_or_program 0 p.classes (length p.classes) c k l e) [
        | inl r ↦ inl (record { decl = r.0; there = r.1; is = r.2 ∙ ap (λ m. class_of p.classes p.interfaces m r.0) z })
        | inr r ↦ inr (record { number = r.0; at = sym z ∙ r.1; shown = r.2 })
      ]

module _ (most : ℕ) (decls : List (Decl ℕ)) (p : Checked) (checked : IsChecked decls p) (well : IsFormed most decls) (good : BreaksNothing decls) (all : AllIsTold decls) (free : NoCycle p)
    (rules_good : (c : ℕ) → class_faults same_worth (classes_in decls) (signatures decls) c ≡ []) (meets : MeetsInterfaces decls p)
    (method_numbers : (id : MethodId) (x : MethodShown decls p checked id) → HasNumbers (program_of p) (method_scope decls (unit_names decls) id.class x.method))
    (function_numbers : (k : ℕ) (f : FunctionDecl ℕ) → slice_get (functions_in decls) k ≡ Some f → HasNumbers (program_of p) (function_scope decls (unit_names decls) f))
    (class_numbers : (c : ℕ) (d : ClassDecl ℕ) → slice_get (classes_in decls) c ≡ Some d → HasNumbers (program_of p) (class_scope decls (unit_names decls) c))
    (program_numbers : (i : ℕ) (d : ProgramDecl ℕ) → slice_get (programs_in decls) i ≡ Some d → HasNumbers (program_of p) (program_scope decls (unit_names decls) d))
  where
    abbrev pp : seen.Program
    pp = program_of p

    -- ---- methods

    method_is : (id : MethodId) (x : MethodShown decls p checked id) → BodyIs pp (method_of id.class x.shown)
    method_is id x =
        let m = x.method in
        body_right (method_scope decls (unit_names decls) id.class m) pp (scope_of (method_of id.class x.shown)) (statements_of m.body) (statements_of x.shown.body)
        (method_agrees most decls p checked well good all free rules_good meets id x (method_numbers id x)) (method_formed most decls well id.class x.class id.method m x.class_there x.there).body
        (method_body most decls well good all id.class id.method x.class m x.class_there x.there) x.typed.body

    -- the method that is found is one of the text
    record IsMethod (r : Routine) : Type 0 where
      id : MethodId
      method : MethodShown decls p checked id
      is : r ≡ method_of id.class method.shown

    named_method : (c : ℕ) (name : List ℕ) (r : Routine) (ms : List (Method ℕ)) (ns : List (Method Note)) → Each (TypedMethod decls c) ms ns → named (map (method_of c) ns) name ≡ Some r
        → (j : ℕ) × (m : Method ℕ) × (n : Method Note) × (slice_get ms j ≡ Some m) × (slice_get ns j ≡ Some n) × TypedMethod decls c m n × (r ≡ method_of c n)
    named_method c name r [] [] h e = absurd (none≢some e)
    named_method c name r [] (n ∷ ns) h e = absurd h
    named_method c name r (m ∷ ms) [] h e = absurd h
    named_method c name r (m ∷ ms) (n ∷ ns) h e = by (same n.name.text name) (named_method c name r ms ns h.1) e
      where
        by : (b : Bool) → (named (map (method_of c) ns) name ≡ Some r → (j : ℕ) × (x : Method ℕ) × (y : Method Note) × (slice_get ms j ≡ Some x) × (slice_get ns j ≡ Some y) × TypedMethod decls c x y × (r ≡ method_of c y))
            → (if b then Some (method_of c n) else named (map (method_of c) ns) name) ≡ Some r
            → (j : ℕ) × (x : Method ℕ) × (y : Method Note) × (slice_get (m ∷ ms) j ≡ Some x) × (slice_get (n ∷ ns) j ≡ Some y) × TypedMethod decls c x y × (r ≡ method_of c y)
        by true later f = (0, m, n, refl, refl, h.0, sym (some-same f))
        by false later f = let q = later f in (suc q.0, q.1, q.2, q.3, q.4, q.5, q.6)

    class_method : (c : ℕ) (k : Class) (name : List ℕ) (r : Routine) → AsClass p c k → named k.methods name ≡ Some r → IsMethod r
    class_method c k name r a e =
        let z : 0 + c ≡ c = omega arith in
        let d = if_found (TypedClass decls (0 + c)) (slice_get (classes_in decls) c) (slice_get p.classes c) a.decl a.there (from_get (TypedClass decls) 0 (classes_in decls) p.classes c checked.classes) in
        let t : TypedClass decls c d.0 a.decl = subst (λ n. TypedClass decls n d.0 a.decl) z d.2 in
        let q = named_method c name r (methods_in (d.0).members) (methods_in a.decl.members) (methods_each decls p checked c (d.0).members a.decl.members t.members) (subst (λ (y : Class). named y.methods name ≡ Some r) a.is e) in
        record {
          id = method_id c q.0;
          method = record { class = d.0; method = q.1; shown = q.2; class_there = d.1; there = q.3; shown_there = ap (option_and_then (λ (x : ClassDecl Note). slice_get (methods_in x.members) q.0)) a.there ∙ q.4; typed = q.5 };
          is = q.6;
        }

    own_is : (c : ℕ) (name : List ℕ) (r : Routine) → own_method pp name c ≡ Some r → IsMethod r
    own_is c name r e = by (class_at pp c) refl e
      where
        by : (o : Option Class) → class_at (program_of p) c ≡ o → seen.method_of o name ≡ Some r → IsMethod r
        by None q f = absurd (none≢some f)
        by (Some k) q f = elim (at_number p c k q) [
          | inl a ↦ class_method c k name r (record { decl = a.decl; there = a.there; is = a.is }) f
          | inr a ↦ absurd (none≢some (sym (ap (λ ms. named ms name) a.methods) ∙ f))
        ]

    near_is : (name : List ℕ) (cs : List ℕ) (r : Routine) → nearest (own_method pp name) cs ≡ Some r → IsMethod r
    near_is name [] r e = absurd (none≢some e)
    near_is name (c ∷ cs) r e = by (own_method pp name c) refl (near_is name cs r) e
      where
        by : (o : Option Routine) → own_method (program_of p) name c ≡ o → (nearest (own_method (program_of p) name) cs ≡ Some r → IsMethod r) → (o or_else nearest (own_method (program_of p) name) cs) ≡ Some r → IsMethod r
        by (Some y) q later f = own_is c name r (q ∙ f)
        by None q later f = later f

    methods : (c : ℕ) (name : List ℕ) (r : Routine) → lookup pp c name ≡ Some r → BodyIs pp r
    unfolding lookup
    methods c name r e = let m = near_is name (chain_of (class_at pp c)) r e in subst (BodyIs pp) (sym m.is) (method_is m.id m.method)

    -- ---- functions

    functions : (k : ℕ) (r : Routine) → slice_get pp.functions k ≡ Some r → BodyIs pp r
    functions k r e =
        let y = mapped_some function_of (slice_get p.functions k) r (sym (slice_get-map function_of p.functions k) ∙ e) in
        let f = if_found (TypedFunction decls) (slice_get (functions_in decls) k) (slice_get p.functions k) y.0 y.1 (each_get (TypedFunction decls) (functions_in decls) p.functions k checked.functions) in
        subst (BodyIs pp) y.2
        (body_right (function_scope decls (unit_names decls) f.0) pp (scope_of (function_of y.0)) (statements_of (f.0).body) (statements_of (y.0).body)
        (function_agrees most decls p checked well good all free rules_good meets k f.0 y.0 f.1 f.2 (function_numbers k f.0 f.1)) (function_stands most decls well k f.0 f.1).formed.body (function_body most decls well good all k f.0 f.1) f.2.body)

    -- ---- bodies of classes and programs

    class_body : (c : ℕ) (k : Class) → AsClass p c k → BodyIs pp k.body
    class_body c k a =
        let z : 0 + c ≡ c = omega arith in
        let d = if_found (TypedClass decls (0 + c)) (slice_get (classes_in decls) c) (slice_get p.classes c) a.decl a.there (from_get (TypedClass decls) 0 (classes_in decls) p.classes c checked.classes) in
        let t : TypedClass decls c d.0 a.decl = subst (λ n. TypedClass decls n d.0 a.decl) z d.2 in
        let s = class_scope decls (unit_names decls) c in
        let r = class-rules decls good c d.0 d.1 in
        subst (λ (x : Class). BodyIs pp x.body) (sym a.is)
        (body_right s pp (scope_of (class_of p.classes p.interfaces c a.decl).body) (statements_of (d.0).body) (statements_of a.decl.body) (body_agrees most decls p checked well good all free rules_good meets c d.0 a.decl d.1 (class_numbers c d.0 d.1))
        (class_formed most decls well c d.0 d.1).body (none_in _ (body_faults s (statements_of (d.0).body)) r.1).1 t.body)

    program_body : (c : ℕ) (k : Class) → AsProgram p c k → BodyIs pp k.body
    program_body c k a =
        let y = a.shown in
        let d = if_found (TypedProgram decls) (slice_get (programs_in decls) a.number) (slice_get p.programs a.number) y.text y.there (each_get (TypedProgram decls) (programs_in decls) p.programs a.number checked.programs) in
        let s = program_scope decls (unit_names decls) d.0 in
        let x = program_stands most decls well a.number d.0 d.1 in
        subst (BodyIs pp) (sym y.is)
        (body_right s pp _ (statements_of (d.0).body) (statements_of y.text.body) (program_agrees most decls p checked well good all free rules_good meets a.number d.0 y.text d.1 y.there d.2 (program_numbers a.number d.0 d.1))
        x.formed.body (none_in _ (body_faults s (statements_of (d.0).body)) (program-rules decls good x.place x.item d.0 x.there x.is)).1 d.2.body)

    bodies : (c : ℕ) (r : Routine) → body_of pp c ≡ Some r → BodyIs pp r
    bodies c r e = by (class_at pp c) refl e
      where
        by : (o : Option Class) → class_at (program_of p) c ≡ o → body_in o ≡ Some r → BodyIs (program_of p) r
        by None q f = absurd (none≢some f)
        by (Some k) q f = subst (BodyIs (program_of p)) (some-same f) (elim (by_number p c k q) [
          | inl a ↦ class_body c k a
          | inr a ↦ program_body c k a
        ])

    pub bodies_are : BodiesAre pp
    bodies_are = record { methods = methods; bodies = bodies; functions = functions }
