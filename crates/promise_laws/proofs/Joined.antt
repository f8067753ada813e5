-- What is declared, the bodies and the chains of classes together are the promise.
use Rattle.std.proofs.Common.{◌≡◌, ℕ, Bool, true, false, List, [], ◌∷◌, map, reverse, Option, Some, None, refl, sym, ap, ◌∙◌, subst, inl, inr}
use Rattle.std.specs.Prelude.{if◌then◌else◌, slice_get}
use Rattle.std.proofs.lemmas.Option.{slice_get-map}
use Rattle.plc_text.specs.Words.{same}
use Rattle.st_tree.specs.declared.program.Program.{Program as Checked}
use Rattle.st_tree.specs.declared.program.Note.{Note}
use Rattle.st_tree.specs.declared.declaration.Method.{Method}
use Rattle.st_rules.specs.Chains.{nearest, ◌or_else◌}
use Rattle.st_rules.specs.Classes.{methods_in, chain}
use Rattle.st_rules.proofs.Booleans.{none≢some, some-same}
use Rattle.st_values.specs.Program as seen
use Rattle.st_values.specs.Program.{Routine, Class, class_at, chain_of, named, own_method, lookup, body_of, body_in}
use Rattle.st_values.specs.View.{method_of, function_of, variables_in, declared_along, program_of}
use Rattle.st_values.proofs.ShapeLaws.{mapped_some}
use Rattle.st_meaning.specs.st_frame.Promise.Declarations.{RoutineIs, AreApart}
use Rattle.st_meaning.specs.st_frame.Promise.Programs.{ProgramIs}
use Rattle.class_laws.proofs.Above as Above
use Rattle.class_laws.proofs.Above.{NoCycle, at_number}
use Rattle.class_laws.proofs.Parameters.{locals_apart, bodies_apart}
use Rattle.promise_laws.specs.BodiesAre.{BodyIs, BodiesAre}
use Rattle.declaration_laws.specs.DeclarationsAre.{RoutineDeclared, DeclarationsAre}
use Rattle.promise_laws.proofs.Bodies.{by_number}

together : (p : seen.Program) (r : Routine) → RoutineDeclared p r → AreApart r.parameters → BodyIs p r → RoutineIs p r
together p r d a b = record { locals = d.locals; parameters = d.parameters; apart = a; body = b }

module _ (p : Checked) where
  abbrev pp : seen.Program
  pp = program_of p

  -- ---- no two parameters are one

  of_method : (c : ℕ) (m : Method Note) → AreApart (method_of c m).parameters
  of_method c m = locals_apart _ _

  named_apart : (c : ℕ) (name : List ℕ) (r : Routine) (ms : List (Method Note)) → named (map (method_of c) ms) name ≡ Some r → AreApart r.parameters
  named_apart c name r [] e = absurd (none≢some e)
  named_apart c name r (m ∷ ms) e = by (same m.name.text name) (named_apart c name r ms) e
    where
      by : (b : Bool) → (named (map (method_of c) ms) name ≡ Some r → AreApart r.parameters) → (if b then Some (method_of c m) else named (map (method_of c) ms) name) ≡ Some r → AreApart r.parameters
      by true k f = subst (λ (x : Routine). AreApart x.parameters) (some-same f) (of_method c m)
      by false k f = k f

  own_apart : (c : ℕ) (name : List ℕ) (r : Routine) → own_method pp name c ≡ Some r → AreApart r.parameters
  own_apart c name r e = by (class_at pp c) refl e
    where
      by : (o : Option Class) → class_at (program_of p) c ≡ o → seen.method_of o name ≡ Some r → AreApart r.parameters
      by None q f = absurd (none≢some f)
      by (Some k) q f = elim (at_number p c k q) [
        | inl a ↦ named_apart c name r (methods_in a.decl.members) (subst (λ (y : Class). named y.methods name ≡ Some r) a.is f)
        | inr a ↦ absurd (none≢some (sym (ap (λ ms. named ms name) a.methods) ∙ f))
      ]

  near_apart : (name : List ℕ) (cs : List ℕ) (r : Routine) → nearest (own_method pp name) cs ≡ Some r → AreApart r.parameters
  near_apart name [] r e = absurd (none≢some e)
  near_apart name (c ∷ cs) r e = by (own_method pp name c) refl (near_apart name cs r) e
    where
      by : (o : Option Routine) → own_method (program_of p) name c ≡ o → (nearest (own_method (program_of p) name) cs ≡ Some r → AreApart r.parameters) → (o or_else nearest (own_method (program_of p) name) cs) ≡ Some r → AreApart r.parameters
      by (Some y) q later f = own_apart c name r (q ∙ f)
      by None q later f = later f

  methods_apart : (c : ℕ) (name : List ℕ) (r : Routine) → lookup pp c name ≡ Some r → AreApart r.parameters
  unfolding lookup
  methods_apart c name r e = near_apart name (chain_of (class_at pp c)) r e

  body_apart : (c : ℕ) (r : Routine) → body_of pp c ≡ Some r → AreApart r.parameters
  body_apart c r e = by (class_at pp c) refl e
    where
      by : (o : Option Class) → class_at (program_of p) c ≡ o → body_in o ≡ Some r → AreApart r.parameters
      by None q f = absurd (none≢some f)
      by (Some k) q f = subst (λ (x : Routine). AreApart x.parameters) (some-same f) (elim (by_number p c k q) [
        | inl a ↦ subst (λ (x : Class). AreApart x.body.parameters) (sym a.is) (bodies_apart (declared_along p.classes (reverse (chain p.classes c))) 0 0)
        | inr a ↦ subst (λ (x : Routine). AreApart x.parameters) (sym a.shown.is) (bodies_apart (variables_in a.shown.text.sections) 0 0)
      ])

  -- ---- functions

  record IsFunction (r : Routine) : Type 0 where
    class : r.class ≡ None
    apart : AreApart r.parameters

  function_is : (k : ℕ) (r : Routine) → slice_get pp.functions k ≡ Some r → IsFunction r
  function_is k r e =
      let y = mapped_some function_of (slice_get p.functions k) r (sym (slice_get-map function_of p.functions k) ∙ e) in
      subst IsFunction y.2 (record { class = refl; apart = locals_apart _ _ })

  -- ---- all of it

  pub program_is : NoCycle p → DeclarationsAre pp → BodiesAre pp → ProgramIs pp
  program_is free d b = record {
    numbered = d.numbered;
    itself = d.itself;
    upward = λ c e t h k. Above.upward p c e t h k;
    variables_above = λ c e k v h q. Above.variables_above p free c e k v h q;
    bases = λ c e h. Above.bases p c e h;
    chains = λ c e h. Above.chains p free c e h;
    methods_above = λ c name r h. Above.methods_above p c name r h;
    methods = λ c name r h. together pp r (d.methods c name r h) (methods_apart c name r h) (b.methods c name r h);
    bodies_own = λ c r h. Above.bodies_own p c r h;
    bodies = λ c r h. together pp r (d.bodies c r h) (body_apart c r h) (b.bodies c r h);
    functions = λ k r h. let f = function_is k r h in (together pp r (d.functions k r h) f.apart (b.functions k r h), f.class);
    few = d.few;
    regions = d.regions;
    located = d.located;
    tasks = d.tasks;
  }
