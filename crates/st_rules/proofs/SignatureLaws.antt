-- Signatures of which all can be told are equal exactly where the test of equal signatures passes.
use Rattle.std.proofs.Common.{◌≡◌, suc, Bool, true, false, List, [], ◌∷◌, Option, Some, None, refl, sym, ap, ◌∙◌, subst, length, get_or, arith}
use Rattle.std.proofs.lemmas.Bool.Decides.{nat_tests}
use Rattle.std.specs.Prelude.{◌==◌, ◌&&◌, ◌↔◌, IsTrue, IsSome}
use Rattle.std.specs.Bool.{Decides}
use Rattle.std.specs.Cmp.Lexicographic.{bytes_decides}
use Rattle.plc_text.specs.Words.{same}
use Rattle.st_types.specs.declared.st_type.StType.{StType}
use Rattle.st_tree.specs.declared.declaration.SectionSort.{SectionSort}
use Rattle.st_tree.specs.declared.declaration.SectionSort.TheVariants as sort
use Rattle.st_rules.specs.declared.signature.ResultType.{ResultType}
use Rattle.st_rules.specs.declared.signature.ResultType.TheVariants.{Nothing, Written}
use Rattle.st_rules.specs.declared.signature.Parameter.{Parameter}
use Rattle.st_rules.specs.declared.signature.Signature.{Signature}
use Rattle.st_rules.specs.Types.{same_type}
use Rattle.st_rules.specs.Signatures.{same_if_told, same_sort, same_result, same_parameter, same_parameters, same_signature, IsToldResult, IsToldValue, IsToldParameter, AreTold, IsTold}
use Rattle.st_rules.proofs.Booleans.{true≢false, false≢true, both, and-both, same-tests, some-same}
use Rattle.st_rules.proofs.TypeLaws.{type_decided}

-- a test that says when types are equal is the test of the definition
pub same_type_is : (r : Bool) (a b : StType) → (IsTrue r ↔ (a ≡ b)) → r ≡ same_type a b
same_type_is r a b h = same-tests r (same_type a b) (λ t. (type_decided a b).1 (h.0 t)) (λ t. h.1 ((type_decided a b).0 t))

module _ {V : Type 0} (same_value : V → V → Bool) where
  -- lists of different lengths are not equal
  pub other_lengths : (ps qs : List (Parameter V)) → (length ps ≡ length qs → ⊥) → same_parameters same_value ps qs ≡ false
  other_lengths [] [] h = absurd (h refl)
  other_lengths [] (q ∷ qs) h = refl
  other_lengths (p ∷ ps) [] h = refl
  other_lengths (p ∷ ps) (q ∷ qs) h = unequal (same_parameter same_value p q) _ (other_lengths ps qs (λ e. h (ap suc e)))
    where
      unequal : (a b : Bool) → b ≡ false → (a && b) ≡ false
      unequal true b h = h
      unequal false b h = refl

-- ---- signatures that can be told

sort_decided : (a b : SectionSort) → Decides (same_sort a b) (a ≡ b)
sort_decided sort.Var sort.Var = (λ h. refl, λ e. refl)
sort_decided sort.Var _ = (λ h. absurd (false≢true h), λ e. absurd (cc))
sort_decided sort.Input sort.Input = (λ h. refl, λ e. refl)
sort_decided sort.Input _ = (λ h. absurd (false≢true h), λ e. absurd (cc))
sort_decided sort.Output sort.Output = (λ h. refl, λ e. refl)
sort_decided sort.Output _ = (λ h. absurd (false≢true h), λ e. absurd (cc))
sort_decided sort.InOut sort.InOut = (λ h. refl, λ e. refl)
sort_decided sort.InOut _ = (λ h. absurd (false≢true h), λ e. absurd (cc))
sort_decided sort.Temp sort.Temp = (λ h. refl, λ e. refl)
sort_decided sort.Temp _ = (λ h. absurd (false≢true h), λ e. absurd (cc))
sort_decided sort.External sort.External = (λ h. refl, λ e. refl)
sort_decided sort.External _ = (λ h. absurd (false≢true h), λ e. absurd (cc))
sort_decided sort.Global sort.Global = (λ h. refl, λ e. refl)
sort_decided sort.Global _ = (λ h. absurd (false≢true h), λ e. absurd (cc))

told_decided : {X : Type 0} (same_told : X → X → Bool) → ((a b : X) → Decides (same_told a b) (a ≡ b)) → (o p : Option X) → IsSome o → IsSome p → Decides (same_if_told same_told o p) (o ≡ p)
told_decided s d None p h k = absurd (false≢true h)
told_decided s d (Some a) None h k = absurd (false≢true k)
told_decided s d (Some a) (Some b) h k = (λ t. ap Some ((d a b).0 t), λ e. (d a b).1 (some-same e))

result_decided : (a b : ResultType) → IsToldResult a → IsToldResult b → Decides (same_result a b) (a ≡ b)
result_decided Nothing Nothing h k = (λ t. refl, λ e. refl)
result_decided Nothing (Written o) h k = (λ t. absurd (false≢true t), λ e. absurd (cc))
result_decided (Written o) Nothing h k = (λ t. absurd (false≢true t), λ e. absurd (cc))
result_decided (Written o) (Written p) h k =
    let d = told_decided same_type type_decided o p h k in
    (λ t. ap Written (d.0 t), λ e. d.1 (let q : o ≡ p = cc in q))

module _ {V : Type 0} (same_value : V → V → Bool) (values_decided : (a b : V) → Decides (same_value a b) (a ≡ b)) where
  -- an in-out has no value, all others have one
  values_told : (s : SectionSort) (o p : Option V) → IsToldValue s o → IsToldValue s p → Decides (same_if_told same_value o p) (o ≡ p)
  values_told sort.InOut None None h k = (λ t. refl, λ e. refl)
  values_told sort.InOut None (Some b) h k = absurd (true≢false k)
  values_told sort.InOut (Some a) p h k = absurd (true≢false h)
  values_told sort.Var o p h k = told_decided same_value values_decided o p h k
  values_told sort.Input o p h k = told_decided same_value values_decided o p h k
  values_told sort.Output o p h k = told_decided same_value values_decided o p h k
  values_told sort.Temp o p h k = told_decided same_value values_decided o p h k
  values_told sort.External o p h k = told_decided same_value values_decided o p h k
  values_told sort.Global o p h k = told_decided same_value values_decided o p h k

  parameter_decided : (p q : Parameter V) → IsToldParameter p → IsToldParameter q → Decides (same_parameter same_value p q) (p ≡ q)
  parameter_decided p q h k = (equal, λ e. subst (λ (x : Parameter V). same_parameter same_value p x ≡ true) e (itself p h))
    where
      equal : same_parameter same_value p q ≡ true → p ≡ q
      equal t =
          let last = both (same_sort p.sort q.sort && same p.name q.name && same_if_told same_type p.kind q.kind) (same_if_told same_value p.initial q.initial) t in
          let third = both (same_sort p.sort q.sort && same p.name q.name) (same_if_told same_type p.kind q.kind) last.0 in
          let two = both (same_sort p.sort q.sort) (same p.name q.name) third.0 in
          let a : p.sort ≡ q.sort = (sort_decided p.sort q.sort).0 two.0 in
          let b : p.name ≡ q.name = (bytes_decides p.name q.name).0 two.1 in
          let c : p.kind ≡ q.kind = (told_decided same_type type_decided p.kind q.kind h.kind k.kind).0 third.1 in
          let told : IsToldValue p.sort q.initial = subst (λ (s : SectionSort). IsToldValue s q.initial) (sym a) k.initial in
          let d : p.initial ≡ q.initial = (values_told p.sort p.initial q.initial h.initial told).0 last.1 in
          λ i. record { sort = a i; name = b i; kind = c i; initial = d i }

      itself : (p : Parameter V) → IsToldParameter p → same_parameter same_value p p ≡ true
      itself p h = and-both _ _ (and-both _ _ (and-both _ _ ((sort_decided p.sort p.sort).1 refl) ((bytes_decides p.name p.name).1 refl)) ((told_decided same_type type_decided p.kind p.kind h.kind h.kind).1 refl)) ((values_told p.sort p.initial p.initial h.initial h.initial).1 refl)

  parameters_decided : (ps qs : List (Parameter V)) → AreTold ps → AreTold qs → Decides (same_parameters same_value ps qs) (ps ≡ qs)
  parameters_decided [] [] h k = (λ t. refl, λ e. refl)
  parameters_decided [] (q ∷ qs) h k = (λ t. absurd (false≢true t), λ e. absurd (cc))
  parameters_decided (p ∷ ps) [] h k = (λ t. absurd (false≢true t), λ e. absurd (cc))
  parameters_decided (p ∷ ps) (q ∷ qs) h k =
      let one = parameter_decided p q h.0 k.0 in
      let rest = parameters_decided ps qs h.1 k.1 in (
        λ t. let parts = both (same_parameter same_value p q) (same_parameters same_value ps qs) t in let a : p ≡ q = one.0 parts.0 in let b : ps ≡ qs = rest.0 parts.1 in cc,
        λ e. let a : p ≡ q = cc in let b : ps ≡ qs = cc in and-both _ _ (one.1 a) (rest.1 b),
      )

  pub signature_decided : (a b : Signature V) → IsTold a → IsTold b → Decides (same_signature same_value a b) (a ≡ b)
  signature_decided a b h k =
      let results = result_decided a.result b.result h.result k.result in
      let parameters = parameters_decided a.parameters b.parameters h.parameters k.parameters in (
        λ t. let parts = both (same_result a.result b.result) (same_parameters same_value a.parameters b.parameters) t in
            let p = results.0 parts.0 in let q = parameters.0 parts.1 in λ i. record { result = p i; parameters = q i },
        λ e. and-both _ _ (results.1 (ap (λ (s : Signature V). s.result) e)) (parameters.1 (ap (λ (s : Signature V). s.parameters) e)),
      )

module _ {V : Type 0} (same_value : V → V → Bool) where
  pub two_parameters : (ps : List (Parameter V)) (p q a b : Parameter V) → length ps ≡ 2 → p ≡ get_or ps 0 p → q ≡ get_or ps 1 q →
      same_parameters same_value ps (a ∷ b ∷ []) ≡ (same_parameter same_value p a && same_parameter same_value q b)
  two_parameters [] p q a b l e f = absurd (omega arith)
  two_parameters (x ∷ []) p q a b l e f = absurd (omega arith)
  two_parameters (x ∷ y ∷ []) p q a b l e f = ends (same_parameter same_value x a) (same_parameter same_value y b) ∙ ap (λ z. same_parameter same_value z a && same_parameter same_value y b) (sym e) ∙ ap (λ z. same_parameter same_value p a && same_parameter same_value z b) (sym f)
    where
      ends : (s t : Bool) → (s && (t && true)) ≡ (s && t)
      ends false t = refl
      ends true false = refl
      ends true true = refl
  two_parameters (x ∷ y ∷ z ∷ rest) p q a b l e f = absurd (omega arith)

  pub no_parameters : (r : Bool) (ps : List (Parameter V)) → r ≡ (length ps == 0) → r ≡ same_parameters same_value ps []
  no_parameters r [] e = e
  no_parameters r (p ∷ ps) e = let z : suc (length ps) == 0 ≡ false = grind (arith, nat_tests) in e ∙ z

  pub two_then : (ps : List (Parameter V)) (p q a b : Parameter V) (r s : Bool) → length ps ≡ 2 → p ≡ get_or ps 0 p → q ≡ get_or ps 1 q →
      r ≡ same_parameter same_value p a → s ≡ same_parameter same_value q b → r ≡ true → s ≡ same_parameters same_value ps (a ∷ b ∷ [])
  two_then ps p q a b r s l e f h k t = sym (two_parameters ps p q a b l e f ∙ ap (λ x. x && same_parameter same_value q b) (sym h ∙ t) ∙ sym k)

  pub two_else : (ps : List (Parameter V)) (p q a b : Parameter V) (r : Bool) → length ps ≡ 2 → p ≡ get_or ps 0 p → q ≡ get_or ps 1 q →
      r ≡ same_parameter same_value p a → r ≡ false → r ≡ same_parameters same_value ps (a ∷ b ∷ [])
  two_else ps p q a b r l e f h t = t ∙ sym (two_parameters ps p q a b l e f ∙ ap (λ x. x && same_parameter same_value q b) (sym h ∙ t))
