-- What is called behind a place is there, where the place is: of THIS and of names.
use Rattle.std.proofs.Common.{◌≡◌, ℕ, Bool, true, false, [], None, refl, sym, ap, ◌∙◌, subst}
use Rattle.st_types.specs.declared.st_type.StType.{StType}
use Rattle.st_types.specs.declared.st_type.StType.TheVariants as type
use Rattle.st_tree.specs.declared.expression.Root.{Root}
use Rattle.st_tree.specs.declared.expression.Root.TheVariants as root
use Rattle.st_tree.specs.declared.program.Note.{Note}
use Rattle.st_tree.specs.Expression.{Selector, Field, Index, Selectors, no_selectors, selector_then}
use Rattle.st_tree.specs.Expression as tree
use Rattle.st_rules.specs.declared.signature.ResultType.TheVariants as outcome
use Rattle.st_rules.specs.Scope.{Scope}
use Rattle.st_rules.specs.Places.{root_standing}
use Rattle.st_rules.specs.Calls.{Callee, no_callee, not_callable, a_conversion, a_routine, a_body, base_body, no_base_body, callee, callee_along, call_of_no_callable, block_parameters}
use Rattle.st_rules.specs.Expressions.{typed_root, typed_along}
use Rattle.st_values.specs.Program.{Program}
use Rattle.st_meaning.specs.Place.{root_note}
use Rattle.st_meaning.specs.Call.{by_instance, callee_of, member_callee, last_method, search_of}
use Rattle.st_meaning.specs.Call as call
use Rattle.st_meaning.specs.st_frame.Use.{a_method_of, a_body_of, called_of, called_by, receiver, last_kind}
use Rattle.st_meaning.specs.st_frame.Promise.Names.{Scope as Around, RootIs}
use Rattle.st_meaning.specs.st_frame.Promise.Expressions.{CalledAlong}
use Rattle.place_laws.specs.Agrees.{Agrees, Runs}
use Rattle.place_laws.proofs.Places.{PlacedRoot}
use Rattle.call_laws.proofs.Called
use Rattle.call_laws.proofs.Behind

module _ (s : Scope) (p : Program) (g : Around) (a : Agrees s p g) where
  -- what the rules call and what the meaning calls are one
  abbrev pub IsCallee : Root ℕ → Selectors ℕ → Type 0
  IsCallee r ss =
      let tr = typed_root s true r ss in
      let ts = typed_along s true (root_standing s r ss) ss in
      Called.BareIs s p g a (callee s r ss) (callee_of tr ts) (RootIs p g tr × CalledAlong p g ts (root_note tr).kind) (last_kind (root_note tr).kind ts) (called_of tr ts)

  -- a root that is no SUPER
  abbrev pub Own : Root ℕ → Type 0
  Own (root.Super l) = ⊥
  Own _ = Unit {0}

  pub own_bodies : (r : Root ℕ) → Own r → Behind.Own s p g a r
  own_bodies (root.This l) o = λ c. refl
  own_bodies (root.Name l name) o = λ c. refl
  own_bodies (root.Super l) o = absurd o

  same_root : (r : Root ℕ) (x : Selector ℕ) (ss : Selectors ℕ) → typed_root s true r (selector_then x ss) ≡ typed_root s false r (selector_then x ss)
  unfolding typed_root
  same_root (root.This l) x ss = refl
  same_root (root.Super l) x ss = refl
  same_root (root.Name l name) (Field j n) ss = refl
  same_root (root.Name l name) (Index j es) ss = refl
  same_root (root.Name l name) (tree.Target j) ss = refl

  by_itself : (r : Root ℕ) → Own r → (called : Bool) (ss : Selectors ℕ) (ts : Selectors Note) → search_of (typed_root s called r ss) ts ≡ by_instance
  unfolding typed_root
  by_itself (root.This l) o called ss ts = refl
  by_itself (root.Name l name) o called no_selectors ts = refl
  by_itself (root.Name l name) o called (selector_then (Field j n) ss) ts = refl
  by_itself (root.Name l name) o called (selector_then (Index j n) ss) ts = refl
  by_itself (root.Name l name) o called (selector_then (tree.Target j) ss) ts = refl
  by_itself (root.Super l) o called ss ts = absurd o

  callee_behind : (r : Root Note) (x : Selector Note) (ts : Selectors Note) → callee_of r (selector_then x ts) ≡ member_callee (search_of r (selector_then x ts)) (last_method None (selector_then x ts))
  callee_behind (root.Name l name) x ts = refl
  callee_behind (root.This l) x ts = refl
  callee_behind (root.Super l) x ts = refl

  not_called : (l : ℕ) → call_of_no_callable s l not_callable ≡ [] → ⊥
  not_called l h = cc

  -- what is called, by the way in which it is named
  named_way : (l : ℕ) (c : Callee) (tr : Root Note) (x : Selector Note) (ts : Selectors Note) (t : StType) → (root_note tr).kind ≡ t → search_of tr (selector_then x ts) ≡ by_instance → RootIs p g tr → CalledAlong p g (selector_then x ts) t → Behind.Way s p g a c t (selector_then x ts) → call_of_no_callable s l c ≡ []
      → Called.BareIs s p g a c (callee_of tr (selector_then x ts)) (RootIs p g tr × CalledAlong p g (selector_then x ts) (root_note tr).kind) (last_kind (root_note tr).kind (selector_then x ts)) (called_of tr (selector_then x ts))
  named_way l (a_routine q) tr x ts t k e h i w f =
      let c : callee_of tr (selector_then x ts) ≡ call.a_method by_instance w.0 = callee_behind tr x ts ∙ (ap (λ z. member_callee z (last_method None (selector_then x ts))) e ∙ ap (member_callee by_instance) w.1) in
      let u = (root_note tr).kind in
      subst (λ z. Called.BareIs s p g a (a_routine q) z (RootIs p g tr × CalledAlong p g (selector_then x ts) u) (last_kind u (selector_then x ts)) (called_by z (receiver u (selector_then x ts)) (last_kind u (selector_then x ts)))) (sym c)
      ((h, subst (CalledAlong p g (selector_then x ts)) (sym k) i), (a_method_of (receiver u (selector_then x ts)) w.0, refl, subst (λ z. Runs p (a_method_of (receiver z (selector_then x ts)) w.0) q.parameters q.outcome) (sym k) w.2))
  named_way l (a_body d) tr x ts t k e h i w f =
      let c : callee_of tr (selector_then x ts) ≡ call.a_body by_instance = callee_behind tr x ts ∙ (ap (λ z. member_callee z (last_method None (selector_then x ts))) e ∙ ap (member_callee by_instance) w.0) in
      let u = (root_note tr).kind in
      let z : last_kind u (selector_then x ts) ≡ type.Instance d = ap (λ y. last_kind y (selector_then x ts)) k ∙ w.1 in
      (c, (h, subst (CalledAlong p g (selector_then x ts)) (sym k) i), z, ap (λ y. called_by y (receiver u (selector_then x ts)) (last_kind u (selector_then x ts))) c, subst (λ y. Runs p (a_body_of y) (block_parameters s d) outcome.Nothing) (sym z) (a.body d w.2))
  named_way l not_callable tr x ts t k e h i w f = absurd (not_called l f)
  named_way l no_callee tr x ts t k e h i w f = absurd w
  named_way l (a_conversion v y) tr x ts t k e h i w f = absurd w
  named_way l (base_body d) tr x ts t k e h i w f = absurd w
  named_way l no_base_body tr x ts t k e h i w f = absurd w

  called_callee : (r : Root ℕ) (x : Selector ℕ) (ss : Selectors ℕ) → callee s r (selector_then x ss) ≡ callee_along s r (root_standing s r (selector_then x ss)) (selector_then x ss)
  unfolding callee
  called_callee r x ss = refl

  -- what is called, where its root has its place and its selectors lead on
  pub joined : (l : ℕ) (r : Root ℕ) (x : Selector ℕ) (ss : Selectors ℕ) → Own r → (q : PlacedRoot s p g a r (selector_then x ss)) → RootIs p g (typed_root s false r (selector_then x ss)) → Behind.Behind s p g a r (root_standing s r (selector_then x ss)) q.kind (selector_then x ss)
      → call_of_no_callable s l (callee s r (selector_then x ss)) ≡ [] → IsCallee r (selector_then x ss)
  joined l r x ss o q h b f =
      let rs = selector_then x ss in
      let tr = typed_root s true r rs in
      let ts = typed_along s true (root_standing s r rs) rs in
      let way : Behind.Way s p g a (callee s r rs) q.kind ts = subst (λ z. Behind.Way s p g a z q.kind ts) (sym (called_callee r x ss)) b.way in
      let noted : (root_note tr).kind ≡ q.kind = ap (λ z. (root_note z).kind) (same_root r x ss) ∙ q.noted in
      named_way l (callee s r rs) tr _ _ q.kind noted (by_itself r o true rs ts) (subst (RootIs p g) (sym (same_root r x ss)) h) b.is way f
