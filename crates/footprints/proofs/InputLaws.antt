-- Regions with inputs are those in which a located input lies.
use Rattle.std.proofs.Common.{◌≡◌, ℕ, zero, suc, ◌+◌, Bool, true, false, List, [], ◌∷◌, ◌++◌, map, Option, Some, None, refl, sym, ap, ◌∙◌, subst, ◌⊎◌, inl, inr, ⊎_elim, arith}
use Rattle.std.specs.Prelude.{if◌then◌else◌}
use Rattle.st_tree.specs.declared.address.Area.TheVariants as area
use Rattle.st_tree.specs.declared.path.Step.TheVariants as step
use Rattle.st_rules.proofs.Booleans.{either, or-first, or-second, false≢true}
use Rattle.st_values.specs.Program.{Variable, Region, Program, class_variables}
use Rattle.st_values.specs.Value.{Path}
use Rattle.st_meaning.specs.Call.{class_of_kind}
use Rattle.st_meaning.specs.ProcessImage.{Located, located, located_variables, located_in, located_from, located_of, is_in}
use Rattle.st_meaning.specs.st_frame.Footprint.{Has}
use Rattle.st_meaning.proofs.st_frame.Footprints.{has_left, has_right, has_either}
use Rattle.footprints.specs.Private.Inputs.{is_input, any_input, has_input, marked, are_inputs, HoldsInput}

-- an input among these
abbrev SomeInput : List Located → ℕ → Type 0
SomeInput xs r = (x : Located) × Has xs x × (is_in area.Input x ≡ true) × (r ≡ x.path.region)

some_left : (xs ys : List Located) (r : ℕ) → SomeInput xs r → SomeInput (xs ++ ys) r
some_left xs ys r h = (h.0, has_left xs ys h.0 h.1, h.2, h.3)

some_right : (xs ys : List Located) (r : ℕ) → SomeInput ys r → SomeInput (xs ++ ys) r
some_right xs ys r h = (h.0, has_right xs ys h.0 h.1, h.2, h.3)

some_either : (xs ys : List Located) (r : ℕ) → SomeInput (xs ++ ys) r → SomeInput xs r ⊎ SomeInput ys r
some_either xs ys r h = ⊎_elim (λ k. inl (h.0, k, h.2, h.3)) (λ k. inr (h.0, k, h.2, h.3)) (has_either xs ys h.0 h.1)

-- ---- one variable

one_located : (q : Path) (v : Variable) (a : Option (List ℕ)) → is_input a ≡ true → SomeInput (located q v a) q.region
one_located q v None h = absurd (false≢true h)
one_located q v (Some a) h = (_, inl refl, h, refl)

located_one : (q : Path) (v : Variable) (a : Option (List ℕ)) (r : ℕ) → SomeInput (located q v a) r → (is_input a ≡ true) × (r ≡ q.region)
located_one q v None r h = absurd h.1
located_one q v (Some a) r h =
    ⊎_elim
    (λ e. (subst (λ x. is_in area.Input x ≡ true) e h.2, h.3 ∙ ap (λ (x : Located). x.path.region) e))
    (λ n. absurd n)
    h.1

-- ---- the variables of an instance

any_located : (r k : ℕ) (vs : List Variable) → any_input vs ≡ true → SomeInput (located_variables r k vs) r
any_located r k [] h = absurd (false≢true h)
any_located r k (v ∷ vs) h =
    ⊎_elim
    (λ e. some_left (located (record { region = r; steps = step.Field k ∷ [] }) v v.address) (located_variables r (suc k) vs) r (one_located (record { region = r; steps = step.Field k ∷ [] }) v v.address e))
    (λ e. some_right (located (record { region = r; steps = step.Field k ∷ [] }) v v.address) (located_variables r (suc k) vs) r (any_located r (suc k) vs e))
    (either (is_input v.address) (any_input vs) h)

located_any : (q k : ℕ) (vs : List Variable) (r : ℕ) → SomeInput (located_variables q k vs) r → (any_input vs ≡ true) × (r ≡ q)
located_any q k [] r h = absurd h.1
located_any q k (v ∷ vs) r h =
    ⊎_elim
    (λ s. let w = located_one (record { region = q; steps = step.Field k ∷ [] }) v v.address r s in (or-first (is_input v.address) (any_input vs) w.0, w.1))
    (λ s. let w = located_any q (suc k) vs r s in (or-second (is_input v.address) (any_input vs) w.0, w.1))
    (some_either (located (record { region = q; steps = step.Field k ∷ [] }) v v.address) (located_variables q (suc k) vs) r h)

-- ---- one region, and all

module _ (p : Program) where
  region_located : (r : ℕ) (x : Region) → has_input p x ≡ true → SomeInput (located_in p r x) r
  region_located r x h = by x.program h
    where
      by : (b : Bool) → (if b then any_input (class_variables p (class_of_kind x.variable.kind)) else is_input x.variable.address) ≡ true → SomeInput (if b then located_variables r 0 (class_variables p (class_of_kind x.variable.kind)) else located (record { region = r; steps = [] }) x.variable x.variable.address) r
      by true e = any_located r 0 (class_variables p (class_of_kind x.variable.kind)) e
      by false e = one_located (record { region = r; steps = [] }) x.variable x.variable.address e

  located_region : (q : ℕ) (x : Region) (r : ℕ) → SomeInput (located_in p q x) r → (has_input p x ≡ true) × (r ≡ q)
  located_region q x r h = by x.program h
    where
      by : (b : Bool) → SomeInput (if b then located_variables q 0 (class_variables p (class_of_kind x.variable.kind)) else located (record { region = q; steps = [] }) x.variable x.variable.address) r
          → ((if b then any_input (class_variables p (class_of_kind x.variable.kind)) else is_input x.variable.address) ≡ true) × (r ≡ q)
      by true e = located_any q 0 (class_variables p (class_of_kind x.variable.kind)) r e
      by false e = located_one (record { region = q; steps = [] }) x.variable x.variable.address r e

  marks_located : (q k : ℕ) (xs : List Region) → marked (map (has_input p) xs) k ≡ true → SomeInput (located_from p q xs) (q + k)
  marks_located q k [] h = absurd (false≢true h)
  marks_located q zero (x ∷ xs) h =
      let e : q ≡ q + 0 = omega arith in
      subst (λ r. SomeInput (located_from p q (x ∷ xs)) r) e (some_left (located_in p q x) (located_from p (suc q) xs) q (region_located q x h))
  marks_located q (suc k) (x ∷ xs) h =
      let e : suc q + k ≡ q + suc k = omega arith in
      some_right (located_in p q x) (located_from p (suc q) xs) (q + suc k) (subst (λ r. SomeInput (located_from p (suc q) xs) r) e (marks_located (suc q) k xs h))

  located_marks : (q : ℕ) (xs : List Region) (r : ℕ) → SomeInput (located_from p q xs) r → (k : ℕ) × (r ≡ q + k) × (marked (map (has_input p) xs) k ≡ true)
  located_marks q [] r h = absurd h.1
  located_marks q (x ∷ xs) r h =
      ⊎_elim
      (λ s. let w = located_region q x r s in (0, (let e = w.1 in omega (arith, e)), w.0))
      (λ s. let w = located_marks (suc q) xs r s in (suc w.0, (let e = w.1 in omega (arith, e)), w.2))
      (some_either (located_in p q x) (located_from p (suc q) xs) r h)

  pub input_held : (r : ℕ) → marked (are_inputs p) r ≡ true → HoldsInput p r
  input_held r h = let e : 0 + r ≡ r = omega arith in subst (λ z. SomeInput (located_of p) z) e (marks_located 0 r p.regions h)

  pub held_input : (r : ℕ) → HoldsInput p r → marked (are_inputs p) r ≡ true
  held_input r h = let w = located_marks 0 p.regions r h in let e : r ≡ w.0 = (let f = w.1 in omega (arith, f)) in subst (λ z. marked (are_inputs p) z ≡ true) (sym e) w.2
