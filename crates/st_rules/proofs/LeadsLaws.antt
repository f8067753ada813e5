-- Whether one leads to another in any number of steps is told within as many steps as there are numbers.
use Rattle.std.proofs.Common.{◌≡◌, ℕ, zero, suc, ◌+◌, ◌<◌, ◌≤◌, true, false, List, [], ◌∷◌, refl, sym, ◌∙◌, arith, length, ◌⊎◌, inl, inr, nat_eq, subst}
use Rattle.std.specs.Bool.{Decides}
use Rattle.std.specs.List.{list_any}
use Rattle.std.proofs.lemmas.Bool.{eqb-true, eq-eqb}
use Rattle.st_rules.specs.Chains.{is_among, leads_within, Leads, itself, onward}
use Rattle.st_rules.proofs.Booleans.{true≢false, cases, either, or-first, or-second, or-neither, Among, any-parts, any-among}
use Rattle.st_rules.proofs.Numbers.{Held, none_held, held_more, all_held}

-- what leads ahead is one of n, and so is what it leads to
pub record IsWithin (ahead : ℕ → List ℕ) (n : ℕ) : Type 0 where
  pub within : (i k : ℕ) → is_among k (ahead i) ≡ true → (i < n) × (k < n)

module _ (ahead : ℕ → List ℕ) where
  found_by : (m i j : ℕ) → ((k : ℕ) → leads_within ahead m k j ≡ true → Leads ahead k j) → Among (λ k. leads_within ahead m k j) (ahead i) → Leads ahead i j
  found_by m i j f r = onward i r.number j r.among (f r.number r.passes)

  found : (m i j : ℕ) → leads_within ahead m i j ≡ true → Leads ahead i j
  found zero i j h = subst (λ (x : ℕ). Leads ahead i x) (eqb-true i j h) (itself i)
  found (suc m) i j h = elim (either (nat_eq i j) (list_any (λ k. leads_within ahead m k j) (ahead i)) h) [
    | inl p ↦ subst (λ (x : ℕ). Leads ahead i x) (eqb-true i j p) (itself i)
    | inr p ↦ found_by m i j (λ k. found m k j) (any-parts (λ k. leads_within ahead m k j) (ahead i) p)
  ]

  -- a way that passes none of those that are held
  data Avoids (held : List ℕ) : ℕ → ℕ → Type 0 where
    last : (i : ℕ) → is_among i held ≡ false → Avoids held i i
    next : (i k j : ℕ) → is_among i held ≡ false → is_among k (ahead i) ≡ true → Avoids held k j → Avoids held i j

  free : (i j : ℕ) → Leads ahead i j → Avoids [] i j
  free _ _ (itself i) = last i refl
  free _ _ (onward i k j e r) = next i k j refl e (free k j r)

  -- a step from i, behind which the way does not come to i again
  record Leaves (held : List ℕ) (i j : ℕ) : Type 0 where
    step : ℕ
    edge : is_among step (ahead i) ≡ true
    rest : Avoids (i ∷ held) step j

  -- a way avoids i, or leaves it for the last time, or ends there
  parts : (held : List ℕ) (i x j : ℕ) → Avoids held x j → Avoids (i ∷ held) x j ⊎ (Leaves held i j ⊎ (i ≡ j))
  parts held i _ _ (last x e) = elim (cases (nat_eq x i)) [
    | inl p ↦ inr (inr (sym (eqb-true x i p)))
    | inr p ↦ inl (last x (or-neither (nat_eq x i) (is_among x held) p e))
  ]
  parts held i _ _ (next x k j e edge r) = elim (parts held i k j r) [
    | inl p ↦ elim (cases (nat_eq x i)) [
      | inl q ↦ inr (inl (record { step = k; edge = subst (λ (y : ℕ). is_among k (ahead y) ≡ true) (eqb-true x i q) edge; rest = p }))
      | inr q ↦ inl (next x k j (or-neither (nat_eq x i) (is_among x held) q e) edge p)
    ]
    | inr p ↦ inr p
  ]

  held_not : (held : List ℕ) (i j : ℕ) → Avoids (i ∷ held) i j → ⊥
  held_not held _ _ (last i e) = true≢false (sym (or-first (nat_eq i i) (is_among i held) (eq-eqb i i refl)) ∙ e)
  held_not held _ _ (next i k j e edge r) = true≢false (sym (or-first (nat_eq i i) (is_among i held) (eq-eqb i i refl)) ∙ e)

  first_free : (held : List ℕ) (i j : ℕ) → Avoids held i j → is_among i held ≡ false
  first_free held _ _ (last i e) = e
  first_free held _ _ (next i k j e edge r) = e

  module _ (n : ℕ) (w : IsWithin ahead n) where
    counted_end : (held : List ℕ) (i j : ℕ) → Held n held → n ≤ length held → Avoids held i j → nat_eq i j ≡ true
    counted_end held _ _ h l (last i e) = eq-eqb i i refl
    counted_end held _ _ h l (next i k j e edge r) = absurd (true≢false (sym (all_held n held h l i (w.within i k edge).0) ∙ e))

    counted : (m : ℕ) (held : List ℕ) (i j : ℕ) → Held n held → n ≤ length held + m → Avoids held i j → leads_within ahead m i j ≡ true
    counted zero held i j h l r = let full : n ≤ length held = omega arith in counted_end held i j h full r
    counted (suc m) held i j h l r = elim (parts held i i j r) [
      | inl p ↦ absurd (held_not held i j p)
      | inr p ↦ elim p [
        | inl q ↦
            let below : i < n = (w.within i q.step q.edge).0 in
            let more : n ≤ length (i ∷ held) + m = omega arith in
            let rest = counted m (i ∷ held) q.step j (held_more n held i h below (first_free held i j r)) more q.rest in
            or-second (nat_eq i j) _ (any-among (λ k. leads_within ahead m k j) (ahead i) q.step q.edge rest)
        | inr q ↦ or-first (nat_eq i j) _ (eq-eqb i j q)
      ]
    ]

    pub leads_decided : (i j : ℕ) → Decides (leads_within ahead n i j) (Leads ahead i j)
    leads_decided i j =
        let l : n ≤ length {A = ℕ} [] + n = omega arith in
        (found n i j, λ r. counted n [] i j (none_held n) l (free i j r))

pub leads_through : (ahead : ℕ → List ℕ) (i j k : ℕ) → Leads ahead i j → Leads ahead j k → Leads ahead i k
leads_through ahead _ _ k (itself i) r = r
leads_through ahead _ _ k (onward i x j e p) r = onward i x k e (leads_through ahead x j k p r)
