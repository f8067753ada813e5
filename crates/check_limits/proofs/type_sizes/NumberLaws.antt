-- Sums, products and greatest numbers that are cut off, and tests of them.
use Rattle.std.proofs.Common.{◌≡◌, ℕ, zero, suc, ◌+◌, ◌*◌, ◌<◌, ◌≤◌, true, sym, ap, ◌∙◌, arith, ◌⊎◌, inl, inr}
use Rattle.std.specs.Prelude.{nat_lt, max, ◌||◌, not}
use Rattle.std.proofs.lemmas.Bool.{lt-ltb, le-ltb, ltb-true}
use Rattle.st_rules.proofs.Booleans.{same-tests, or-first, or-second, either}
use Rattle.check_limits.specs.type_sizes.Size.{capped}

pub capped_sum : (a b : ℕ) → capped (capped a + capped b) ≡ capped (a + b)
capped_sum a b = omega arith

pub capped_one : (a : ℕ) → capped (capped a + 1) ≡ capped (suc a)
capped_one a = omega arith

-- at least one
pub capped_some : (a : ℕ) → max (capped a) 1 ≡ capped (max 1 a)
capped_some a = omega arith

pub capped_small : (n : ℕ) → n ≤ 4294967295 → capped n ≡ n
capped_small n h = omega arith

pub capped_large : (n : ℕ) → 4294967295 ≤ n → capped n ≡ 4294967295
capped_large n h = omega arith

wide : (a b : ℕ) → 1 ≤ b → a ≤ a * b
wide a zero l = absurd (omega arith)
wide a (suc b) l = let e : a * suc b ≡ a * b + a = omega arith in omega arith

wide_left : (a b : ℕ) → 1 ≤ a → b ≤ a * b
wide_left zero b l = absurd (omega arith)
wide_left (suc a) b l = let e : suc a * b ≡ a * b + b = omega arith in omega arith

no_product : (a : ℕ) → a * 0 ≡ 0
no_product a = omega arith

two : (a b : ℕ) → (a ≤ b) ⊎ (b < a)
two zero b = inl (omega arith)
two (suc a) zero = inr (omega arith)
two (suc a) (suc b) = elim (two a b) [ inl p ↦ inl (omega arith) | inr p ↦ inr (omega arith) ]

some_left : (a : ℕ) → 1 ≤ a → 1 ≤ capped a
some_left a h = omega arith

pub capped_product : (a b : ℕ) → capped (capped a * capped b) ≡ capped (a * b)
capped_product zero b = ap capped (let e : 0 * capped b ≡ 0 * b = omega arith in e)
capped_product (suc a) zero = ap capped (no_product (capped (suc a)) ∙ sym (no_product (suc a)))
capped_product (suc a) (suc b) = at (two (suc a) 4294967295) (two (suc b) 4294967295)
  where
    at : (suc a ≤ 4294967295) ⊎ (4294967295 < suc a) → (suc b ≤ 4294967295) ⊎ (4294967295 < suc b) → capped (capped (suc a) * capped (suc b)) ≡ capped (suc a * suc b)
    at (inl p) (inl q) = ap capped (ap (λ x. x * capped (suc b)) (capped_small (suc a) p) ∙ ap (λ y. suc a * y) (capped_small (suc b) q))
    at (inr p) q =
        let few : 1 ≤ capped (suc b) = some_left (suc b) (omega arith) in
        let x : capped (suc a) ≡ 4294967295 = capped_large (suc a) (omega arith) in
        let u = wide (capped (suc a)) (capped (suc b)) few in
        let v = wide (suc a) (suc b) (omega arith) in
        let l : 4294967295 ≤ capped (suc a) * capped (suc b) = omega (arith, x, u) in
        let r : 4294967295 ≤ suc a * suc b = omega (arith, v, p) in
        capped_large _ l ∙ sym (capped_large _ r)
    at (inl p) (inr q) =
        let few : 1 ≤ capped (suc a) = some_left (suc a) (omega arith) in
        let y : capped (suc b) ≡ 4294967295 = capped_large (suc b) (omega arith) in
        let u = wide_left (capped (suc a)) (capped (suc b)) few in
        let v = wide_left (suc a) (suc b) (omega arith) in
        let l : 4294967295 ≤ capped (suc a) * capped (suc b) = omega (arith, y, u) in
        let r : 4294967295 ≤ suc a * suc b = omega (arith, v, q) in
        capped_large _ l ∙ sym (capped_large _ r)

pub below_max : (n a b : ℕ) → (nat_lt n a || nat_lt n b) ≡ nat_lt n (max a b)
below_max n a b = same-tests _ _ to from
  where
    to : (nat_lt n a || nat_lt n b) ≡ true → nat_lt n (max a b) ≡ true
    to h = elim (either (nat_lt n a) (nat_lt n b) h) [
      | inl p ↦ let q : n < a = ltb-true n a p in lt-ltb n (max a b) (omega arith)
      | inr p ↦ let q : n < b = ltb-true n b p in lt-ltb n (max a b) (omega arith)
    ]

    from : nat_lt n (max a b) ≡ true → (nat_lt n a || nat_lt n b) ≡ true
    from h =
        let q : n < max a b = ltb-true n (max a b) h in
        elim (two a b) [
          | inl p ↦ or-second (nat_lt n a) (nat_lt n b) (lt-ltb n b (omega arith))
          | inr p ↦ or-first (nat_lt n a) (nat_lt n b) (lt-ltb n a (omega arith))
        ]

pub below_next : (n a : ℕ) → n ≤ 66 → nat_lt n a ≡ nat_lt (suc n) (capped (a + 1))
below_next n a l = same-tests _ _ (λ h. let p : n < a = ltb-true n a h in lt-ltb (suc n) (capped (a + 1)) (omega arith)) (λ h. let p : suc n < capped (a + 1) = ltb-true (suc n) (capped (a + 1)) h in lt-ltb n a (omega arith))

pub first_below : (a : ℕ) → true ≡ nat_lt 0 (capped (a + 1))
first_below a = sym (lt-ltb 0 (capped (a + 1)) (omega arith))

pub not_fewer : (n : ℕ) → not (nat_lt n 65) ≡ nat_lt 64 n
not_fewer n = elim (two n 64) [ inl p ↦ ap not (lt-ltb n 65 (omega arith)) ∙ sym (le-ltb 64 n p) | inr p ↦ ap not (le-ltb n 65 (omega arith)) ∙ sym (lt-ltb 64 n p) ]
