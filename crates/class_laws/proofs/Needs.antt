-- Where nothing needs itself, what holds of each thing whose needs have it holds of all.
use Rattle.std.proofs.Common.{◌≡◌, ℕ, zero, suc, ◌<◌, ◌≤◌, Bool, true, false, List, [], ◌∷◌, refl, sym, ap, ◌∙◌, inl, inr, ◌⊎◌, arith, nat_eq, ◌≢◌}
use Rattle.std.specs.Prelude.{if◌then◌else◌}
use Rattle.std.specs.List.{list_any}
use Rattle.std.proofs.lemmas.Bool.{eqb-true}
use Rattle.st_rules.specs.Chains.{is_among, leads_within, itself, onward}
use Rattle.st_rules.proofs.Booleans.{either, or-first, or-second, true≢false, false≢true, any-among, cases, differ_from_test}
use Rattle.st_rules.proofs.LeadsLaws.{IsWithin, leads_decided}

below : ℕ → List ℕ
below zero = []
below (suc n) = n ∷ below n

count : (ℕ → Bool) → List ℕ → ℕ
count f [] = 0
count f (x ∷ xs) = if f x then suc (count f xs) else count f xs

at_most : (f g : ℕ → Bool) → ((x : ℕ) → f x ≡ true → g x ≡ true) → (xs : List ℕ) → count f xs ≤ count g xs
unfolding count
at_most f g h [] = omega arith
at_most f g h (x ∷ xs) = by (at_most f g h xs) (f x) (g x) refl refl
  where
    by : count f xs ≤ count g xs → (a b : Bool) → f x ≡ a → g x ≡ b → (if a then suc (count f xs) else count f xs) ≤ (if b then suc (count g xs) else count g xs)
    by k true true p q = omega (arith, k)
    by k true false p q = absurd (true≢false (sym (h x p) ∙ q))
    by k false true p q = omega (arith, k)
    by k false false p q = k

fewer : (f g : ℕ → Bool) → ((x : ℕ) → f x ≡ true → g x ≡ true) → (y : ℕ) → f y ≡ false → g y ≡ true → (xs : List ℕ) → is_among y xs ≡ true → count f xs < count g xs
unfolding count
fewer f g h y p q [] m = absurd (false≢true m)
fewer f g h y p q (x ∷ xs) m = elim (either (nat_eq y x) (is_among y xs) m) [
  | inl e ↦
      let s = eqb-true y x e in
      let l = at_most f g h xs in
      let a : (if f x then suc (count f xs) else count f xs) ≡ count f xs = ap (λ b. if b then suc (count f xs) else count f xs) (sym (ap f s) ∙ p) in
      let b : (if g x then suc (count g xs) else count g xs) ≡ suc (count g xs) = ap (λ c. if c then suc (count g xs) else count g xs) (sym (ap g s) ∙ q) in
      omega (arith, l, a, b)
  | inr e ↦ by (fewer f g h y p q xs e) (f x) (g x) refl refl
]
  where
    by : count f xs < count g xs → (a b : Bool) → f x ≡ a → g x ≡ b → (if a then suc (count f xs) else count f xs) < (if b then suc (count g xs) else count g xs)
    by k true true u v = omega (arith, k)
    by k true false u v = absurd (true≢false (sym (h x u) ∙ v))
    by k false true u v = omega (arith, k)
    by k false false u v = k

all_below : (n x : ℕ) → x < n → is_among x (below n) ≡ true
unfolding below
all_below zero x h = absurd (omega (arith, h))
all_below (suc n) x h = by (cases (nat_eq x n)) (all_below n x)
  where
    by : ((nat_eq x n ≡ true) ⊎ (nat_eq x n ≡ false)) → (x < n → is_among x (below n) ≡ true) → is_among x (n ∷ below n) ≡ true
    by (inl e) k = or-first (nat_eq x n) (is_among x (below n)) e
    by (inr e) k = let d : x ≢ n = differ_from_test x n e in or-second (nat_eq x n) (is_among x (below n)) (k (omega (arith, h, d)))

module _ (ahead : ℕ → List ℕ) (n : ℕ) (w : IsWithin ahead n) (free : (i : ℕ) → list_any (λ k. leads_within ahead n k i) (ahead i) ≡ false) where
  reach : ℕ → ℕ → Bool
  reach i j = leads_within ahead n i j

  measure : ℕ → ℕ
  measure i = count (reach i) (below n)

  reach_on : (i k : ℕ) → is_among k (ahead i) ≡ true → (j : ℕ) → reach k j ≡ true → reach i j ≡ true
  unfolding reach
  reach_on i k h j q = (leads_decided ahead n w i j).1 (onward i k j h ((leads_decided ahead n w k j).0 q))

  not_back : (i k : ℕ) → is_among k (ahead i) ≡ true → (b : Bool) → reach k i ≡ b → b ≡ false
  unfolding reach
  not_back i k h false e = refl
  not_back i k h true e = absurd (true≢false (sym (any-among (λ j. leads_within ahead n j i) (ahead i) k h e) ∙ free i))

  smaller : (i k : ℕ) → is_among k (ahead i) ≡ true → measure k < measure i
  unfolding measure reach
  smaller i k h =
      fewer (reach k) (reach i) (reach_on i k h) i (not_back i k h (reach k i) refl) ((leads_decided ahead n w i i).1 (itself i)) (below n) (all_below n i (w.within i k h).0)

  -- by how much each reaches
  all_within : (P : ℕ → Type 0) → ((i : ℕ) → ((k : ℕ) → is_among k (ahead i) ≡ true → P k) → P i) → (m i : ℕ) → measure i < m → P i
  all_within P f zero i h = absurd (omega (arith, h))
  all_within P f (suc m) i h = f i (λ k q. let s = smaller i k q in all_within P f m k (omega (arith, h, s)))

  pub all_of : (P : ℕ → Type 0) → ((i : ℕ) → ((k : ℕ) → is_among k (ahead i) ≡ true → P k) → P i) → (i : ℕ) → P i
  all_of P f i = all_within P f (suc (measure i)) i (omega arith)
