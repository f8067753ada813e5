-- Lists that are made one by one.
use Rattle.std.proofs.Common.{◌≡◌, ◌≤◌, ◌<◌, ℕ, zero, suc, ◌+◌, List, [], ◌∷◌, ◌++◌, length, Option, Some, None, refl, sym, ◌∙◌, subst, arith, inl, inr, ◌⊎◌, length-append}
use Rattle.std.proofs.lemmas.Option.{slice_get_past}
use Rattle.std.specs.Prelude.{slice_get}

at_end : {A : Type 0} (xs : List A) (x : A) → slice_get (xs ++ x ∷ []) (length xs) ≡ Some x
at_end [] x = refl
at_end (y ∷ xs) x = at_end xs x

before_end : {A : Type 0} (xs ys : List A) (k : ℕ) → k < length xs → slice_get (xs ++ ys) k ≡ slice_get xs k
before_end [] ys k h = absurd (omega arith)
before_end (x ∷ xs) ys zero h = refl
before_end (x ∷ xs) ys (suc k) h = before_end xs ys k (omega arith)

pub split : (a b : ℕ) → (a < b) ⊎ (b ≤ a)
split zero zero = inr (omega arith)
split zero (suc b) = inl (omega arith)
split (suc a) zero = inr (omega arith)
split (suc a) (suc b) = elim (split a b) [ inl p ↦ inl (omega arith) | inr p ↦ inr (omega arith) ]

-- what holds of the items of a list that is made one by one, by their numbers
module _ {A : Type 0} (P : ℕ → Option A → Type 0) where
  pub record SoFar (n : ℕ) (all : List A) : Type 0 where
    pub long : length all ≡ n
    pub each : (k : ℕ) → k < n → P k (slice_get all k)

  pub none_so_far : SoFar 0 []
  none_so_far = record { long = refl; each = λ k h. absurd (omega arith) }

  pub one_so_far : (n : ℕ) (all new : List A) (x : A) → SoFar n all → new ≡ all ++ x ∷ [] → P n (Some x) → SoFar (n + 1) new
  one_so_far n all new x so_far e h = subst (λ (ys : List A). SoFar (n + 1) ys) (sym e) longer
    where
      by : (k : ℕ) → k < n + 1 → (k < n) ⊎ (n ≤ k) → P k (slice_get (all ++ x ∷ []) k)
      by k l (inl q) = let g = so_far.long in subst (λ (o : Option A). P k o) (sym (before_end all (x ∷ []) k (omega (arith, g, q)))) (so_far.each k q)
      by k l (inr q) =
          let g = so_far.long in
          let s : length all ≡ k = omega (arith, g, q, l) in
          let t : n ≡ k = omega (arith, q, l) in
          subst (λ (j : ℕ). P j (slice_get (all ++ x ∷ []) j)) s (subst (λ (o : Option A). P (length all) o) (sym (at_end all x)) (subst (λ (j : ℕ). P j (Some x)) (sym g) h))

      longer : SoFar (n + 1) (all ++ x ∷ [])
      longer =
          let g = so_far.long in
          let m : length all + 1 ≡ n + 1 = omega (arith, g) in
          record { long = length-append all (x ∷ []) ∙ m; each = λ k l. by k l (split k n) }

  pub all_so_far : (n : ℕ) (all : List A) → SoFar n all → ((k : ℕ) → n ≤ k → P k None) → (k : ℕ) → P k (slice_get all k)
  all_so_far n all so_far none k = by (split k n)
    where
      by : (k < n) ⊎ (n ≤ k) → P k (slice_get all k)
      by (inl q) = so_far.each k q
      by (inr q) = let g = so_far.long in subst (λ (o : Option A). P k o) (sym (slice_get_past all k (omega (arith, g, q)))) (none k q)
