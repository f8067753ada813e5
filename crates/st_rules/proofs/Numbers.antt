-- Distinct numbers below a bound: as many as the bound are all of them.
use Rattle.std.proofs.Common.{◌≡◌, ℕ, ◌<◌, ◌≤◌, true, false, List, [], ◌∷◌, sym, arith, length, inl, inr, nat_eq, eqb, subst}
use Rattle.std.specs.List.{IsDistinct, AllByRecursion}
use Rattle.std.proofs.lemmas.Bool.{eqb-true}
use Rattle.std.proofs.lemmas.Map.Steps.{length-le_from_distinct_below}
use Rattle.st_rules.specs.Chains.{is_among}
use Rattle.st_rules.proofs.Booleans.{cases, either, neither}

pub record Held (n : ℕ) (h : List ℕ) : Type 0 where
  pub distinct : IsDistinct eqb h
  pub below : (q : ℕ) → is_among q h ≡ true → q < n

pub none_held : (n : ℕ) → Held n []
unfolding IsDistinct
none_held n = record { distinct = tt; below = λ q h. absurd (no h) }
  where
    no : false ≡ true → ⊥
    no = λ h. cc h

apart : (x : ℕ) (h : List ℕ) → is_among x h ≡ false → AllByRecursion (λ y. eqb x y ≡ false) h
apart x [] e = tt
apart x (y ∷ ys) e = let p = neither (nat_eq x y) (is_among x ys) e in (p.0, apart x ys p.1)

pub held_more : (n : ℕ) (h : List ℕ) (x : ℕ) → Held n h → x < n → is_among x h ≡ false → Held n (x ∷ h)
unfolding IsDistinct
held_more n h x held b e = record {
  distinct = (apart x h e, held.distinct);
  below = λ q i. elim (either (nat_eq q x) (is_among q h) i) [ inl p ↦ subst (λ (y : ℕ). y < n) (sym (eqb-true q x p)) b | inr p ↦ held.below q p ];
}

pub all_held : (n : ℕ) (h : List ℕ) → Held n h → n ≤ length h → (x : ℕ) → x < n → is_among x h ≡ true
all_held n h held l x b = elim (cases (is_among x h)) [
  | inl p ↦ p
  | inr p ↦
      let more = held_more n h x held b p in
      let bound = length-le_from_distinct_below (x ∷ h) n more.distinct more.below in
      absurd (omega arith)
]
