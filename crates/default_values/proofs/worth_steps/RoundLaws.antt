-- Rounds, structure by structure.
use Rattle.std.proofs.Common.{◌≡◌, ℕ, zero, suc, ◌+◌, ◌-◌, ◌<◌, ◌≤◌, Bool, true, false, List, [], ◌∷◌, Some, None, length, get_or, refl, sym, ap, ◌∙◌, ◌⊎◌, inl, inr, subst, arith}
use Rattle.std.specs.Prelude.{nat_le, set, replicate, slice_get, map}
use Rattle.std.proofs.lemmas.Bool.{cases_Bool, le-leb, leb-true, leb-false}
use Rattle.std.proofs.lemmas.List.{get_or-set_same, get_or-set_other, length-set}
use Rattle.st_types.specs.declared.st_type.StType.{StType, out-StType}
use Rattle.st_types.specs.declared.st_type.StType.TheVariants as type
use Rattle.st_types.specs.declared.st_type.StType.TheOpen.{StType-F}
use Rattle.st_tree.specs.declared.declaration.TypeDecl.{TypeDecl}
use Rattle.st_rules.specs.declared.names.TypeParts.{TypeParts}
use Rattle.st_rules.specs.Scope.{Scope, field_list}
use Rattle.default_values.specs.worth_steps.Steps.{passes_told, pass_all_told, kinds_in, count_at, field_kinds, has_level, takes_steps, IsCount, AreFields, AreCounts}
use Rattle.default_values.specs.worth_steps.StepLaws.{StepLaws}
use Rattle.default_values.specs.worth_steps.Private.Rounds.{AreExact, IsRound}
use Rattle.default_values.proofs.worth_steps.LevelLaws.{step_laws}
use Rattle.default_values.proofs.worth_steps.CountLaws.{not_below}

same_or_not : (m i : ℕ) → (m ≡ i) ⊎ (m ≡ i → ⊥)
same_or_not zero zero = inl refl
same_or_not zero (suc i) = inr (λ e. absurd (cc))
same_or_not (suc m) zero = inr (λ e. absurd (cc))
same_or_not (suc m) (suc i) = elim (same_or_not m i) [
  | inl e ↦ inl (ap suc e)
  | inr n ↦ inr (λ e. n (cc))
]

below_next : (m i : ℕ) → m < suc i → (m < i) ⊎ (m ≡ i)
below_next m i h = elim (same_or_not m i) [
  | inl e ↦ inr e
  | inr n ↦ inl (omega (arith, h, n))
]

module _ (unit : Scope) (entries : List (TypeDecl ℕ)) where
  up_by : (d n : ℕ) (t : StType) → takes_steps unit entries n t ≡ true → takes_steps unit entries (d + n) t ≡ true
  up_by zero n t h = let e : n ≡ 0 + n = omega arith in subst (λ (m : ℕ). takes_steps unit entries m t ≡ true) e h
  up_by (suc d) n t h =
      let e : suc (d + n) ≡ suc d + n = omega arith in
      subst (λ (m : ℕ). takes_steps unit entries m t ≡ true) e ((step_laws unit entries).more (d + n) t (up_by d n t h))

  up : (n k : ℕ) (t : StType) → n ≤ k → takes_steps unit entries n t ≡ true → takes_steps unit entries k t ≡ true
  up n k t l h = let e : (k - n) + n ≡ k = omega (arith, l) in subst (λ (m : ℕ). takes_steps unit entries m t ≡ true) e (up_by (k - n) n t h)

  -- ---- one structure

  structure_next : (n i : ℕ) (b : Bool) → b ≡ pass_all_told (takes_steps unit entries n) (field_kinds unit entries i) → takes_steps unit entries (suc n) (type.Structure i) ≡ b
  structure_next n i b e = ap (has_level unit entries (takes_steps unit entries n)) (type.outs-Structure i) ∙ sym e

  module _ (structures : List ℕ) (k i : ℕ) (most : k ≤ 66) (r : IsRound unit entries structures k i) (within : i < length structures) where
    went_on : takes_steps unit entries k (type.Structure i) ≡ nat_le (count_at structures i) k → (count_at structures i ≡ 67) ⊎ (count_at structures i ≤ k) → IsRound unit entries structures k (suc i)
    went_on e s = record {
      exact = r.exact;
      done = λ m b. elim (below_next m i b) [
        | inl l ↦ r.done m l
        | inr q ↦ subst (λ (x : ℕ). takes_steps unit entries k (type.Structure x) ≡ nat_le (count_at structures x) k) (sym q) e
      ];
      seen = λ m b. elim (below_next m i b) [
        | inl l ↦ r.seen m l
        | inr q ↦ subst (λ (x : ℕ). (count_at structures x ≡ 67) ⊎ (count_at structures x ≤ k)) (sym q) s
      ];
      left = λ m b l. r.left m (omega (arith, b)) l;
    }

    -- it takes fewer steps
    pub noted_before : (count_at structures i ≡ 67 → ⊥) → IsRound unit entries structures k (suc i)
    noted_before f = elim (r.left i (omega arith) within) [
      | inl e ↦ absurd (f e)
      | inr l ↦
          let v = count_at structures i in
          let low : v ≤ 66 = omega (arith, l, most) in
          let own : takes_steps unit entries v (type.Structure i) ≡ true = r.exact.each i v l low ∙ le-leb v v (omega arith) in
          let le : v ≤ k = omega (arith, l) in
          went_on (up v k (type.Structure i) le own ∙ sym (le-leb v k le)) (inr le)
    ]

    -- it takes more
    pub takes_more : count_at structures i ≡ 67 → 0 < k → false ≡ pass_all_told (takes_steps unit entries (k - 1)) (field_kinds unit entries i) → IsRound unit entries structures k (suc i)
    takes_more e some fails =
        let q : suc (k - 1) ≡ k = omega (arith, some) in
        let h : takes_steps unit entries k (type.Structure i) ≡ false = subst (λ (m : ℕ). takes_steps unit entries m (type.Structure i) ≡ false) q (structure_next (k - 1) i false fails) in
        let high : k < 67 = omega (arith, most) in
        went_on (h ∙ sym (ap (λ v. nat_le v k) e ∙ not_below 67 k high)) (inl e)

    -- it takes as many
    module _ (e : count_at structures i ≡ 67) (some : 0 < k) (yes : true ≡ pass_all_told (takes_steps unit entries (k - 1)) (field_kinds unit entries i)) where
      now_at : count_at (set structures i k) i ≡ k
      now_at = get_or-set_same structures i k 1 within

      others_at : (m : ℕ) → (m ≡ i → ⊥) → count_at (set structures i k) m ≡ count_at structures m
      others_at m f = get_or-set_other structures i m k 1 f

      exact_now : (m j : ℕ) → j < k → j ≤ 66 → takes_steps unit entries j (type.Structure m) ≡ nat_le (count_at (set structures i k) m) j
      exact_now m j b l = elim (same_or_not m i) [
        | inl q ↦
            let low : j < 67 = omega (arith, l) in
            subst (λ (x : ℕ). takes_steps unit entries j (type.Structure x) ≡ nat_le (count_at (set structures i k) x) j) (sym q)
            (r.exact.each i j b l ∙ ap (λ v. nat_le v j) e ∙ not_below 67 j low ∙ sym (ap (λ v. nat_le v j) now_at ∙ not_below k j b))
        | inr f ↦ r.exact.each m j b l ∙ ap (λ v. nat_le v j) (sym (others_at m f))
      ]

      takes_now : takes_steps unit entries k (type.Structure i) ≡ true
      takes_now = let q : suc (k - 1) ≡ k = omega (arith, some) in subst (λ (m : ℕ). takes_steps unit entries m (type.Structure i) ≡ true) q (structure_next (k - 1) i true yes)

      pub noted : IsRound unit entries (set structures i k) k (suc i)
      noted = record {
        exact = record { each = exact_now };
        done = λ m b. elim (same_or_not m i) [
          | inl q ↦ subst (λ (x : ℕ). takes_steps unit entries k (type.Structure x) ≡ nat_le (count_at (set structures i k) x) k) (sym q) (takes_now ∙ sym (ap (λ v. nat_le v k) now_at ∙ le-leb k k (omega arith)))
          | inr f ↦ let l : m < i = omega (arith, b, f) in r.done m l ∙ ap (λ v. nat_le v k) (sym (others_at m f))
        ];
        seen = λ m b. elim (same_or_not m i) [
          | inl q ↦ let z : count_at (set structures i k) m ≤ k = subst (λ (v : ℕ). v ≤ k) (sym (ap (count_at (set structures i k)) q ∙ now_at)) (omega arith) in inr z
          | inr f ↦ let l : m < i = omega (arith, b, f) in subst (λ (v : ℕ). (v ≡ 67) ⊎ (v ≤ k)) (sym (others_at m f)) (r.seen m l)
        ];
        left = λ m b l. let f : m ≡ i → ⊥ = λ q. omega (arith, b, q) in
            subst (λ (v : ℕ). (v ≡ 67) ⊎ (v < k)) (sym (others_at m f)) (r.left m (omega (arith, b)) (subst (λ (n : ℕ). m < n) (length-set structures i k) l));
      }

  -- ---- a round

  pub first_round : (count : ℕ) → IsRound unit entries (replicate count 67) 1 0
  first_round count = record {
    exact = record { each = λ m j b l. let z : j ≡ 0 = omega (arith, b) in subst (λ (x : ℕ). takes_steps unit entries x (type.Structure m) ≡ nat_le (count_at (replicate count 67) m) x) (sym z) (sym (none_at_once count m)) };
    done = λ m b. absurd (omega (arith, b));
    seen = λ m b. absurd (omega (arith, b));
    left = λ m b l. inl (filled count m l);
  }
    where
      none_at_once : (n m : ℕ) → nat_le (count_at (replicate n 67) m) 0 ≡ false
      none_at_once zero m = refl
      none_at_once (suc n) zero = refl
      none_at_once (suc n) (suc m) = none_at_once n m

      filled : (n m : ℕ) → m < length {A = ℕ} (replicate n 67) → count_at (replicate n 67) m ≡ 67
      filled zero m l = absurd (omega (arith, l))
      filled (suc n) zero l = refl
      filled (suc n) (suc m) l = filled n m (omega (arith, l))

  past : (xs : List ℕ) (m : ℕ) → length xs ≤ m → count_at xs m ≡ 1
  past [] m l = refl
  past (x ∷ xs) zero l = absurd (omega (arith, l))
  past (x ∷ xs) (suc m) l = past xs m (omega (arith, l))

  past_parts : (ps : List TypeParts) (m : ℕ) → length ps ≤ m → kinds_in (slice_get ps m) ≡ []
  past_parts [] m l = refl
  past_parts (p ∷ ps) zero l = absurd (omega (arith, l))
  past_parts (p ∷ ps) (suc m) l = past_parts ps m (omega (arith, l))

  pub next_round : (structures : List ℕ) (parts : List TypeParts) (k : ℕ) → 0 < k → length structures ≡ length parts → AreFields unit entries parts → IsRound unit entries structures k (length parts) → IsRound unit entries structures (suc k) 0
  next_round structures parts k some long fields r = record {
    exact = record {
      each = λ m j b l. elim (below_next j k b) [
        | inl c ↦ r.exact.each m j c l
        | inr q ↦ subst (λ (x : ℕ). takes_steps unit entries x (type.Structure m) ≡ nat_le (count_at structures m) x) (sym q) (at_last m)
      ];
    };
    done = λ m b. absurd (omega (arith, b));
    seen = λ m b. absurd (omega (arith, b));
    left = λ m b l. next_left m (subst (λ (n : ℕ). m < n) long l);
  }
    where
      next_left : (m : ℕ) → m < length parts → (count_at structures m ≡ 67) ⊎ (count_at structures m < suc k)
      next_left m l = elim (r.seen m l) [
        | inl e ↦ inl e
        | inr c ↦ inr (omega (arith, c))
      ]

      beyond : (m : ℕ) → length parts ≤ m → takes_steps unit entries k (type.Structure m) ≡ nat_le (count_at structures m) k
      beyond m l =
          let none : field_kinds unit entries m ≡ [] = sym (fields.kinds m) ∙ past_parts parts m l in
          let q : suc (k - 1) ≡ k = omega (arith, some) in
          let yes : true ≡ pass_all_told (takes_steps unit entries (k - 1)) (field_kinds unit entries m) = sym (ap (pass_all_told (takes_steps unit entries (k - 1))) none) in
          let h : takes_steps unit entries k (type.Structure m) ≡ true = subst (λ (n : ℕ). takes_steps unit entries n (type.Structure m) ≡ true) q (structure_next (k - 1) m true yes) in
          let one : 1 ≤ k = omega (arith, some) in
          let far : length structures ≤ m = subst (λ (n : ℕ). n ≤ m) (sym long) l in
          h ∙ sym (ap (λ v. nat_le v k) (past structures m far) ∙ le-leb 1 k one)

      at_last : (m : ℕ) → takes_steps unit entries k (type.Structure m) ≡ nat_le (count_at structures m) k
      at_last m = elim (cases_Bool (nat_le (length parts) m)) [
        | inl y ↦ beyond m (leb-true (length parts) m y)
        | inr n ↦ r.done m (leb-false (length parts) m n)
      ]

  pub last_round : (structures : List ℕ) → IsRound unit entries structures 67 0 → AreCounts unit entries structures
  last_round structures r = record { each = λ m. record { is = λ n l. r.exact.each m n (omega (arith, l)) l } }

  pub exact_counts : (structures : List ℕ) → AreCounts unit entries structures → AreExact unit entries structures 67
  exact_counts structures a = record { each = λ m j b l. (a.each m).is j l }
