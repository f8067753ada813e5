-- Rows of bits after a bit is set, and after two rows are joined.
use Rattle.std.proofs.Common.{◌≡◌, ◌≢◌, ℕ, ◌+◌, ◌*◌, ◌/◌, ◌%◌, ◌^◌, ◌<◌, ◌≤◌, max, Bool, true, false, List, length, get_or, set, refl, sym, ap, ◌∙◌, arith, inl, inr, nat_eq, nat_lt, length-set, get_or-set_same, get_or-set_other}
use Rattle.std.proofs.lemmas.List.{get_or_past}
use Rattle.std.specs.Prelude.{◌||◌, bit_or}
use Rattle.std.specs.Int.{bit_at}
use Rattle.std.specs.Int.{w64}
use Rattle.std.proofs.lemmas.Bool.{eqb-true, eq-eqb}
use Rattle.std.proofs.lemmas.Bool.Decides.{nat_tests}
use Rattle.std.proofs.lemmas.Nat.Bits.{bit_at_or, bit_at-lt, bit_at-zero, bit_at_set_same, bit_at_set_other}
use Rattle.st_rules.proofs.Booleans.{cases, differ_from_test, or-second}
use Rattle.graph_reach.specs.Bits.{has_bit}
use Rattle.graph_reach.specs.Private.Joins.{Joins}

or-false : (a b : Bool) → b ≡ false → (a || b) ≡ a
or-false true b h = refl
or-false false b h = h

unequal : (a b : ℕ) → (a ≡ b → ⊥) → nat_eq a b ≡ false
unequal a b h = elim (cases (nat_eq a b)) [ inl p ↦ absurd (h (eqb-true a b p)) | inr p ↦ p ]

one_of : (x y : ℕ) → x < 2 → y < 2 → nat_eq (max x y) 1 ≡ (nat_eq x 1 || nat_eq y 1)
one_of x y h k = grind (arith, nat_tests)

module _ (row : List ℕ) (b : ℕ) (within : b < 64 * length row) where
  abbrev word : ℕ
  word = bit_or (get_or row (b / 64) 0) (1 * 2 ^ (b % 64) % 2 ^ 64)

  place : b / 64 < length row
  place = omega arith

  in_word : (j : ℕ) → j / 64 ≡ b / 64 → get_or (set row (b / 64) word) (j / 64) 0 ≡ word
  in_word j e = ap (λ k. get_or (set row (b / 64) word) k 0) e ∙ get_or-set_same row (b / 64) word 0 place

  pub bit-set : (j : ℕ) → has_bit (set row (b / 64) word) j ≡ (has_bit row j || nat_eq j b)
  bit-set j = elim (cases (nat_eq (j / 64) (b / 64))) [
    | inl p ↦
        let e : j / 64 ≡ b / 64 = eqb-true (j / 64) (b / 64) p in
        elim (cases (nat_eq (j % 64) (b % 64))) [
          | inl q ↦
              let f : j % 64 ≡ b % 64 = eqb-true (j % 64) (b % 64) q in
              let same : j ≡ b = omega arith in
              let low : b % 64 < 64 = omega arith in
              let one = bit_at_set_same w64 (get_or row (b / 64) 0) (b % 64) low in
              ap (λ x. nat_eq (bit_at x (j % 64)) 1) (in_word j e) ∙ ap (λ x. nat_eq (bit_at word x) 1) f ∙ ap (λ x. nat_eq x 1) one ∙ eq-eqb 1 1 refl
              ∙ sym (or-second (has_bit row j) (nat_eq j b) (eq-eqb j b same))
          | inr q ↦
              let low : b % 64 < 64 = omega arith in
              let other = bit_at_set_other w64 (get_or row (b / 64) 0) (b % 64) low (j % 64) (differ_from_test (j % 64) (b % 64) q) in
              ap (λ x. nat_eq (bit_at x (j % 64)) 1) (in_word j e) ∙ ap (λ x. nat_eq x 1) other ∙ ap (λ k. nat_eq (bit_at (get_or row k 0) (j % 64)) 1) (sym e)
              ∙ sym (or-false (has_bit row j) (nat_eq j b) (unequal j b (λ s. differ_from_test (j % 64) (b % 64) q (ap (λ x. x % 64) s))))
        ]
    | inr p ↦
        ap (λ x. nat_eq (bit_at x (j % 64)) 1) (get_or-set_other row (b / 64) (j / 64) word 0 (differ_from_test (j / 64) (b / 64) p))
        ∙ sym (or-false (has_bit row j) (nat_eq j b) (unequal j b (λ s. differ_from_test (j / 64) (b / 64) p (ap (λ x. x / 64) s))))
  ]

-- what a join has done up to a place
pub record Joined (old from now : List ℕ) (i : ℕ) : Type 0 where
  pub long : length now ≡ length old
  pub before : (k : ℕ) → k < i → get_or now k 0 ≡ bit_or (get_or old k 0) (get_or from k 0)
  pub after : (k : ℕ) → i ≤ k → get_or now k 0 ≡ get_or old k 0

pub none_joined : (old from : List ℕ) → Joined old from old 0
none_joined old from = record { long = refl; before = λ k h. absurd (omega arith); after = λ k h. refl }

-- one word more
pub joined_more : (old from now new : List ℕ) (i : ℕ) → i < length old → Joined old from now i → new ≡ set now i (bit_or (get_or now i 0) (get_or from i 0)) → Joined old from new (i + 1)
joined_more old from now new i h j e = record {
  long = ap length e ∙ length-set now i _ ∙ j.long;
  before = λ k b. elim (cases (nat_eq k i)) [
    | inl p ↦
        let same : k ≡ i = eqb-true k i p in
        let within : i < length now = let l = j.long in omega arith in
        let start : i ≤ i = omega arith in
        ap (λ (x : List ℕ). get_or x k 0) e ∙ ap (λ n. get_or (set now i (bit_or (get_or now i 0) (get_or from i 0))) n 0) same
        ∙ get_or-set_same now i _ 0 within ∙ ap (λ x. bit_or x (get_or from i 0)) (j.after i start) ∙ sym (ap (λ n. bit_or (get_or old n 0) (get_or from n 0)) same)
    | inr p ↦
        let ne = differ_from_test k i p in
        let lower : k < i = omega (arith, ne) in
        ap (λ (x : List ℕ). get_or x k 0) e ∙ get_or-set_other now i k _ 0 ne ∙ j.before k lower
  ];
  after = λ k b.
      let ne : k ≢ i = λ (s : k ≡ i). absurd (omega arith) in
      let upper : i ≤ k = omega arith in
      ap (λ (x : List ℕ). get_or x k 0) e ∙ get_or-set_other now i k _ 0 ne ∙ j.after k upper;
}

pub no_bit : (i : ℕ) → nat_eq (bit_at 0 i) 1 ≡ false
no_bit i = ap (λ x. nat_eq x 1) (bit_at-zero i)

-- a join up to the end of the other row
pub joined_all : (old from now : List ℕ) → Joined old from now (length from) → Joins old from now
joined_all old from now j = record {
  bits = λ b. elim (cases (nat_lt (b / 64) (length from))) [
    | inl p ↦
        let h : b / 64 < length from = grind (arith, nat_tests) in
        ap (λ x. nat_eq (bit_at x (b % 64)) 1) (j.before (b / 64) h) ∙ ap (λ x. nat_eq x 1) (bit_at_or (get_or old (b / 64) 0) (get_or from (b / 64) 0) (b % 64))
        ∙ one_of (bit_at (get_or old (b / 64) 0) (b % 64)) (bit_at (get_or from (b / 64) 0) (b % 64)) (bit_at-lt _ _) (bit_at-lt _ _)
    | inr p ↦
        let h : length from ≤ b / 64 = grind (arith, nat_tests) in
        ap (λ x. nat_eq (bit_at x (b % 64)) 1) (j.after (b / 64) h)
        ∙ sym (or-false (has_bit old b) (has_bit from b) (ap (λ x. nat_eq (bit_at x (b % 64)) 1) (get_or_past from (b / 64) 0 h) ∙ no_bit (b % 64)))
  ];
}
