-- The mask of a call: a bit of it, as the machine asks for it.
use Rattle.std.proofs.Common.{◌≡◌, ◌≢◌, ◌≤◌, ◌<◌, ℕ, zero, suc, ◌+◌, ◌^◌, pos, Bool, true, false, List, [], ◌∷◌, refl, sym, ap, ◌∙◌, subst, arith, pow_mono, pow_pos, rules}
use Rattle.std.proofs.lemmas.Int.{ints}
use Rattle.std.specs.Prelude.{if◌then◌else◌, not, nat_eq, ◌&&◌, ◌||◌}
use Rattle.std.specs.Ordering.{int_eq}
use Rattle.std.proofs.lemmas.Bool.{eqb-true, ne_eqb, eq-eqb}
use Rattle.std.proofs.lemmas.Nat.Bits.{bit_at-pow_same, bit_at-pow_other}
use Rattle.st_types.specs.Range.{Fits}
use Rattle.st_types.specs.declared.elem.Elem.TheVariants as elem
use Rattle.plc_num.specs.Wrapping.{wrapped}
use Rattle.plc_num.proofs.WrappingLaws.{wrapped-fits}
use Rattle.plc_num.specs.Bits.{bit, with_bits, conjunction}
use Rattle.plc_num.proofs.BitLaws.{bit_at-with_bits}
use Rattle.st_rules.specs.Chains.{is_among}
use Rattle.st_meaning.specs.st_frame.Promise.Calls.{Distinct}
use Rattle.shown_memory.specs.Passing.{has_bit}

-- bits of which at most one is set
none_before : (n : ℕ) → 0 + n ≡ n
none_before n = omega arith

none_set : (f : ℕ → Bool) (i : ℕ) → ((k : ℕ) → k ≢ i → f k ≡ false) → (n : ℕ) → n ≤ i → with_bits n f ≡ 0
unfolding with_bits
none_set f i h zero l = refl
none_set f i h (suc n) l = ap (λ b. (if b then 2 ^ n else 0) + with_bits n f) (h n (λ e. absurd (omega (arith, e, l)))) ∙ (none_before (with_bits n f) ∙ none_set f i h n (omega (arith, l)))

false_true : false ≡ true → ⊥
false_true e = cc

one_set : (f : ℕ → Bool) (i : ℕ) → ((k : ℕ) → k ≢ i → f k ≡ false) → (n : ℕ) → i < n → with_bits n f ≡ (if f i then 2 ^ i else 0)
unfolding with_bits
one_set f i h zero l = absurd (omega (arith, l))
one_set f i h (suc n) l = by (nat_eq n i) refl (one_set f i h n)
  where
    sum_0 : (a b : ℕ) → b ≡ 0 → a + b ≡ a
    sum_0 a b e = omega (arith, e)

    by : (b : Bool) → nat_eq n i ≡ b → (i < n → with_bits n f ≡ (if f i then 2 ^ i else 0)) → (if f n then 2 ^ n else 0) + with_bits n f ≡ (if f i then 2 ^ i else 0)
    by true e ih =
        let same : n ≡ i = eqb-true n i e in
        sum_0 (if f n then 2 ^ n else 0) (with_bits n f) (none_set f i h n (omega (arith, same))) ∙ ap (λ k. if f k then 2 ^ k else 0) same
    by false e ih =
        let other : n ≢ i = λ q. absurd (false_true (sym e ∙ eq-eqb n i q)) in
        ap (λ b. (if b then 2 ^ n else 0) + with_bits n f) (h n other) ∙ (none_before (with_bits n f) ∙ ih (omega (arith, l, other)))

pub both_false : (a b : Bool) → b ≡ false → (a && b) ≡ false
both_false true b e = e
both_false false b e = refl

pub bit_small : (i : ℕ) → i < 64 → 2 ^ i ≤ 9223372036854775808
bit_small i l = let small : i ≤ 63 = omega (arith, l) in let top : 2 ^ i ≤ 2 ^ 63 = pow_mono small in top

pub bit_fits : (i : ℕ) → i < 64 → Fits elem.Ulint (pos (2 ^ i))
bit_fits i l = let h = bit_small i l in (omega (arith, ints), omega (arith, ints, h))

-- what the machine computes for a bit of a mask
pub masked : (mask i : ℕ) → i < 64 → Fits elem.Ulint (pos mask) → conjunction elem.Ulint (wrapped elem.Ulint (pos mask)) (wrapped elem.Ulint (pos (2 ^ i))) ≡ pos (if has_bit mask i then 2 ^ i else 0)
masked mask i l fits =
    let f : ℕ → Bool = λ k. bit (pos mask) k && bit (pos (2 ^ i)) k in
    let set : with_bits 64 f ≡ (if f i then 2 ^ i else 0) = one_set f i (λ k o. both_false (bit (pos mask) k) (bit (pos (2 ^ i)) k) (ap (λ x. nat_eq x 1) (bit_at-pow_other i k o))) 64 l in
    let own : f i ≡ has_bit mask i = ap (λ x. bit (pos mask) i && nat_eq x 1) (bit_at-pow_same i) ∙ and_true (bit (pos mask) i) in
    ap (λ z. conjunction elem.Ulint z (wrapped elem.Ulint (pos (2 ^ i)))) (wrapped-fits elem.Ulint (pos mask) fits)
    ∙ (ap (conjunction elem.Ulint (pos mask)) (wrapped-fits elem.Ulint (pos (2 ^ i)) (bit_fits i l))
    ∙ (ap (λ x. wrapped elem.Ulint (pos x)) (set ∙ ap (λ b. if b then 2 ^ i else 0) own)
    ∙ wrapped-fits elem.Ulint (pos (if has_bit mask i then 2 ^ i else 0)) (fits_if (has_bit mask i))))
  where
    and_true : (b : Bool) → (b && true) ≡ b
    and_true true = refl
    and_true false = refl

    fits_if : (b : Bool) → Fits elem.Ulint (pos (if b then 2 ^ i else 0))
    fits_if true = bit_fits i l
    fits_if false = (omega (arith, ints), omega (arith, ints))

above : (n : ℕ) → 0 < n → int_eq (pos n) (pos 0) ≡ false
above zero h = absurd (omega (arith, h))
above (suc n) h = search rules

pub asked_bit : (mask i : ℕ) → int_eq (pos (if has_bit mask i then 2 ^ i else 0)) (pos 0) ≡ not (has_bit mask i)
asked_bit mask i = by (has_bit mask i)
  where
    by : (b : Bool) → int_eq (pos (if b then 2 ^ i else 0)) (pos 0) ≡ not b
    by true = above (2 ^ i) (pow_pos i)
    by false = refl

-- ---- a mask is the sum of the bits of different numbers

abbrev pub bits_sum : List ℕ → ℕ
bits_sum [] = 0
bits_sum (n ∷ ns) = 2 ^ n + bits_sum ns

abbrev pub AllBelow : ℕ → List ℕ → Type 0
AllBelow m [] = Unit {0}
AllBelow m (n ∷ ns) = (n < m) × AllBelow m ns

no_bits : (m : ℕ) → with_bits m (λ k. false) ≡ 0
unfolding with_bits
no_bits zero = refl
no_bits (suc m) = none_before (with_bits m (λ k. false)) ∙ no_bits m

below_bit : (f : ℕ → Bool) (i m : ℕ) → m ≤ i → with_bits m (λ k. nat_eq k i || f k) ≡ with_bits m f
unfolding with_bits
below_bit f i zero l = refl
below_bit f i (suc m) l =
    let other : m ≢ i = λ e. absurd (omega (arith, l, e)) in
    ap (λ b. (if b || f m then 2 ^ m else 0) + with_bits m (λ k. nat_eq k i || f k)) (ne_eqb m i other)
    ∙ ap (λ n. (if f m then 2 ^ m else 0) + n) (below_bit f i m (omega (arith, l)))

more_bit : (f : ℕ → Bool) (i m : ℕ) → f i ≡ false → i < m → with_bits m (λ k. nat_eq k i || f k) ≡ 2 ^ i + with_bits m f
unfolding with_bits
more_bit f i zero e l = absurd (omega (arith, l))
more_bit f i (suc m) e l = by (nat_eq m i) refl (more_bit f i m e)
  where
    regroup : (a b c : ℕ) → a + (b + c) ≡ b + (a + c)
    regroup a b c = omega arith

    by : (b : Bool) → nat_eq m i ≡ b → (i < m → with_bits m (λ k. nat_eq k i || f k) ≡ 2 ^ i + with_bits m f) → (if nat_eq m i || f m then 2 ^ m else 0) + with_bits m (λ k. nat_eq k i || f k) ≡ 2 ^ i + ((if f m then 2 ^ m else 0) + with_bits m f)
    by true q g =
        let same : i ≡ m = sym (eqb-true m i q) in
        ap (λ b. (if b || f m then 2 ^ m else 0) + with_bits m (λ k. nat_eq k i || f k)) q
        ∙ (ap (λ n. 2 ^ m + n) (below_bit f i m (omega (arith, same)))
        ∙ (ap (λ j. 2 ^ j + with_bits m f) (sym same)
        ∙ ap (λ n. 2 ^ i + n) (sym (ap (λ b. (if b then 2 ^ m else 0) + with_bits m f) (ap f (sym same) ∙ e) ∙ none_before (with_bits m f)))))
    by false q g =
        let other : i ≢ m = λ w. absurd (false_true (sym q ∙ eq-eqb m i (sym w))) in
        ap (λ b. (if b || f m then 2 ^ m else 0) + with_bits m (λ k. nat_eq k i || f k)) q
        ∙ (ap (λ n. (if f m then 2 ^ m else 0) + n) (g (omega (arith, l, other)))
        ∙ regroup (if f m then 2 ^ m else 0) (2 ^ i) (with_bits m f))

pub sum_is : (m : ℕ) (ns : List ℕ) → Distinct ns → AllBelow m ns → bits_sum ns ≡ with_bits m (λ k. is_among k ns)
sum_is m [] d a = sym (no_bits m)
sum_is m (n ∷ ns) d a = ap (λ s. 2 ^ n + s) (sum_is m ns d.1 a.1) ∙ sym (more_bit (λ k. is_among k ns) n m d.0 a.0)

-- the bits that are set are the numbers
pub mask_has : (ns : List ℕ) (k : ℕ) → Distinct ns → AllBelow 64 ns → k < 64 → has_bit (bits_sum ns) k ≡ is_among k ns
mask_has ns k d a l = ap (λ n. has_bit n k) (sum_is 64 ns d a) ∙ bit_at-with_bits 64 (λ k. is_among k ns) k l

-- ---- what it fits in

bits_below : (f : ℕ → Bool) (m : ℕ) → with_bits m f < 2 ^ m
unfolding with_bits
bits_below f zero = omega arith
bits_below f (suc m) = by (f m) (bits_below f m) (let e : 2 ^ suc m ≡ 2 ^ m + 2 ^ m = grind arith in e)
  where
    by : (b : Bool) → with_bits m f < 2 ^ m → 2 ^ suc m ≡ 2 ^ m + 2 ^ m → (if b then 2 ^ m else 0) + with_bits m f < 2 ^ suc m
    by true h e = omega (arith, h, e)
    by false h e = omega (arith, h, e)

pub mask_fits : (ns : List ℕ) (b : Bool) → Distinct ns → AllBelow 63 ns → Fits elem.Ulint (pos (bits_sum ns + (if b then 2 ^ 63 else 0)))
mask_fits ns b d a = by b
  where
    low : bits_sum ns < 9223372036854775808
    low = subst (λ n. n < 9223372036854775808) (sym (sum_is 63 ns d a)) (bits_below (λ k. is_among k ns) 63)

    by : (b : Bool) → Fits elem.Ulint (pos (bits_sum ns + (if b then 9223372036854775808 else 0)))
    by true = let l = low in (omega (arith, ints), omega (arith, ints, l))
    by false = let l = low in (omega (arith, ints), omega (arith, ints, l))
