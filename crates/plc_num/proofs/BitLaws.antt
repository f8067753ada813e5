-- Bits of numbers in two's complement.
use Rattle.std.proofs.Common.{◌≡◌, ℕ, ℤ, zero, suc, pos, negsuc, ◌+◌, ◌-◌, ◌*◌, ◌/◌, ◌%◌, ◌^◌, ◌<◌, ◌≤◌, min, max, Bool, true, false, not, ◌&&◌, ◌||◌, refl, sym, ap, subst, ◌∙◌, ⊎_elim, pow_pos, lit≤, bit_and, bit_or, arith}
use Rattle.std.specs.Prelude.{◌+ℤ◌, ◌*ℤ◌, nat_eq, bit_xor, FitsSigned, if◌then◌else◌}
use Rattle.std.specs.Int.{bit_at, w128, cast_signed as to_z, cast_unsigned as of_z}
use Rattle.std.proofs.lemmas.Int.{ints, to_z-of_z, of_z-to_z}
use Rattle.std.proofs.lemmas.Bool.{cases_order, cases_lt}
use Rattle.std.proofs.lemmas.Nat.Bits.{bit_at_lowest, bit_at-suc, bit_at-lt, bit_at_cat_low, bit_at_cat_high, bit_at_not, same_from_bits_below, bit_at_and, bit_at_or, bit_at_xor}
use Rattle.std.proofs.Math.Nat.{mod-lt, div-add-mod', mul-le-mul_right}
use Rattle.std.proofs.lemmas.Nat.{and_le_l, or_lt, xor_lt}
use Rattle.st_types.specs.declared.elem.Elem.{Elem}
use Rattle.st_types.specs.declared.elem.Elem.TheVariants as kind
use Rattle.st_types.specs.Elem.{bits}
use Rattle.plc_num.specs.Wrapping.{Wraps, wrapped}
use Rattle.plc_num.specs.Bits.{bit, HasBits, with_bits, value_of_bits, exclusive_or}
use Rattle.plc_num.proofs.WrappingLaws.{wrapped-wraps, Wraps-unique}

-- each bit of the complement within the width is the other
complement_at : (n m k : ℕ) → m < 2 ^ n → k < n → bit_at (2 ^ n - 1 - m) k + bit_at m k ≡ 1
complement_at zero m k h l = absurd (omega arith)
complement_at (suc n) m zero h l =
    let p = bit_at_lowest (2 ^ suc n - 1 - m) in
    let q = bit_at_lowest m in
    omega (arith, p, q, pow_pos n)
complement_at (suc n) m (suc k) h l =
    let small : m / 2 < 2 ^ n = omega arith in
    let half : (2 ^ suc n - 1 - m) / 2 ≡ 2 ^ n - 1 - m / 2 = omega arith in
    let ih = complement_at n (m / 2) k small (omega arith) in
    let p = bit_at-suc (2 ^ suc n - 1 - m) k ∙ ap (λ (x : ℕ). bit_at x k) half in
    let q = bit_at-suc m k in
    omega (arith, p, q, ih)

low_bits : (a n k : ℕ) → k < n → bit_at a k ≡ bit_at (a % 2 ^ n) k
low_bits a n k h = ap (λ (x : ℕ). bit_at x k) (sym (div-add-mod' a (2 ^ n))) ∙ bit_at_cat_low (a / 2 ^ n) n (a % 2 ^ n) k h

one_turn : (a b x y q n : ℕ) → (x * n + a) + (y * n + b) + 1 ≡ q * n → a < n → b < n → a + b + 1 ≡ n
one_turn a b x y q n e h l =
    ⊎_elim (λ same. let turns = ap (λ (t : ℕ). t * n) same in omega arith)
    (λ other. ⊎_elim
    (λ less. let few : q ≤ x + y = omega arith in absurd (omega (arith, mul-le-mul_right n few)))
    (λ more. let many : x + y + 2 ≤ q = omega arith in absurd (omega (arith, mul-le-mul_right n many)))
    other)
    (cases_order q (x + y + 1))

-- two numbers that are turns less one together have opposite bits
apart_bits : (a b q n k : ℕ) → a + b + 1 ≡ q * 2 ^ n → k < n → bit_at b k + bit_at a k ≡ 1
apart_bits a b q n k e l =
    let a_low = mod-lt a (pow_pos n) in
    let b_low = mod-lt b (pow_pos n) in
    let a_parts = div-add-mod' a (2 ^ n) in
    let b_parts = div-add-mod' b (2 ^ n) in
    let whole = one_turn (a % 2 ^ n) (b % 2 ^ n) (a / 2 ^ n) (b / 2 ^ n) q (2 ^ n) (omega arith) a_low b_low in
    let other : b % 2 ^ n ≡ 2 ^ n - 1 - a % 2 ^ n = omega arith in
    let bits_of_b = low_bits b n k l ∙ ap (λ (x : ℕ). bit_at x k) other in
    omega (arith, complement_at n (a % 2 ^ n) k a_low l, bits_of_b, low_bits a n k l)

-- two numbers that are turns apart have the same bits
same_bits : (a b q n k : ℕ) → a ≡ b + q * 2 ^ n → k < n → bit_at a k ≡ bit_at b k
same_bits a b q n k e l =
    let turned : a ≡ q * 2 ^ n + b = omega arith in
    ap (λ (x : ℕ). bit_at x k) turned ∙ bit_at_cat_low q n b k l

opposite : (x y : ℕ) → x + y ≡ 1 → nat_eq x 1 ≡ not (nat_eq y 1)
opposite x zero h = let one : x ≡ 1 = omega arith in rw one
opposite x (suc zero) h = let none : x ≡ 0 = omega arith in rw none
opposite x (suc (suc y)) h = absurd (omega arith)

opposite_again : (x y : ℕ) → x + y ≡ 1 → not (nat_eq x 1) ≡ nat_eq y 1
opposite_again x zero h = let one : x ≡ 1 = omega arith in rw one
opposite_again x (suc zero) h = let none : x ≡ 0 = omega arith in rw none
opposite_again x (suc (suc y)) h = absurd (omega arith)

-- the bits within a width are those of each number that is turns of it away
pub bit-turns : (v r t : ℤ) (n k : ℕ) → v ≡ r +ℤ t *ℤ pos (2 ^ n) → k < n → bit v k ≡ bit r k
bit-turns (pos v) (pos r) (pos t) n k e l = ap (λ (x : ℕ). nat_eq x 1) (same_bits v r t n k (omega (arith, ints)) l)
bit-turns (pos v) (pos r) (negsuc t) n k e l = ap (λ (x : ℕ). nat_eq x 1) (sym (same_bits r v (suc t) n k (omega (arith, ints)) l))
bit-turns (pos v) (negsuc r) (pos t) n k e l = opposite (bit_at v k) (bit_at r k) (apart_bits r v t n k (omega (arith, ints)) l)
bit-turns (pos v) (negsuc r) (negsuc t) n k e l = absurd (omega (arith, ints))
bit-turns (negsuc v) (pos r) (pos t) n k e l = absurd (omega (arith, ints))
bit-turns (negsuc v) (pos r) (negsuc t) n k e l = opposite_again (bit_at v k) (bit_at r k) (apart_bits r v (suc t) n k (omega (arith, ints)) l)
bit-turns (negsuc v) (negsuc r) (pos t) n k e l = ap (λ (x : ℕ). not (nat_eq x 1)) (sym (same_bits r v t n k (omega (arith, ints)) l))
bit-turns (negsuc v) (negsuc r) (negsuc t) n k e l = ap (λ (x : ℕ). not (nat_eq x 1)) (same_bits v r (suc t) n k (omega (arith, ints)) l)

not_one : (x y : ℕ) → x ≡ 1 - y → y < 2 → not (nat_eq y 1) ≡ nat_eq x 1
not_one x zero e h = rw e
not_one x (suc zero) e h = rw e
not_one x (suc (suc y)) e h = absurd (omega arith)

-- the bits of the machine's number of 128 bits
pub bit-of_z : (v : ℤ) (k : ℕ) → FitsSigned w128 v → k < 128 → bit v k ≡ nat_eq (bit_at (of_z w128 v) k) 1
bit-of_z (pos n) k f l = refl
bit-of_z (negsuc n) k f l =
    let small : n < 2 ^ 128 = omega (arith, f.sfits) in
    let same : 2 ^ 128 - suc n ≡ 2 ^ 128 - 1 - n = omega arith in
    let turned : bit_at (2 ^ 128 - suc n) k ≡ 1 - bit_at n k = ap (λ (x : ℕ). bit_at x k) same ∙ bit_at_not w128 n k small l in
    not_one (bit_at (2 ^ 128 - suc n) k) (bit_at n k) turned (bit_at-lt n k)

-- each width is at most 64
pub bits-small : (e : Elem) → bits e ≤ 64
bits-small kind.Bool = lit≤ tt
bits-small kind.Sint = lit≤ tt
bits-small kind.Int = lit≤ tt
bits-small kind.Dint = lit≤ tt
bits-small kind.Lint = lit≤ tt
bits-small kind.Usint = lit≤ tt
bits-small kind.Uint = lit≤ tt
bits-small kind.Udint = lit≤ tt
bits-small kind.Ulint = lit≤ tt
bits-small kind.Byte = lit≤ tt
bits-small kind.Word = lit≤ tt
bits-small kind.Dword = lit≤ tt
bits-small kind.Lword = lit≤ tt
bits-small kind.Time = lit≤ tt

pub to_z_fits : (m : ℕ) → m < 2 ^ 128 → FitsSigned w128 (to_z w128 m)
to_z_fits m h = omega (arith, ints)

pub bit-to_z : (m k : ℕ) → m < 2 ^ 128 → k < 128 → bit (to_z w128 m) k ≡ nat_eq (bit_at m k) 1
bit-to_z m k h l = bit-of_z (to_z w128 m) k (to_z_fits m h) l ∙ ap (λ (x : ℕ). nat_eq (bit_at x k) 1) (of_z-to_z w128 m h)

both_ones : (x y : ℕ) → x < 2 → y < 2 → nat_eq (min x y) 1 ≡ (nat_eq x 1 && nat_eq y 1)
both_ones zero y h l = let none : min 0 y ≡ 0 = omega arith in rw none
both_ones (suc zero) zero h l = refl
both_ones (suc zero) (suc zero) h l = refl
both_ones (suc zero) (suc (suc y)) h l = absurd (omega arith)
both_ones (suc (suc x)) y h l = absurd (omega arith)

either_one : (x y : ℕ) → x < 2 → y < 2 → nat_eq (max x y) 1 ≡ (nat_eq x 1 || nat_eq y 1)
either_one zero y h l = let same : max 0 y ≡ y = omega arith in rw same
either_one (suc zero) zero h l = refl
either_one (suc zero) (suc zero) h l = refl
either_one (suc zero) (suc (suc y)) h l = absurd (omega arith)
either_one (suc (suc x)) y h l = absurd (omega arith)

exactly_one : (x y : ℕ) → x < 2 → y < 2 → nat_eq ((x + y) % 2) 1 ≡ exclusive_or (nat_eq x 1) (nat_eq y 1)
exactly_one zero zero h l = refl
exactly_one zero (suc zero) h l = refl
exactly_one (suc zero) zero h l = refl
exactly_one (suc zero) (suc zero) h l = refl
exactly_one x (suc (suc y)) h l = absurd (omega arith)
exactly_one (suc (suc x)) y h l = absurd (omega arith)

of_z_small : (a : ℤ) → FitsSigned w128 a → of_z w128 a < 2 ^ 128
of_z_small (pos n) f = omega (arith, f.sfits)
of_z_small (negsuc n) f = omega (arith, f.sfits)

-- what `&`, `|` and `^` do with the machine's numbers
pub and_bits : (a b : ℤ) (k : ℕ) → FitsSigned w128 a → FitsSigned w128 b → k < 128
    → bit (to_z w128 (bit_and (of_z w128 a) (of_z w128 b))) k ≡ (bit a k && bit b k)
and_bits a b k f g l =
    let x = of_z w128 a in
    let y = of_z w128 b in
    let small : bit_and x y < 2 ^ 128 = omega (arith, and_le_l x y, of_z_small a f) in
    bit-to_z (bit_and x y) k small l
    ∙ ap (λ (x : ℕ). nat_eq x 1) (bit_at_and x y k)
    ∙ both_ones (bit_at x k) (bit_at y k) (bit_at-lt x k) (bit_at-lt y k)
    ∙ (λ i. sym (bit-of_z a k f l) i && sym (bit-of_z b k g l) i)

pub or_bits : (a b : ℤ) (k : ℕ) → FitsSigned w128 a → FitsSigned w128 b → k < 128
    → bit (to_z w128 (bit_or (of_z w128 a) (of_z w128 b))) k ≡ (bit a k || bit b k)
or_bits a b k f g l =
    let x = of_z w128 a in
    let y = of_z w128 b in
    bit-to_z (bit_or x y) k (or_lt 128 x y (of_z_small a f) (of_z_small b g)) l
    ∙ ap (λ (x : ℕ). nat_eq x 1) (bit_at_or x y k)
    ∙ either_one (bit_at x k) (bit_at y k) (bit_at-lt x k) (bit_at-lt y k)
    ∙ (λ i. sym (bit-of_z a k f l) i || sym (bit-of_z b k g l) i)

pub xor_bits : (a b : ℤ) (k : ℕ) → FitsSigned w128 a → FitsSigned w128 b → k < 128
    → bit (to_z w128 (bit_xor (of_z w128 a) (of_z w128 b))) k ≡ exclusive_or (bit a k) (bit b k)
xor_bits a b k f g l =
    let x = of_z w128 a in
    let y = of_z w128 b in
    bit-to_z (bit_xor x y) k (xor_lt 128 x y (of_z_small a f) (of_z_small b g)) l
    ∙ ap (λ (x : ℕ). nat_eq x 1) (bit_at_xor x y k)
    ∙ exactly_one (bit_at x k) (bit_at y k) (bit_at-lt x k) (bit_at-lt y k)
    ∙ (λ i. exclusive_or (sym (bit-of_z a k f l) i) (sym (bit-of_z b k g l) i))

-- the value of the kind that such a number wraps to has its bits
pub bits_kept : (e : Elem) (x r : ℤ) (f : ℕ → Bool) → FitsSigned w128 x → FitsSigned w128 r → Wraps e (to_z w128 (of_z w128 x)) r
    → ((k : ℕ) → k < 128 → bit x k ≡ f k) → HasBits e f (to_z w128 (of_z w128 r))
bits_kept e x r f h g w b =
    subst (HasBits e f) (sym (to_z-of_z w128 r g))
    (record {
      fits = w.fits;
      bits-are = λ k l. sym (bit-turns x r w.turns (bits e) k (sym (to_z-of_z w128 x h) ∙ w.differ) l) ∙ b k (omega (arith, bits-small e));
    })

-- ---- the number of given bits
small_step : (b : Bool) (n w : ℕ) → w < 2 ^ n → (if b then 2 ^ n else 0) + w < 2 ^ suc n
small_step true n w h = omega arith
small_step false n w h = omega arith

with_bits-small : (n : ℕ) (f : ℕ → Bool) → with_bits n f < 2 ^ n
unfolding with_bits
with_bits-small zero f = omega arith
with_bits-small (suc n) f = small_step (f n) n (with_bits n f) (with_bits-small n f)

below_top : (q n w k : ℕ) → k < n → nat_eq (bit_at (q * 2 ^ n + w) k) 1 ≡ nat_eq (bit_at w k) 1
below_top q n w k h = ap (λ (x : ℕ). nat_eq x 1) (bit_at_cat_low q n w k h)

at_top : (q n w k : ℕ) → w < 2 ^ n → k ≡ n → bit_at (q * 2 ^ n + w) k ≡ q % 2
at_top q n w k h e =
    let none : k - n ≡ 0 = omega arith in
    bit_at_cat_high q n w k h (omega arith) ∙ ap (bit_at q) none ∙ bit_at_lowest q

bit_step : (b wanted : Bool) (n w k : ℕ) → w < 2 ^ n → k < suc n → (k < n → nat_eq (bit_at w k) 1 ≡ wanted) → (k ≡ n → b ≡ wanted)
    → nat_eq (bit_at ((if b then 2 ^ n else 0) + w) k) 1 ≡ wanted
bit_step true wanted n w k h l low top =
    let sum : 2 ^ n + w ≡ 1 * 2 ^ n + w = omega arith in
    ap (λ (x : ℕ). nat_eq (bit_at x k) 1) sum
    ∙ ⊎_elim (λ less. below_top 1 n w k less ∙ low less) (λ more.
    let same : k ≡ n = omega arith in
    ap (λ (x : ℕ). nat_eq x 1) (at_top 1 n w k h same) ∙ top same) (cases_lt k n)
bit_step false wanted n w k h l low top =
    let sum : 0 + w ≡ 0 * 2 ^ n + w = omega arith in
    ap (λ (x : ℕ). nat_eq (bit_at x k) 1) sum
    ∙ ⊎_elim (λ less. below_top 0 n w k less ∙ low less) (λ more.
    let same : k ≡ n = omega arith in
    ap (λ (x : ℕ). nat_eq x 1) (at_top 0 n w k h same) ∙ top same) (cases_lt k n)

-- its bits
pub bit_at-with_bits : (n : ℕ) (f : ℕ → Bool) (k : ℕ) → k < n → nat_eq (bit_at (with_bits n f) k) 1 ≡ f k
unfolding with_bits
bit_at-with_bits zero f k l = absurd (omega arith)
bit_at-with_bits (suc n) f k l =
    bit_step (f n) (f k) n (with_bits n f) k (with_bits-small n f) l (bit_at-with_bits n f k) (λ e. ap f (sym e))

-- ---- the value of given bits
-- a number below n that is turns away
record Low (r : ℤ) (n : ℕ) : Type 0 where
  number : ℕ
  small : number < n
  turns : ℤ
  apart : pos number ≡ r +ℤ turns *ℤ pos n

low : (r : ℤ) (n : ℕ) → 0 < n → Low r n
low (pos a) n h = by (a / n) refl
  where
    by : (q : ℕ) → a / n ≡ q → Low (pos a) n
    by zero e = record { number = a % n; small = mod-lt a h; turns = pos 0; apart = let p = ap (λ (q : ℕ). q * n) e in omega (arith, ints, div-add-mod' a n) }
    by (suc q) e = record { number = a % n; small = mod-lt a h; turns = negsuc q; apart = let p = ap (λ (q : ℕ). q * n) e in omega (arith, ints, div-add-mod' a n) }
low (negsuc a) n h = record { number = n - 1 - a % n; small = omega (arith, mod-lt a h); turns = pos (suc (a / n)); apart = omega (arith, ints, div-add-mod' a n, mod-lt a h) }

-- and the other way
back : ℤ → ℤ
back (pos zero) = pos 0
back (pos (suc q)) = negsuc q
back (negsuc q) = pos (suc q)

turned_back : (x r t : ℤ) (n : ℕ) → x ≡ r +ℤ t *ℤ pos n → r ≡ x +ℤ back t *ℤ pos n
unfolding back
turned_back x r (pos zero) n e = omega (arith, ints)
turned_back x r (pos (suc q)) n e = omega (arith, ints)
turned_back x r (negsuc q) n e = omega (arith, ints)

same_ones : (x y : ℕ) → x < 2 → y < 2 → nat_eq x 1 ≡ nat_eq y 1 → x ≡ y
same_ones zero zero h l e = refl
same_ones zero (suc zero) h l e = absurd cc
same_ones (suc zero) zero h l e = absurd cc
same_ones (suc zero) (suc zero) h l e = refl
same_ones x (suc (suc y)) h l e = absurd (omega arith)
same_ones (suc (suc x)) y h l e = absurd (omega arith)

-- two values of a kind with the same bits are the same
pub HasBits-unique : (e : Elem) (f : ℕ → Bool) (r s : ℤ) → HasBits e f r → HasBits e f s → r ≡ s
HasBits-unique e f r s x y =
    let n = 2 ^ bits e in
    let a = low r n (pow_pos (bits e)) in
    let b = low s n (pow_pos (bits e)) in
    let bits_of_a : (k : ℕ) → k < bits e → nat_eq (bit_at a.number k) 1 ≡ f k = λ k l. bit-turns (pos a.number) r a.turns (bits e) k a.apart l ∙ x.bits-are k l in
    let bits_of_b : (k : ℕ) → k < bits e → nat_eq (bit_at b.number k) 1 ≡ f k = λ k l. bit-turns (pos b.number) s b.turns (bits e) k b.apart l ∙ y.bits-are k l in
    let same = same_from_bits_below (bits e) a.number b.number a.small b.small
    (λ k l. same_ones (bit_at a.number k) (bit_at b.number k) (bit_at-lt a.number k) (bit_at-lt b.number k) (bits_of_a k l ∙ sym (bits_of_b k l))) in
    let of_a : Wraps e (pos a.number) r = record { fits = x.fits; turns = a.turns; differ = a.apart } in
    let of_b : Wraps e (pos b.number) s = record { fits = y.fits; turns = b.turns; differ = b.apart } in
    Wraps-unique e (pos a.number) r s of_a (subst (λ (m : ℕ). Wraps e (pos m) s) (sym same) of_b)

-- the value of given bits has them
pub value_of_bits-has : (e : Elem) (f : ℕ → Bool) → HasBits e f (value_of_bits e f)
value_of_bits-has e f =
    let x = pos (with_bits (bits e) f) in
    let w = wrapped-wraps e x in
    record {
      fits = w.fits;
      bits-are = λ k l. sym (bit-turns x (wrapped e x) w.turns (bits e) k w.differ l) ∙ bit_at-with_bits (bits e) f k l;
    }

pub value_of_bits-is : (e : Elem) (f : ℕ → Bool) (r : ℤ) → HasBits e f r → r ≡ value_of_bits e f
value_of_bits-is e f r h = HasBits-unique e f r (value_of_bits e f) h (value_of_bits-has e f)
