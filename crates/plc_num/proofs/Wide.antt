-- Numbers of any size and their wrapped ones: whole turns change no sum, difference, product or bit.
use Rattle.std.proofs.Common.{◌≡◌, ◌≢◌, ℕ, ℤ, zero, suc, pos, negsuc, ◌+◌, ◌*◌, ◌/◌, ◌-◌, ◌^◌, ◌<◌, ◌≤◌, Bool, not, ◌&&◌, ◌||◌, refl, sym, ap, ◌∙◌, arith, div-one}
use Rattle.std.specs.Prelude.{◌+ℤ◌, ◌-ℤ◌, neg_ℤ, int_div, unsigned_abs, FitsSigned}
use Rattle.std.specs.Int.{w128, cast_signed as to_z, cast_unsigned as of_z}
use Rattle.std.proofs.lemmas.Int.{ints, to_z-of_z, quot_is, fits_signed_from_abs}
use Rattle.std.proofs.Math.Facts.{to_z-neg}
use Rattle.std.proofs.Math.Nat.{div-le_of_le-mul}
use Rattle.st_types.specs.declared.elem.Elem.{Elem}
use Rattle.st_types.specs.Elem.{bits}
use Rattle.plc_num.specs.Arithmetic.{sum, difference, quotient, rest}
use Rattle.plc_num.specs.Bits.{bit, exclusive_or, value_of_bits, conjunction, disjunction, exclusive_disjunction, complement}
use Rattle.plc_num.specs.Wrapping.{wrapped}
use Rattle.plc_num.proofs.BitLaws.{bit-turns, value_of_bits-has, value_of_bits-is}
use Rattle.plc_num.proofs.WrappingLaws.{Apart, wrapped-wraps, wrapped-apart, apart_by}
use Rattle.plc_num.proofs.OperationLaws.{quotient_toward_zero}

-- ---- sums, differences, products

sum_apart : (n : ℕ) (a b r s : ℤ) → Apart n a r → Apart n b s → Apart n (a +ℤ b) (r +ℤ s)
sum_apart n a b r s x y =
    let p = x.same in
    let q = y.same in
    record { ups = x.ups + y.ups; downs = x.downs + y.downs; same = omega (arith, ints) }

difference_apart : (n : ℕ) (a b r s : ℤ) → Apart n a r → Apart n b s → Apart n (a -ℤ b) (r -ℤ s)
difference_apart n a b r s x y =
    let p = x.same in
    let q = y.same in
    record { ups = x.ups + y.downs; downs = x.downs + y.ups; same = omega (arith, ints) }

from_wrapped : (e : Elem) (a : ℤ) → Apart (2 ^ bits e) a (wrapped e a)
from_wrapped e a = let w = wrapped-wraps e a in apart_by (2 ^ bits e) a (wrapped e a) w.turns w.differ

pub sum_wide : (e : Elem) (a b : ℤ) → sum e (wrapped e a) (wrapped e b) ≡ sum e a b
sum_wide e a b = sym (wrapped-apart e (a +ℤ b) (wrapped e a +ℤ wrapped e b) (sum_apart (2 ^ bits e) a b (wrapped e a) (wrapped e b) (from_wrapped e a) (from_wrapped e b)))

pub difference_wide : (e : Elem) (a b : ℤ) → difference e (wrapped e a) (wrapped e b) ≡ difference e a b
difference_wide e a b = sym (wrapped-apart e (a -ℤ b) (wrapped e a -ℤ wrapped e b) (difference_apart (2 ^ bits e) a b (wrapped e a) (wrapped e b) (from_wrapped e a) (from_wrapped e b)))

-- ---- bits

same_bits : (e : Elem) (a : ℤ) (k : ℕ) → k < bits e → bit (wrapped e a) k ≡ bit a k
same_bits e a k l = let w = wrapped-wraps e a in sym (bit-turns a (wrapped e a) w.turns (bits e) k w.differ l)

by_bits : (e : Elem) (f g : ℕ → Bool) → ((k : ℕ) → k < bits e → f k ≡ g k) → value_of_bits e f ≡ value_of_bits e g
by_bits e f g h =
    let has = value_of_bits-has e f in
    value_of_bits-is e g (value_of_bits e f) (record { fits = has.fits; bits-are = λ k l. has.bits-are k l ∙ h k l })

module _ (e : Elem) (a b : ℤ) where
  pub conjunction_wide : conjunction e (wrapped e a) (wrapped e b) ≡ conjunction e a b
  conjunction_wide = by_bits e _ _ (λ k l. (λ i. same_bits e a k l i && same_bits e b k l i))

  pub disjunction_wide : disjunction e (wrapped e a) (wrapped e b) ≡ disjunction e a b
  disjunction_wide = by_bits e _ _ (λ k l. (λ i. same_bits e a k l i || same_bits e b k l i))

  pub exclusive_wide : exclusive_disjunction e (wrapped e a) (wrapped e b) ≡ exclusive_disjunction e a b
  exclusive_wide = by_bits e _ _ (λ k l. (λ i. exclusive_or (same_bits e a k l i) (same_bits e b k l i)))

pub complement_wide : (e : Elem) (a : ℤ) → complement e (wrapped e a) ≡ complement e a
complement_wide e a = by_bits e _ _ (λ k l. ap not (same_bits e a k l))

-- ---- quotients

-- by 1 and -1
pub by_one : (a : ℤ) → int_div a (pos 1) ≡ a
by_one (pos n) = ap pos (div-one n)
by_one (negsuc n) = ap (λ m. neg_ℤ (pos m)) (div-one (suc n))

pub by_minus_one : (a : ℤ) → int_div a (negsuc 0) ≡ pos 0 -ℤ a
by_minus_one (pos n) = ap (λ m. neg_ℤ (pos m)) (div-one n) ∙ omega (arith, ints)
by_minus_one (negsuc n) = ap pos (div-one (suc n)) ∙ omega (arith, ints)

pub nothing_left : (a : ℤ) → rest a (negsuc 0) ≡ pos 0
nothing_left a = let h = by_minus_one a in omega (arith, ints)

-- ---- what the code's numbers are

module _ (e : Elem) (a b r : ℤ) (f : FitsSigned w128 a) (g : FitsSigned w128 b) (k : FitsSigned w128 r) (x y : ℤ) (h : x ≡ wrapped e (to_z w128 (of_z w128 a))) (i : y ≡ wrapped e (to_z w128 (of_z w128 b)))
    (m : FitsSigned w128 x) (n : FitsSigned w128 y) where
  pub operands_are : (o : Elem → ℤ → ℤ → ℤ) → o e (wrapped e a) (wrapped e b) ≡ o e a b → r ≡ o e (to_z w128 (of_z w128 x)) (to_z w128 (of_z w128 y)) → to_z w128 (of_z w128 r) ≡ o e a b
  operands_are o wide is =
      to_z-of_z w128 r k ∙ is ∙ (λ j. o e (to_z-of_z w128 x m j) (to_z-of_z w128 y n j)) ∙ (λ j. o e (h j) (i j)) ∙ (λ j. o e (wrapped e (to_z-of_z w128 a f j)) (wrapped e (to_z-of_z w128 b g j))) ∙ wide

pub operand_is : (e : Elem) (a r x : ℤ) → FitsSigned w128 a → FitsSigned w128 r → FitsSigned w128 x → x ≡ wrapped e (to_z w128 (of_z w128 a)) → (o : Elem → ℤ → ℤ) → o e (wrapped e a) ≡ o e a → r ≡ o e (to_z w128 (of_z w128 x)) → to_z w128 (of_z w128 r) ≡ o e a
operand_is e a r x f k m h o wide is = to_z-of_z w128 r k ∙ is ∙ ap (o e) (to_z-of_z w128 x m ∙ h ∙ ap (wrapped e) (to_z-of_z w128 a f)) ∙ wide

abs_most : (a : ℤ) → FitsSigned w128 a → unsigned_abs a ≤ 2 ^ 127
abs_most (pos n) f = omega (arith, f.sfits)
abs_most (negsuc n) f = omega (arith, f.sfits)

-- a divisor that is none of 0, 1 and -1
two_at_least : (b : ℤ) → b ≢ pos 0 → of_z w128 b ≢ 1 → of_z w128 b ≢ 2 ^ 128 - 1 → 2 ≤ unsigned_abs b
two_at_least (pos zero) z o m = absurd (z refl)
two_at_least (pos (suc zero)) z o m = absurd (o refl)
two_at_least (pos (suc (suc n))) z o m = omega arith
two_at_least (negsuc zero) z o m = absurd (m refl)
two_at_least (negsuc (suc n)) z o m = omega arith

half_at_most : (m k : ℕ) → m ≤ 2 ^ 127 → 2 ≤ k → m / k < 2 ^ 127
half_at_most m k h l = let q : m ≤ k * 2 ^ 126 = omega (arith, h, l) in let r = div-le_of_le-mul k q in omega (arith, r)

pub quotient_wide : (e : Elem) (a b r : ℤ) → FitsSigned w128 a → FitsSigned w128 b → FitsSigned w128 r → b ≢ pos 0 → of_z w128 b ≢ 1 → of_z w128 b ≢ 2 ^ 128 - 1
    → r ≡ wrapped e (to_z w128 (of_z w128 (int_div (to_z w128 (of_z w128 a)) (to_z w128 (of_z w128 b))))) → to_z w128 (of_z w128 r) ≡ quotient e a b
quotient_wide e a b r f g k z o m h =
    let q = quotient_toward_zero a b in
    let small = half_at_most (unsigned_abs a) (unsigned_abs b) (abs_most a f) (two_at_least b z o m) in
    to_z-of_z w128 r k ∙ h ∙ ap (wrapped e) (quot_is w128 a b f g (fits_signed_from_abs w128 (int_div a b) (omega (arith, q, small))))

pub minus_one : (b : ℤ) → FitsSigned w128 b → of_z w128 b ≡ 2 ^ 128 - 1 → b ≡ negsuc 0
minus_one b f e = sym (to_z-of_z w128 b f) ∙ ap (to_z w128) e ∙ to_z-neg w128 0 (omega arith)
