-- What the code's numbers of 128 bits are: a number that fits is itself.
use Rattle.std.proofs.Common.{◌≡◌, ◌^◌, ◌*◌, ◌-◌, ◌/◌, ◌≤◌, pos, negsuc, ℤ, zero, suc, true, false, refl, sym, ap, subst, ◌∙◌, ℕ, ◌<◌, pow_pos, ◌%◌, ⊎_elim, arith}
use Rattle.std.specs.Prelude.{◌+ℤ◌, ◌-ℤ◌, ◌*ℤ◌, ◌≤ℤ◌, ◌<ℤ◌, neg_ℤ, int_div, int_rem, unsigned_abs}
use Rattle.std.specs.Int.{w128, int_rem_euclid, int_wrap, int_wrapping_mul, cast_signed as to_z, cast_unsigned as of_z}
use Rattle.std.specs.Int.Signed.{le_z}
use Rattle.std.specs.Prelude.{FitsSigned}
use Rattle.std.proofs.lemmas.Int.{ints, to_z-of_z, fits_signed_from_abs, wrapping_mul_is, quot_is, rem_is, quot-rem}
use Rattle.std.proofs.Math.Nat.{div-le_self, mod-lt}
use Rattle.std.proofs.lemmas.Bool.{cases_lt}
use Rattle.std.proofs.Math.Facts.{to_z-neg}
use Rattle.st_types.specs.declared.elem.Elem.TheVariants as kind
use Rattle.st_types.specs.declared.elem.Elem.{Elem}
use Rattle.st_types.specs.Elem.{bits}
use Rattle.st_types.specs.Range.{Fits, highest}
use Rattle.plc_num.specs.Wrapping.{Wraps, wrapped}
use Rattle.plc_num.specs.Arithmetic.{rest}
use Rattle.plc_num.proofs.WrappingLaws.{Apart, apart_through, apart_coarser, wrapped-apart, whole_turns, rem_turns, Fits-wraps, rest-wraps, rest-down-wraps, rem_low}

pub kept_case : (e : Elem) (v : ℤ) → FitsSigned w128 v → Fits e (to_z w128 (of_z w128 v)) → Wraps e v (to_z w128 (of_z w128 v))
kept_case e v f h =
    let same = to_z-of_z w128 v f in
    subst (Wraps e v) (sym same) (Fits-wraps e v (subst (Fits e) same h))

pub rest_is : (e : Elem) (v rest count : ℤ) → FitsSigned w128 v → FitsSigned w128 count → rest ≡ int_rem_euclid (to_z w128 (of_z w128 v)) (to_z w128 (of_z w128 count))
    → count ≡ pos (2 ^ bits e) → rest ≡ int_rem_euclid v (pos (2 ^ bits e))
rest_is e v rest count f g r c = r ∙ (λ i. int_rem_euclid (to_z-of_z w128 v f i) ((to_z-of_z w128 count g ∙ c) i))

pub low_case : (e : Elem) (v rest high : ℤ) → FitsSigned w128 rest → FitsSigned w128 high → rest ≡ int_rem_euclid v (pos (2 ^ bits e)) → high ≡ highest e
    → le_z (to_z w128 (of_z w128 rest)) (to_z w128 (of_z w128 high)) ≡ true → Wraps e v (to_z w128 (of_z w128 rest))
low_case e v rest high f g r h t =
    let le : rest ≤ℤ high = omega (arith, ints) in
    let low = subst (λ (x : ℤ). x ≤ℤ highest e) r (subst (λ (x : ℤ). rest ≤ℤ x) h le) in
    subst (Wraps e v) (sym (to_z-of_z w128 rest f ∙ r)) (rest-wraps e v low)

not_negative : (v : ℤ) (n : ℕ) (rest : ℤ) → 0 < n → rest ≡ int_rem_euclid v (pos n) → pos 0 ≤ℤ rest
not_negative v n rest h r = subst (λ (x : ℤ). pos 0 ≤ℤ x) (sym r) (rem_low v n h)

apart_fits : (a b : ℤ) → FitsSigned w128 a → FitsSigned w128 b → pos 0 ≤ℤ a → pos 0 ≤ℤ b → FitsSigned w128 (to_z w128 (of_z w128 a) -ℤ to_z w128 (of_z w128 b))
apart_fits a b f g p q = omega (arith, ints)

down_fits : (e : Elem) (v rest count : ℤ) → FitsSigned w128 rest → FitsSigned w128 count → rest ≡ int_rem_euclid v (pos (2 ^ bits e)) → count ≡ pos (2 ^ bits e)
    → FitsSigned w128 (to_z w128 (of_z w128 rest) -ℤ to_z w128 (of_z w128 count))
down_fits e v rest count f k r c =
    let positive : pos 0 ≤ℤ count = omega (arith, ints) in
    apart_fits rest count f k (not_negative v (2 ^ bits e) rest (pow_pos (bits e)) r) positive

pub high_case : (e : Elem) (v rest high count : ℤ) → FitsSigned w128 rest → FitsSigned w128 high → FitsSigned w128 count
    → rest ≡ int_rem_euclid v (pos (2 ^ bits e)) → high ≡ highest e → count ≡ pos (2 ^ bits e)
    → le_z (to_z w128 (of_z w128 rest)) (to_z w128 (of_z w128 high)) ≡ false
    → Wraps e v (to_z w128 (of_z w128 (to_z w128 (of_z w128 rest) -ℤ to_z w128 (of_z w128 count))))
high_case e v rest high count f g k r h c t =
    let d = down_fits e v rest count f k r c in
    let less : high <ℤ rest = omega (arith, ints) in
    let low = subst (λ (x : ℤ). highest e <ℤ x) r (subst (λ (x : ℤ). x <ℤ rest) h less) in
    let same : to_z w128 (of_z w128 rest) -ℤ to_z w128 (of_z w128 count) ≡ int_rem_euclid v (pos (2 ^ bits e)) -ℤ pos (2 ^ bits e) =
    λ i. (to_z-of_z w128 rest f ∙ r) i -ℤ (to_z-of_z w128 count k ∙ c) i in
    subst (Wraps e v) (sym (to_z-of_z w128 (to_z w128 (of_z w128 rest) -ℤ to_z w128 (of_z w128 count)) d ∙ same)) (rest-down-wraps e v low)

-- what a call answers for a number that fits, handed on
pub handed_on : (e : Elem) (v r : ℤ) → FitsSigned w128 v → FitsSigned w128 r → Wraps e (to_z w128 (of_z w128 v)) r → Wraps e v (to_z w128 (of_z w128 r))
handed_on e v r f g h =
    subst (Wraps e v) (sym (to_z-of_z w128 r g)) (subst (λ (x : ℤ). Wraps e x r) (to_z-of_z w128 v f) h)

-- ---- what the operators give
-- the values of a kind lie within 64 bits
pub Fits-low : (e : Elem) (v : ℤ) → Fits e v → negsuc (2 ^ 63 - 1) ≤ℤ v
Fits-low kind.Bool v h = omega (arith, ints, h.0)
Fits-low kind.Sint v h = omega (arith, ints, h.0)
Fits-low kind.Int v h = omega (arith, ints, h.0)
Fits-low kind.Dint v h = omega (arith, ints, h.0)
Fits-low kind.Lint v h = omega (arith, ints, h.0)
Fits-low kind.Usint v h = omega (arith, ints, h.0)
Fits-low kind.Uint v h = omega (arith, ints, h.0)
Fits-low kind.Udint v h = omega (arith, ints, h.0)
Fits-low kind.Ulint v h = omega (arith, ints, h.0)
Fits-low kind.Byte v h = omega (arith, ints, h.0)
Fits-low kind.Word v h = omega (arith, ints, h.0)
Fits-low kind.Dword v h = omega (arith, ints, h.0)
Fits-low kind.Lword v h = omega (arith, ints, h.0)
Fits-low kind.Time v h = omega (arith, ints, h.0)

pub Fits-high : (e : Elem) (v : ℤ) → Fits e v → v ≤ℤ pos (2 ^ 64 - 1)
Fits-high kind.Bool v h = omega (arith, ints, h.1)
Fits-high kind.Sint v h = omega (arith, ints, h.1)
Fits-high kind.Int v h = omega (arith, ints, h.1)
Fits-high kind.Dint v h = omega (arith, ints, h.1)
Fits-high kind.Lint v h = omega (arith, ints, h.1)
Fits-high kind.Usint v h = omega (arith, ints, h.1)
Fits-high kind.Uint v h = omega (arith, ints, h.1)
Fits-high kind.Udint v h = omega (arith, ints, h.1)
Fits-high kind.Ulint v h = omega (arith, ints, h.1)
Fits-high kind.Byte v h = omega (arith, ints, h.1)
Fits-high kind.Word v h = omega (arith, ints, h.1)
Fits-high kind.Dword v h = omega (arith, ints, h.1)
Fits-high kind.Lword v h = omega (arith, ints, h.1)
Fits-high kind.Time v h = omega (arith, ints, h.1)

sum_fits : (a b : ℤ) → FitsSigned w128 a → FitsSigned w128 b → negsuc (2 ^ 63 - 1) ≤ℤ a → a ≤ℤ pos (2 ^ 64 - 1) → negsuc (2 ^ 63 - 1) ≤ℤ b → b ≤ℤ pos (2 ^ 64 - 1)
    → FitsSigned w128 (to_z w128 (of_z w128 a) +ℤ to_z w128 (of_z w128 b))
sum_fits a b f g al ah bl bh = omega (arith, ints)

difference_fits : (a b : ℤ) → FitsSigned w128 a → FitsSigned w128 b → negsuc (2 ^ 63 - 1) ≤ℤ a → a ≤ℤ pos (2 ^ 64 - 1) → negsuc (2 ^ 63 - 1) ≤ℤ b → b ≤ℤ pos (2 ^ 64 - 1)
    → FitsSigned w128 (to_z w128 (of_z w128 a) -ℤ to_z w128 (of_z w128 b))
difference_fits a b f g al ah bl bh = omega (arith, ints)

pub sum_is : (e : Elem) (a b r : ℤ) → FitsSigned w128 a → FitsSigned w128 b → FitsSigned w128 r → Fits e a → Fits e b
    → r ≡ wrapped e (to_z w128 (of_z w128 (to_z w128 (of_z w128 a) +ℤ to_z w128 (of_z w128 b)))) → to_z w128 (of_z w128 r) ≡ wrapped e (a +ℤ b)
sum_is e a b r f g k p q h =
    let fits = sum_fits a b f g (Fits-low e a p) (Fits-high e a p) (Fits-low e b q) (Fits-high e b q) in
    let plain : to_z w128 (of_z w128 a) +ℤ to_z w128 (of_z w128 b) ≡ a +ℤ b = λ i. to_z-of_z w128 a f i +ℤ to_z-of_z w128 b g i in
    to_z-of_z w128 r k ∙ h ∙ ap (wrapped e) (to_z-of_z w128 (to_z w128 (of_z w128 a) +ℤ to_z w128 (of_z w128 b)) fits ∙ plain)

pub difference_is : (e : Elem) (a b r : ℤ) → FitsSigned w128 a → FitsSigned w128 b → FitsSigned w128 r → Fits e a → Fits e b
    → r ≡ wrapped e (to_z w128 (of_z w128 (to_z w128 (of_z w128 a) -ℤ to_z w128 (of_z w128 b)))) → to_z w128 (of_z w128 r) ≡ wrapped e (a -ℤ b)
difference_is e a b r f g k p q h =
    let fits = difference_fits a b f g (Fits-low e a p) (Fits-high e a p) (Fits-low e b q) (Fits-high e b q) in
    let plain : to_z w128 (of_z w128 a) -ℤ to_z w128 (of_z w128 b) ≡ a -ℤ b = λ i. to_z-of_z w128 a f i -ℤ to_z-of_z w128 b g i in
    to_z-of_z w128 r k ∙ h ∙ ap (wrapped e) (to_z-of_z w128 (to_z w128 (of_z w128 a) -ℤ to_z w128 (of_z w128 b)) fits ∙ plain)

-- a quotient is no greater than its dividend
pub abs_neg : (n : ℕ) → unsigned_abs (neg_ℤ (pos n)) ≡ n
abs_neg zero = refl
abs_neg (suc n) = refl

quotient_abs : (a d : ℤ) → unsigned_abs (int_div a d) ≤ unsigned_abs a
quotient_abs (pos a) (pos b) = div-le_self a b
quotient_abs (pos a) (negsuc b) = omega (arith, abs_neg (a / suc b), div-le_self a (suc b))
quotient_abs (negsuc a) (pos b) = omega (arith, abs_neg (suc a / b), div-le_self (suc a) b)
quotient_abs (negsuc a) (negsuc b) = div-le_self (suc a) (suc b)

abs_small : (a : ℤ) → negsuc (2 ^ 63 - 1) ≤ℤ a → a ≤ℤ pos (2 ^ 64 - 1) → unsigned_abs a < 2 ^ 127
abs_small (pos n) l h = omega (arith, ints)
abs_small (negsuc n) l h = omega (arith, ints)

quotient_fits : (e : Elem) (a d : ℤ) → Fits e a → FitsSigned w128 (int_div a d)
quotient_fits e a d p =
    fits_signed_from_abs w128 (int_div a d) (omega (arith, quotient_abs a d, abs_small a (Fits-low e a p) (Fits-high e a p)))

pub quotient_is : (e : Elem) (a b r : ℤ) → FitsSigned w128 a → FitsSigned w128 b → FitsSigned w128 r → Fits e a
    → r ≡ wrapped e (to_z w128 (of_z w128 (int_div (to_z w128 (of_z w128 a)) (to_z w128 (of_z w128 b))))) → to_z w128 (of_z w128 r) ≡ wrapped e (int_div a b)
quotient_is e a b r f g k p h = to_z-of_z w128 r k ∙ h ∙ ap (wrapped e) (quot_is w128 a b f g (quotient_fits e a b p))

pub rest_of : (a b : ℤ) → int_rem a b ≡ rest a b
rest_of a b = let e = quot-rem a b in omega (arith, ints)

pub remainder_is : (e : Elem) (a b r : ℤ) → FitsSigned w128 a → FitsSigned w128 b → FitsSigned w128 r
    → r ≡ wrapped e (to_z w128 (of_z w128 (int_rem (to_z w128 (of_z w128 a)) (to_z w128 (of_z w128 b))))) → to_z w128 (of_z w128 r) ≡ wrapped e (rest a b)
remainder_is e a b r f g k h = to_z-of_z w128 r k ∙ h ∙ ap (wrapped e) (rem_is w128 a b f g ∙ rest_of a b)

-- ---- a product that wrapped at 128 bits
below : (m k : ℕ) → 2 ^ 128 - suc k ≡ m → k < 2 ^ 127 → negsuc k +ℤ pos (1 * 2 ^ 128) ≡ pos m +ℤ pos (0 * 2 ^ 128)
below m k e h = omega (arith, ints)

read_apart : (m : ℕ) → m < 2 ^ 128 → Apart (2 ^ 128) (to_z w128 m) (pos m)
read_apart m h =
    ⊎_elim
    (λ low. record { ups = 0; downs = 0; same = omega (arith, ints) })
    (λ high.
    let k = 2 ^ 128 - suc m in
    let whole : 2 ^ 128 - suc k ≡ m = omega arith in
    let small : k < 2 ^ 127 = omega arith in
    let negative : to_z w128 m ≡ negsuc k = ap (to_z w128) (sym whole) ∙ to_z-neg w128 k small in
    record { ups = 1; downs = 0; same = subst (λ (x : ℤ). x +ℤ pos (1 * 2 ^ 128) ≡ pos m +ℤ pos (0 * 2 ^ 128)) (sym negative) (below m k whole small) })
    (cases_lt m (2 ^ 127))

back_apart : (m : ℕ) (z q : ℤ) → z ≡ pos m +ℤ q *ℤ pos (2 ^ 128) → Apart (2 ^ 128) (pos m) z
back_apart m z (pos q) e = record { ups = q; downs = 0; same = omega (arith, ints) }
back_apart m z (negsuc q) e = record { ups = 0; downs = suc q; same = omega (arith, ints) }

signed_apart : (m : ℕ) (z q : ℤ) → m < 2 ^ 128 → z ≡ pos m +ℤ q *ℤ pos (2 ^ 128) → Apart (2 ^ 128) (to_z w128 m) z
signed_apart m z q h e = apart_through (2 ^ 128) (to_z w128 m) (pos m) z (read_apart m h) (back_apart m z q e)

int_wrap-apart : (z : ℤ) → Apart (2 ^ 128) (int_wrap w128 z) z
unfolding int_wrap
int_wrap-apart (pos a) =
    let turning = rem_turns (pos a) (2 ^ 128) (pow_pos 128) in
    signed_apart (a % 2 ^ 128) (pos a) turning.0 (mod-lt a (pow_pos 128)) turning.1
int_wrap-apart (negsuc a) =
    let turning = rem_turns (negsuc a) (2 ^ 128) (pow_pos 128) in
    let small = mod-lt a (pow_pos 128) in
    signed_apart (2 ^ 128 - 1 - a % 2 ^ 128) (negsuc a) turning.0 (omega arith) turning.1

wrapped-int_wrap : (e : Elem) (z : ℤ) → wrapped e (int_wrap w128 z) ≡ wrapped e z
wrapped-int_wrap e z =
    wrapped-apart e (int_wrap w128 z) z
    (apart_coarser (2 ^ (128 - bits e)) (2 ^ bits e) (int_wrap w128 z) z (subst (λ (n : ℕ). Apart n (int_wrap w128 z) z) (whole_turns e) (int_wrap-apart z)))

pub product_is : (e : Elem) (a b r : ℤ) → FitsSigned w128 a → FitsSigned w128 b → FitsSigned w128 r
    → r ≡ wrapped e (int_wrapping_mul w128 a b) → to_z w128 (of_z w128 r) ≡ wrapped e (a *ℤ b)
product_is e a b r f g k h = to_z-of_z w128 r k ∙ h ∙ ap (wrapped e) (wrapping_mul_is w128 a b f g) ∙ wrapped-int_wrap e (a *ℤ b)
