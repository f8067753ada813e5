-- Laws of division and of the operations on bits.
use Rattle.std.proofs.Common.{◌≡◌, ◌≢◌, ℕ, ℤ, zero, suc, pos, negsuc, ◌/◌, ◌<◌, Bool, true, false, not, ◌&&◌, ◌||◌, refl, sym, ap, subst, ◌∙◌, arith}
use Rattle.std.specs.Prelude.{◌+ℤ◌, ◌*ℤ◌, ◌≤ℤ◌, neg_ℤ, int_div, int_rem, unsigned_abs}
use Rattle.std.proofs.lemmas.Int.{ints, rem_below}
use Rattle.std.proofs.Math.Nat.{zero-mod}
use Rattle.st_types.specs.declared.elem.Elem.{Elem}
use Rattle.st_types.specs.Elem.{bits}
use Rattle.plc_num.specs.Arithmetic.{rest}
use Rattle.plc_num.specs.Bits.{bit, value_of_bits, conjunction, disjunction, complement}
use Rattle.plc_num.proofs.Machine.{abs_neg, rest_of}
use Rattle.plc_num.proofs.BitLaws.{HasBits-unique, value_of_bits-has}

pub quotient-rest : (a b : ℤ) → (int_div a b *ℤ b) +ℤ rest a b ≡ a
quotient-rest a b = omega (arith, ints)

pub quotient_toward_zero : (a b : ℤ) → unsigned_abs (int_div a b) ≡ unsigned_abs a / unsigned_abs b
quotient_toward_zero (pos a) (pos b) = refl
quotient_toward_zero (pos a) (negsuc b) = abs_neg (a / suc b)
quotient_toward_zero (negsuc a) (pos b) = abs_neg (suc a / b)
quotient_toward_zero (negsuc a) (negsuc b) = refl

not_zero : (b : ℤ) → b ≢ pos 0 → 0 < unsigned_abs b
not_zero (pos zero) h = absurd (h refl)
not_zero (pos (suc n)) h = omega arith
not_zero (negsuc n) h = omega arith

pub rest_smaller : (a b : ℤ) → b ≢ pos 0 → unsigned_abs (rest a b) < unsigned_abs b
rest_smaller a b h = subst (λ (x : ℤ). unsigned_abs x < unsigned_abs b) (rest_of a b) (rem_below a b (not_zero b h))

negative_zero : (n : ℕ) → neg_ℤ (pos n) ≤ℤ pos 0
negative_zero zero = record { le = tt }
negative_zero (suc n) = record { le = tt }

rem_positive : (a b : ℤ) → pos 0 ≤ℤ a → pos 0 ≤ℤ int_rem a b
rem_positive (pos a) b h = omega (arith, ints)
rem_positive (negsuc a) b h = absurd h.le

rem_negative : (a b : ℤ) → a ≤ℤ pos 0 → int_rem a b ≤ℤ pos 0
rem_negative (pos zero) b h = omega (arith, ints, zero-mod (unsigned_abs b))
rem_negative (pos (suc a)) b h = absurd (omega (arith, ints))
rem_negative (negsuc a) b h = negative_zero _

pub rest_positive : (a b : ℤ) → pos 0 ≤ℤ a → pos 0 ≤ℤ rest a b
rest_positive a b h = subst (λ (x : ℤ). pos 0 ≤ℤ x) (rest_of a b) (rem_positive a b h)

pub rest_negative : (a b : ℤ) → a ≤ℤ pos 0 → rest a b ≤ℤ pos 0
rest_negative a b h = subst (λ (x : ℤ). x ≤ℤ pos 0) (rest_of a b) (rem_negative a b h)

not_and : (a b : Bool) → not (a && b) ≡ (not a || not b)
not_and true b = refl
not_and false b = refl

not_or : (a b : Bool) → not (a || b) ≡ (not a && not b)
not_or true b = refl
not_or false b = refl

-- the value of bits that are the same
same_bits : (e : Elem) (f g : ℕ → Bool) → ((k : ℕ) → k < bits e → f k ≡ g k) → value_of_bits e f ≡ value_of_bits e g
same_bits e f g h =
    let has = value_of_bits-has e f in
    HasBits-unique e g (value_of_bits e f) (value_of_bits e g)
    (record { fits = has.fits; bits-are = λ k l. has.bits-are k l ∙ h k l })
    (value_of_bits-has e g)

pub complement-conjunction : (e : Elem) (a b : ℤ) → complement e (conjunction e a b) ≡ disjunction e (complement e a) (complement e b)
complement-conjunction e a b =
    same_bits e (λ k. not (bit (conjunction e a b) k)) (λ k. bit (complement e a) k || bit (complement e b) k)
    (λ k l. ap not ((value_of_bits-has e (λ k. bit a k && bit b k)).bits-are k l) ∙ not_and (bit a k) (bit b k)
    ∙ (λ i. sym ((value_of_bits-has e (λ k. not (bit a k))).bits-are k l) i || sym ((value_of_bits-has e (λ k. not (bit b k))).bits-are k l) i))

pub complement-disjunction : (e : Elem) (a b : ℤ) → complement e (disjunction e a b) ≡ conjunction e (complement e a) (complement e b)
complement-disjunction e a b =
    same_bits e (λ k. not (bit (disjunction e a b) k)) (λ k. bit (complement e a) k && bit (complement e b) k)
    (λ k l. ap not ((value_of_bits-has e (λ k. bit a k || bit b k)).bits-are k l) ∙ not_or (bit a k) (bit b k)
    ∙ (λ i. sym ((value_of_bits-has e (λ k. not (bit a k))).bits-are k l) i && sym ((value_of_bits-has e (λ k. not (bit b k))).bits-are k l) i))
