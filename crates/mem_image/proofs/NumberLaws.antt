-- Values of the kinds and the numbers that hold them in two's complement.
use Rattle.std.proofs.Common.{◌≡◌, ℕ, ℤ, pos, negsuc, suc, ◌+◌, ◌-◌, ◌%◌, ◌^◌, ◌<◌, ◌≤◌, false, List, [], ◌∷◌, inl, inr, refl, sym, ap, ◌∙◌, arith}
use Rattle.std.specs.Prelude.{slice_range}
use Rattle.std.specs.Int.{w8, w16, w32, w64, w128, cast_signed, cast_unsigned, int_rem_euclid, to_le_bytes}
use mir.Syntax.{Width}
use mir.Val.{SFits, hbits, bits as width_bits}
use Rattle.std.proofs.Math.Facts.{to_z-neg}
use Rattle.std.proofs.lemmas.Bool.{cases_lt}
use Rattle.std.proofs.lemmas.Int.{ints, to_z-of_z}
use Rattle.st_types.specs.declared.elem.Elem.{Elem}
use Rattle.st_types.specs.declared.elem.Elem.TheVariants as kind
use Rattle.st_types.specs.Elem.{bits, bytes, is_signed}
use Rattle.plc_num.specs.Wrapping.{wrapped}
use Rattle.mem_image.specs.Image.{low_first, value_at, bytes_of}

-- a number within the kind is its own value, where the kind has no sign
pub plain : (e : Elem) (n : ℕ) → is_signed e ≡ false → n < 2 ^ bits e → wrapped e (pos n) ≡ pos n
unfolding wrapped
plain kind.Bool n u h = omega (arith, ints)
plain kind.Usint n u h = omega (arith, ints)
plain kind.Uint n u h = omega (arith, ints)
plain kind.Udint n u h = omega (arith, ints)
plain kind.Ulint n u h = omega (arith, ints)
plain kind.Byte n u h = omega (arith, ints)
plain kind.Word n u h = omega (arith, ints)
plain kind.Dword n u h = omega (arith, ints)
plain kind.Lword n u h = omega (arith, ints)
plain kind.Time n u h = omega (arith, ints)
plain _ n u h = absurd cc

-- of any number a BOOL takes the lowest bit
pub lowest_bit : (n : ℕ) → wrapped kind.Bool (pos n) ≡ pos (n % 2)
unfolding wrapped
lowest_bit n = omega (arith, ints)

-- a number in the upper half stands for one below zero
above : (w : Width) (n : ℕ) → 2 ^ width_bits w ≡ 2 ^ hbits w + 2 ^ hbits w → 2 ^ hbits w ≤ n → n < 2 ^ width_bits w → cast_signed w n ≡ negsuc (2 ^ width_bits w - suc n)
above w n whole low high =
    let k = 2 ^ width_bits w - suc n in
    let back : n ≡ 2 ^ width_bits w - suc k = omega arith in
    ap (cast_signed w) back ∙ to_z-neg w k (omega arith)

-- a signed kind takes the upper half of the numbers for those below zero
pub signed_1 : (n : ℕ) → n < 2 ^ 8 → wrapped kind.Sint (pos n) ≡ cast_signed w8 n
unfolding wrapped
signed_1 n h = elim (cases_lt n (2 ^ 7)) [ inl low ↦ omega (arith, ints) | inr high ↦ omega (arith, ints, above w8 n refl high h) ]

pub signed_2 : (n : ℕ) → n < 2 ^ 16 → wrapped kind.Int (pos n) ≡ cast_signed w16 n
unfolding wrapped
signed_2 n h = elim (cases_lt n (2 ^ 15)) [ inl low ↦ omega (arith, ints) | inr high ↦ omega (arith, ints, above w16 n refl high h) ]

pub signed_4 : (n : ℕ) → n < 2 ^ 32 → wrapped kind.Dint (pos n) ≡ cast_signed w32 n
unfolding wrapped
signed_4 n h = elim (cases_lt n (2 ^ 31)) [ inl low ↦ omega (arith, ints) | inr high ↦ omega (arith, ints, above w32 n refl high h) ]

pub signed_8 : (n : ℕ) → n < 2 ^ 64 → wrapped kind.Lint (pos n) ≡ cast_signed w64 n
unfolding wrapped
signed_8 n h = elim (cases_lt n (2 ^ 63)) [ inl low ↦ omega (arith, ints) | inr high ↦ omega (arith, ints, above w64 n refl high h) ]

-- what a read answers, where n is the number of the bytes
pub read_plain : (e : Elem) (xs : List ℕ) (at k n : ℕ) → is_signed e ≡ false → k ≡ bytes e → n < 2 ^ bits e → n ≡ low_first (slice_range xs at (at + k)) → pos n ≡ value_at e xs at
unfolding value_at
read_plain e xs at k n u size h is = sym (plain e n u h) ∙ ap (λ m. wrapped e (pos m)) is ∙ ap (λ j. wrapped e (pos (low_first (slice_range xs at (at + j))))) size

pub read_bit : (xs : List ℕ) (at n : ℕ) → n ≡ low_first (slice_range xs at (at + 1)) → pos (n % 2) ≡ value_at kind.Bool xs at
unfolding value_at
read_bit xs at n is = sym (lowest_bit n) ∙ ap (λ m. wrapped kind.Bool (pos m)) is

pub read_signed_1 : (xs : List ℕ) (at n : ℕ) → n < 2 ^ 8 → n ≡ low_first (slice_range xs at (at + 1)) → cast_signed w8 n ≡ value_at kind.Sint xs at
unfolding value_at
read_signed_1 xs at n h is = sym (signed_1 n h) ∙ ap (λ m. wrapped kind.Sint (pos m)) is

pub read_signed_2 : (xs : List ℕ) (at n : ℕ) → n < 2 ^ 16 → n ≡ low_first (slice_range xs at (at + 2)) → cast_signed w16 n ≡ value_at kind.Int xs at
unfolding value_at
read_signed_2 xs at n h is = sym (signed_2 n h) ∙ ap (λ m. wrapped kind.Int (pos m)) is

pub read_signed_4 : (xs : List ℕ) (at n : ℕ) → n < 2 ^ 32 → n ≡ low_first (slice_range xs at (at + 4)) → cast_signed w32 n ≡ value_at kind.Dint xs at
unfolding value_at
read_signed_4 xs at n h is = sym (signed_4 n h) ∙ ap (λ m. wrapped kind.Dint (pos m)) is

pub read_signed_8 : (xs : List ℕ) (at n : ℕ) → n < 2 ^ 64 → n ≡ low_first (slice_range xs at (at + 8)) → cast_signed w64 n ≡ value_at kind.Lint xs at
unfolding value_at
read_signed_8 xs at n h is = sym (signed_8 n h) ∙ ap (λ m. wrapped kind.Lint (pos m)) is

-- a signed number cast to a wider one and back
pub widened : (w : Width) (z : ℤ) → SFits w z → SFits w128 z → cast_signed w128 (cast_unsigned w128 (cast_signed w (cast_unsigned w z))) ≡ z
widened w z f g = ap (λ x. cast_signed w128 (cast_unsigned w128 x)) (to_z-of_z w z f) ∙ to_z-of_z w128 z g

-- what a write puts there, where n is the rest of the value
pub write_1 : (e : Elem) (v : ℤ) (n : ℕ) → bytes e ≡ 1 → n < 2 ^ 8 → pos n ≡ int_rem_euclid v (pos (2 ^ 8)) → n ∷ [] ≡ bytes_of e v
unfolding bytes_of
write_1 e v n size h is = rw (size, ← is) (ap (λ b. b ∷ []) (let e : n ≡ n % 256 = omega arith in e))

pub write_2 : (e : Elem) (v : ℤ) (n : ℕ) → bytes e ≡ 2 → pos n ≡ int_rem_euclid v (pos (2 ^ 16)) → to_le_bytes w16 n ≡ bytes_of e v
unfolding bytes_of
write_2 e v n size is = rw (size, ← is) refl

pub write_4 : (e : Elem) (v : ℤ) (n : ℕ) → bytes e ≡ 4 → pos n ≡ int_rem_euclid v (pos (2 ^ 32)) → to_le_bytes w32 n ≡ bytes_of e v
unfolding bytes_of
write_4 e v n size is = rw (size, ← is) refl

pub write_8 : (e : Elem) (v : ℤ) (n : ℕ) → bytes e ≡ 8 → pos n ≡ int_rem_euclid v (pos (2 ^ 64)) → to_le_bytes w64 n ≡ bytes_of e v
unfolding bytes_of
write_8 e v n size is = rw (size, ← is) refl
