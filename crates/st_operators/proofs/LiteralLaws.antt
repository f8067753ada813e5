-- Numbers of at most 64 bits, and beyond.
use Rattle.std.proofs.Common.{◌≡◌, ◌<◌, ◌^◌, ℕ, zero, suc, Bool, false, [], ap, arith, refl}
use Rattle.std.specs.Prelude.{pos, neg_ℤ, ◌&&◌, nat_le}
use Rattle.std.proofs.lemmas.Bool.{le-ltb, lt-leb}
use Rattle.plc_text.specs.declared.code.Code.TheVariants.{E13}
use Rattle.st_types.specs.declared.elem.Elem.{Elem}
use Rattle.st_types.specs.declared.elem.Elem.TheVariants as kind
use Rattle.st_rules.specs.Faults.{when}
use Rattle.st_rules.specs.Literals.{past_64_bits, holds}

pub within_64_bits : (line n : ℕ) → n < 2 ^ 64 → past_64_bits line n ≡ []
within_64_bits line n h = ap (λ b. when b E13 line) (le-ltb 18_446_744_073_709_551_615 n (omega arith))

below : (m k : ℕ) (b : Bool) → k < m → (nat_le m k && b) ≡ false
below m k b h = ap (λ x. x && b) (lt-leb m k h)

-- a negative number past 64 bits fits no kind
pub past_negative : (e : Elem) (n : ℕ) → (n < 2 ^ 64 → ⊥) → holds e (neg_ℤ (pos n)) ≡ false
past_negative e zero h = absurd (h (omega arith))
past_negative kind.Bool (suc m) h = refl
past_negative kind.Sint (suc m) h = below m 127 _ (let g : (suc m < 2 ^ 64 → ⊥) = h in omega arith)
past_negative kind.Int (suc m) h = below m 32_767 _ (let g : (suc m < 2 ^ 64 → ⊥) = h in omega arith)
past_negative kind.Dint (suc m) h = below m 2_147_483_647 _ (let g : (suc m < 2 ^ 64 → ⊥) = h in omega arith)
past_negative kind.Lint (suc m) h = below m 9_223_372_036_854_775_807 _ (let g : (suc m < 2 ^ 64 → ⊥) = h in omega arith)
past_negative kind.Usint (suc m) h = refl
past_negative kind.Uint (suc m) h = refl
past_negative kind.Udint (suc m) h = refl
past_negative kind.Ulint (suc m) h = refl
past_negative kind.Byte (suc m) h = refl
past_negative kind.Word (suc m) h = refl
past_negative kind.Dword (suc m) h = refl
past_negative kind.Lword (suc m) h = refl
past_negative kind.Time (suc m) h = refl
