-- A number does not fall by further digits.
use Rattle.std.proofs.Common.{◌≡◌, ℕ, ◌+◌, ◌*◌, ◌<◌, ◌≤◌, Bool, true, false, List, [], ◌∷◌, length, drop, get_or, refl, sym, ◌∙◌, ap, add-one, drop-cons, arith, if◌then◌else◌}
use Rattle.std.specs.Prelude.{fold}
use Rattle.std.proofs.Math.Nat.{mul-le-mul_right}
use Rattle.std.proofs.Math.ListN.{drop_of_length-le}
use Rattle.st_tree.specs.Pieces.{is_underscore}
use Rattle.st_tree.specs.Number.{digit_value, with_digit}

pub with_digit-grows : (base n c : ℕ) → 1 ≤ base → n ≤ with_digit base n c
with_digit-grows base n c some = at (is_underscore c)
  where
    more : n ≤ base * n
    more = omega (arith, mul-le-mul_right n some)

    at : (b : Bool) → n ≤ (if b then n else base * n + digit_value c)
    at true = omega arith
    at false = omega (arith, more)

pub fold-grows : (base n : ℕ) (cs : List ℕ) → 1 ≤ base → n ≤ fold (with_digit base) n cs
fold-grows base n [] some = omega arith
fold-grows base n (c ∷ cs) some =
    let here = with_digit-grows base n c some in
    let later = fold-grows base (with_digit base n c) cs some in
    omega (arith, here, later)

-- at the end of the digits
pub fold-end : (base n v i : ℕ) (ds : List ℕ) → fold (with_digit base) n (drop i ds) ≡ v → length ds ≤ i → n ≡ v
fold-end base n v i ds e end = ap (fold (with_digit base) n) (sym (drop_of_length-le ds end)) ∙ e

-- a number that is too large stays so
pub fold-too_large : (base n v i most : ℕ) (ds : List ℕ) → 1 ≤ base → fold (with_digit base) n (drop i ds) ≡ v → i < length ds
    → (with_digit base n (get_or ds i 0) < most → ⊥) → v < most → ⊥
fold-too_large base n v i most ds some e within large small =
    let grown = fold-grows base (with_digit base n (get_or ds i 0)) (drop (i + 1) ds) some in
    let cons : drop i ds ≡ get_or ds i 0 ∷ drop (i + 1) ds = rw (add-one, drop-cons ds i 0) refl in
    let step : fold (with_digit base) (with_digit base n (get_or ds i 0)) (drop (i + 1) ds) ≡ v =
    ap (fold (with_digit base) n) (sym cons) ∙ e in
    large (omega (arith, grown, step))
