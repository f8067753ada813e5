-- Wrapping gives one value of the kind, and no other.
use Rattle.std.proofs.Common.{◌≡◌, ℕ, ℤ, zero, suc, pos, negsuc, ◌+◌, ◌-◌, ◌*◌, ◌/◌, ◌^◌, ◌<◌, ◌≤◌, refl, sym, ap, subst, ◌∙◌, ⊎_elim, pow_pos, mul_assoc, arith}
use Rattle.std.specs.Prelude.{◌+ℤ◌, ◌-ℤ◌, ◌*ℤ◌, ◌≤ℤ◌, ◌<ℤ◌}
use Rattle.std.specs.Int.{int_rem_euclid}
use Rattle.std.proofs.lemmas.Int.{ints, by_lt_z}
use Rattle.std.proofs.Math.Nat.{mod-lt, div-add-mod', mul-le-mul_right}
use Rattle.std.proofs.lemmas.Bool.{cases_lt}
use Rattle.st_types.specs.declared.elem.Elem.{Elem}
use Rattle.st_types.specs.declared.elem.Elem.TheVariants as kind
use Rattle.st_types.specs.Elem.{bits}
use Rattle.st_types.specs.Range.{Fits, lowest, highest}
use Rattle.plc_num.specs.Wrapping.{Wraps, wrapped}

-- z is its remainder and a number of times n
pub rem_turns : (z : ℤ) (n : ℕ) → 0 < n → (q : ℤ) × (z ≡ int_rem_euclid z (pos n) +ℤ q *ℤ pos n)
rem_turns (pos a) n h = (pos (a / n), omega (arith, ints, div-add-mod' a n))
rem_turns (negsuc a) n h = (negsuc (a / n), omega (arith, ints, div-add-mod' a n, mod-lt a h))

-- the remainder lies from 0 to below n
pub rem_low : (z : ℤ) (n : ℕ) → 0 < n → pos 0 ≤ℤ int_rem_euclid z (pos n)
rem_low (pos a) n h = omega (arith, ints)
rem_low (negsuc a) n h = omega (arith, ints)

pub rem_high : (z : ℤ) (n : ℕ) → 0 < n → int_rem_euclid z (pos n) ≤ℤ pos (n - 1)
rem_high (pos a) n h = omega (arith, ints, mod-lt a h)
rem_high (negsuc a) n h = omega (arith, ints, mod-lt a h)

-- the values of a kind are as many as two to its width
pub span : (e : Elem) → highest e ≡ lowest e +ℤ pos (2 ^ bits e - 1)
span kind.Bool = refl
span kind.Sint = refl
span kind.Int = refl
span kind.Dint = refl
span kind.Lint = refl
span kind.Usint = refl
span kind.Uint = refl
span kind.Udint = refl
span kind.Ulint = refl
span kind.Byte = refl
span kind.Word = refl
span kind.Dword = refl
span kind.Lword = refl
span kind.Time = refl

shifted : (low v r t : ℤ) → v -ℤ low ≡ r +ℤ t → v ≡ (low +ℤ r) +ℤ t
shifted low v r t e = omega (arith, ints)

not_below : (low r : ℤ) → pos 0 ≤ℤ r → low ≤ℤ (low +ℤ r)
not_below low r h = omega (arith, ints)

not_above : (low r : ℤ) (n : ℕ) → r ≤ℤ pos n → (low +ℤ r) ≤ℤ (low +ℤ pos n)
not_above low r n h = omega (arith, ints)

pub wrapped-wraps : (e : Elem) (v : ℤ) → Wraps e v (wrapped e v)
unfolding wrapped
wrapped-wraps e v =
    let z = v -ℤ lowest e in
    let n = 2 ^ bits e in
    let turning = rem_turns z n (pow_pos (bits e)) in
    record {
      fits = (
        not_below (lowest e) (int_rem_euclid z (pos n)) (rem_low z n (pow_pos (bits e))),
        subst (λ (high : ℤ). (lowest e +ℤ int_rem_euclid z (pos n)) ≤ℤ high) (sym (span e)) (not_above (lowest e) (int_rem_euclid z (pos n)) (n - 1) (rem_high z n (pow_pos (bits e)))),
      );
      turns = turning.0;
      differ = shifted (lowest e) v (int_rem_euclid z (pos n)) (turning.0 *ℤ pos n) turning.1;
    }

-- a further turn is n more
turn_more : (p q : ℤ) (n : ℕ) → q <ℤ p → (q *ℤ pos n +ℤ pos n) ≤ℤ (p *ℤ pos n)
turn_more (pos p) (pos q) n h = let more : suc q ≤ p = omega (arith, ints) in omega (arith, ints, mul-le-mul_right n more)
turn_more (pos p) (negsuc q) n h = omega (arith, ints)
turn_more (negsuc p) (pos q) n h = absurd h.lt
turn_more (negsuc p) (negsuc q) n h = let more : suc p ≤ q = omega (arith, ints) in omega (arith, ints, mul-le-mul_right n more)

-- of two numbers less than n apart that differ by turns, one is the other
same_turn : (p q low r s : ℤ) (n : ℕ) → r +ℤ q *ℤ pos n ≡ s +ℤ p *ℤ pos n → low ≤ℤ r → r ≤ℤ (low +ℤ pos (n - 1)) → low ≤ℤ s → s ≤ℤ (low +ℤ pos (n - 1)) → 0 < n → r ≡ s
same_turn p q low r s n e r_low r_high s_low s_high h =
    by_lt_z q p
    (λ less. let more = turn_more p q n less in absurd (omega (arith, ints)))
    (λ le. by_lt_z p q
    (λ less. let more = turn_more q p n less in absurd (omega (arith, ints)))
    (λ ge.
    let both : p ≡ q = omega (arith, ints) in
    let same = ap (λ (x : ℤ). x *ℤ pos n) both in
    omega (arith, ints)))

-- two values of a kind that differ from one number by turns are the same
pub Wraps-unique : (e : Elem) (v r s : ℤ) → Wraps e v r → Wraps e v s → r ≡ s
Wraps-unique e v r s x y =
    let r_high = subst (λ (high : ℤ). r ≤ℤ high) (span e) x.fits.1 in
    let s_high = subst (λ (high : ℤ). s ≤ℤ high) (span e) y.fits.1 in
    same_turn y.turns x.turns (lowest e) r s (2 ^ bits e) (sym x.differ ∙ y.differ) x.fits.0 r_high y.fits.0 s_high (pow_pos (bits e))

-- what wraps is the value
pub wrapped-is : (e : Elem) (v r : ℤ) → Wraps e v r → r ≡ wrapped e v
wrapped-is e v r h = Wraps-unique e v r (wrapped e v) h (wrapped-wraps e v)

no_turn : (v n : ℤ) → v ≡ v +ℤ pos 0 *ℤ n
no_turn v n = omega (arith, ints)

-- a value of the kind wraps to itself
pub Fits-wraps : (e : Elem) (v : ℤ) → Fits e v → Wraps e v v
Fits-wraps e v h = record { fits = h; turns = pos 0; differ = no_turn v (pos (2 ^ bits e)) }

pub wrapped-fits : (e : Elem) (v : ℤ) → Fits e v → wrapped e v ≡ v
wrapped-fits e v h = sym (wrapped-is e v v (Fits-wraps e v h))

-- and so what is wrapped wraps to itself
pub wrapped-again : (e : Elem) (v : ℤ) → wrapped e (wrapped e v) ≡ wrapped e v
wrapped-again e v = wrapped-fits e (wrapped e v) (wrapped-wraps e v).fits

-- the least value of a kind is not above 0
lowest-below : (e : Elem) → lowest e ≤ℤ pos 0
lowest-below kind.Bool = record { le = tt }
lowest-below kind.Sint = record { le = tt }
lowest-below kind.Int = record { le = tt }
lowest-below kind.Dint = record { le = tt }
lowest-below kind.Lint = record { le = tt }
lowest-below kind.Usint = record { le = tt }
lowest-below kind.Uint = record { le = tt }
lowest-below kind.Udint = record { le = tt }
lowest-below kind.Ulint = record { le = tt }
lowest-below kind.Byte = record { le = tt }
lowest-below kind.Word = record { le = tt }
lowest-below kind.Dword = record { le = tt }
lowest-below kind.Lword = record { le = tt }
lowest-below kind.Time = record { le = tt }

low_fits : (low high rest : ℤ) → low ≤ℤ pos 0 → pos 0 ≤ℤ rest → low ≤ℤ rest
low_fits low high rest l p = omega (arith, ints)

-- the remainder, where it is a value of the kind
pub rest-wraps : (e : Elem) (v : ℤ) → int_rem_euclid v (pos (2 ^ bits e)) ≤ℤ highest e → Wraps e v (int_rem_euclid v (pos (2 ^ bits e)))
rest-wraps e v h =
    let n = 2 ^ bits e in
    let turning = rem_turns v n (pow_pos (bits e)) in
    record {
      fits = (low_fits (lowest e) (highest e) (int_rem_euclid v (pos n)) (lowest-below e) (rem_low v n (pow_pos (bits e))), h);
      turns = turning.0;
      differ = turning.1;
    }

down_low : (low high rest : ℤ) (n : ℕ) → 0 < n → high ≡ low +ℤ pos (n - 1) → high <ℤ rest → low ≤ℤ (rest -ℤ pos n)
down_low low high rest n p e h = omega (arith, ints)

down_high : (low high rest : ℤ) (n : ℕ) → 0 < n → high ≡ low +ℤ pos (n - 1) → pos 0 ≤ℤ high → rest ≤ℤ pos (n - 1) → (rest -ℤ pos n) ≤ℤ high
down_high low high rest n p e h k = omega (arith, ints)

-- one turn more
next : ℤ → ℤ
next (pos q) = pos (suc q)
next (negsuc zero) = pos 0
next (negsuc (suc q)) = negsuc q

down_turn : (v rest q : ℤ) (n : ℕ) → v ≡ rest +ℤ q *ℤ pos n → v ≡ (rest -ℤ pos n) +ℤ next q *ℤ pos n
unfolding next
down_turn v rest (pos q) n e = omega (arith, ints)
down_turn v rest (negsuc zero) n e = omega (arith, ints)
down_turn v rest (negsuc (suc q)) n e = omega (arith, ints)

highest-above : (e : Elem) → pos 0 ≤ℤ highest e
highest-above kind.Bool = record { le = tt }
highest-above kind.Sint = record { le = tt }
highest-above kind.Int = record { le = tt }
highest-above kind.Dint = record { le = tt }
highest-above kind.Lint = record { le = tt }
highest-above kind.Usint = record { le = tt }
highest-above kind.Uint = record { le = tt }
highest-above kind.Udint = record { le = tt }
highest-above kind.Ulint = record { le = tt }
highest-above kind.Byte = record { le = tt }
highest-above kind.Word = record { le = tt }
highest-above kind.Dword = record { le = tt }
highest-above kind.Lword = record { le = tt }
highest-above kind.Time = record { le = tt }

-- the remainder, and one turn down where it lies above the values of the kind
pub rest-down-wraps : (e : Elem) (v : ℤ) → highest e <ℤ int_rem_euclid v (pos (2 ^ bits e)) → Wraps e v (int_rem_euclid v (pos (2 ^ bits e)) -ℤ pos (2 ^ bits e))
rest-down-wraps e v h =
    let n = 2 ^ bits e in
    let p = pow_pos (bits e) in
    let rest = int_rem_euclid v (pos n) in
    let turning = rem_turns v n p in
    record {
      fits = (down_low (lowest e) (highest e) rest n p (span e) h, down_high (lowest e) (highest e) rest n p (span e) (highest-above e) (rem_high v n p));
      turns = next turning.0;
      differ = down_turn v rest turning.0 n turning.1;
    }

-- ---- whole turns
-- x and y are whole turns of n apart
pub record Apart (n : ℕ) (x y : ℤ) : Type 0 where
  pub ups : ℕ
  pub downs : ℕ
  pub same : x +ℤ pos (ups * n) ≡ y +ℤ pos (downs * n)

pub apart_by : (n : ℕ) (x y t : ℤ) → x ≡ y +ℤ t *ℤ pos n → Apart n x y
apart_by n x y (pos q) e = record { ups = 0; downs = q; same = omega (arith, ints) }
apart_by n x y (negsuc q) e = record { ups = suc q; downs = 0; same = omega (arith, ints) }

more_turns : (n j k d : ℕ) (x y : ℤ) → k ≡ j + d → x +ℤ pos (j * n) ≡ y +ℤ pos (k * n) → (t : ℤ) × (x ≡ y +ℤ t *ℤ pos n)
more_turns n j k d x y e h = let more = ap (λ (q : ℕ). q * n) e in (pos d, omega (arith, ints))

fewer_turns : (n j k d : ℕ) (x y : ℤ) → j ≡ k + d → x +ℤ pos (j * n) ≡ y +ℤ pos (k * n) → (t : ℤ) × (x ≡ y +ℤ t *ℤ pos n)
fewer_turns n j k zero x y e h = let fewer = ap (λ (q : ℕ). q * n) e in (pos 0, omega (arith, ints))
fewer_turns n j k (suc d) x y e h = let fewer = ap (λ (q : ℕ). q * n) e in (negsuc d, omega (arith, ints))

by_turns : (n : ℕ) (x y : ℤ) → Apart n x y → (t : ℤ) × (x ≡ y +ℤ t *ℤ pos n)
by_turns n x y a =
    ⊎_elim
    (λ less. more_turns n a.ups a.downs (a.downs - a.ups) x y (omega arith) a.same)
    (λ le. fewer_turns n a.ups a.downs (a.ups - a.downs) x y (omega arith) a.same)
    (cases_lt a.ups a.downs)

pub apart_through : (n : ℕ) (x y z : ℤ) → Apart n x y → Apart n y z → Apart n x z
apart_through n x y z a b =
    let p = a.same in
    let q = b.same in
    record { ups = a.ups + b.ups; downs = a.downs + b.downs; same = omega (arith, ints) }

pub apart_coarser : (c n : ℕ) (x y : ℤ) → Apart (c * n) x y → Apart n x y
apart_coarser c n x y a =
    record {
      ups = a.ups * c;
      downs = a.downs * c;
      same = subst (λ (m : ℕ). x +ℤ pos m ≡ y +ℤ pos (a.downs * c * n)) (sym (mul_assoc a.ups c n)) (subst (λ (m : ℕ). x +ℤ pos (a.ups * (c * n)) ≡ y +ℤ pos m) (sym (mul_assoc a.downs c n)) a.same);
    }

-- what is whole turns away wraps alike
pub wrapped-apart : (e : Elem) (x y : ℤ) → Apart (2 ^ bits e) x y → wrapped e x ≡ wrapped e y
wrapped-apart e x y a =
    let n = 2 ^ bits e in
    let w = wrapped-wraps e y in
    let t = by_turns n x (wrapped e y) (apart_through n x y (wrapped e y) a (apart_by n y (wrapped e y) w.turns w.differ)) in
    sym (wrapped-is e x (wrapped e y) (record { fits = w.fits; turns = t.0; differ = t.1 }))

-- two to the width divides two to 128
pub whole_turns : (e : Elem) → 2 ^ 128 ≡ 2 ^ (128 - bits e) * 2 ^ bits e
whole_turns kind.Bool = refl
whole_turns kind.Sint = refl
whole_turns kind.Int = refl
whole_turns kind.Dint = refl
whole_turns kind.Lint = refl
whole_turns kind.Usint = refl
whole_turns kind.Uint = refl
whole_turns kind.Udint = refl
whole_turns kind.Ulint = refl
whole_turns kind.Byte = refl
whole_turns kind.Word = refl
whole_turns kind.Dword = refl
whole_turns kind.Lword = refl
whole_turns kind.Time = refl
