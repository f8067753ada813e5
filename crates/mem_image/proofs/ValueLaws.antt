-- What reads give after writes and copies.
use Rattle.std.proofs.Common.{◌≡◌, ℕ, zero, suc, ℤ, pos, negsuc, ◌+◌, ◌^◌, ◌<◌, ◌≤◌, List, ◌∷◌, [], length, replicate, refl, sym, ap, subst, ◌∙◌, arith}
use Rattle.std.specs.Prelude.{◌+ℤ◌, ◌*ℤ◌, ◌↔◌, All, slice_range, unsigned_abs}
use Rattle.std.specs.Int.{bytes_low_first, int_rem_euclid}
use Rattle.std.proofs.lemmas.Int.{ints}
use Rattle.std.proofs.Math.Nat.{mod-lt, pow-succ', one-le-pow}
use Rattle.st_types.specs.declared.elem.Elem.{Elem}
use Rattle.st_types.specs.declared.elem.Elem.TheVariants as kind
use Rattle.st_types.specs.Elem.{bytes}
use Rattle.st_types.specs.Range.{Fits}
use Rattle.plc_num.specs.Wrapping.{wrapped}
use Rattle.mem_image.specs.Image.{low_first, value_at, replaced, bytes_of, written}
use Rattle.mem_image.specs.Laws.{AreApart, IsSpelling}
use Rattle.plc_num.proofs.WrappingLaws.{rem_turns, wrapped-wraps, Wraps-unique}
use Rattle.mem_image.proofs.PartLaws.{holds, leaves, inside, length-range, range_of_range, range_of_zeros}

-- a kind has 1, 2, 4 or 8 bytes
by_size : (P : ℕ → Type 0) → P 1 → P 2 → P 4 → P 8 → (e : Elem) → P (bytes e)
by_size P one two four eight kind.Bool = one
by_size P one two four eight kind.Sint = one
by_size P one two four eight kind.Int = two
by_size P one two four eight kind.Dint = four
by_size P one two four eight kind.Lint = eight
by_size P one two four eight kind.Usint = one
by_size P one two four eight kind.Uint = two
by_size P one two four eight kind.Udint = four
by_size P one two four eight kind.Ulint = eight
by_size P one two four eight kind.Byte = one
by_size P one two four eight kind.Word = two
by_size P one two four eight kind.Dword = four
by_size P one two four eight kind.Lword = eight
by_size P one two four eight kind.Time = four

length-bytes_low_first : (i k n : ℕ) → length (bytes_low_first i k n) ≡ k
length-bytes_low_first i zero n = refl
length-bytes_low_first i (suc k) n = let more = length-bytes_low_first (suc i) k n in omega (arith, more)

length-bytes_of : (e : Elem) (v : ℤ) → length (bytes_of e v) ≡ bytes e
unfolding bytes_of
length-bytes_of e v = length-bytes_low_first 0 (bytes e) _

-- what a division leaves of a number
rest_below : (v : ℤ) (m : ℕ) → 0 < m → unsigned_abs (int_rem_euclid v (pos m)) < m
rest_below (pos a) m h = mod-lt a h
rest_below (negsuc a) m h = omega (arith, mod-lt a h)

-- the bytes of a number give it back
back_1 : (n : ℕ) → n < 256 ^ 1 → low_first (bytes_low_first 0 1 n) ≡ n
back_1 n h = omega arith

back_2 : (n : ℕ) → n < 256 ^ 2 → low_first (bytes_low_first 0 2 n) ≡ n
back_2 n h = omega arith

back_4 : (n : ℕ) → n < 256 ^ 4 → low_first (bytes_low_first 0 4 n) ≡ n
back_4 n h = omega arith

back_8 : (n : ℕ) → n < 256 ^ 8 → low_first (bytes_low_first 0 8 n) ≡ n
back_8 n h = omega arith

number_of : (e : Elem) (v : ℤ) → low_first (bytes_of e v) ≡ unsigned_abs (int_rem_euclid v (pos (256 ^ bytes e)))
unfolding bytes_of
number_of e v =
    by_size (λ k. low_first (bytes_low_first 0 k (unsigned_abs (int_rem_euclid v (pos (256 ^ k))))) ≡ unsigned_abs (int_rem_euclid v (pos (256 ^ k))))
    (back_1 _ (rest_below v (256 ^ 1) (omega arith)))
    (back_2 _ (rest_below v (256 ^ 2) (omega arith)))
    (back_4 _ (rest_below v (256 ^ 4) (omega arith)))
    (back_8 _ (rest_below v (256 ^ 8) (omega arith)))
    e

-- the number of a value's bytes wraps back to the value
wrapped-rest : (e : Elem) (v : ℤ) → Fits e v → wrapped e (pos (unsigned_abs (int_rem_euclid v (pos (256 ^ bytes e))))) ≡ v
unfolding wrapped
wrapped-rest kind.Bool (pos n) h = omega (arith, ints, h.1)
wrapped-rest kind.Sint (pos n) h = omega (arith, ints, h.1)
wrapped-rest kind.Sint (negsuc n) h = omega (arith, ints, h.0)
wrapped-rest kind.Int (pos n) h = omega (arith, ints, h.1)
wrapped-rest kind.Int (negsuc n) h = omega (arith, ints, h.0)
wrapped-rest kind.Dint (pos n) h = omega (arith, ints, h.1)
wrapped-rest kind.Dint (negsuc n) h = omega (arith, ints, h.0)
wrapped-rest kind.Lint (pos n) h = omega (arith, ints, h.1)
wrapped-rest kind.Lint (negsuc n) h = omega (arith, ints, h.0)
wrapped-rest kind.Usint (pos n) h = omega (arith, ints, h.1)
wrapped-rest kind.Uint (pos n) h = omega (arith, ints, h.1)
wrapped-rest kind.Udint (pos n) h = omega (arith, ints, h.1)
wrapped-rest kind.Ulint (pos n) h = omega (arith, ints, h.1)
wrapped-rest kind.Byte (pos n) h = omega (arith, ints, h.1)
wrapped-rest kind.Word (pos n) h = omega (arith, ints, h.1)
wrapped-rest kind.Dword (pos n) h = omega (arith, ints, h.1)
wrapped-rest kind.Lword (pos n) h = omega (arith, ints, h.1)
wrapped-rest kind.Time (pos n) h = omega (arith, ints, h.1)
wrapped-rest _ (negsuc n) h = absurd (omega (arith, ints, h.0))

pub reads_back : (e : Elem) (xs : List ℕ) (at : ℕ) (v : ℤ) → Fits e v → at + bytes e ≤ length xs → value_at e (written e xs at v) at ≡ v
unfolding value_at
reads_back e xs at v fits h =
    let size = length-bytes_of e v in
    let part : slice_range (replaced xs at (bytes_of e v)) at (at + bytes e) ≡ bytes_of e v =
    ap (λ n. slice_range (replaced xs at (bytes_of e v)) at (at + n)) (sym size) ∙ holds xs (bytes_of e v) at (omega (arith, size)) in
    ap (λ bs. wrapped e (pos (low_first bs))) part ∙ ap (λ n. wrapped e (pos n)) (number_of e v) ∙ wrapped-rest e v fits

pub leaves_values : (a b : Elem) (xs : List ℕ) (i j : ℕ) (v : ℤ) → i + bytes a ≤ length xs → AreApart i (bytes a) j (bytes b) → value_at b (written a xs i v) j ≡ value_at b xs j
unfolding value_at
leaves_values a b xs i j v h apart =
    let size = length-bytes_of a v in
    ap (λ bs. wrapped b (pos (low_first bs))) (leaves xs (bytes_of a v) i j (bytes b) (omega (arith, size)) (subst (λ n. AreApart i n j (bytes b)) (sym size) apart))

pub reads_within : (e : Elem) (xs : List ℕ) (at : ℕ) → Fits e (value_at e xs at)
unfolding value_at
reads_within e xs at = (wrapped-wraps e _).fits

low_first-zeros : (k : ℕ) → low_first (replicate k 0) ≡ 0
low_first-zeros zero = refl
low_first-zeros (suc k) = let more = low_first-zeros k in omega (arith, more)

wrapped-zero : (e : Elem) → wrapped e (pos 0) ≡ pos 0
unfolding wrapped
wrapped-zero kind.Bool = refl
wrapped-zero kind.Sint = refl
wrapped-zero kind.Int = refl
wrapped-zero kind.Dint = refl
wrapped-zero kind.Lint = refl
wrapped-zero kind.Usint = refl
wrapped-zero kind.Uint = refl
wrapped-zero kind.Udint = refl
wrapped-zero kind.Ulint = refl
wrapped-zero kind.Byte = refl
wrapped-zero kind.Word = refl
wrapped-zero kind.Dword = refl
wrapped-zero kind.Lword = refl
wrapped-zero kind.Time = refl

pub reads_zero : (e : Elem) (n i : ℕ) → i + bytes e ≤ n → value_at e (replicate n 0) i ≡ pos 0
unfolding value_at
reads_zero e n i h =
    ap (λ bs. wrapped e (pos (low_first bs))) (range_of_zeros n i (bytes e) h) ∙ ap (λ m. wrapped e (pos m)) (low_first-zeros (bytes e)) ∙ wrapped-zero e

pub copies_values : (e : Elem) (xs source : List ℕ) (i from n k : ℕ) → i + n ≤ length xs → from + n ≤ length source → k + bytes e ≤ n
    → value_at e (replaced xs i (slice_range source from (from + n))) (i + k) ≡ value_at e source (from + k)
unfolding value_at
copies_values e xs source i from n k target within inner =
    let size = length-range source from n within in
    ap (λ bs. wrapped e (pos (low_first bs)))
    (inside xs (slice_range source from (from + n)) i k (bytes e) (omega (arith, size)) (omega (arith, size)) ∙ range_of_range source from n k (bytes e) inner)

-- every byte of a number is one
bytes_below : (i k n : ℕ) → All (λ byte. byte < 256) (bytes_low_first i k n)
bytes_below i zero n j d h = absurd (omega arith)
bytes_below zero (suc k) n zero d h = omega arith
bytes_below (suc i) (suc k) n zero d h = omega arith
bytes_below i (suc k) n (suc j) d h = bytes_below (suc i) k n j d (omega arith)

bytes_of_below : (e : Elem) (v : ℤ) → All (λ byte. byte < 256) (bytes_of e v)
unfolding bytes_of
bytes_of_below e v = bytes_below 0 (bytes e) _

-- what a division leaves is not below zero
rest_is : (v : ℤ) (m : ℕ) → int_rem_euclid v (pos m) ≡ pos (unsigned_abs (int_rem_euclid v (pos m)))
rest_is (pos a) m = refl
rest_is (negsuc a) m = refl

spelled : (e : Elem) (v : ℤ) → IsSpelling e v (bytes_of e v)
spelled e v =
    let turning = rem_turns v (256 ^ bytes e) (one-le-pow (bytes e) 256 (omega arith)) in
    record {
      count = length-bytes_of e v;
      are_bytes = bytes_of_below e v;
      turns = turning.0;
      differ = turning.1 ∙ ap (λ r. r +ℤ turning.0 *ℤ pos (256 ^ bytes e)) (rest_is v (256 ^ bytes e) ∙ ap pos (sym (number_of e v)));
    }

-- bytes give their number, and it gives them
same_bytes : (xs ys : List ℕ) → length xs ≡ length ys → All (λ byte. byte < 256) xs → All (λ byte. byte < 256) ys → low_first xs ≡ low_first ys → xs ≡ ys
same_bytes [] [] size p q e = refl
same_bytes [] (y ∷ ys) size p q e = absurd (omega arith)
same_bytes (x ∷ xs) [] size p q e = absurd (omega arith)
same_bytes (x ∷ xs) (y ∷ ys) size p q e =
    let left : x < 256 = p 0 0 (omega arith) in
    let right : y < 256 = q 0 0 (omega arith) in
    let low : x ≡ y = omega arith in
    let high : low_first xs ≡ low_first ys = omega arith in
    let rest : xs ≡ ys = same_bytes xs ys (omega arith) (λ k d h. p (suc k) d (omega arith)) (λ k d h. q (suc k) d (omega arith)) high in
    rw (low, rest) refl

number_below : (xs : List ℕ) → All (λ byte. byte < 256) xs → low_first xs < 256 ^ length xs
number_below [] p = omega arith
number_below (x ∷ xs) p =
    let low : x < 256 = p 0 0 (omega arith) in
    let high = number_below xs (λ k d h. p (suc k) d (omega arith)) in
    rw (pow-succ' 256 (length xs)) (omega arith)

-- numbers of so many bytes that differ from one number by whole turns are the same
same_1 : (v : ℤ) (m n : ℕ) (p q : ℤ) → m < 256 ^ 1 → n < 256 ^ 1 → v ≡ pos m +ℤ p *ℤ pos (256 ^ 1) → v ≡ pos n +ℤ q *ℤ pos (256 ^ 1) → m ≡ n
same_1 v m n p q a b x y =
    let same = Wraps-unique kind.Usint v (pos m) (pos n) (record { fits = (omega (arith, ints), omega (arith, ints)); turns = p; differ = x }) (record { fits = (omega (arith, ints), omega (arith, ints)); turns = q; differ = y }) in
    cc

same_2 : (v : ℤ) (m n : ℕ) (p q : ℤ) → m < 256 ^ 2 → n < 256 ^ 2 → v ≡ pos m +ℤ p *ℤ pos (256 ^ 2) → v ≡ pos n +ℤ q *ℤ pos (256 ^ 2) → m ≡ n
same_2 v m n p q a b x y =
    let same = Wraps-unique kind.Uint v (pos m) (pos n) (record { fits = (omega (arith, ints), omega (arith, ints)); turns = p; differ = x }) (record { fits = (omega (arith, ints), omega (arith, ints)); turns = q; differ = y }) in
    cc

same_4 : (v : ℤ) (m n : ℕ) (p q : ℤ) → m < 256 ^ 4 → n < 256 ^ 4 → v ≡ pos m +ℤ p *ℤ pos (256 ^ 4) → v ≡ pos n +ℤ q *ℤ pos (256 ^ 4) → m ≡ n
same_4 v m n p q a b x y =
    let same = Wraps-unique kind.Udint v (pos m) (pos n) (record { fits = (omega (arith, ints), omega (arith, ints)); turns = p; differ = x }) (record { fits = (omega (arith, ints), omega (arith, ints)); turns = q; differ = y }) in
    cc

same_8 : (v : ℤ) (m n : ℕ) (p q : ℤ) → m < 256 ^ 8 → n < 256 ^ 8 → v ≡ pos m +ℤ p *ℤ pos (256 ^ 8) → v ≡ pos n +ℤ q *ℤ pos (256 ^ 8) → m ≡ n
same_8 v m n p q a b x y =
    let same = Wraps-unique kind.Ulint v (pos m) (pos n) (record { fits = (omega (arith, ints), omega (arith, ints)); turns = p; differ = x }) (record { fits = (omega (arith, ints), omega (arith, ints)); turns = q; differ = y }) in
    cc

same_numbers : (e : Elem) (v : ℤ) (m n : ℕ) (p q : ℤ) → m < 256 ^ bytes e → n < 256 ^ bytes e → v ≡ pos m +ℤ p *ℤ pos (256 ^ bytes e) → v ≡ pos n +ℤ q *ℤ pos (256 ^ bytes e) → m ≡ n
same_numbers e v m n p q =
    by_size (λ k. m < 256 ^ k → n < 256 ^ k → v ≡ pos m +ℤ p *ℤ pos (256 ^ k) → v ≡ pos n +ℤ q *ℤ pos (256 ^ k) → m ≡ n) (same_1 v m n p q) (same_2 v m n p q) (same_4 v m n p q) (same_8 v m n p q) e

pub spells_once : (e : Elem) (v : ℤ) (part : List ℕ) → IsSpelling e v part ↔ (part ≡ bytes_of e v)
spells_once e v part = (
  λ is.
      let ours = spelled e v in
      let below = ap (λ n. 256 ^ n) is.count in
      let same : low_first part ≡ low_first (bytes_of e v) =
      same_numbers e v (low_first part) (low_first (bytes_of e v)) is.turns ours.turns (subst (λ n. low_first part < 256 ^ n) is.count (number_below part is.are_bytes)) (subst (λ n. low_first (bytes_of e v) < 256 ^ n) ours.count (number_below (bytes_of e v) ours.are_bytes)) is.differ ours.differ in
      same_bytes part (bytes_of e v) (is.count ∙ sym ours.count) is.are_bytes ours.are_bytes same,
  λ is. subst (IsSpelling e v) (sym is) (spelled e v),
)
