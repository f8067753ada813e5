-- A number of a kind, read from the eight bytes in which a word is kept.
use Rattle.std.proofs.Common.{◌≡◌, ◌≤◌, ℕ, suc, ◌+◌, ◌-◌, ◌*◌, ◌^◌, ℤ, pos, List, [], ◌∷◌, ◌++◌, length, refl, sym, ap, ◌∙◌, subst, arith, take-append-drop, length-take}
use Rattle.std.proofs.lemmas.Int.{ints}
use Rattle.std.specs.Prelude.{slice_range, take, drop}
use Rattle.st_types.specs.declared.elem.Elem.{Elem}
use Rattle.st_types.specs.Elem.{bytes, bits}
use Rattle.st_types.specs.declared.elem.Elem.TheVariants as elem
use Rattle.plc_num.specs.Wrapping.{wrapped}
use Rattle.plc_num.proofs.WrappingLaws.{wrapped-wraps, wrapped-apart, Apart, apart_by, apart_coarser}
use Rattle.mem_image.specs.Image.{low_first, value_at}
use Rattle.mem_image.proofs.PartLaws.{length-range, range_of_range}
use Rattle.mem_layout.specs.store_bytes.Spells.{Holds}
use Rattle.mem_layout.proofs.store_bytes.Leaves.{value_is}

power : (n : ℕ) → 256 ^ suc n ≡ 256 * 256 ^ n
power n = grind arith

low_split : (xs ys : List ℕ) → low_first (xs ++ ys) ≡ low_first xs + 256 ^ length xs * low_first ys
low_split [] ys = omega arith
low_split (x ∷ xs) ys =
    let h = low_split xs ys in
    let g = next (256 ^ length xs) (low_first ys) in
    let e : 256 ^ suc (length xs) ≡ 256 * 256 ^ length xs = power (length xs) in
    ap (λ n. x + 256 * n) h ∙ (grown x (low_first xs) (256 ^ length xs * low_first ys) ∙ ap (λ n. x + 256 * low_first xs + n) (g ∙ ap (λ n. n * low_first ys) (sym e)))
  where
    next : (a b : ℕ) → 256 * (a * b) ≡ 256 * a * b
    next a b = grind arith

    grown : (x l r : ℕ) → x + 256 * (l + r) ≡ x + 256 * l + 256 * r
    grown x l r = omega arith

-- how many turns of a kind the bytes have
abbrev turns_in : Elem → ℕ
turns_in elem.Bool = 128
turns_in e = 1

turns_are : (e : Elem) → 256 ^ bytes e ≡ turns_in e * 2 ^ bits e
turns_are elem.Bool = refl
turns_are elem.Sint = refl
turns_are elem.Int = refl
turns_are elem.Dint = refl
turns_are elem.Lint = refl
turns_are elem.Usint = refl
turns_are elem.Uint = refl
turns_are elem.Udint = refl
turns_are elem.Ulint = refl
turns_are elem.Byte = refl
turns_are elem.Word = refl
turns_are elem.Dword = refl
turns_are elem.Lword = refl
turns_are elem.Time = refl

pub turns_of : (e : Elem) → 2 ^ 64 ≡ 2 ^ (64 - bits e) * 2 ^ bits e
turns_of elem.Bool = refl
turns_of elem.Sint = refl
turns_of elem.Int = refl
turns_of elem.Dint = refl
turns_of elem.Lint = refl
turns_of elem.Usint = refl
turns_of elem.Uint = refl
turns_of elem.Udint = refl
turns_of elem.Ulint = refl
turns_of elem.Byte = refl
turns_of elem.Word = refl
turns_of elem.Dword = refl
turns_of elem.Lword = refl
turns_of elem.Time = refl

pub eight : (e : Elem) → bytes e ≤ 8
eight elem.Bool = omega arith
eight elem.Sint = omega arith
eight elem.Int = omega arith
eight elem.Dint = omega arith
eight elem.Lint = omega arith
eight elem.Usint = omega arith
eight elem.Uint = omega arith
eight elem.Udint = omega arith
eight elem.Ulint = omega arith
eight elem.Byte = omega arith
eight elem.Word = omega arith
eight elem.Dword = omega arith
eight elem.Lword = omega arith
eight elem.Time = omega arith

regrouped : (c r b : ℕ) → c * b * r ≡ c * r * b
regrouped c r b = grind arith

front_is : (xs : List ℕ) (n : ℕ) → slice_range xs 0 (0 + n) ≡ take n xs
front_is xs n = let e : 0 + n - 0 ≡ n = omega arith in ap (λ k. take k xs) e

pub low_read : (k : Elem) (w : ℤ) (image : List ℕ) (at : ℕ) → Holds elem.Ulint w image at → at + 8 ≤ length image → value_at k image at ≡ wrapped k w
unfolding value_at
low_read k w image at h fit =
    let n = bytes k in
    let xs = slice_range image at (at + 8) in
    let m = low_first xs in
    let few = eight k in
    let long : length xs ≡ 8 = length-range image at 8 fit in
    let l = low_first (take n xs) in
    let r = low_first (drop n xs) in
    let front_long : length (take n xs) ≡ n = let t = length-take n xs in omega (arith, t, long, few) in
    let whole : m ≡ l + 256 ^ n * r = ap low_first (sym (take-append-drop n xs)) ∙ (low_split (take n xs) (drop n xs) ∙ ap (λ j. l + 256 ^ j * r) front_long) in
    let here : slice_range image at (at + n) ≡ take n xs = let z : at ≡ at + 0 = omega arith in let y : at + n ≡ at + 0 + n = omega arith in (λ i. slice_range image (z i) (y i)) ∙ (sym (range_of_range image at 8 0 n (omega (arith, few))) ∙ front_is xs n) in
    let part : 256 ^ n * r ≡ turns_in k * r * 2 ^ bits k = ap (λ j. j * r) (turns_are k) ∙ regrouped (turns_in k) r (2 ^ bits k) in
    let count : l + turns_in k * r * 2 ^ bits k ≡ m = ap (λ j. l + j) (sym part) ∙ sym whole in
    let apart : Apart (2 ^ bits k) (pos l) (pos m) = record { ups = turns_in k * r; downs = 0; same = omega (arith, ints, count) } in
    let w1 = wrapped-wraps elem.Ulint (pos m) in
    let far = apart_by (2 ^ 64) (pos m) (wrapped elem.Ulint (pos m)) w1.turns w1.differ in
    let same_word : wrapped elem.Ulint (pos m) ≡ w = value_is elem.Ulint w image at h in
    ap (λ y. wrapped k (pos (low_first y))) here
    ∙ (wrapped-apart k (pos l) (pos m) apart
    ∙ (wrapped-apart k (pos m) (wrapped elem.Ulint (pos m)) (apart_coarser (2 ^ (64 - bits k)) (2 ^ bits k) (pos m) (wrapped elem.Ulint (pos m)) (subst (λ j. Apart j (pos m) (wrapped elem.Ulint (pos m))) (turns_of k) far))
    ∙ ap (wrapped k) same_word))
