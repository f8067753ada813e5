-- Images after a write: as many bytes as before, what was written where it was written, and all others as they were.
use Rattle.std.proofs.Common.{◌≡◌, ℕ, ◌+◌, ◌-◌, ◌≤◌, List, ◌++◌, length, take, drop, replicate, inl, inr, refl, sym, ap, ◌∙◌, arith, length-append, length-drop}
use Rattle.std.specs.Prelude.{slice_range}
use Rattle.std.specs.List.{copy_within}
use Rattle.std.proofs.lemmas.List.{append_assoc, drop-drop, drop-append-le, drop-take, drop_at, length-take-le, take-append-le, take-take, take_all, drop-replicate, take-replicate}
use Rattle.mem_image.specs.Image.{replaced}
use Rattle.mem_image.specs.Laws.{AreApart}

-- with the part at the offset, uncut
abbrev spliced : List ℕ → ℕ → List ℕ → List ℕ
spliced xs at part = take at xs ++ part ++ drop (at + length part) xs

length-spliced : (xs : List ℕ) (at : ℕ) (part : List ℕ) → at ≤ length xs → length xs ≤ length (spliced xs at part)
length-spliced xs at part h =
    omega (arith, length-append (take at xs ++ part) (drop (at + length part) xs), length-append (take at xs) part, length-take-le at xs h, length-drop (at + length part) xs)

-- a loan of the bytes from the offset on ends as the image with what was written
pub refilled : (xs part : List ℕ) (at k n : ℕ) → n ≡ length xs → k ≡ length part → at ≤ length xs
    → take n (take at xs ++ (part ++ drop k (drop at xs)) ++ drop (length (take at xs ++ (part ++ drop k (drop at xs)))) xs) ≡ replaced xs at part
unfolding replaced
refilled xs part at k n size same h =
    let whole : take at xs ++ (part ++ drop k (drop at xs)) ≡ spliced xs at part =
    rw (same, drop-drop (length part) at xs, append_assoc (take at xs) part (drop (at + length part) xs)) refl in
    rw (whole, size) (take-append-le (length xs) (spliced xs at part) _ (length-spliced xs at part h))

-- the same where the part is written by a copy
pub filled : (xs base old part wrote : List ℕ) (at n : ℕ) → n ≡ length xs → base ≡ xs → xs ≡ old → wrote ≡ part → at + length part ≤ length old
    → take n (take at base ++ (wrote ++ drop (at + length part - at) (drop at base)) ++ drop (length (take at base ++ (wrote ++ drop (at + length part - at) (drop at base)))) xs) ≡ replaced old at part
filled xs base old part wrote at n size base_is old_is wrote_is h =
    let within : at ≤ length xs = omega (arith, ap length old_is) in
    rw (base_is, wrote_is) (refilled xs part at (at + length part - at) n size (omega arith) within ∙ ap (λ l. replaced l at part) old_is)

-- the bytes of a range
pub length-range : (xs : List ℕ) (from len : ℕ) → from + len ≤ length xs → length (slice_range xs from (from + len)) ≡ len
length-range xs from len h =
    let left : length (drop from xs) ≡ length xs - from = length-drop from xs in
    length-take-le (from + len - from) (drop from xs) (omega (arith, left)) ∙ omega arith

-- where the part lies in the image, nothing is cut
pub replaced_is : (xs : List ℕ) (at : ℕ) (part : List ℕ) → at + length part ≤ length xs → replaced xs at part ≡ take at xs ++ part ++ drop (at + length part) xs
unfolding replaced
replaced_is xs at part h =
    take_all (length xs) (spliced xs at part) (omega (arith, length-append (take at xs ++ part) (drop (at + length part) xs), length-append (take at xs) part, length-take-le at xs (omega arith), length-drop (at + length part) xs))

-- a copy inside the image
pub copied : (xs new old : List ℕ) (to from len : ℕ) → xs ≡ old → new ≡ copy_within xs from (from + len) to → to + len ≤ length old → from + len ≤ length old
    → new ≡ replaced old to (slice_range old from (from + len))
copied xs new old to from len same copy target source =
    let size : length (slice_range old from (from + len)) ≡ len = length-range old from len source in
    let short : from + len - from ≡ len = omega arith in
    copy ∙ rw (same, replaced_is old to (slice_range old from (from + len)) (omega (arith, size)), size, short) refl

pub length-replaced : (xs part : List ℕ) (at : ℕ) → at + length part ≤ length xs → length (replaced xs at part) ≡ length xs
length-replaced xs part at h =
    ap length (replaced_is xs at part h) ∙ omega (arith, length-append (take at xs ++ part) (drop (at + length part) xs), length-append (take at xs) part, length-take-le at xs (omega arith), length-drop (at + length part) xs)

-- what lies before the part, and from it on
split : (xs part : List ℕ) (at : ℕ) → at + length part ≤ length xs → replaced xs at part ≡ take at xs ++ (part ++ drop (at + length part) xs)
split xs part at h = replaced_is xs at part h ∙ append_assoc (take at xs) part (drop (at + length part) xs)

-- a range inside the part is that range of what was written
pub inside : (xs part : List ℕ) (at k n : ℕ) → at + length part ≤ length xs → k + n ≤ length part
    → slice_range (replaced xs at part) (at + k) (at + k + n) ≡ slice_range part k (k + n)
inside xs part at k n h within =
    let rest = part ++ drop (at + length part) xs in
    let short : at + k + n - (at + k) ≡ n = omega arith in
    let same : k + n - k ≡ n = omega arith in
    let start : drop (at + k) (take at xs ++ rest) ≡ drop k rest =
    sym (drop-drop k at (take at xs ++ rest)) ∙ ap (drop k) (drop_at (take at xs) rest at (length-take-le at xs (omega arith))) in
    rw (short, same, split xs part at h, start, drop-append-le k part (drop (at + length part) xs) (omega arith))
    (take-append-le n (drop k part) (drop (at + length part) xs) (omega (arith, length-drop k part)))

-- the whole part
pub holds : (xs part : List ℕ) (at : ℕ) → at + length part ≤ length xs → slice_range (replaced xs at part) at (at + length part) ≡ part
holds xs part at h =
    let here : at + 0 ≡ at = omega arith in
    let whole : 0 + length part - 0 ≡ length part = omega arith in
    ap (λ i. slice_range (replaced xs at part) i (i + length part)) (sym here) ∙ inside xs part at 0 (length part) h (omega arith) ∙ rw whole (take_all (length part) part (omega arith))

-- a range before the part
below : (xs part : List ℕ) (at j n : ℕ) → at + length part ≤ length xs → j + n ≤ at → slice_range (replaced xs at part) j (j + n) ≡ slice_range xs j (j + n)
below xs part at j n h before =
    let rest = part ++ drop (at + length part) xs in
    let short : j + n - j ≡ n = omega arith in
    let size : length (take at xs) ≡ at = length-take-le at xs (omega arith) in
    rw (short, split xs part at h, drop-append-le j (take at xs) rest (omega (arith, size)))
    (take-append-le n (drop j (take at xs)) rest (omega (arith, size, length-drop j (take at xs)))
    ∙ (let front : at ≡ j + (at - j) = omega arith in
    ap (λ i. take n (drop j (take i xs))) front ∙ ap (take n) (drop-take j (at - j) xs) ∙ take-take n (at - j) (drop j xs) (omega arith)))

-- a range after it
beyond : (xs part : List ℕ) (at j n : ℕ) → at + length part ≤ length xs → at + length part ≤ j → slice_range (replaced xs at part) j (j + n) ≡ slice_range xs j (j + n)
beyond xs part at j n h after =
    let end = at + length part in
    let front = take at xs ++ part in
    let size : length front ≡ end = length-append (take at xs) part ∙ ap (λ i. i + length part) (length-take-le at xs (omega arith)) in
    let far : end + (j - end) ≡ j = omega arith in
    let same : drop j (front ++ drop end xs) ≡ drop j xs =
    ap (λ i. drop i (front ++ drop end xs)) (sym far) ∙ sym (drop-drop (j - end) end (front ++ drop end xs)) ∙ ap (drop (j - end)) (drop_at front (drop end xs) end size) ∙ drop-drop (j - end) end xs ∙ ap (λ i. drop i xs) far in
    ap (λ l. take (j + n - j) (drop j l)) (replaced_is xs at part h) ∙ ap (take (j + n - j)) same

pub leaves : (xs part : List ℕ) (at j n : ℕ) → at + length part ≤ length xs → AreApart at (length part) j n → slice_range (replaced xs at part) j (j + n) ≡ slice_range xs j (j + n)
leaves xs part at j n h apart = elim apart [
  | inl after ↦ beyond xs part at j n h after
  | inr before ↦ below xs part at j n h before
]

-- a range of a range
pub range_of_range : (xs : List ℕ) (from n k m : ℕ) → k + m ≤ n → slice_range (slice_range xs from (from + n)) k (k + m) ≡ slice_range xs (from + k) (from + k + m)
range_of_range xs from n k m h =
    let outer : from + n - from ≡ n = omega arith in
    let inner : k + m - k ≡ m = omega arith in
    let both : from + k + m - (from + k) ≡ m = omega arith in
    let front : n ≡ k + (n - k) = omega arith in
    let cut : drop k (take n (drop from xs)) ≡ take (n - k) (drop (from + k) xs) =
    ap (λ i. drop k (take i (drop from xs))) front ∙ drop-take k (n - k) (drop from xs) ∙ ap (take (n - k)) (drop-drop k from xs) in
    rw (outer, inner, both, cut) (take-take m (n - k) (drop (from + k) xs) (omega arith))

-- a range of zeros
pub range_of_zeros : (n i k : ℕ) → i + k ≤ n → slice_range {X = ℕ} (replicate n 0) i (i + k) ≡ replicate k 0
range_of_zeros n i k h =
    let size : i + k - i ≡ k = omega arith in
    rw (size, drop-replicate {X = ℕ} i n 0) (take-replicate {X = ℕ} k (n - i) 0 (omega arith))
