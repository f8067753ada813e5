-- Numbers in bytes, and what a write and a copy keep.
use Rattle.std.proofs.Common.{◌≡◌, ◌≤◌, ℕ, ◌+◌, ℤ, pos, List, length, replicate, refl, sym, ap, ◌∙◌, subst, arith}
use Rattle.std.specs.Prelude.{slice_range}
use Rattle.std.proofs.lemmas.List.{length-replicate}
use Rattle.st_types.specs.declared.elem.Elem.{Elem}
use Rattle.st_types.specs.Elem.{bytes}
use Rattle.st_types.specs.Range.{Fits}
use Rattle.mem_image.specs.Image.{low_first, value_at, replaced, bytes_of, written}
use Rattle.mem_image.proofs.PartLaws.{inside, holds, leaves, length-range, range_of_range, length-replaced}
use Rattle.mem_image.proofs.ValueLaws.{reads_back, spells_once}
use Rattle.plc_num.specs.Wrapping.{wrapped}
use Rattle.mem_layout.specs.store_bytes.Spells.{Holds}
use Rattle.mem_layout.specs.store_bytes.StoreLaws.{Keeps}
use Rattle.mem_layout.proofs.store_bytes.Moves.{Same}

pub length-bytes_of : (e : Elem) (z : ℤ) → length (bytes_of e z) ≡ bytes e
length-bytes_of e z = ((spells_once e z (bytes_of e z)).1 refl).count

-- the same bytes give the same number
same_number : (e : Elem) (im im' : List ℕ) (i j : ℕ) → slice_range im i (i + bytes e) ≡ slice_range im' j (j + bytes e) → value_at e im i ≡ value_at e im' j
unfolding value_at
same_number e im im' i j h = ap (λ bs. wrapped e (pos (low_first bs))) h

pub holds_written : (e : Elem) (z : ℤ) (im : List ℕ) (i : ℕ) → Fits e z → i + bytes e ≤ length im → Holds e z (written e im i z) i
holds_written e z im i f h =
    let n = length-bytes_of e z in
    record { fits = f; stands = ap (λ m. slice_range (written e im i z) i (i + m)) (sym n) ∙ holds im (bytes_of e z) i (omega (arith, n)) }

-- what is read where a number stands
pub value_is : (e : Elem) (z : ℤ) (im : List ℕ) (i : ℕ) → Holds e z im i → value_at e im i ≡ z
value_is e z im i h =
    let zeros : List ℕ = replicate (bytes e) 0 in
    let long : 0 + bytes e ≤ length zeros = omega (arith, length-replicate {A = ℕ} (bytes e) 0) in
    same_number e im (written e zeros 0 z) i 0 (h.stands ∙ sym (holds_written e z zeros 0 h.fits long).stands) ∙ reads_back e zeros 0 z h.fits long

pub holds_once : (e : Elem) (z z' : ℤ) (im : List ℕ) (i : ℕ) → Holds e z im i → Holds e z' im i → z ≡ z'
holds_once e z z' im i h k = sym (value_is e z im i h) ∙ value_is e z' im i k

pub keeps_part : (im part : List ℕ) (i : ℕ) → i + length part ≤ length im → Keeps im (replaced im i part) i (length part)
keeps_part im part i h = record { by = λ j m apart. leaves im part i j m h apart }

pub keeps_written : (e : Elem) (z : ℤ) (im : List ℕ) (i : ℕ) → i + bytes e ≤ length im → Keeps im (written e im i z) i (bytes e)
keeps_written e z im i h =
    let n = length-bytes_of e z in
    subst (λ m. Keeps im (written e im i z) i m) n (keeps_part im (bytes_of e z) i (omega (arith, n)))

pub copied_same : (im source : List ℕ) (to from n : ℕ) → to + n ≤ length im → from + n ≤ length source → Same source (replaced im to (slice_range source from (from + n))) from to 0 n
copied_same im source to from n h g = record {
  by = λ a b k m p q r s.
      let long = length-range source from n g in
      let one : slice_range (replaced im to (slice_range source from (from + n))) (to + k) (to + k + m) ≡ slice_range (slice_range source from (from + n)) k (k + m) = inside im (slice_range source from (from + n)) to k m (omega (arith, long)) (omega (arith, long)) in
      let two = range_of_range source from n k m s in
      rw (p, q) (sym two ∙ sym one);
}

pub keeps_copied : (im source : List ℕ) (to from n : ℕ) → to + n ≤ length im → from + n ≤ length source → Keeps im (replaced im to (slice_range source from (from + n))) to n
keeps_copied im source to from n h g =
    let long = length-range source from n g in
    subst (λ m. Keeps im (replaced im to (slice_range source from (from + n))) to m) long (keeps_part im (slice_range source from (from + n)) to (omega (arith, long)))

pub length-written : (e : Elem) (z : ℤ) (im : List ℕ) (i : ℕ) → i + bytes e ≤ length im → length (written e im i z) ≡ length im
length-written e z im i h = let n = length-bytes_of e z in length-replaced im (bytes_of e z) i (omega (arith, n))
