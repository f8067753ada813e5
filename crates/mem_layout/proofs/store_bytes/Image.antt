-- What spells a value is its image.
use Rattle.std.proofs.Common.{◌≡◌, ◌<◌, ℕ, suc, ◌+◌, ◌-◌, ◌*◌, pos, List, ◌++◌, Option, Some, None, replicate, refl, sym, ap, ◌∙◌, subst, arith, drop, take-add, drop-drop}
use Rattle.std.specs.Prelude.{slice_range}
use Rattle.st_types.specs.declared.elem.Elem.TheVariants.{Udint, Ulint}
use Rattle.mem_image.specs.Image.{bytes_of}
use Rattle.mem_image.proofs.PartLaws.{range_of_range}
use Rattle.st_values.specs.Value.{Path, Value, reference, Values, no_values, value_then, Members, element}
use Rattle.st_values.specs.Shape.{Shape, Elementary, Enumeration, Reference, Interface, Array, Structure, Instance, Fields, no_fields, field_then}
use Rattle.mem_layout.specs.store_bytes.Place.{gap, alignment, greatest, size, ending}
use Rattle.mem_layout.specs.store_bytes.Spells.{count, HoldsAddress, Refers, Spells, EachSpells}
use Rattle.mem_layout.specs.store_bytes.Image.{number_of, target_of, elements_of, members_of, first_of, rest_of, each_of, word_at, word_of, image_of, fields_of}
use Rattle.mem_layout.specs.store_bytes.StoreLaws.{SpellingLaws}
use Rattle.mem_layout.proofs.store_bytes.Moves.{Same, ending_above, moved}
use Rattle.mem_layout.proofs.store_bytes.Once.{spells_once}

-- parts one behind the other
range_append : (im : List ℕ) (a m n : ℕ) → slice_range im a (a + (m + n)) ≡ slice_range im a (a + m) ++ slice_range im (a + m) (a + m + n)
range_append im a m n =
    let e : a + (m + n) - a ≡ m + n = omega arith in
    let f : a + m - a ≡ m = omega arith in
    let g : a + m + n - (a + m) ≡ n = omega arith in
    rw (e, f, g, ← drop-drop m a im) (take-add m n (drop a im))

-- two parts, one behind the other
two : (im xs ys : List ℕ) (i m n k : ℕ) → k ≡ m + n → slice_range im i (i + m) ≡ xs → slice_range im (i + m) (i + m + n) ≡ ys → slice_range im i (i + k) ≡ xs ++ ys
two im xs ys i m n k e h g = ap (λ x. slice_range im i (i + x)) e ∙ (range_append im i m n ∙ (ap (λ x. x ++ slice_range im (i + m) (i + m + n)) h ∙ ap (λ y. xs ++ y) g))

-- the same where the second begins elsewhere by name
two_at : (im xs ys : List ℕ) (i m n k j : ℕ) → k ≡ m + n → j ≡ i + m → slice_range im i (i + m) ≡ xs → slice_range im j (j + n) ≡ ys → slice_range im i (i + k) ≡ xs ++ ys
two_at im xs ys i m n k j e f h g = two im xs ys i m n k e h (subst (λ a. slice_range im a (a + n) ≡ ys) f g)

each_spelled : (f : Value → List ℕ) (im : List ℕ) (m : ℕ) (vs : Values) (i : ℕ) → ((k : ℕ) → k < count vs → (w : Value) × (element vs k ≡ Some w) × (slice_range im (i + k * m) (i + k * m + m) ≡ f w)) → slice_range im i (i + count vs * m) ≡ each_of f vs
each_spelled f im m no_values i h = let e : i + 0 * m - i ≡ 0 = omega arith in rw e refl
each_spelled f im m (value_then v vs) i h =
    let a = h 0 (omega arith) in
    let v-is : a.0 ≡ v = cc in
    let at : i + 0 * m ≡ i = omega arith in
    let front : slice_range im i (i + m) ≡ f v = subst (λ x. slice_range im x (x + m) ≡ f v) at (a.2 ∙ ap f v-is) in
    let rest : slice_range im (i + m) (i + m + count vs * m) ≡ each_of f vs = each_spelled f im m vs (i + m) (λ k lt.
    let b = h (suc k) (omega arith) in
    let there : i + suc k * m ≡ i + m + k * m = grind arith in
    (b.0, b.1, subst (λ x. slice_range im x (x + m) ≡ f b.0) there b.2)) in
    let long : suc (count vs) * m ≡ m + count vs * m = grind arith in
    two im (f v) (each_of f vs) i m (count vs * m) (suc (count vs) * m) long front rest

at_zero : (im : List ℕ) (i n : ℕ) (xs : List ℕ) → slice_range im (i + 0) (i + 0 + n) ≡ xs → slice_range im i (i + n) ≡ xs
at_zero im i n xs h = let e : i + 0 ≡ i = omega arith in subst (λ a. slice_range im a (a + n) ≡ xs) e h

module _ (regions : ℕ → Option Shape) where
  pub word_is : (o : Option Path) (w : ℕ) → Refers regions o w → w ≡ word_of regions o
  word_is None w h = h
  word_is (Some q) w h = h.word ∙ sym (ap (word_at q) h.place)

  address_is : (v : Value) (im : List ℕ) (i : ℕ) → (h : (o : Option Path) × (v ≡ reference o) × HoldsAddress regions o im i) → slice_range im i (i + 8) ≡ bytes_of Ulint (pos (word_of regions (target_of v)))
  address_is v im i h = h.2.holds.stands ∙ ap (λ w. bytes_of Ulint (pos w)) (word_is h.0 h.2.word h.2.refers ∙ sym (ap (λ u. word_of regions (target_of u)) h.1))

  mutual
    pub spelled_is : (sh : Shape) (v : Value) (im : List ℕ) (i : ℕ) → Spells regions sh v im i → slice_range im i (i + size sh) ≡ image_of regions sh v
    spelled_is (Elementary e) v im i h = h.2.stands ∙ ap (bytes_of e) (sym (ap number_of h.1))
    spelled_is (Enumeration name values) v im i h = h.2.stands ∙ ap (bytes_of Udint) (sym (ap number_of h.1))
    spelled_is (Reference c name) v im i h = address_is v im i h
    spelled_is (Interface k name) v im i h = address_is v im i h
    spelled_is (Array low n sh) v im i h =
        let body = each_spelled (image_of regions sh) im (size sh) h.0 i (λ k lt.
        let lt' : k < n = omega (arith, lt, h.2) in
        let x = h.3 k lt' in
        (x.0, x.1, spelled_is sh x.0 im (i + k * size sh) x.2)) in
        ap (λ m. slice_range im i (i + m * size sh)) (sym h.2) ∙ (body ∙ sym (ap (λ u. each_of (image_of regions sh) (elements_of u)) h.1))
    spelled_is (Structure name fs) v im i h =
        let g = gap (greatest fs) (ending 0 fs) in
        let whole : slice_range im i (i + (ending 0 fs + g)) ≡ fields_of regions 0 fs h.0 ++ replicate g 0 =
        two im (fields_of regions 0 fs h.0) (replicate g 0) i (ending 0 fs) g _ refl (at_zero im i (ending 0 fs) _ (each_spelled_is fs 0 h.0 im i (ending 0 fs) (omega arith) h.2)) h.3 in
        whole ∙ sym (ap (λ u. fields_of regions 0 fs (members_of u) ++ replicate g 0) h.1)
    spelled_is (Instance c name fs) v im i h =
        let g = gap 8 (ending 8 fs) in
        let n = ending 8 fs - 8 in
        let high = ending_above fs 8 in
        let mid : slice_range im (i + 8) (i + 8 + n) ≡ fields_of regions 8 fs h.0 = each_spelled_is fs 8 h.0 im i n (omega (arith, high)) h.3 in
        let end : slice_range im (i + 8) (i + 8 + (n + g)) ≡ fields_of regions 8 fs h.0 ++ replicate g 0 =
        two_at im (fields_of regions 8 fs h.0) (replicate g 0) (i + 8) n g (n + g) (i + ending 8 fs) refl (omega (arith, high)) mid h.4 in
        let whole : slice_range im i (i + (ending 8 fs + g)) ≡ bytes_of Ulint (pos c) ++ (fields_of regions 8 fs h.0 ++ replicate g 0) =
        two im (bytes_of Ulint (pos c)) (fields_of regions 8 fs h.0 ++ replicate g 0) i 8 (n + g) (ending 8 fs + g) (omega (arith, high)) h.2.stands end in
        whole ∙ sym (ap (λ u. bytes_of Ulint (pos c) ++ (fields_of regions 8 fs (members_of u) ++ replicate g 0)) h.1)

    each_spelled_is : (fs : Fields) (off : ℕ) (ms : Members) (im : List ℕ) (i n : ℕ) → off + n ≡ ending off fs → EachSpells regions off fs ms im i → slice_range im (i + off) (i + off + n) ≡ fields_of regions off fs ms
    each_spelled_is no_fields off ms im i n e h =
        let z : i + off + n - (i + off) ≡ 0 = omega arith in
        rw z refl
    each_spelled_is (field_then x sh fs) off ms im i n e h =
        let a = gap (alignment sh) off in
        let from = off + a in
        let behind = from + size sh in
        let high = ending_above fs behind in
        let k = ending behind fs - behind in
        let rest : slice_range im (i + behind) (i + behind + k) ≡ fields_of regions behind fs h.1 = each_spelled_is fs behind h.1 im i k (omega (arith, high)) h.5 in
        let inner : slice_range im (i + from) (i + from + (size sh + k)) ≡ image_of regions sh h.0 ++ fields_of regions behind fs h.1 =
        two_at im (image_of regions sh h.0) (fields_of regions behind fs h.1) (i + from) (size sh) k (size sh + k) (i + behind) refl (omega arith) (spelled_is sh h.0 im (i + from) h.4) rest in
        let whole : slice_range im (i + off) (i + off + n) ≡ replicate a 0 ++ (image_of regions sh h.0 ++ fields_of regions behind fs h.1) =
        two_at im (replicate a 0) (image_of regions sh h.0 ++ fields_of regions behind fs h.1) (i + off) a (size sh + k) n (i + from) (omega (arith, e, high)) (omega arith) h.3 inner in
        whole ∙ sym (ap (λ u. replicate a 0 ++ (image_of regions sh (first_of u) ++ fields_of regions behind fs (rest_of u))) h.2)

-- equal ranges have equal parts
pub same_bytes : (im im' : List ℕ) (i j n : ℕ) → slice_range im' j (j + n) ≡ slice_range im i (i + n) → Same im im' i j 0 n
same_bytes im im' i j n h = record {
  by = λ a b k m p q r s.
      rw (p, q) (sym (range_of_range im i n k m s) ∙ ap (λ xs. slice_range xs k (k + m)) (sym h) ∙ range_of_range im' j n k m s);
}

pub spelling_laws : (regions : ℕ → Option Shape) → SpellingLaws regions
spelling_laws regions = record {
  once = λ small sh v w im i h k. spells_once regions small sh v w im i h k;
  bytes = λ sh v im i h. spelled_is regions sh v im i h;
  anywhere = λ sh v im im' i j e h. moved regions sh v im im' i j (same_bytes im im' i j (size sh) e) h;
}
