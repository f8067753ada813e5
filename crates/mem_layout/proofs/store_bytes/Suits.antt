-- What suits is spelled by its image.
use Rattle.std.proofs.Common.{◌≡◌, ◌≤◌, ◌<◌, ℕ, zero, suc, ◌+◌, ◌-◌, ◌*◌, ℤ, pos, List, [], ◌++◌, length, replicate, Option, Some, refl, sym, ap, ◌∙◌, subst, arith, drop}
use Rattle.std.specs.Prelude.{slice_range}
use Rattle.std.proofs.lemmas.List.{append_assoc, append-nil, length-append, length-replicate, drop_at, drop-append-le, take-append-le, take_all, length-drop, drop-drop}
use Rattle.st_types.specs.Elem.{bytes}
use Rattle.st_types.specs.declared.elem.Elem.{Elem}
use Rattle.st_types.specs.declared.elem.Elem.TheVariants.{Udint, Ulint}
use Rattle.st_types.specs.Range.{Fits}
use Rattle.mem_image.specs.Image.{bytes_of}
use Rattle.st_values.specs.Value.{Path, Value, number, reference, Values, no_values, value_then, Members, element}
use Rattle.st_values.specs.Shape.{Shape, Elementary, Enumeration, Reference, Interface, Array, Structure, Instance, Fields, no_fields, field_then}
use Rattle.mem_layout.specs.store_bytes.Place.{gap, alignment, greatest, size, ending}
use Rattle.mem_layout.specs.store_bytes.Spells.{count, Holds, HoldsAddress, Blank, IsKept, Spells, EachSpells, Suits, EachSuits}
use Rattle.mem_layout.specs.store_bytes.Image.{number_of, target_of, elements_of, members_of, first_of, rest_of, each_of, word_of, image_of, fields_of}
use Rattle.mem_layout.specs.store_bytes.SuitsLaws.{SuitsLaws}
use Rattle.mem_layout.proofs.store_bytes.Moves.{Same, moved}
use Rattle.mem_layout.proofs.store_bytes.Leaves.{length-bytes_of}
use Rattle.mem_layout.proofs.store_bytes.Image.{word_is, same_bytes}

-- ---- a part of a list between two others

middle : (a w b : List ℕ) (k m : ℕ) → k + m ≤ length w → slice_range (a ++ (w ++ b)) (length a + k) (length a + k + m) ≡ slice_range w k (k + m)
middle a w b k m h =
    let e : k + m - k ≡ m = omega arith in
    let f : length a + k + m - (length a + k) ≡ m = omega arith in
    let cut : drop (length a + k) (a ++ (w ++ b)) ≡ drop k (w ++ b) = sym (drop-drop k (length a) (a ++ (w ++ b))) ∙ ap (drop k) (drop_at a (w ++ b) (length a) refl) in
    rw (e, f, cut, drop-append-le k w b (omega arith)) (take-append-le m (drop k w) b (omega (arith, length-drop k w)))

-- the bytes of a list are the same within a longer one
placed : (a w b : List ℕ) (i n : ℕ) → length a ≡ i → length w ≡ n → Same w (a ++ (w ++ b)) 0 i 0 n
placed a w b i n e f = record {
  by = λ x y k m p q r s.
      let u : x ≡ k = omega arith in
      let v : y ≡ length a + k = omega arith in
      rw (u, v) (sym (middle a w b k m (omega (arith, f, s))));
}

pub whole_range : (w : List ℕ) (n : ℕ) → length w ≡ n → slice_range w 0 (0 + n) ≡ w
whole_range w n e = let z : 0 + n - 0 ≡ n = omega arith in rw z (take_all n w (omega (arith, e)))

-- a list stands where it was put
stands_at : (a w b : List ℕ) (i n : ℕ) → length a ≡ i → length w ≡ n → slice_range (a ++ (w ++ b)) i (i + n) ≡ w
stands_at a w b i n e f =
    let s = placed a w b i n e f in
    sym (s.by 0 i 0 n (omega arith) (omega arith) (omega arith) (omega arith)) ∙ whole_range w n f

zeros_at : (a b : List ℕ) (i n : ℕ) → length a ≡ i → Blank (a ++ (replicate n 0 ++ b)) i n
zeros_at a b i n e = stands_at a (replicate n 0) b i n e (length-replicate {A = ℕ} n 0)

each_count : (vs : Values) (f : Value → List ℕ) (m : ℕ) → ((k : ℕ) → k < count vs → (w : Value) × (element vs k ≡ Some w) × (length (f w) ≡ m)) → length (each_of f vs) ≡ count vs * m
each_count no_values f m h = omega arith
each_count (value_then v vs) f m h =
    let a = h 0 (omega arith) in
    let is : a.0 ≡ v = cc in
    let l : length (f v) ≡ m = sym (ap (λ w. length (f w)) is) ∙ a.2 in
    let r = each_count vs f m (λ k lt. h (suc k) (omega arith)) in
    let s : suc (count vs) * m ≡ m + count vs * m = grind arith in
    omega (arith, length-append (f v) (each_of f vs), l, r, s)

module _ (regions : ℕ → Option Shape) where
  mutual
    image_long : (sh : Shape) (v : Value) → Suits regions sh v → length (image_of regions sh v) ≡ size sh
    image_long (Elementary e) v h = length-bytes_of e (number_of v)
    image_long (Enumeration name values) v h = length-bytes_of Udint (number_of v)
    image_long (Reference c name) v h = length-bytes_of Ulint (pos (word_of regions (target_of v)))
    image_long (Interface k name) v h = length-bytes_of Ulint (pos (word_of regions (target_of v)))
    image_long (Array low n sh) v h =
        let e = each_count h.0 (image_of regions sh) (size sh) (λ k lt.
        let lt' : k < n = omega (arith, lt, h.2) in
        let x = h.3 k lt' in
        (x.0, x.1, image_long sh x.0 x.2)) in
        ap (λ u. length (each_of (image_of regions sh) (elements_of u))) h.1 ∙ (e ∙ ap (λ m. m * size sh) h.2)
    image_long (Structure name fs) v h =
        let g = gap (greatest fs) (ending 0 fs) in
        let f = fields_long fs 0 h.0 h.2 in
        let z : List ℕ = replicate g 0 in
        ap (λ u. length (fields_of regions 0 fs (members_of u) ++ replicate g 0)) h.1
        ∙ omega (arith, length-append (fields_of regions 0 fs h.0) z, length-replicate {A = ℕ} g 0, f)
    image_long (Instance c name fs) v h =
        let g = gap 8 (ending 8 fs) in
        let f = fields_long fs 8 h.0 h.3 in
        let z : List ℕ = replicate g 0 in
        ap (λ u. length (bytes_of Ulint (pos c) ++ (fields_of regions 8 fs (members_of u) ++ replicate g 0))) h.1
        ∙ omega (arith, length-append (bytes_of Ulint (pos c)) (fields_of regions 8 fs h.0 ++ z), length-append (fields_of regions 8 fs h.0) z, length-replicate {A = ℕ} g 0, length-bytes_of Ulint (pos c), f)

    fields_long : (fs : Fields) (off : ℕ) (ms : Members) → EachSuits regions fs ms → off + length (fields_of regions off fs ms) ≡ ending off fs
    fields_long no_fields off ms h = omega arith
    fields_long (field_then x sh fs) off ms h =
        let g = gap (alignment sh) off in
        let behind = off + g + size sh in
        let z : List ℕ = replicate g 0 in
        let l = image_long sh h.0 h.3 in
        let r = fields_long fs behind h.1 h.4 in
        ap (λ u. off + length (replicate g 0 ++ (image_of regions sh (first_of u) ++ fields_of regions behind fs (rest_of u)))) h.2
        ∙ omega (arith, length-append z (image_of regions sh h.0 ++ fields_of regions behind fs h.1), length-append (image_of regions sh h.0) (fields_of regions behind fs h.1), length-replicate {A = ℕ} g 0, l, r)

  number_holds : (e : Elem) (v : Value) (h : (z : ℤ) × (v ≡ number z) × Fits e z) → Holds e h.0 (bytes_of e (number_of v)) 0
  number_holds e v h = record { fits = h.2; stands = whole_range (bytes_of e (number_of v)) (bytes e) (length-bytes_of e (number_of v)) ∙ ap (λ u. bytes_of e (number_of u)) h.1 }

  address_holds : (v : Value) (h : (o : Option Path) × (v ≡ reference o) × IsKept regions o) → HoldsAddress regions h.0 (bytes_of Ulint (pos (word_of regions (target_of v)))) 0
  address_holds v h =
      let w : word_of regions (target_of v) ≡ h.2.word = ap (λ u. word_of regions (target_of u)) h.1 ∙ sym (word_is regions h.0 h.2.word h.2.refers) in
      record {
        word = h.2.word;
        refers = h.2.refers;
        holds = record {
          fits = h.2.fits;
          stands =
              whole_range (bytes_of Ulint (pos (word_of regions (target_of v)))) 8 (length-bytes_of Ulint (pos (word_of regions (target_of v)))) ∙ ap (λ n. bytes_of Ulint (pos n)) w;
        };
      }

  -- the elements one behind the other
  each_spells : (sh : Shape) (vs : Values) (a b : List ℕ) (i : ℕ) → length a ≡ i → ((k : ℕ) → k < count vs → (w : Value) × (element vs k ≡ Some w) × (length (image_of regions sh w) ≡ size sh) × Spells regions sh w (image_of regions sh w) 0)
      → (k : ℕ) → k < count vs → (w : Value) × (element vs k ≡ Some w) × Spells regions sh w (a ++ (each_of (image_of regions sh) vs ++ b)) (i + k * size sh)
  each_spells sh no_values a b i e h k lt = absurd (omega arith)
  each_spells sh (value_then v vs) a b i e h zero lt =
      let x = h 0 (omega arith) in
      let is : x.0 ≡ v = cc in
      let w = image_of regions sh x.0 in
      let rest = each_of (image_of regions sh) vs ++ b in
      let s = moved regions sh x.0 w (a ++ (w ++ rest)) 0 i (placed a w rest i (size sh) e x.2) x.3 in
      let at : i ≡ i + 0 * size sh = omega arith in
      let same : a ++ (w ++ rest) ≡ a ++ (each_of (image_of regions sh) (value_then v vs) ++ b) =
      ap (λ u. a ++ (image_of regions sh u ++ rest)) is ∙ ap (λ l. a ++ l) (sym (append_assoc (image_of regions sh v) (each_of (image_of regions sh) vs) b)) in
      (x.0, x.1, subst (λ j. Spells regions sh x.0 (a ++ (each_of (image_of regions sh) (value_then v vs) ++ b)) j) at (subst (λ l. Spells regions sh x.0 l i) same s))
  each_spells sh (value_then v vs) a b i e h (suc k) lt =
      let x = h 0 (omega arith) in
      let is : x.0 ≡ v = cc in
      let w = image_of regions sh v in
      let long : length w ≡ size sh = sym (ap (λ u. length (image_of regions sh u)) is) ∙ x.2 in
      let front : length (a ++ w) ≡ i + size sh = omega (arith, length-append a w, e, long) in
      let r = each_spells sh vs (a ++ w) b (i + size sh) front (λ j l. h (suc j) (omega arith)) k (omega arith) in
      let at : i + size sh + k * size sh ≡ i + suc k * size sh = grind arith in
      let same : (a ++ w) ++ (each_of (image_of regions sh) vs ++ b) ≡ a ++ (each_of (image_of regions sh) (value_then v vs) ++ b) =
      append_assoc a w (each_of (image_of regions sh) vs ++ b) ∙ ap (λ l. a ++ l) (sym (append_assoc w (each_of (image_of regions sh) vs) b)) in
      (r.0, r.1, subst (λ j. Spells regions sh r.0 (a ++ (each_of (image_of regions sh) (value_then v vs) ++ b)) j) at (subst (λ l. Spells regions sh r.0 l (i + size sh + k * size sh)) same r.2))

  mutual
    image_spells : (sh : Shape) (v : Value) → Suits regions sh v → Spells regions sh v (image_of regions sh v) 0
    image_spells (Elementary e) v h = (h.0, h.1, number_holds e v h)
    image_spells (Enumeration name values) v h = (h.0, h.1, number_holds Udint v h)
    image_spells (Reference c name) v h = (h.0, h.1, address_holds v h)
    image_spells (Interface k name) v h = (h.0, h.1, address_holds v h)
    image_spells (Array low n sh) v h =
        let each = each_spells sh h.0 [] [] 0 refl (λ k lt.
        let lt' : k < n = omega (arith, lt, h.2) in
        let x = h.3 k lt' in
        (x.0, x.1, image_long sh x.0 x.2, image_spells sh x.0 x.2)) in
        let same : each_of (image_of regions sh) h.0 ++ [] ≡ image_of regions (Array low n sh) v = append-nil (each_of (image_of regions sh) h.0) ∙ sym (ap (λ u. each_of (image_of regions sh) (elements_of u)) h.1) in (
          h.0,
          h.1,
          h.2,
          λ k lt.
              let lt' : k < count h.0 = omega (arith, lt, h.2) in
              let x = each k lt' in
              (x.0, x.1, subst (λ l. Spells regions sh x.0 l (0 + k * size sh)) same x.2),
        )
    image_spells (Structure name fs) v h =
        let g = gap (greatest fs) (ending 0 fs) in
        let f = fields_of regions 0 fs h.0 in
        let z : List ℕ = replicate g 0 in
        let l = fields_long fs 0 h.0 h.2 in
        let same : f ++ z ≡ image_of regions (Structure name fs) v = sym (ap (λ u. fields_of regions 0 fs (members_of u) ++ replicate g 0) h.1) in
        let pad : Blank (f ++ (z ++ [])) (0 + ending 0 fs) g = zeros_at f [] (0 + ending 0 fs) g (omega (arith, l)) in (
          h.0,
          h.1,
          subst (λ m. EachSpells regions 0 fs h.0 m 0) same (each_field_spells fs 0 h.0 [] z 0 (omega arith) h.2),
          subst (λ m. Blank m (0 + ending 0 fs) g) (ap (λ m. f ++ m) (append-nil z) ∙ same) pad,
        )
    image_spells (Instance c name fs) v h =
        let g = gap 8 (ending 8 fs) in
        let n = bytes_of Ulint (pos c) in
        let f = fields_of regions 8 fs h.0 in
        let z : List ℕ = replicate g 0 in
        let ln = length-bytes_of Ulint (pos c) in
        let l = fields_long fs 8 h.0 h.3 in
        let same : n ++ (f ++ z) ≡ image_of regions (Instance c name fs) v = sym (ap (λ u. bytes_of Ulint (pos c) ++ (fields_of regions 8 fs (members_of u) ++ replicate g 0)) h.1) in
        let first : slice_range (n ++ (f ++ z)) 0 (0 + 8) ≡ n = stands_at [] n (f ++ z) 0 8 refl ln in
        let front : length (n ++ f) ≡ 0 + ending 8 fs = omega (arith, length-append n f, ln, l) in
        let pad : Blank ((n ++ f) ++ (z ++ [])) (0 + ending 8 fs) g = zeros_at (n ++ f) [] (0 + ending 8 fs) g front in (
          h.0,
          h.1,
          record { fits = h.2; stands = subst (λ m. slice_range m 0 (0 + 8) ≡ n) same first },
          subst (λ m. EachSpells regions 8 fs h.0 m 0) same (each_field_spells fs 8 h.0 n z 0 (omega (arith, ln)) h.3),
          subst (λ m. Blank m (0 + ending 8 fs) g) (ap (λ m. (n ++ f) ++ m) (append-nil z) ∙ (append_assoc n f z ∙ same)) pad,
        )

    each_field_spells : (fs : Fields) (off : ℕ) (ms : Members) (a b : List ℕ) (i : ℕ) → length a ≡ i + off → EachSuits regions fs ms → EachSpells regions off fs ms (a ++ (fields_of regions off fs ms ++ b)) i
    each_field_spells no_fields off ms a b i e h = h
    each_field_spells (field_then x sh fs) off ms a b i e h =
        let g = gap (alignment sh) off in
        let from = off + g in
        let behind = from + size sh in
        let z : List ℕ = replicate g 0 in
        let w = image_of regions sh h.0 in
        let r = fields_of regions behind fs h.1 in
        let lz : length z ≡ g = length-replicate {A = ℕ} g 0 in
        let lw = image_long sh h.0 h.3 in
        let whole : fields_of regions off (field_then x sh fs) ms ≡ z ++ (w ++ r) = ap (λ u. replicate g 0 ++ (image_of regions sh (first_of u) ++ fields_of regions behind fs (rest_of u))) h.2 in
        let same : a ++ (z ++ (w ++ r) ++ b) ≡ a ++ (fields_of regions off (field_then x sh fs) ms ++ b) = ap (λ u. a ++ (u ++ b)) (sym whole) in
        -- the list with the padding, the field, and the rest in their places
        let one : a ++ (z ++ (w ++ r ++ b)) ≡ a ++ (z ++ (w ++ r) ++ b) = ap (λ u. a ++ u) (sym (append_assoc z (w ++ r) b)) in
        let two' : (a ++ z) ++ (w ++ (r ++ b)) ≡ a ++ (z ++ (w ++ r ++ b)) = append_assoc a z (w ++ (r ++ b)) ∙ ap (λ u. a ++ (z ++ u)) (sym (append_assoc w r b)) in
        let three : (a ++ z ++ w) ++ (r ++ b) ≡ (a ++ z) ++ (w ++ (r ++ b)) = append_assoc (a ++ z) w (r ++ b) in
        let laz : length (a ++ z) ≡ i + from = omega (arith, length-append a z, e, lz) in
        let lazw : length (a ++ z ++ w) ≡ i + behind = omega (arith, length-append (a ++ z) w, laz, lw) in
        let s = moved regions sh h.0 w ((a ++ z) ++ (w ++ (r ++ b))) 0 (i + from) (placed (a ++ z) w (r ++ b) (i + from) (size sh) laz lw) (image_spells sh h.0 h.3) in
        let t = each_field_spells fs behind h.1 (a ++ z ++ w) b i lazw h.4 in (
          h.0,
          h.1,
          h.2,
          subst (λ m. Blank m (i + off) g) (one ∙ same) (zeros_at a (w ++ r ++ b) (i + off) g e),
          subst (λ m. Spells regions sh h.0 m (i + from)) (two' ∙ (one ∙ same)) s,
          subst (λ m. EachSpells regions behind fs h.1 m i) (three ∙ (two' ∙ (one ∙ same))) t,
        )

  mutual
    spells_suits : (sh : Shape) (v : Value) (im : List ℕ) (i : ℕ) → Spells regions sh v im i → Suits regions sh v
    spells_suits (Elementary e) v im i h = (h.0, h.1, h.2.fits)
    spells_suits (Enumeration name values) v im i h = (h.0, h.1, h.2.fits)
    spells_suits (Reference c name) v im i h = (h.0, h.1, record { word = h.2.word; refers = h.2.refers; fits = h.2.holds.fits })
    spells_suits (Interface k name) v im i h = (h.0, h.1, record { word = h.2.word; refers = h.2.refers; fits = h.2.holds.fits })
    spells_suits (Array low n sh) v im i h = (h.0, h.1, h.2, λ k lt. let x = h.3 k lt in (x.0, x.1, spells_suits sh x.0 im (i + k * size sh) x.2))
    spells_suits (Structure name fs) v im i h = (h.0, h.1, each_suits fs 0 h.0 im i h.2)
    spells_suits (Instance c name fs) v im i h = (h.0, h.1, h.2.fits, each_suits fs 8 h.0 im i h.3)

    each_suits : (fs : Fields) (off : ℕ) (ms : Members) (im : List ℕ) (i : ℕ) → EachSpells regions off fs ms im i → EachSuits regions fs ms
    each_suits no_fields off ms im i h = h
    each_suits (field_then x sh fs) off ms im i h =
        (h.0, h.1, h.2, spells_suits sh h.0 im (i + (off + gap (alignment sh) off)) h.4, each_suits fs (off + gap (alignment sh) off + size sh) h.1 im i h.5)

  spelled_by : (sh : Shape) (v : Value) (im : List ℕ) (i : ℕ) → Suits regions sh v → slice_range im i (i + size sh) ≡ image_of regions sh v → Spells regions sh v im i
  spelled_by sh v im i h e =
      let w = image_of regions sh v in
      let l = image_long sh v h in
      moved regions sh v w im 0 i (same_bytes w im 0 i (size sh) (e ∙ sym (whole_range w (size sh) l))) (image_spells sh v h)

pub suits_laws : (regions : ℕ → Option Shape) → SuitsLaws regions
suits_laws regions = record {
  suits = λ sh v im i h. spells_suits regions sh v im i h;
  spelled = λ sh v im i h e. spelled_by regions sh v im i h e;
  long = λ sh v h. image_long regions sh v h;
}
