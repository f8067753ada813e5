-- What is spelled depends on its own bytes alone: it can be read and moved.
use Rattle.std.proofs.Common.{◌≡◌, ◌≤◌, ◌<◌, ℕ, zero, suc, ◌+◌, ◌*◌, ℤ, Bool, true, false, List, [], ◌∷◌, Option, Some, None, refl, sym, ap, ◌∙◌, subst, inl, inr, ⊎_elim, arith}
use Rattle.std.specs.Prelude.{◌⊎◌, slice_range, nat_lt, if◌then◌else◌}
use Rattle.std.proofs.lemmas.Bool.{ltb-true}
use Rattle.st_types.specs.declared.elem.Elem.{Elem}
use Rattle.st_types.specs.Elem.{bytes}
use Rattle.st_tree.specs.declared.path.Step.TheVariants as step
use Rattle.st_values.specs.Value.{Path, Step, Value, Members, ◌>>=◌, part, member, element, place_of_index, value_at}
use Rattle.st_values.specs.Shape.{Shape, Elementary, Enumeration, Reference, Interface, Array, Structure, Instance, Fields, no_fields, field_then}
use Rattle.st_values.proofs.ValueLaws.{then_some}
use Rattle.mem_layout.specs.store_bytes.Place.{gap, alignment, greatest, size, ending, Place, field_place, element_place, part_place, inner_place}
use Rattle.mem_layout.specs.store_bytes.Spells.{Holds, HoldsAddress, Blank, Spells, EachSpells}
use Rattle.mem_layout.specs.store_bytes.StoreLaws.{Keeps}

-- the bytes behind i in the one image are those behind j in the other, from lo up to hi
pub record Same (im im' : List ℕ) (i j lo hi : ℕ) : Type 0 where
  pub by : (a b k m : ℕ) → a ≡ i + k → b ≡ j + k → lo ≤ k → k + m ≤ hi → slice_range im a (a + m) ≡ slice_range im' b (b + m)

pub narrow : {im im' : List ℕ} {i j lo hi : ℕ} → Same im im' i j lo hi → (u n : ℕ) → lo ≤ u → u + n ≤ hi → Same im im' (i + u) (j + u) 0 n
narrow h u n low high = record { by = λ a b k m p q r s. h.by a b (u + k) m (omega arith) (omega arith) (omega arith) (omega arith) }

pub between : {im im' : List ℕ} {i j lo hi : ℕ} → Same im im' i j lo hi → (lo' hi' : ℕ) → lo ≤ lo' → hi' ≤ hi → Same im im' i j lo' hi'
between h lo' hi' low high = record { by = λ a b k m p q r s. h.by a b k m p q (omega arith) (omega arith) }

pub kept_same : {im im' : List ℕ} {d n : ℕ} → Keeps im im' d n → (i lo hi : ℕ) → (i + hi ≤ d) ⊎ (d + n ≤ i + lo) → Same im im' i i lo hi
kept_same {im = im} {im' = im'} {d = d} {n = n} h i lo hi apart = record {
  by = λ a b k m p q r s.
      let e : a ≡ b = omega arith in
      subst (λ x. slice_range im a (a + m) ≡ slice_range im' x (x + m)) e
      (sym (h.by a m (⊎_elim (λ (x : i + hi ≤ d). let y : a + m ≤ d = omega arith in inr y) (λ (x : d + n ≤ i + lo). let y : d + n ≤ a = omega arith in inl y) apart)));
}

pub holds_moved : {e : Elem} {z : ℤ} {im im' : List ℕ} {i j : ℕ} → Same im im' i j 0 (bytes e) → Holds e z im i → Holds e z im' j
holds_moved {e = e} {i = i} {j = j} s h = record { fits = h.fits; stands = sym (s.by i j 0 (bytes e) (omega arith) (omega arith) (omega arith) (omega arith)) ∙ h.stands }

pub blank_moved : {im im' : List ℕ} {i j lo hi : ℕ} (u n : ℕ) → Same im im' i j lo hi → lo ≤ u → u + n ≤ hi → Blank im (i + u) n → Blank im' (j + u) n
blank_moved {i = i} {j = j} u n s low high h = sym (s.by (i + u) (j + u) u n refl refl low high) ∙ h

pub ending_above : (fs : Fields) (off : ℕ) → off ≤ ending off fs
ending_above no_fields off = omega arith
ending_above (field_then v sh fs) off = let h = ending_above fs (off + gap (alignment sh) off + size sh) in omega arith

-- an element lies within its array
pub row_within : (k n m : ℕ) → k < n → k * m + m ≤ n * m
row_within k n m h = grind arith

module _ (regions : ℕ → Option Shape) where
  address_moved : {o : Option Path} {im im' : List ℕ} {i j : ℕ} → Same im im' i j 0 8 → HoldsAddress regions o im i → HoldsAddress regions o im' j
  address_moved s h = record { word = h.word; refers = h.refers; holds = holds_moved s h.holds }

  mutual
    pub moved : (sh : Shape) (v : Value) (im im' : List ℕ) (i j : ℕ) → Same im im' i j 0 (size sh) → Spells regions sh v im i → Spells regions sh v im' j
    moved (Elementary e) v im im' i j s h = (h.0, h.1, holds_moved s h.2)
    moved (Enumeration name values) v im im' i j s h = (h.0, h.1, holds_moved s h.2)
    moved (Reference c name) v im im' i j s h = (h.0, h.1, address_moved s h.2)
    moved (Interface k name) v im im' i j s h = (h.0, h.1, address_moved s h.2)
    moved (Array low n sh) v im im' i j s h = (
      h.0,
      h.1,
      h.2,
      λ k lt. let x = h.3 k lt in
          (x.0, x.1, moved sh x.0 im im' (i + k * size sh) (j + k * size sh) (narrow s (k * size sh) (size sh) (omega arith) (row_within k n (size sh) lt)) x.2),
    )
    moved (Structure name fs) v im im' i j s h = (
      h.0,
      h.1,
      each_moved fs 0 h.0 im im' i j (between s 0 (ending 0 fs) (omega arith) (omega arith)) h.2,
      blank_moved (ending 0 fs) (gap (greatest fs) (ending 0 fs)) s (omega arith) (omega arith) h.3,
    )
    moved (Instance c name fs) v im im' i j s h = (
      h.0,
      h.1,
      holds_moved (between s 0 8 (omega arith) (omega (arith, ending_above fs 8))) h.2,
      each_moved fs 8 h.0 im im' i j (between s 8 (ending 8 fs) (omega arith) (omega arith)) h.3,
      blank_moved (ending 8 fs) (gap 8 (ending 8 fs)) s (omega arith) (omega arith) h.4,
    )

    pub each_moved : (fs : Fields) (off : ℕ) (ms : Members) (im im' : List ℕ) (i j : ℕ) → Same im im' i j off (ending off fs) → EachSpells regions off fs ms im i → EachSpells regions off fs ms im' j
    each_moved no_fields off ms im im' i j s h = h
    each_moved (field_then x sh fs) off ms im im' i j s h =
        let from = off + gap (alignment sh) off in
        let behind = from + size sh in
        let more : behind ≤ ending behind fs = ending_above fs behind in (
          h.0,
          h.1,
          h.2,
          blank_moved off (gap (alignment sh) off) s (omega arith) (omega arith) h.3,
          moved sh h.0 im im' (i + from) (j + from) (narrow s from (size sh) (omega arith) (omega arith)) h.4,
          each_moved fs behind h.1 im im' i j (between s behind (ending behind fs) (omega arith) (omega arith)) h.5,
        )

  -- a part of what is spelled, where a step leads
  pub record Part (x : Place) (v : Value) (s : Step) (im : List ℕ) (i : ℕ) : Type 0 where
    pub inner : Value
    pub there : part v s ≡ Some inner
    pub spells : Spells regions x.shape inner im (i + x.offset)

  pub field_read : (fs : Fields) (off : ℕ) (ms : Members) (im : List ℕ) (i k : ℕ) (x : Place) → EachSpells regions off fs ms im i → field_place off fs k ≡ Some x → (w : Value) × (member ms k ≡ Some w) × Spells regions x.shape w im (i + x.offset)
  field_read no_fields off ms im i k x h e = cc
  field_read (field_then v sh fs) off ms im i zero x h e =
      let is : record { offset = off + gap (alignment sh) off; shape = sh } ≡ x = cc in
      (h.0, ap (λ u. member u zero) h.2, subst (λ (y : Place). Spells regions y.shape h.0 im (i + y.offset)) is h.4)
  field_read (field_then v sh fs) off ms im i (suc k) x h e =
      let r = field_read fs (off + gap (alignment sh) off + size sh) h.1 im i k x h.5 e in
      (r.0, ap (λ u. member u (suc k)) h.2 ∙ r.1, r.2)

  -- an element that is there
  pub record Element (n : ℕ) (sh : Shape) (o : Option ℕ) (x : Place) : Type 0 where
    pub index : ℕ
    pub is : o ≡ Some index
    pub within : index < n
    pub place : record { offset = index * size sh; shape = sh } ≡ x

  pub element_is : (n : ℕ) (sh : Shape) (o : Option ℕ) (x : Place) → element_place n sh o ≡ Some x → Element n sh o x
  element_is n sh None x h = cc
  element_is n sh (Some k) x h = go (nat_lt k n) refl h
    where
      go : (b : Bool) → nat_lt k n ≡ b → (if b then Some (record { offset = k * size sh; shape = sh }) else None) ≡ Some x → Element n sh (Some k) x
      go true q p = record { index = k; is = refl; within = ltb-true k n q; place = cc }
      go false q p = cc

  pub part_read : (sh : Shape) (s : Step) (v : Value) (im : List ℕ) (i : ℕ) (x : Place) → Spells regions sh v im i → part_place sh s ≡ Some x → Part x v s im i
  part_read (Elementary e) s v im i x h p = cc
  part_read (Enumeration name values) s v im i x h p = cc
  part_read (Reference c name) s v im i x h p = cc
  part_read (Interface k name) s v im i x h p = cc
  part_read (Array low n sh) (step.Field f) v im i x h p = cc
  part_read (Array low n sh) (step.Element j) v im i x h p =
      let y = element_is n sh (place_of_index low j) x p in
      let r = h.3 y.index y.within in
      subst (λ u. Part x u (step.Element j) im i) (sym h.1)
      (record { inner = r.0; there = ap (λ o. o >>= λ k. element h.0 k) y.is ∙ r.1; spells = subst (λ (y : Place). Spells regions y.shape r.0 im (i + y.offset)) y.place r.2 })
  part_read (Structure name fs) (step.Element j) v im i x h p = cc
  part_read (Structure name fs) (step.Field k) v im i x h p =
      let r = field_read fs 0 h.0 im i k x h.2 p in
      subst (λ u. Part x u (step.Field k) im i) (sym h.1) (record { inner = r.0; there = r.1; spells = r.2 })
  part_read (Instance c name fs) (step.Element j) v im i x h p = cc
  part_read (Instance c name fs) (step.Field k) v im i x h p =
      let r = field_read fs 8 h.0 im i k x h.3 p in
      subst (λ u. Part x u (step.Field k) im i) (sym h.1) (record { inner = r.0; there = r.1; spells = r.2 })

  pub read : (ss : List Step) (sh : Shape) (v : Value) (im : List ℕ) (i : ℕ) (x : Place) → Spells regions sh v im i → inner_place sh ss ≡ Some x → (w : Value) × (value_at v ss ≡ Some w) × Spells regions x.shape w im (i + x.offset)
  read [] sh v im i x h e =
      let is : record { offset = 0; shape = sh } ≡ x = cc in
      let here : i ≡ i + 0 = omega arith in
      (v, refl, subst (λ (y : Place). Spells regions y.shape v im (i + y.offset)) is (subst (λ a. Spells regions sh v im a) here h))
  read (s ∷ ss) sh v im i x h e =
      let a = then_some (part_place sh s) _ x e in
      let b = then_some (inner_place a.0.shape ss) _ x a.2 in
      let is : record { offset = a.0.offset + b.0.offset; shape = b.0.shape } ≡ x = cc in
      let p = part_read sh s v im i a.0 h a.1 in
      let r = read ss a.0.shape p.inner im (i + a.0.offset) b.0 p.spells b.1 in
      let there : i + a.0.offset + b.0.offset ≡ i + (a.0.offset + b.0.offset) = omega arith in (
        r.0,
        ap (λ o. o >>= λ w. value_at w ss) p.there ∙ r.1,
        subst (λ (y : Place). Spells regions y.shape r.0 im (i + y.offset)) is (subst (λ n. Spells regions b.0.shape r.0 im n) there r.2),
      )
