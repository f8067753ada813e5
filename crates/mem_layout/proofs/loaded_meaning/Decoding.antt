-- What bytes spell is what is decoded from them.
use Rattle.std.proofs.Common.{◌≡◌, ◌≤◌, ◌<◌, ℕ, zero, suc, ◌+◌, ◌*◌, ◌-◌, ◌/◌, ◌%◌, ℤ, pos, negsuc, List, [], ◌∷◌, Option, Some, None, refl, sym, ap, ◌∙◌, subst, arith}
use Rattle.std.specs.Prelude.{Bool, true, false, nat_lt, nat_eq, if◌then◌else◌, ◌-ℤ◌, ◌+ℤ◌, unsigned_abs}
use Rattle.std.proofs.lemmas.Bool.{ltb-true}
use Rattle.std.proofs.lemmas.Int.{ints}
use Rattle.st_types.specs.declared.elem.Elem.TheVariants.{Udint, Ulint}
use Rattle.st_tree.specs.declared.path.Step.TheVariants as step
use Rattle.mem_image.specs.Image.{value_at}
use Rattle.st_values.specs.Value.{Path, Step, Value, number, reference, array, structure, instance, Values, no_values, value_then, Members, member_then, element, ◌>>=◌, natural, place_of_index}
use Rattle.st_values.specs.Shape.{Shape, Elementary, Enumeration, Reference, Interface, Array, Structure, Instance, Fields, no_fields, field_then}
use Rattle.st_values.proofs.ValueLaws.{then_some}
use Rattle.mem_layout.specs.store_bytes.Place.{gap, alignment, size, Place, field_place, element_place, part_place, inner_place, place_of, kept}
use Rattle.mem_layout.specs.store_bytes.Spells.{count, HoldsAddress, Refers, Names, Spells, EachSpells}
use Rattle.mem_layout.specs.store_bytes.PlaceLaws.{AreSmall}
use Rattle.mem_layout.proofs.store_bytes.Moves.{element_is}
use Rattle.mem_layout.proofs.store_bytes.Writes.{no_regions, field_within, inner_within}
use Rattle.mem_layout.proofs.store_bytes.Apart.{own_bytes}
use Rattle.mem_layout.proofs.store_bytes.Leaves.{value_is}
use Rattle.mem_layout.specs.loaded_meaning.Decoded.{behind, element_way, way, field_way, path_by, path_in, path_kept, decoded, decoded_fields, decoded_elements}

if_true : {A : Type 0} (b : Bool) (x y : A) → b ≡ true → (if b then x else y) ≡ x
if_true true x y e = refl
if_true false x y e = cc

if_false : {A : Type 0} (b : Bool) (x y : A) → b ≡ false → (if b then x else y) ≡ y
if_false true x y e = cc
if_false false x y e = refl

below : (a b : ℕ) → a < b → nat_lt a b ≡ true
below a b h = grind arith

above : (a b : ℕ) → b ≤ a → nat_lt a b ≡ false
above a b h = grind arith

natural_is : (z : ℤ) (n : ℕ) → natural z ≡ Some n → z ≡ pos n
natural_is (pos m) n e = cc
natural_is (negsuc m) n e = cc

first_index : (low i : ℤ) → place_of_index low i ≡ Some 0 → i ≡ low
first_index low i e = let a : i -ℤ low ≡ pos 0 = natural_is (i -ℤ low) 0 e in omega (arith, ints)

next_index : (low i : ℤ) (k : ℕ) → place_of_index low i ≡ Some (suc k) → place_of_index (low +ℤ pos 1) i ≡ Some k
next_index low i k e =
    let a : i -ℤ low ≡ pos (suc k) = natural_is (i -ℤ low) (suc k) e in
    let b : i -ℤ (low +ℤ pos 1) ≡ pos k = omega (arith, ints) in
    ap natural b

-- ---- ways

element_found : (f : ℕ → Option (List Step)) (n k m : ℕ) (low i : ℤ) (o : ℕ) → place_of_index low i ≡ Some k → k < m → o < n → element_way f n low m (k * n + o) ≡ behind (step.Element i) (f o)
element_found f n zero zero low i o e h g = absurd (omega arith)
element_found f n (suc k) zero low i o e h g = absurd (omega arith)
element_found f n zero (suc m) low i o e h g =
    let z : 0 * n + o ≡ o = omega arith in
    ap (λ x. element_way f n low (suc m) x) z ∙ (if_true (nat_lt o n) _ _ (below o n g) ∙ ap (λ j. behind (step.Element j) (f o)) (sym (first_index low i e)))
element_found f n (suc k) (suc m) low i o e h g =
    let s : suc k * n ≡ n + k * n = grind arith in
    let over : n ≤ suc k * n + o = omega arith in
    let rest : suc k * n + o - n ≡ k * n + o = omega arith in
    if_false (nat_lt (suc k * n + o) n) _ _ (above (suc k * n + o) n over)
    ∙ (ap (λ x. element_way f n (low +ℤ pos 1) m x) rest ∙ element_found f n k m (low +ℤ pos 1) i o (next_index low i k e) (omega arith) g)

field_found : (fs : Fields) (off j k : ℕ) (x : Place) (o : ℕ) → field_place off fs k ≡ Some x → o < size x.shape → field_way off j fs (x.offset + o) ≡ behind (step.Field (j + k)) (way x.shape o)
field_found no_fields off j k x o e h = cc
field_found (field_then v sh fs) off j zero x o e h =
    let is : record { offset = off + gap (alignment sh) off; shape = sh } ≡ x = cc in
    subst (λ (z : Place). o < size z.shape → field_way off j (field_then v sh fs) (z.offset + o) ≡ behind (step.Field (j + 0)) (way z.shape o)) is
    (λ h'.
    let from = off + gap (alignment sh) off in
    let low : from + o < from + size sh = omega arith in
    let at : from + o - from ≡ o = omega arith in
    let same : j + 0 ≡ j = omega arith in
    if_true (nat_lt (from + o) (from + size sh)) _ _ (below (from + o) (from + size sh) low) ∙ (ap (λ z. behind (step.Field j) (way sh z)) at ∙ ap (λ z. behind (step.Field z) (way sh o)) (sym same)))
    h
field_found (field_then v sh fs) off j (suc k) x o e h =
    let from = off + gap (alignment sh) off in
    let w = field_within fs (from + size sh) k x e in
    let over : from + size sh ≤ x.offset + o = omega (arith, w.0) in
    let same : suc j + k ≡ j + suc k = omega arith in
    if_false (nat_lt (x.offset + o) (from + size sh)) _ _ (above (x.offset + o) (from + size sh) over)
    ∙ (field_found fs (from + size sh) (suc j) k x o e h ∙ ap (λ z. behind (step.Field z) (way x.shape o)) same)

part_found : (sh : Shape) (s : Step) (x : Place) (o : ℕ) → part_place sh s ≡ Some x → o < size x.shape → way sh (x.offset + o) ≡ behind s (way x.shape o)
part_found (Elementary e) s x o p h = cc
part_found (Enumeration name values) s x o p h = cc
part_found (Reference c name) s x o p h = cc
part_found (Interface k name) s x o p h = cc
part_found (Array low n sh) (step.Field k) x o p h = cc
part_found (Array low n sh) (step.Element i) x o p h =
    let y = element_is no_regions n sh (place_of_index low i) x p in
    subst (λ (z : Place). o < size z.shape → way (Array low n sh) (z.offset + o) ≡ behind (step.Element i) (way z.shape o)) y.place
    (λ h'. element_found (way sh) (size sh) y.index n low i o y.is y.within h') h
part_found (Structure name fs) (step.Element i) x o p h = cc
part_found (Structure name fs) (step.Field k) x o p h =
    let z : 0 + k ≡ k = omega arith in
    field_found fs 0 0 k x o p h ∙ ap (λ n. behind (step.Field n) (way x.shape o)) z
part_found (Instance c name fs) (step.Element i) x o p h = cc
part_found (Instance c name fs) (step.Field k) x o p h =
    let w = field_within fs 8 k x p in
    let z : 0 + k ≡ k = omega arith in
    let some : nat_eq (x.offset + o) 0 ≡ false = nat_above (x.offset + o) (omega (arith, w.0)) in
    if_false (nat_eq (x.offset + o) 0) _ _ some ∙ (field_found fs 8 0 k x o p h ∙ ap (λ n. behind (step.Field n) (way x.shape o)) z)
  where
    nat_above : (n : ℕ) → 0 < n → nat_eq n 0 ≡ false
    nat_above n h = grind arith

-- the shape of an instance
abbrev IsInstance : Shape → Type 0
IsInstance (Instance c name fs) = Unit {0}
IsInstance _ = ⊥

instance_bytes : (sh : Shape) → IsInstance sh → 0 < size sh
instance_bytes (Instance c name fs) h = own_bytes (Instance c name fs) tt
instance_bytes (Elementary e) h = absurd h
instance_bytes (Enumeration name values) h = absurd h
instance_bytes (Reference c name) h = absurd h
instance_bytes (Interface k name) h = absurd h
instance_bytes (Array low n sh) h = absurd h
instance_bytes (Structure name fs) h = absurd h

no_steps : (sh : Shape) → IsInstance sh → way sh 0 ≡ Some []
no_steps (Instance c name fs) h = refl
no_steps (Elementary e) h = absurd h
no_steps (Enumeration name values) h = absurd h
no_steps (Reference c name) h = absurd h
no_steps (Interface k name) h = absurd h
no_steps (Array low n sh) h = absurd h
no_steps (Structure name fs) h = absurd h

pub way_found : (ss : List Step) (sh : Shape) (x : Place) → inner_place sh ss ≡ Some x → IsInstance x.shape → way sh x.offset ≡ Some ss
way_found [] sh x e h =
    let is : record { offset = 0; shape = sh } ≡ x = cc in
    subst (λ (z : Place). IsInstance z.shape → way sh z.offset ≡ Some []) is (λ h'. no_steps sh h') h
way_found (s ∷ ss) sh x e h =
    let a = then_some (part_place sh s) _ x e in
    let b = then_some (inner_place a.0.shape ss) _ x a.2 in
    let is : record { offset = a.0.offset + b.0.offset; shape = b.0.shape } ≡ x = cc in
    subst (λ (z : Place). IsInstance z.shape → way sh z.offset ≡ Some (s ∷ ss)) is
    (λ h'.
    let w = inner_within ss a.0.shape b.0 b.1 in
    let low : b.0.offset < size a.0.shape = omega (arith, w, instance_bytes b.0.shape h') in
    part_found sh s a.0 b.0.offset a.1 low ∙ ap (behind s) (way_found ss a.0.shape b.0 b.1 h'))
    h

-- ---- references

module _ (regions : ℕ → Option Shape) (small : AreSmall regions) where
  path_found : (q : Path) (w : ℕ) → Names regions q w → path_kept regions w ≡ Some q
  path_found q w n =
      let a = then_some (regions q.region) _ _ n.place in
      let place : Place = record { offset = n.offset; shape = Instance n.class n.name n.fields } in
      let within = inner_within q.steps a.0 place a.2 in
      let low : n.offset < 4294967296 = omega (arith, within, small q.region a.0 a.1, own_bytes (Instance n.class n.name n.fields) tt) in
      let word : w ≡ q.region * 4294967296 + n.offset + 1 = n.word in
      let some : nat_eq w 0 ≡ false = is_some w q.region n.offset word in
      let r : (w - 1) / 4294967296 ≡ q.region = omega arith in
      let o : (w - 1) % 4294967296 ≡ n.offset = omega arith in
      if_false (nat_eq w 0) _ _ some
      ∙ (ap (λ z. path_in z (regions z) ((w - 1) % 4294967296)) r
      ∙ (ap (λ z. path_in q.region (regions q.region) z) o
      ∙ (ap (λ z. path_in q.region z n.offset) a.1
      ∙ by_steps a.0 (way_found q.steps a.0 place a.2 tt))))
    where
      is_some : (w r o : ℕ) → w ≡ r * 4294967296 + o + 1 → nat_eq w 0 ≡ false
      is_some w r o e = let h : 0 < w = omega arith in grind arith

      by_steps : (sh : Shape) → way sh n.offset ≡ Some q.steps → path_in q.region (Some sh) n.offset ≡ Some q
      by_steps sh e = ap (path_by q.region) e

  refers_found : (o : Option Path) (w : ℕ) → Refers regions o w → path_kept regions w ≡ o
  refers_found None w h = ap (path_kept regions) h
  refers_found (Some q) w h = path_found q w h

  address_found : (v : Value) (im : List ℕ) (i : ℕ) → (h : (o : Option Path) × (v ≡ reference o) × HoldsAddress regions o im i) → reference (path_kept regions (unsigned_abs (value_at Ulint im i))) ≡ v
  address_found v im i h =
      let z : value_at Ulint im i ≡ pos h.2.word = value_is Ulint (pos h.2.word) im i h.2.holds in
      ap (λ x. reference (path_kept regions (unsigned_abs x))) z ∙ (ap reference (refers_found h.0 h.2.word h.2.refers) ∙ sym h.1)

  elements_found : (f : ℕ → Value) (s n i : ℕ) (vs : Values) → count vs ≡ n → ((k : ℕ) → k < n → element vs k ≡ Some (f (i + k * s))) → decoded_elements f s n i ≡ vs
  elements_found f s zero i no_values e h = refl
  elements_found f s zero i (value_then v vs) e h = absurd (omega arith)
  elements_found f s (suc n) i no_values e h = absurd (omega arith)
  elements_found f s (suc n) i (value_then v vs) e h =
      let first : Some v ≡ Some (f (i + 0 * s)) = h 0 (omega arith) in
      let at : i + 0 * s ≡ i = omega arith in
      let v-is : v ≡ f (i + 0 * s) = cc in
      let rest = elements_found f s n (i + s) vs (omega arith) (λ k lt. h (suc k) (omega arith) ∙ ap (λ z. Some (f z)) (along k)) in
      ap (λ x. value_then x (decoded_elements f s n (i + s))) (sym (v-is ∙ ap f at)) ∙ ap (value_then v) rest
    where
      along : (k : ℕ) → i + suc k * s ≡ i + s + k * s
      along k = grind arith

  mutual
    pub spells_decoded : (sh : Shape) (v : Value) (im : List ℕ) (i : ℕ) → Spells regions sh v im i → decoded regions sh im i ≡ v
    spells_decoded (Elementary e) v im i h = ap number (value_is e h.0 im i h.2) ∙ sym h.1
    spells_decoded (Enumeration name values) v im i h = ap number (value_is Udint h.0 im i h.2) ∙ sym h.1
    spells_decoded (Reference c name) v im i h = address_found v im i h
    spells_decoded (Interface k name) v im i h = address_found v im i h
    spells_decoded (Array low n sh) v im i h =
        ap (array low) (elements_found (decoded regions sh im) (size sh) n i h.0 h.2 (λ k lt. let x = h.3 k lt in x.1 ∙ ap Some (sym (spells_decoded sh x.0 im (i + k * size sh) x.2)))) ∙ sym h.1
    spells_decoded (Structure name fs) v im i h = ap (structure name) (each_decoded fs 0 h.0 im i h.2) ∙ sym h.1
    spells_decoded (Instance c name fs) v im i h = ap (instance name) (each_decoded fs 8 h.0 im i h.3) ∙ sym h.1

    each_decoded : (fs : Fields) (off : ℕ) (ms : Members) (im : List ℕ) (i : ℕ) → EachSpells regions off fs ms im i → decoded_fields regions off fs im i ≡ ms
    each_decoded no_fields off ms im i h = sym h
    each_decoded (field_then x sh fs) off ms im i h =
        let from = off + gap (alignment sh) off in
        ap (λ u. member_then x.name u (decoded_fields regions (from + size sh) fs im i)) (spells_decoded sh h.0 im (i + from) h.4)
        ∙ (ap (member_then x.name h.0) (each_decoded fs (from + size sh) h.1 im i h.5) ∙ sym h.2)
