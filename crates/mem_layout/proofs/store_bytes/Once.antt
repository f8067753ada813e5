-- Bytes spell at most one value.
use Rattle.std.proofs.Common.{◌≡◌, ◌<◌, ℕ, zero, suc, ◌+◌, ◌*◌, pos, List, Option, Some, None, refl, sym, ap, ◌∙◌, subst, arith}
use Rattle.st_types.specs.declared.elem.Elem.TheVariants.{Udint, Ulint}
use Rattle.st_values.specs.Value.{Path, Value, number, reference, array, structure, instance, Values, no_values, value_then, Members, member_then, element}
use Rattle.st_values.specs.Shape.{Shape, Elementary, Enumeration, Reference, Interface, Array, Structure, Instance, Fields, no_fields, field_then}
use Rattle.mem_layout.specs.store_bytes.Place.{gap, alignment, size}
use Rattle.mem_layout.specs.store_bytes.Spells.{count, HoldsAddress, Refers, Spells, EachSpells}
use Rattle.mem_layout.specs.store_bytes.PlaceLaws.{AreSmall}
use Rattle.mem_layout.proofs.store_bytes.Leaves.{holds_once}
use Rattle.mem_layout.proofs.store_bytes.Apart.{kept_once}

-- values that agree in every element
same_values : (vs ws : Values) → count vs ≡ count ws → ((k : ℕ) → k < count vs → element vs k ≡ element ws k) → vs ≡ ws
same_values no_values no_values n h = refl
same_values no_values (value_then w ws) n h = absurd (omega arith)
same_values (value_then v vs) no_values n h = absurd (omega arith)
same_values (value_then v vs) (value_then w ws) n h =
    let first : Some v ≡ Some w = h zero (omega arith) in
    let rest : vs ≡ ws = same_values vs ws (omega arith) (λ k lt. h (suc k) (omega arith)) in
    cc

module _ (regions : ℕ → Option Shape) (small : AreSmall regions) where
  refers_once : (o o' : Option Path) (w : ℕ) → Refers regions o w → Refers regions o' w → o ≡ o'
  refers_once None None w h k = refl
  refers_once None (Some q) w h k = absurd (omega (arith, h, k.word))
  refers_once (Some q) None w h k = absurd (omega (arith, k, h.word))
  refers_once (Some q) (Some q') w h k = ap Some (kept_once regions small q q' _ _ h.place k.place tt tt (sym h.word ∙ k.word))

  address_once : (v w : Value) (im : List ℕ) (i : ℕ) → (h : (o : Option Path) × (v ≡ reference o) × HoldsAddress regions o im i) → (k : (o : Option Path) × (w ≡ reference o) × HoldsAddress regions o im i) → v ≡ w
  address_once v w im i h k =
      let same : pos h.2.word ≡ pos k.2.word = holds_once Ulint (pos h.2.word) (pos k.2.word) im i h.2.holds k.2.holds in
      let word : h.2.word ≡ k.2.word = cc in
      h.1 ∙ (ap reference (refers_once h.0 k.0 k.2.word (subst (Refers regions h.0) word h.2.refers) k.2.refers) ∙ sym k.1)

  mutual
    pub spells_once : (sh : Shape) (v w : Value) (im : List ℕ) (i : ℕ) → Spells regions sh v im i → Spells regions sh w im i → v ≡ w
    spells_once (Elementary e) v w im i h k = h.1 ∙ (ap number (holds_once e h.0 k.0 im i h.2 k.2) ∙ sym k.1)
    spells_once (Enumeration name values) v w im i h k = h.1 ∙ (ap number (holds_once Udint h.0 k.0 im i h.2 k.2) ∙ sym k.1)
    spells_once (Reference c name) v w im i h k = address_once v w im i h k
    spells_once (Interface f name) v w im i h k = address_once v w im i h k
    spells_once (Array low n sh) v w im i h k =
        let same : h.0 ≡ k.0 = same_values h.0 k.0 (h.2 ∙ sym k.2) (λ j lt.
        let lt' : j < n = omega (arith, lt, h.2) in
        let x = h.3 j lt' in
        let y = k.3 j lt' in
        x.1 ∙ (ap Some (spells_once sh x.0 y.0 im (i + j * size sh) x.2 y.2) ∙ sym y.1)) in
        h.1 ∙ (ap (array low) same ∙ sym k.1)
    spells_once (Structure name fs) v w im i h k = h.1 ∙ (ap (structure name) (each_once fs 0 h.0 k.0 im i h.2 k.2) ∙ sym k.1)
    spells_once (Instance c name fs) v w im i h k = h.1 ∙ (ap (instance name) (each_once fs 8 h.0 k.0 im i h.3 k.3) ∙ sym k.1)

    each_once : (fs : Fields) (off : ℕ) (ms ns : Members) (im : List ℕ) (i : ℕ) → EachSpells regions off fs ms im i → EachSpells regions off fs ns im i → ms ≡ ns
    each_once no_fields off ms ns im i h k = h ∙ sym k
    each_once (field_then x sh fs) off ms ns im i h k =
        let first = spells_once sh h.0 k.0 im (i + (off + gap (alignment sh) off)) h.4 k.4 in
        let rest = each_once fs (off + gap (alignment sh) off + size sh) h.1 k.1 im i h.5 k.5 in
        h.2 ∙ (ap (λ u. member_then x.name u h.1) first ∙ (ap (λ us. member_then x.name k.0 us) rest ∙ sym k.2))
