-- Images that are filled piece by piece.
use Rattle.std.proofs.Common.{◌≡◌, ◌≤◌, ◌<◌, ℕ, zero, suc, ◌+◌, ◌-◌, ◌*◌, ℤ, pos, List, length, replicate, Option, Some, None, refl, sym, ap, ◌∙◌, subst, arith, inl, inr, ⊎_elim}
use Rattle.std.proofs.lemmas.Int.{ints}
use Rattle.std.specs.Prelude.{slice_range}
use Rattle.st_types.specs.declared.elem.Elem.{Elem}
use Rattle.st_types.specs.declared.elem.Elem.TheVariants.{Udint, Ulint}
use Rattle.st_types.specs.Elem.{bytes}
use Rattle.st_types.specs.Range.{Fits}
use Rattle.mem_image.specs.Image.{bytes_of, written}
use Rattle.mem_image.specs.Laws.{AreApart}
use Rattle.mem_image.proofs.PartLaws.{range_of_range, range_of_zeros}
use Rattle.st_values.specs.Value.{Value, number, reference, array, structure, instance, Values, no_values, value_then, Members, no_members, member_then, element}
use Rattle.st_values.specs.Shape.{Shape, Elementary, Enumeration, Reference, Interface, Array, Structure, Instance, Fields, no_fields, field_then}
use Rattle.mem_layout.specs.store_bytes.Place.{gap, alignment, greatest, size, ending}
use Rattle.mem_layout.specs.store_bytes.Spells.{count, Blank, Spells}
use Rattle.mem_layout.specs.store_bytes.StoreLaws.{Keeps}
use Rattle.mem_layout.proofs.store_bytes.Moves.{kept_same, ending_above, holds_moved, moved}
use Rattle.mem_layout.proofs.store_bytes.Leaves.{holds_written, keeps_written, length-written}
use Rattle.mem_layout.specs.initial_images.Private.Fill.{IsRoom, FillsAt, FillsFields, FillsElements}

-- nothing is changed
pub keeps_all : (im : List ℕ) (i n : ℕ) → Keeps im im i n
keeps_all im i n = record { by = λ j m a. refl }

-- a change within a part is one within the whole
keeps_wider : (im im' : List ℕ) (d n i m : ℕ) → Keeps im im' d n → i ≤ d → d + n ≤ i + m → Keeps im im' i m
keeps_wider im im' d n i m k a b = record {
  by = λ j l ap'. k.by j l (⊎_elim (λ (x : i + m ≤ j). let y : d + n ≤ j = omega arith in inl y) (λ (x : j + l ≤ i). let y : j + l ≤ d = omega arith in inr y) ap');
}

keeps_both : (a b c : List ℕ) (i n : ℕ) → Keeps a b i n → Keeps b c i n → Keeps a c i n
keeps_both a b c i n k l = record { by = λ j m apart. l.by j m apart ∙ k.by j m apart }

-- a part of a room
pub room_part : (im : List ℕ) (i n k m : ℕ) → IsRoom im i n → k + m ≤ n → IsRoom im (i + k) m
room_part im i n k m r h =
    record {
      within = let w = r.within in omega (arith, w, h);
      blank = sym (range_of_range im i n k m h) ∙ (ap (λ xs. slice_range xs k (k + m)) r.blank ∙ range_of_zeros n k m h);
    }

-- a room apart from what was changed is still one
pub room_kept : (im im' : List ℕ) (d n i m : ℕ) → Keeps im im' d n → length im' ≡ length im → AreApart d n i m → IsRoom im i m → IsRoom im' i m
room_kept im im' d n i m k l a r = record { within = let w = r.within in omega (arith, w, l); blank = k.by i m a ∙ r.blank }

module _ (regions : ℕ → Option Shape) where
  -- ---- fields

  pub fields_last : (off : ℕ) (i : ℕ) (im : List ℕ) → FillsFields regions off no_fields no_members i im im
  fields_last off i im = record { spells = refl; keeps = keeps_all im (i + off) (off - off); long = refl }

  -- a field, and then those behind it
  pub fields_next : (off : ℕ) (x : _) (sh : Shape) (fs : Fields) (w : Value) (ws : Members) (i : ℕ) (a b c : List ℕ) → IsRoom a (i + off) (ending off (field_then x sh fs) - off) → FillsAt regions sh w (i + (off + gap (alignment sh) off)) a b → FillsFields regions (off + gap (alignment sh) off + size sh) fs ws i b c → FillsFields regions off (field_then x sh fs) (member_then x.name w ws) i a c
  fields_next off x sh fs w ws i a b c r f g =
      let gp = gap (alignment sh) off in
      let from = off + gp in
      let behind = from + size sh in
      let more : behind ≤ ending behind fs = ending_above fs behind in
      let pad0 = room_part a (i + off) (ending behind fs - off) 0 gp r (omega arith) in
      let at0 : i + off + 0 ≡ i + off = omega arith in
      let pad : Blank a (i + off) gp = subst (λ z. Blank a z gp) at0 pad0.blank in
      let pad1 : Blank b (i + off) gp = f.keeps.by (i + off) gp (let z : i + off + gp ≤ i + from = omega arith in inr z) ∙ pad in
      let pad2 : Blank c (i + off) gp = g.keeps.by (i + off) gp (let z : i + off + gp ≤ i + behind = omega arith in inr z) ∙ pad1 in
      let end : i + from + size sh ≤ i + behind = omega arith in
      let s = moved regions sh w b c (i + from) (i + from) (kept_same g.keeps (i + from) 0 (size sh) (inl end)) f.spells in
      let k1 = keeps_wider a b (i + from) (size sh) (i + off) (ending behind fs - off) f.keeps (omega arith) (omega arith) in
      let k2 = keeps_wider b c (i + behind) (ending behind fs - behind) (i + off) (ending behind fs - off) g.keeps (omega arith) (omega arith) in
      record {
        spells = (w, ws, refl, pad2, s, g.spells);
        keeps = keeps_both a b c (i + off) (ending behind fs - off) k1 k2;
        long = g.long ∙ f.long;
      }

  -- ---- elements

  pub elements_last : (sh : Shape) (i : ℕ) (im : List ℕ) → FillsElements regions sh no_values i im im
  elements_last sh i im = record { spells = λ k lt. absurd (omega arith); keeps = keeps_all im i (0 * size sh); long = refl }

  pub elements_next : (sh : Shape) (w : Value) (ws : Values) (i : ℕ) (a b c : List ℕ) → FillsAt regions sh w i a b → FillsElements regions sh ws (i + size sh) b c → FillsElements regions sh (value_then w ws) i a c
  elements_next sh w ws i a b c f g =
      let all : suc (count ws) * size sh ≡ size sh + count ws * size sh = grind arith in
      let k1 = keeps_wider a b i (size sh) i (suc (count ws) * size sh) f.keeps (omega arith) (omega (arith, all)) in
      let k2 = keeps_wider b c (i + size sh) (count ws * size sh) i (suc (count ws) * size sh) g.keeps (omega arith) (omega (arith, all)) in
      record { spells = each; keeps = keeps_both a b c i (suc (count ws) * size sh) k1 k2; long = g.long ∙ f.long }
    where
      each : (k : ℕ) → k < suc (count ws) → (v : Value) × (element (value_then w ws) k ≡ Some v) × Spells regions sh v c (i + k * size sh)
      each zero lt =
          let end : i + size sh ≤ i + size sh = omega arith in
          let s = moved regions sh w b c i i (kept_same g.keeps i 0 (size sh) (inl end)) f.spells in
          let at : i ≡ i + 0 * size sh = omega arith in
          (w, refl, subst (λ z. Spells regions sh w c z) at s)
      each (suc k) lt =
          let x = g.spells k (omega arith) in
          let at : i + size sh + k * size sh ≡ i + suc k * size sh = grind arith in
          (x.0, x.1, subst (λ z. Spells regions sh x.0 c z) at x.2)

  -- ---- numbers and references

  pub number_filled : (e : Elem) (z : ℤ) (i : ℕ) (im : List ℕ) → Fits e z → i + bytes e ≤ length im → FillsAt regions (Elementary e) (number z) i im (written e im i z)
  number_filled e z i im f w = record { spells = (z, refl, holds_written e z im i f w); keeps = keeps_written e z im i w; long = length-written e z im i w }

  pub enumerator_filled : (name : List ℕ) (values : _) (z : ℤ) (i : ℕ) (im : List ℕ) → Fits Udint z → i + 4 ≤ length im → FillsAt regions (Enumeration name values) (number z) i im (written Udint im i z)
  enumerator_filled name values z i im f w = record { spells = (z, refl, holds_written Udint z im i f w); keeps = keeps_written Udint z im i w; long = length-written Udint z im i w }

  zero_fits : Fits Ulint (pos 0)
  zero_fits = (omega (arith, ints), omega (arith, ints))

  zero_bytes : replicate 8 0 ≡ bytes_of Ulint (pos 0)
  unfolding bytes_of
  zero_bytes = refl

  -- zeros stand for no instance
  pub null_filled : (c : _) (name : List ℕ) (i : ℕ) (im : List ℕ) → IsRoom im i 8 → FillsAt regions (Reference c name) (reference None) i im im
  null_filled c name i im r = record {
    spells = (None, refl, record { word = 0; refers = refl; holds = record { fits = zero_fits; stands = r.blank ∙ zero_bytes } });
    keeps = keeps_all im i 8;
    long = refl;
  }

  pub no_interface_filled : (k : _) (name : List ℕ) (i : ℕ) (im : List ℕ) → IsRoom im i 8 → FillsAt regions (Interface k name) (reference None) i im im
  no_interface_filled k name i im r = record {
    spells = (None, refl, record { word = 0; refers = refl; holds = record { fits = zero_fits; stands = r.blank ∙ zero_bytes } });
    keeps = keeps_all im i 8;
    long = refl;
  }

  -- ---- wholes

  pub structure_filled : (name : List ℕ) (fs : Fields) (ms : Members) (i : ℕ) (a b : List ℕ) → IsRoom a i (size (Structure name fs)) → FillsFields regions 0 fs ms i a b → FillsAt regions (Structure name fs) (structure name ms) i a b
  structure_filled name fs ms i a b r g =
      let end = ending 0 fs in
      let gp = gap (greatest fs) end in
      let pad0 = room_part a i (end + gp) end gp r (omega arith) in
      let pad : Blank b (i + end) gp = g.keeps.by (i + end) gp (let z : i + 0 + (end - 0) ≤ i + end = omega arith in inl z) ∙ pad0.blank in
      record {
        spells = (ms, refl, g.spells, pad);
        keeps = keeps_wider a b (i + 0) (end - 0) i (end + gp) g.keeps (omega arith) (omega arith);
        long = g.long;
      }

  -- the number of the class, and then the variables
  pub instance_filled : (c : ℕ) (name : List ℕ) (fs : Fields) (ms : Members) (i : ℕ) (a d : List ℕ) → Fits Ulint (pos c) → IsRoom a i (size (Instance c name fs)) → FillsFields regions 8 fs ms i (written Ulint a i (pos c)) d
      → FillsAt regions (Instance c name fs) (instance name ms) i a d
  instance_filled c name fs ms i a d f r g =
      let end = ending 8 fs in
      let gp = gap 8 end in
      let b = written Ulint a i (pos c) in
      let above : 8 ≤ end = ending_above fs 8 in
      let w : i + 8 ≤ length a = let x = r.within in omega (arith, x, above) in
      let k = keeps_written Ulint (pos c) a i w in
      let pad0 = room_part a i (end + gp) end gp r (omega arith) in
      let pad1 : Blank b (i + end) gp = k.by (i + end) gp (let z : i + 8 ≤ i + end = omega (arith, above) in inl z) ∙ pad0.blank in
      let pad : Blank d (i + end) gp = g.keeps.by (i + end) gp (let z : i + 8 + (end - 8) ≤ i + end = omega (arith, above) in inl z) ∙ pad1 in
      let before : i + 8 ≤ i + 8 = omega arith in
      let k1 = keeps_wider a b i 8 i (end + gp) k (omega arith) (omega (arith, above)) in
      let k2 = keeps_wider b d (i + 8) (end - 8) i (end + gp) g.keeps (omega arith) (omega (arith, above)) in
      record {
        spells = (ms, refl, holds_moved (kept_same g.keeps i 0 8 (inl before)) (holds_written Ulint (pos c) a i f w), g.spells, pad);
        keeps = keeps_both a b d i (end + gp) k1 k2;
        long = g.long ∙ length-written Ulint (pos c) a i w;
      }

  pub array_filled : (low : ℤ) (n : ℕ) (sh : Shape) (vs : Values) (i : ℕ) (a b : List ℕ) → count vs ≡ n → FillsElements regions sh vs i a b → FillsAt regions (Array low n sh) (array low vs) i a b
  array_filled low n sh vs i a b e g =
      record {
        spells = (vs, refl, e, λ k lt. g.spells k (let z : k < count vs = omega (arith, lt, e) in z));
        keeps = subst (λ m. Keeps a b i (m * size sh)) e g.keeps;
        long = g.long;
      }
