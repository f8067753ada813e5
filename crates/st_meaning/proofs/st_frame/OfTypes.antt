-- Values of types.
use Rattle.std.proofs.Common.{◌≡◌, ℕ, zero, suc, ℤ, pos, negsuc, ◌<◌, Bool, true, false, List, Option, Some, None, refl, sym, ap, ◌∙◌, subst, arith}
use Rattle.std.specs.Prelude.{IsTrue}
use Rattle.std.proofs.lemmas.Int.{ints}
use Rattle.plc_num.specs.Wrapping.{wrapped}
use Rattle.plc_num.specs.Conversion.{converted}
use Rattle.plc_num.proofs.WrappingLaws.{wrapped-wraps}
use Rattle.st_types.specs.declared.elem.Elem.{Elem}
use Rattle.st_types.specs.declared.elem.Elem.TheVariants as elem
use Rattle.st_types.specs.declared.st_type.StType.{StType}
use Rattle.st_types.specs.declared.st_type.StType.TheVariants as type
use Rattle.st_types.specs.declared.st_type.StType.TheOpen.{StType-F}
use Rattle.st_types.specs.Range.{Fits}
use Rattle.st_types.specs.Widening.{Reaches}
use Rattle.st_types.proofs.WideningLaws.{keeps}
use Rattle.st_values.specs.Program.{Program, Class, class_at, conforming, conforms}
use Rattle.st_values.specs.Value.{Path, Value, number, reference, array, structure, instance}
use Rattle.st_values.specs.Shape.{Shape, Elementary, Reference, Interface, Instance, Fields}
use Rattle.st_values.specs.ShapeLaws.{Unfolds}
use Rattle.st_values.proofs.ShapeLaws.{shape_laws}
use Rattle.st_meaning.specs.st_frame.Good.{Names, Held, Fit}
use Rattle.st_meaning.specs.Operation.{truth, elem_of, path_in, class_in}
use Rattle.st_meaning.specs.st_frame.Promise.Types.{NumberIs, IsElementary, IsHeld, IsPath, IsNoInstance, IsBool, Narrower, Widens, same_type, wider_number, wider_path}
use Rattle.st_meaning.proofs.st_frame.Unfolded.{opened, within_bound}

-- ---- numbers

pub wraps_fit : (e : Elem) (z : ℤ) → Fits e (wrapped e z)
wraps_fit e z = (wrapped-wraps e z).fits

pub bit_fits : (e : Elem) (n : ℕ) → n < 2 → Fits e (pos n)
bit_fits elem.Bool n h = (omega (arith, ints), omega (arith, ints))
bit_fits elem.Sint n h = (omega (arith, ints), omega (arith, ints))
bit_fits elem.Int n h = (omega (arith, ints), omega (arith, ints))
bit_fits elem.Dint n h = (omega (arith, ints), omega (arith, ints))
bit_fits elem.Lint n h = (omega (arith, ints), omega (arith, ints))
bit_fits elem.Usint n h = (omega (arith, ints), omega (arith, ints))
bit_fits elem.Uint n h = (omega (arith, ints), omega (arith, ints))
bit_fits elem.Udint n h = (omega (arith, ints), omega (arith, ints))
bit_fits elem.Ulint n h = (omega (arith, ints), omega (arith, ints))
bit_fits elem.Byte n h = (omega (arith, ints), omega (arith, ints))
bit_fits elem.Word n h = (omega (arith, ints), omega (arith, ints))
bit_fits elem.Dword n h = (omega (arith, ints), omega (arith, ints))
bit_fits elem.Lword n h = (omega (arith, ints), omega (arith, ints))
bit_fits elem.Time n h = (omega (arith, ints), omega (arith, ints))

pub converted_fits : (e : Elem) (z : ℤ) → Fits e (converted e z)
converted_fits elem.Bool (pos zero) = bit_fits elem.Bool 0 (omega arith)
converted_fits elem.Bool (pos (suc n)) = bit_fits elem.Bool 1 (omega arith)
converted_fits elem.Bool (negsuc n) = bit_fits elem.Bool 1 (omega arith)
converted_fits elem.Sint z = wraps_fit elem.Sint z
converted_fits elem.Int z = wraps_fit elem.Int z
converted_fits elem.Dint z = wraps_fit elem.Dint z
converted_fits elem.Lint z = wraps_fit elem.Lint z
converted_fits elem.Usint z = wraps_fit elem.Usint z
converted_fits elem.Uint z = wraps_fit elem.Uint z
converted_fits elem.Udint z = wraps_fit elem.Udint z
converted_fits elem.Ulint z = wraps_fit elem.Ulint z
converted_fits elem.Byte z = wraps_fit elem.Byte z
converted_fits elem.Word z = wraps_fit elem.Word z
converted_fits elem.Dword z = wraps_fit elem.Dword z
converted_fits elem.Lword z = wraps_fit elem.Lword z
converted_fits elem.Time z = wraps_fit elem.Time z

module _ (p : Program) where
  -- ---- conforming

  same_class : (o : Option Class) (c : ℕ) → conforming (type.Reference c) o ≡ conforming (type.Instance c) o
  same_class None c = refl
  same_class (Some k) c = refl

  -- a reference to a class leads to what conforms to the class
  pub same_conforms : (d c : ℕ) → conforms p d (type.Reference c) ≡ conforms p d (type.Instance c)
  unfolding conforms
  same_conforms d c = same_class (class_at p d) c

  pub to_instance : (q : Path) (c : ℕ) → Names p q (type.Reference c) → Names p q (type.Instance c)
  to_instance q c n = record { class = n.class; name = n.name; fields = n.fields; there = n.there; meets = subst IsTrue (same_conforms n.class c) n.meets }

  pub to_reference : (q : Path) (c : ℕ) → Names p q (type.Instance c) → Names p q (type.Reference c)
  to_reference q c n = record { class = n.class; name = n.name; fields = n.fields; there = n.there; meets = subst IsTrue (sym (same_conforms n.class c)) n.meets }

  pub narrows : (t u : StType) (o : Option Path) → Narrower p t u → Held p t o → Held p u o
  narrows t u None n h = tt
  narrows t u (Some q) n h = record { class = h.class; name = h.name; fields = h.fields; there = h.there; meets = n.by h.class h.meets }

  module _ (F : ℕ → Type 0) where
    -- an instance stands as a reference to it, in what is read
    abbrev pub Near : ℕ → Option Path → Type 0
    Near c None = Unit {0}
    Near c (Some q) = Names p q (type.Instance c) × F q.region

    -- a value of this type
    abbrev pub OfKind : StType → Value → Type 0
    OfKind (type.Instance c) v = (o : Option Path) × (v ≡ reference o) × Near c o
    OfKind (type.Reference c) v = (o : Option Path) × (v ≡ reference o) × Held p (type.Reference c) o
    OfKind (type.Interface i) v = (o : Option Path) × (v ≡ reference o) × Held p (type.Interface i) o
    OfKind t v = (sh : Shape) × Unfolds p t sh × Fit p sh v

    fits_reference : (c : ℕ) (sh : Shape) (name : List ℕ) (v : Value) → sh ≡ Reference c name → Fit p sh v → OfKind (type.Reference c) v
    fits_reference c sh name v e f = by v (subst (λ x. Fit p x v) e f)
      where
        by : (x : Value) → Fit p (Reference c name) x → OfKind (type.Reference c) x
        by (reference o) h = (o, refl, h)
        by (number z) h = absurd h
        by (array l vs) h = absurd h
        by (structure m ms) h = absurd h
        by (instance m ms) h = absurd h

    fits_interface : (i : ℕ) (sh : Shape) (name : List ℕ) (v : Value) → sh ≡ Interface i name → Fit p sh v → OfKind (type.Interface i) v
    fits_interface i sh name v e f = by v (subst (λ x. Fit p x v) e f)
      where
        by : (x : Value) → Fit p (Interface i name) x → OfKind (type.Interface i) x
        by (reference o) h = (o, refl, h)
        by (number z) h = absurd h
        by (array l vs) h = absurd h
        by (structure m ms) h = absurd h
        by (instance m ms) h = absurd h

    -- what is in a place is a value of the place's type
    pub of_place : (t : StType) (sh : Shape) (v : Value) → IsNoInstance t → Unfolds p t sh → Fit p sh v → OfKind t v
    of_place (type.Instance c) sh v i u f = absurd i
    of_place (type.Reference c) sh v i u f = let a = opened p (type.Reference c) (StType-F.Reference c) sh (type.outs-Reference c) u in fits_reference c sh a.0 v a.1 f
    of_place (type.Interface k) sh v i u f = let a = opened p (type.Interface k) (StType-F.Interface k) sh (type.outs-Interface k) u in fits_interface k sh a.0 v a.1 f
    of_place t sh v i u f = (sh, u, f)

    -- and the other way round
    pub to_place : (t : StType) (sh : Shape) (v : Value) → IsNoInstance t → Unfolds p t sh → OfKind t v → Fit p sh v
    to_place (type.Instance c) sh v i u h = absurd i
    to_place (type.Reference c) sh v i u h =
        let a = opened p (type.Reference c) (StType-F.Reference c) sh (type.outs-Reference c) u in
        subst (Fit p sh) (sym h.1) (subst (λ x. Fit p x (reference h.0)) (sym a.1) h.2)
    to_place (type.Interface k) sh v i u h =
        let a = opened p (type.Interface k) (StType-F.Interface k) sh (type.outs-Interface k) u in
        subst (Fit p sh) (sym h.1) (subst (λ x. Fit p x (reference h.0)) (sym a.1) h.2)
    to_place t sh v i u h = subst (λ x. Fit p x v) (shape_laws.once p t h.0 sh h.1 u) h.2

    -- ---- numbers

    pub elementary : (e : Elem) (z : ℤ) → Fits e z → OfKind (type.Elementary e) (number z)
    elementary e z h = (Elementary e, shape_laws.elementary p e, h)

    pub elementary_is : (t : StType) (e : Elem) (z : ℤ) → t ≡ type.Elementary e → Fits e z → OfKind t (number z)
    elementary_is t e z q h = subst (λ x. OfKind x (number z)) (sym q) (elementary e z h)

    elem_is : (t : StType) (e : Elem) → t ≡ type.Elementary e → elem_of t ≡ e
    elem_is t e q = ap elem_of q

    -- a number in the elementary type of the result
    pub result_is : (t : StType) (z : ℤ) → IsElementary t → Fits (elem_of t) z → OfKind t (number z)
    result_is t z e h = elementary_is t e.0 z e.1 (subst (λ x. Fits x z) (elem_is t e.0 e.1) h)

    pub truth_is : (t : StType) (b : Bool) → IsBool t → OfKind t (truth b)
    truth_is t true e = elementary_is t elem.Bool (pos 1) e (bit_fits elem.Bool 1 (omega arith))
    truth_is t false e = elementary_is t elem.Bool (pos 0) e (bit_fits elem.Bool 0 (omega arith))

    pub number_is : (t : StType) (z : ℤ) → NumberIs p t z → OfKind t (number z)
    number_is (type.Instance c) z h =
        let a = opened p (type.Instance c) (StType-F.Instance c) h.0 (type.outs-Instance c) (within_bound p (type.Instance c) h.0 h.1) in
        absurd (subst (λ x. Fit p x (number z)) a.3 h.2)
    number_is (type.Reference c) z h = of_place (type.Reference c) h.0 (number z) tt (within_bound p (type.Reference c) h.0 h.1) h.2
    number_is (type.Interface c) z h = of_place (type.Interface c) h.0 (number z) tt (within_bound p (type.Interface c) h.0 h.1) h.2
    number_is t z h = (h.0, within_bound p t h.0 h.1, h.2)

    -- ---- references

    pub null_is : (t : StType) → IsHeld t → OfKind t (reference None)
    null_is (type.Reference c) h = (None, refl, tt)
    null_is (type.Interface i) h = (None, refl, tt)
    null_is t h = absurd h

    pub held_is : (t : StType) (o : Option Path) → IsHeld t → Held p t o → OfKind t (reference o)
    held_is (type.Reference c) o h k = (o, refl, k)
    held_is (type.Interface i) o h k = (o, refl, k)
    held_is t o h k = absurd h

    near_held : (c : ℕ) (o : Option Path) → Near c o → Held p (type.Instance c) o
    near_held c None h = tt
    near_held c (Some q) h = h.0

    -- what a value of a type of paths holds
    pub path_is : (t : StType) (v : Value) → IsPath t → OfKind t v → (o : Option Path) × (v ≡ reference o) × Held p t o
    path_is (type.Instance c) v i h = (h.0, h.1, near_held c h.0 h.2)
    path_is (type.Reference c) v i h = h
    path_is (type.Interface k) v i h = h
    path_is t v i h = absurd i

    -- where the value of an instance's place leads is read
    pub path_near : (c : ℕ) (v : Value) (q : Path) → OfKind (type.Instance c) v → path_in v ≡ Some q → F q.region
    path_near c v q h e = by h.0 h.2 (subst (λ x. path_in x ≡ Some q) h.1 e)
      where
        by : (o : Option Path) → Near c o → o ≡ Some q → F q.region
        by None n k = cc
        by (Some r) n k = let d : r ≡ q = cc in subst (λ x. F x.region) d n.1

    widened_number : (a b : Elem) (sh : Shape) (v : Value) → Reaches a b → sh ≡ Elementary a → Fit p sh v → OfKind (type.Elementary b) v
    widened_number a b sh v r e f = by v (subst (λ x. Fit p x v) e f)
      where
        by : (x : Value) → Fit p (Elementary a) x → OfKind (type.Elementary b) x
        by (number z) h = elementary b z (keeps a b z r h)
        by (reference o) h = absurd h
        by (array l vs) h = absurd h
        by (structure m ms) h = absurd h
        by (instance m ms) h = absurd h

    -- a value serves where a wider type is asked
    pub widened : (t u : StType) (v : Value) → Widens p t u → OfKind t v → OfKind u v
    widened t u v same_type h = h
    widened t u v (wider_number {a = a} {b = b} r) h =
        let o = opened p (type.Elementary a) (StType-F.Elementary a) h.0 (type.outs-Elementary a) h.1 in
        widened_number a b h.0 v r o h.2
    widened t u v (wider_path i k n) h =
        let a = path_is t v i h in
        subst (OfKind u) (sym a.1) (held_is u a.0 k (narrows t u a.0 n a.2))

  -- the class of an instance
  pub class_is : (c : ℕ) (name : List ℕ) (sh : Shape) (v : Value) (n : List ℕ) → Fit p sh v → class_in v ≡ Some n → (fs : Fields) → sh ≡ Instance c name fs → name ≡ n
  class_is c name sh v n f e fs q = by v (subst (λ x. Fit p x v) q f) e
    where
      by : (x : Value) → Fit p (Instance c name fs) x → class_in x ≡ Some n → name ≡ n
      by (instance m ms) h k = let d : m ≡ n = cc in h.0 ∙ d
      by (number z) h k = absurd h
      by (reference o) h k = absurd h
      by (array l vs) h k = absurd h
      by (structure m ms) h k = absurd h
