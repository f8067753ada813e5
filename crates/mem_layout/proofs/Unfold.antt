-- What an unfolded type is made of.
use Rattle.std.proofs.Common.{◌≡◌, ◌<◌, ℕ, zero, suc, ◌+◌, ℤ, Bool, true, false, List, length, Option, Some, refl, sym, ap, ◌∙◌, subst}
use Rattle.std.specs.Prelude.{slice_get, option_and_then}
use Rattle.std.proofs.lemmas.Option.{slice_get_within}
use Rattle.st_types.specs.declared.elem.Elem.{Elem}
use Rattle.st_types.specs.declared.st_type.StType.{StType, out-StType}
use Rattle.st_types.specs.declared.st_type.StType.TheVariants as type
use Rattle.st_types.specs.declared.st_type.StType.TheOpen.{StType-F}
use Rattle.st_values.specs.Program.{Class, Interface, TypeEntry, Program, class_at, class_variables}
use Rattle.st_values.specs.Value.{◌>>=◌}
use Rattle.st_values.specs.Shape as shape
use Rattle.st_values.specs.Shape.{Shape, Elementary, Enumeration, Reference, Array, Structure, Instance, Fields, no_fields, field_then, extent, values_of, fields_of, fields_by, simple_shape, shape_by, shape_within}
use Rattle.st_values.proofs.ValueLaws.{then_some}
use Rattle.st_values.proofs.ShapeLaws.{mapped_some}
use Rattle.program_tables.specs.st_initial.Variables.{or_none, fields_at}
use Rattle.mem_layout.specs.store_bytes.Place.{gap, size, ending, alignment}
use Rattle.mem_layout.specs.Layout.{IsSmall, EachIsSmall}
use Rattle.mem_layout.specs.Private.Table.{members, named, start, wide, fields_in}

-- a type that holds no parts unfolds at once, at every depth
abbrev pub IsSimple : StType-F StType → Type 0
IsSimple (StType-F.Structure n) = ⊥
IsSimple (StType-F.Array low high of) = ⊥
IsSimple (StType-F.Instance c) = ⊥
IsSimple _ = Unit {0}

by_simple : (p : Program) (f : StType → Option Shape) (o : StType-F StType) (sh : Shape) → IsSimple o → shape_by p f o ≡ Some sh → simple_shape p o ≡ Some sh
by_simple p f (StType-F.Elementary e) sh s h = h
by_simple p f (StType-F.Enumeration n) sh s h = h
by_simple p f (StType-F.Structure n) sh s h = absurd s
by_simple p f (StType-F.Array low high of) sh s h = absurd s
by_simple p f (StType-F.Instance c) sh s h = absurd s
by_simple p f (StType-F.Reference c) sh s h = h
by_simple p f (StType-F.Interface i) sh s h = h

simple_opens : (p : Program) (n : ℕ) (t : StType) (o : StType-F StType) (sh : Shape) → out-StType t ≡ o → IsSimple o → shape_within p n t ≡ Some sh → simple_shape p o ≡ Some sh
simple_opens p zero t o sh e s h = ap (simple_shape p) (sym e) ∙ h
simple_opens p (suc n) t o sh e s h = by_simple p (shape_within p n) o sh s (ap (shape_by p (shape_within p n)) (sym e) ∙ h)

pub elementary_is : (p : Program) (n : ℕ) (t : StType) (e : Elem) (sh : Shape) → t ≡ type.Elementary e → shape_within p n t ≡ Some sh → sh ≡ Elementary e
elementary_is p n t e sh q h = let x : Some (Elementary e) ≡ Some sh = simple_opens p n t (StType-F.Elementary e) sh (ap out-StType q ∙ type.outs-Elementary e) tt h in cc

pub enumeration_is : (p : Program) (n : ℕ) (t : StType) (k : ℕ) (sh : Shape) → t ≡ type.Enumeration k → shape_within p n t ≡ Some sh → (name : List ℕ) × (values : List (List ℕ)) × (sh ≡ Enumeration name values)
enumeration_is p n t k sh q h =
    let x = simple_opens p n t (StType-F.Enumeration k) sh (ap out-StType q ∙ type.outs-Enumeration k) tt h in
    let a = then_some (slice_get p.types k) (λ x. values_of x.body >>= λ values. Some (Enumeration x.name values)) sh x in
    let b = then_some (values_of a.0.body) (λ values. Some (Enumeration a.0.name values)) sh a.2 in
    let c = b.2 in
    (a.0.name, b.0, cc)

pub reference_is : (p : Program) (n : ℕ) (t : StType) (c : ℕ) (sh : Shape) → t ≡ type.Reference c → shape_within p n t ≡ Some sh → (name : List ℕ) × (sh ≡ Reference c name)
reference_is p n t c sh q h =
    let x = simple_opens p n t (StType-F.Reference c) sh (ap out-StType q ∙ type.outs-Reference c) tt h in
    let a = mapped_some (λ (k : Class). Reference c k.name) (class_at p c) sh x in
    (a.0.name, sym a.2)

pub interface_is : (p : Program) (n : ℕ) (t : StType) (i : ℕ) (sh : Shape) → t ≡ type.Interface i → shape_within p n t ≡ Some sh → (name : List ℕ) × (sh ≡ shape.Interface i name)
interface_is p n t i sh q h =
    let x = simple_opens p n t (StType-F.Interface i) sh (ap out-StType q ∙ type.outs-Interface i) tt h in
    let a = mapped_some (λ (k : Interface). shape.Interface i k.name) (slice_get p.interfaces i) sh x in
    (a.0.name, sym a.2)

-- ---- arrays

pub record ArrayOpens (p : Program) (n : ℕ) (low high : ℤ) (of : StType) (sh : Shape) : Type 0 where
  pub depth : ℕ
  pub deep : n ≡ suc depth
  pub element : Shape
  pub unfolds : shape_within p depth of ≡ Some element
  pub is : sh ≡ Array low (extent low high) element

pub array_opens : (p : Program) (n : ℕ) (t : StType) (low high : ℤ) (of : StType) (sh : Shape) → t ≡ type.Array low high of → shape_within p n t ≡ Some sh → ArrayOpens p n low high of sh
array_opens p zero t low high of sh q h =
    let x : simple_shape p (StType-F.Array low high of) ≡ Some sh = ap (simple_shape p) (sym (ap out-StType q ∙ type.outs-Array low high of)) ∙ h in
    cc
array_opens p (suc n) t low high of sh q h =
    let x : shape_by p (shape_within p n) (StType-F.Array low high of) ≡ Some sh = ap (shape_by p (shape_within p n)) (sym (ap out-StType q ∙ type.outs-Array low high of)) ∙ h in
    let a = mapped_some (Array low (extent low high)) (shape_within p n of) sh x in
    record { depth = n; deep = refl; element = a.0; unfolds = a.1; is = sym a.2 }

-- ---- structures and classes

pub record Opens (p : Program) (n : ℕ) (class : Bool) (k : ℕ) (sh : Shape) : Type 0 where
  pub depth : ℕ
  pub deep : n ≡ suc depth
  pub fields : Fields
  pub unfolds : fields_by (shape_within p depth) (members p class k) ≡ Some fields
  pub made : fields_in class sh ≡ Some fields

pub opens : (p : Program) (n : ℕ) (class : Bool) (k : ℕ) (sh : Shape) → shape_within p n (named class k) ≡ Some sh → Opens p n class k sh
opens p zero true k sh h =
    let x : simple_shape p (StType-F.Instance k) ≡ Some sh = ap (simple_shape p) (sym (type.outs-Instance k)) ∙ h in
    cc
opens p zero false k sh h =
    let x : simple_shape p (StType-F.Structure k) ≡ Some sh = ap (simple_shape p) (sym (type.outs-Structure k)) ∙ h in
    cc
opens p (suc n) true k sh h =
    let x : shape_by p (shape_within p n) (StType-F.Instance k) ≡ Some sh = ap (shape_by p (shape_within p n)) (sym (type.outs-Instance k)) ∙ h in
    let a = then_some (class_at p k) (λ x. fields_by (shape_within p n) (class_variables p k) >>= λ fs. Some (Instance k x.name fs)) sh x in
    let b = then_some (fields_by (shape_within p n) (class_variables p k)) (λ fs. Some (Instance k a.0.name fs)) sh a.2 in
    let c = b.2 in
    let is : Instance k a.0.name b.0 ≡ sh = cc in
    record { depth = n; deep = refl; fields = b.0; unfolds = b.1; made = ap (fields_in true) (sym is) }
opens p (suc n) false k sh h =
    let x : shape_by p (shape_within p n) (StType-F.Structure k) ≡ Some sh = ap (shape_by p (shape_within p n)) (sym (type.outs-Structure k)) ∙ h in
    let a = then_some (slice_get p.types k) (λ x. fields_of x.body >>= λ vs. fields_by (shape_within p n) vs >>= λ fs. Some (Structure x.name fs)) sh x in
    let b = then_some (fields_of a.0.body) (λ vs. fields_by (shape_within p n) vs >>= λ fs. Some (Structure a.0.name fs)) sh a.2 in
    let c = then_some (fields_by (shape_within p n) b.0) (λ fs. Some (Structure a.0.name fs)) sh b.2 in
    let d = c.2 in
    let is : Structure a.0.name c.0 ≡ sh = cc in
    let own : b.0 ≡ fields_at p k = sym (ap (λ o. or_none (option_and_then (λ t. fields_of t.body) o)) a.1 ∙ ap or_none b.1) in
    record { depth = n; deep = refl; fields = c.0; unfolds = ap (fields_by (shape_within p n)) (sym own) ∙ c.1; made = ap (fields_in false) (sym is) }

pub record Made (class : Bool) (fs : Fields) (sh : Shape) : Type 0 where
  pub size-is : size sh ≡ ending (start class) fs + gap (wide class fs) (ending (start class) fs)
  pub alignment-is : alignment sh ≡ wide class fs
  pub small : IsSmall sh → (size sh < 4294967296) × EachIsSmall fs

pub made_of : (class : Bool) (sh : Shape) (fs : Fields) → fields_in class sh ≡ Some fs → Made class fs sh
made_of true (Instance c name gs) fs e =
    let is : gs ≡ fs = cc in
    subst (λ hs. Made true hs (Instance c name gs)) is (record { size-is = refl; alignment-is = refl; small = λ h. h })
made_of true (Elementary e) fs h = cc
made_of true (Enumeration name values) fs h = cc
made_of true (Reference c name) fs h = cc
made_of true (shape.Interface k name) fs h = cc
made_of true (Array low n sh) fs h = cc
made_of true (Structure name gs) fs h = cc
made_of false (Structure name gs) fs e =
    let is : gs ≡ fs = cc in
    subst (λ hs. Made false hs (Structure name gs)) is (record { size-is = refl; alignment-is = refl; small = λ h. h })
made_of false (Elementary e) fs h = cc
made_of false (Enumeration name values) fs h = cc
made_of false (Reference c name) fs h = cc
made_of false (shape.Interface k name) fs h = cc
made_of false (Array low n sh) fs h = cc
made_of false (Instance c name gs) fs h = cc

-- a class or a structure that unfolds is there
class_known_at : (p : Program) (n k : ℕ) (sh : Shape) → shape_within p n (type.Instance k) ≡ Some sh → (x : Class) × (class_at p k ≡ Some x)
class_known_at p zero k sh h =
    let x : simple_shape p (StType-F.Instance k) ≡ Some sh = ap (simple_shape p) (sym (type.outs-Instance k)) ∙ h in
    cc
class_known_at p (suc n) k sh h =
    let x : shape_by p (shape_within p n) (StType-F.Instance k) ≡ Some sh = ap (shape_by p (shape_within p n)) (sym (type.outs-Instance k)) ∙ h in
    let a = then_some (class_at p k) (λ x. fields_by (shape_within p n) (class_variables p k) >>= λ fs. Some (Instance k x.name fs)) sh x in
    (a.0, a.1)

pub class_known : (p : Program) (n k : ℕ) (sh : Shape) → shape_within p n (type.Instance k) ≡ Some sh → k < length p.classes
class_known p n k sh h = let a = class_known_at p n k sh h in slice_get_within p.classes k a.0 a.1

type_known_at : (p : Program) (n k : ℕ) (sh : Shape) → shape_within p n (type.Structure k) ≡ Some sh → (x : TypeEntry) × (slice_get p.types k ≡ Some x)
type_known_at p zero k sh h =
    let x : simple_shape p (StType-F.Structure k) ≡ Some sh = ap (simple_shape p) (sym (type.outs-Structure k)) ∙ h in
    cc
type_known_at p (suc n) k sh h =
    let x : shape_by p (shape_within p n) (StType-F.Structure k) ≡ Some sh = ap (shape_by p (shape_within p n)) (sym (type.outs-Structure k)) ∙ h in
    let a = then_some (slice_get p.types k) (λ x. fields_of x.body >>= λ vs. fields_by (shape_within p n) vs >>= λ fs. Some (Structure x.name fs)) sh x in
    (a.0, a.1)

pub type_known : (p : Program) (n k : ℕ) (sh : Shape) → shape_within p n (type.Structure k) ≡ Some sh → k < length p.types
type_known p n k sh h = let a = type_known_at p n k sh h in slice_get_within p.types k a.0 a.1
