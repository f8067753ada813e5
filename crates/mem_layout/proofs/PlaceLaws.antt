-- Where steps lead by the tables.
use Rattle.std.proofs.Common.{◌≡◌, ◌≢◌, ◌≤◌, ◌<◌, ℕ, zero, suc, ◌+◌, ◌*◌, ℤ, pos, negsuc, Bool, true, false, List, [], ◌∷◌, length, Option, Some, None, refl, sym, ap, ◌∙◌, subst, arith}
use Rattle.std.specs.Prelude.{◌-ℤ◌, ◌≤ℤ◌, ◌<ℤ◌, slice_get, nat_lt, if◌then◌else◌}
use Rattle.std.proofs.lemmas.Int.{ints}
use Rattle.std.proofs.lemmas.Bool.{lt-ltb, ltb-true}
use Rattle.st_types.specs.declared.elem.Elem.{Elem}
use Rattle.st_types.specs.declared.elem.Elem.TheVariants as elem
use Rattle.st_types.specs.Elem.{bytes}
use Rattle.st_types.specs.declared.st_type.StType.{StType}
use Rattle.st_types.specs.declared.st_type.StType.TheVariants as type
use Rattle.st_tree.specs.declared.path.Step.TheVariants as step
use Rattle.st_values.specs.Program.{Variable, Program}
use Rattle.st_values.specs.Value.{Step, ◌>>=◌, natural, place_of_index}
use Rattle.st_values.specs.Shape as shape
use Rattle.st_values.specs.Shape.{Shape, Elementary, Enumeration, Reference, Array, Structure, Instance, Fields, no_fields, field_then, count_to, extent, fields_by, shape_within}
use Rattle.st_values.proofs.ValueLaws.{then_some}
use Rattle.st_values.proofs.ShapeLaws.{one_deeper}
use Rattle.mem_layout.specs.store_bytes.Place.{gap, alignment, size, Place, field_place, element_place, part_place, inner_place}
use Rattle.mem_layout.proofs.store_bytes.Writes.{part_within}
use Rattle.mem_layout.specs.declared.sizes.Field.{Field}
use Rattle.mem_layout.specs.declared.sizes.Measure.{Measure}
use Rattle.mem_layout.specs.declared.sizes.Entry.{Entry}
use Rattle.mem_layout.specs.declared.sizes.Tables.{Tables}
use Rattle.mem_layout.specs.Layout.{IsSmall, EachIsSmall}
use Rattle.mem_layout.specs.Private.Table.{list_of, named, start, fields_in, Rows, IsMeasure, AreTables}
use Rattle.mem_layout.specs.Private.Place.{offset_of, IsElementAt, LeadsAt, moved_by, Leading}
use Rattle.mem_layout.proofs.Unfold.{elementary_is, enumeration_is, reference_is, interface_is, array_opens, opens, made_of}

-- ---- elements

-- where an index has no place
past : (n : ℕ) (sh : Shape) (z : ℤ) (m : ℕ) → z ≡ negsuc m → offset_of (element_place n sh (natural z)) ≡ None
past n sh z m e = ap (λ y. offset_of (element_place n sh (natural y))) e

pub below_low : (low high index : ℤ) (e : ℕ) → index <ℤ low → IsElementAt low high index e None
below_low low high index e h = λ sh s few. go sh (index -ℤ low) refl
  where
    go : (sh : Shape) (z : ℤ) → index -ℤ low ≡ z → None ≡ offset_of (element_place (extent low high) sh (natural (index -ℤ low)))
    go sh (pos k) q = absurd (omega (arith, ints, h))
    go sh (negsuc k) q = sym (past (extent low high) sh (index -ℤ low) k q)

count_at : (z : ℤ) (n : ℕ) → z ≡ pos n → count_to z ≡ suc n
count_at z n e = ap count_to e

count_none : (z : ℤ) (n : ℕ) → z ≡ negsuc n → count_to z ≡ 0
count_none z n e = ap count_to e

-- the element is there, or not
not_there : (n k : ℕ) (sh : Shape) → n ≤ k → element_place n sh (Some k) ≡ None
not_there n k sh h = go (nat_lt k n) refl
  where
    go : (b : Bool) → nat_lt k n ≡ b → element_place n sh (Some k) ≡ None
    go true q = let lt = ltb-true k n q in absurd (omega (arith, lt, h))
    go false q = ap (λ b. if b then Some (record { offset = k * size sh; shape = sh }) else None) q

there : (n k : ℕ) (sh : Shape) → k < n → element_place n sh (Some k) ≡ Some (record { offset = k * size sh; shape = sh })
there n k sh h = ap (λ b. if b then Some (record { offset = k * size sh; shape = sh }) else None) (lt-ltb k n h)

pub above_high : (low high index : ℤ) (e : ℕ) → high <ℤ index → IsElementAt low high index e None
above_high low high index e h = λ sh s few. go sh (index -ℤ low) (high -ℤ low) refl refl
  where
    go : (sh : Shape) (z y : ℤ) → index -ℤ low ≡ z → high -ℤ low ≡ y → None ≡ offset_of (element_place (extent low high) sh (natural (index -ℤ low)))
    go sh (negsuc k) y q r = sym (past (extent low high) sh (index -ℤ low) k q)
    go sh (pos k) (pos m) q r =
        let c : extent low high ≡ suc m = count_at (high -ℤ low) m r in
        let far : extent low high ≤ k = omega (arith, ints, c, h, q, r) in
        sym (ap (λ z. offset_of (element_place (extent low high) sh (natural z))) q ∙ ap offset_of (not_there (extent low high) k sh far))
    go sh (pos k) (negsuc m) q r =
        let c : extent low high ≡ 0 = count_none (high -ℤ low) m r in
        let far : extent low high ≤ k = omega (arith, c) in
        sym (ap (λ z. offset_of (element_place (extent low high) sh (natural z))) q ∙ ap offset_of (not_there (extent low high) k sh far))

-- within the bounds
pub record Within (low high index : ℤ) : Type 0 where
  pub place : ℕ
  pub far : index -ℤ low ≡ pos place
  pub few : place < extent low high

pub within : (low high index : ℤ) → low ≤ℤ index → index ≤ℤ high → Within low high index
within low high index a b = go (index -ℤ low) (high -ℤ low) refl refl
  where
    go : (z y : ℤ) → index -ℤ low ≡ z → high -ℤ low ≡ y → Within low high index
    go (pos k) (pos m) q r =
        let c : extent low high ≡ suc m = count_at (high -ℤ low) m r in
        record { place = k; far = q; few = omega (arith, ints, c, a, b, q, r) }
    go (pos k) (negsuc m) q r = absurd (omega (arith, ints, a, b, q, r))
    go (negsuc k) y q r = absurd (omega (arith, ints, a, q))

pub element_there : (low high index : ℤ) (e n k : ℕ) → Within low high index → index -ℤ low ≡ pos k → n ≡ k * e → IsElementAt low high index e (Some n)
element_there low high index e n k w q r = λ sh s few.
    let same : pos w.place ≡ pos k = sym w.far ∙ q in
    let is : w.place ≡ k = cc in
    let lt : k < extent low high = subst (λ i. i < extent low high) is w.few in
    sym (ap (λ z. offset_of (element_place (extent low high) sh (natural z))) q ∙ (ap offset_of (there (extent low high) k sh lt) ∙ ap Some (ap (λ m. k * m) s ∙ sym r)))

pub no_bytes : (low high index : ℤ) (e : ℕ) → Within low high index → e ≡ 0 → IsElementAt low high index e (Some 0)
no_bytes low high index e w z = let r : 0 ≡ w.place * e = rw z (omega arith) in element_there low high index e 0 w.place w w.far r

-- an element of an array that is small begins before 2 ^ 32
begins_low : (n k e : ℕ) → k < n → 0 < e → n * e < 4294967296 → (k < 4294967296) × (k * e < 4294967296)
begins_low n k e h g lt =
    let a : k * e ≤ n * e = grind arith in
    let b : k ≤ k * e = grind arith in
    (omega (arith, a, b, lt), omega (arith, a, lt))

-- so it never is too far
pub never_far : (low high index : ℤ) (e : ℕ) (z : ℤ) → Within low high index → z ≡ index -ℤ low → e ≢ 0 → pos 4294967295 <ℤ z → IsElementAt low high index e None
never_far low high index e z w q ne h = λ sh s few.
    let g : 0 < e = grind arith in
    let b = begins_low (extent low high) w.place e w.few g few in
    absurd (omega (arith, ints, b.0, w.far, q, h))

pub never_long : (low high index : ℤ) (e k : ℕ) → Within low high index → pos k ≡ index -ℤ low → e ≢ 0 → (k * e < 4294967296 → ⊥) → IsElementAt low high index e None
never_long low high index e k w q ne h = λ sh s few.
    let g : 0 < e = grind arith in
    let b = begins_low (extent low high) w.place e w.few g few in
    let same : pos w.place ≡ pos k = sym w.far ∙ sym q in
    let is : w.place ≡ k = cc in
    absurd (h (subst (λ i. i * e < 4294967296) is b.1))

-- ---- fields

-- what the variables of fields unfold to
abbrev pub Known : (StType → Option Shape) → Fields → Type 0
Known f no_fields = Unit {0}
Known f (field_then v sh fs) = (f v.kind ≡ Some sh) × Known f fs

pub known_by : (f : StType → Option Shape) (vs : List Variable) (fs : Fields) → fields_by f vs ≡ Some fs → Known f fs
known_by f [] fs e = let is : no_fields ≡ fs = cc in subst (Known f) is tt
known_by f (v ∷ vs) fs e =
    let a = then_some (f v.kind) (λ sh. fields_by f vs >>= λ rest. Some (field_then v sh rest)) fs e in
    let b = then_some (fields_by f vs) (λ rest. Some (field_then v a.0 rest)) fs a.2 in
    let c = b.2 in
    let is : field_then v a.0 b.0 ≡ fs = cc in
    subst (Known f) is (a.1, known_by f vs b.0 b.1)

-- a row and the field that it is of
pub record RowIs (f : StType → Option Shape) (o : Option Place) (r : Field) : Type 0 where
  pub shape : Shape
  pub place : o ≡ Some (record { offset = r.offset; shape = shape })
  pub unfolds : f r.kind ≡ Some shape
  pub small : IsSmall shape

pub row_there : (f : StType → Option Shape) (rows : List Field) (fs : Fields) (off k : ℕ) (r : Field) → Rows off rows fs → Known f fs → EachIsSmall fs → slice_get rows k ≡ Some r → RowIs f (field_place off fs k) r
row_there f [] fs off k r h g s e = cc
row_there f (q ∷ rows) no_fields off k r h g s e = absurd h
row_there f (q ∷ rows) (field_then v sh fs) off zero r h g s e =
    let is : q ≡ r = cc in
    subst (RowIs f (field_place off (field_then v sh fs) zero)) is
    (record { shape = sh; place = ap (λ n. Some (record { offset = n; shape = sh })) (sym h.0); unfolds = ap f h.1 ∙ g.0; small = s.0 })
row_there f (q ∷ rows) (field_then v sh fs) off (suc k) r h g s e = row_there f rows fs (off + gap (alignment sh) off + size sh) k r h.2 g.1 s.1 e

pub row_past : (rows : List Field) (fs : Fields) (off k : ℕ) → Rows off rows fs → slice_get rows k ≡ None → field_place off fs k ≡ None
row_past [] no_fields off k h e = refl
row_past [] (field_then v sh fs) off k h e = absurd h
row_past (q ∷ rows) no_fields off k h e = absurd h
row_past (q ∷ rows) (field_then v sh fs) off zero h e = cc
row_past (q ∷ rows) (field_then v sh fs) off (suc k) h e = row_past rows fs (off + gap (alignment sh) off + size sh) k h.2 e

-- a field of a shape
pub field_part : (class : Bool) (sh : Shape) (fs : Fields) (k : ℕ) → fields_in class sh ≡ Some fs → part_place sh (step.Field k) ≡ field_place (start class) fs k
field_part true (Instance c name gs) fs k e = let is : gs ≡ fs = cc in ap (λ hs. field_place 8 hs k) is
field_part true (Elementary e) fs k h = cc
field_part true (Enumeration name values) fs k h = cc
field_part true (Reference c name) fs k h = cc
field_part true (shape.Interface i name) fs k h = cc
field_part true (Array low n sh) fs k h = cc
field_part true (Structure name gs) fs k h = cc
field_part false (Structure name gs) fs k e = let is : gs ≡ fs = cc in ap (λ hs. field_place 0 hs k) is
field_part false (Elementary e) fs k h = cc
field_part false (Enumeration name values) fs k h = cc
field_part false (Reference c name) fs k h = cc
field_part false (shape.Interface i name) fs k h = cc
field_part false (Array low n sh) fs k h = cc
field_part false (Instance c name gs) fs k h = cc

pub no_element : (class : Bool) (sh : Shape) (fs : Fields) (i : ℤ) → fields_in class sh ≡ Some fs → part_place sh (step.Element i) ≡ None
no_element true (Instance c name gs) fs i e = refl
no_element true (Elementary e) fs i h = refl
no_element true (Enumeration name values) fs i h = refl
no_element true (Reference c name) fs i h = refl
no_element true (shape.Interface k name) fs i h = refl
no_element true (Array low n sh) fs i h = cc
no_element true (Structure name gs) fs i h = refl
no_element false (Structure name gs) fs i e = refl
no_element false (Elementary e) fs i h = refl
no_element false (Enumeration name values) fs i h = refl
no_element false (Reference c name) fs i h = refl
no_element false (shape.Interface k name) fs i h = refl
no_element false (Array low n sh) fs i h = cc
no_element false (Instance c name gs) fs i h = refl

-- what the tables know of a structure or a class that has a shape
pub record FieldsAre (p : Program) (n : ℕ) (class : Bool) (sh : Shape) (rows : List Field) : Type 0 where
  pub fields : Fields
  pub made : fields_in class sh ≡ Some fields
  pub rows-are : Rows (start class) rows fields
  pub known : Known (shape_within p n) fields
  pub small : EachIsSmall fields

pub fields_are : (p : Program) (t : Tables) (n : ℕ) (class : Bool) (k : ℕ) (sh : Shape) (e : Entry) → AreTables p t → shape_within p (suc n) (named class k) ≡ Some sh → IsSmall sh → slice_get (list_of t class) k ≡ Some (Some e) → FieldsAre p n class sh e.fields
fields_are p t n class k sh e f h s at =
    let l = f.entry class k e (suc n) sh at h in
    let o = opens p (suc n) class k sh h in
    let m = made_of class sh o.fields o.made in
    let same : Some l.fields ≡ Some o.fields = sym l.made ∙ o.made in
    let is : l.fields ≡ o.fields = cc in
    let d = o.deep in
    let deep : o.depth ≡ n = omega arith in
    record {
      fields = o.fields;
      made = o.made;
      rows-are = subst (Rows (start class) e.fields) is l.rows;
      known = subst (λ i. Known (shape_within p i) o.fields) deep (known_by (shape_within p o.depth) _ o.fields o.unfolds);
      small = (m.small s).1;
    }

leads_at : (p : Program) (n : ℕ) (r : ℕ × StType) (o : Option Place) (x : Place) → o ≡ Some x → r.0 ≡ x.offset → shape_within p n r.1 ≡ Some x.shape → IsSmall x.shape → LeadsAt p n (Some r) o
leads_at p n r o x e a b s = subst (LeadsAt p n (Some r)) (sym e) (a, b, s)

leads_none : (p : Program) (n : ℕ) (o : Option Place) → o ≡ None → LeadsAt p n None o
leads_none p n o e = subst (LeadsAt p n None) (sym e) tt

pub field_leads : (p : Program) (n : ℕ) (class : Bool) (sh : Shape) (rows : List Field) (k : ℕ) (row : Field) (t : StType) (st : Step) → st ≡ step.Field k → FieldsAre p n class sh rows → slice_get rows k ≡ Some row → t ≡ row.kind → LeadsAt p n (Some (row.offset, t)) (part_place sh st)
field_leads p n class sh rows k row t st is f e q =
    let r = row_there (shape_within p n) rows f.fields (start class) k row f.rows-are f.known f.small e in
    leads_at p n (row.offset, t) (part_place sh st) (record { offset = row.offset; shape = r.shape }) (ap (part_place sh) is ∙ (field_part class sh f.fields k f.made ∙ r.place)) refl (ap (shape_within p n) q ∙ r.unfolds) r.small

pub field_missing : (p : Program) (n : ℕ) (class : Bool) (sh : Shape) (rows : List Field) (k : ℕ) → FieldsAre p n class sh rows → slice_get rows k ≡ None → LeadsAt p n None (part_place sh (step.Field k))
field_missing p n class sh rows k f e =
    leads_none p n (part_place sh (step.Field k)) (field_part class sh f.fields k f.made ∙ row_past rows f.fields (start class) k f.rows-are e)

pub element_missing : (p : Program) (n : ℕ) (class : Bool) (k : ℕ) (sh : Shape) (i : ℤ) → shape_within p (suc n) (named class k) ≡ Some sh → LeadsAt p n None (part_place sh (step.Element i))
element_missing p n class k sh i h = let o = opens p (suc n) class k sh h in leads_none p n (part_place sh (step.Element i)) (no_element class sh o.fields i o.made)

-- ---- arrays

pub record ArrayIs (p : Program) (n : ℕ) (low high : ℤ) (of : StType) (sh : Shape) : Type 0 where
  pub element : Shape
  pub is : sh ≡ Array low (extent low high) element
  pub unfolds : shape_within p n of ≡ Some element
  pub small : IsSmall element
  pub few : extent low high * size element < 4294967296

pub array_is : (p : Program) (n : ℕ) (low high : ℤ) (of : StType) (sh : Shape) → shape_within p (suc n) (type.Array low high of) ≡ Some sh → IsSmall sh → ArrayIs p n low high of sh
array_is p n low high of sh h s =
    let o = array_opens p (suc n) (type.Array low high of) low high of sh refl h in
    let d = o.deep in
    let deep : o.depth ≡ n = omega arith in
    let u = subst IsSmall o.is s in
    record { element = o.element; is = o.is; unfolds = subst (λ i. shape_within p i of ≡ Some o.element) deep o.unfolds; small = u.1; few = u.0 }

-- a place of an offset
pub some_offset : (o : Option Place) (k : ℕ) → Some k ≡ offset_of o → (x : Place) × (o ≡ Some x) × (k ≡ x.offset)
some_offset None k h = cc
some_offset (Some x) k h = (x, refl, cc)

pub no_offset : (o : Option Place) → None ≡ offset_of o → o ≡ None
no_offset None h = refl
no_offset (Some x) h = cc

element_shape_is : (n : ℕ) (sh : Shape) (o : Option ℕ) (x : Place) → element_place n sh o ≡ Some x → x.shape ≡ sh
element_shape_is n sh None x h = cc
element_shape_is n sh (Some k) x h = go (nat_lt k n) refl h
  where
    go : (b : Bool) → nat_lt k n ≡ b → (if b then Some (record { offset = k * size sh; shape = sh }) else None) ≡ Some x → x.shape ≡ sh
    go true q p = let is : record { offset = k * size sh; shape = sh } ≡ x = cc in sym (ap (λ (y : Place). y.shape) is)
    go false q p = cc

pub array_leads : (p : Program) (n : ℕ) (low high : ℤ) (of : StType) (sh : Shape) (i : ℤ) (m : Measure) (k : ℕ) (t : StType) (a : ArrayIs p n low high of sh) → IsMeasure a.element m → IsElementAt low high i m.size (Some k) → t ≡ of → LeadsAt p n (Some (k, t)) (part_place sh (step.Element i))
array_leads p n low high of sh i m k t a s h q =
    let few : extent low high * m.size < 4294967296 = subst (λ e. extent low high * e < 4294967296) (sym s.size-is) a.few in
    let r = some_offset (element_place (extent low high) a.element (place_of_index low i)) k (h a.element (sym s.size-is) few) in
    let is = element_shape_is (extent low high) a.element (place_of_index low i) r.0 r.1 in
    leads_at p n (k, t) (part_place sh (step.Element i)) r.0 (ap (λ z. part_place z (step.Element i)) a.is ∙ r.1) r.2 (ap (shape_within p n) q ∙ (a.unfolds ∙ ap Some (sym is))) (subst IsSmall (sym is) a.small)

pub array_missing : (p : Program) (n : ℕ) (low high : ℤ) (of : StType) (sh : Shape) (i : ℤ) (m : Measure) (a : ArrayIs p n low high of sh) → IsMeasure a.element m → IsElementAt low high i m.size None → LeadsAt p n None (part_place sh (step.Element i))
array_missing p n low high of sh i m a s h =
    let few : extent low high * m.size < 4294967296 = subst (λ e. extent low high * e < 4294967296) (sym s.size-is) a.few in
    leads_none p n (part_place sh (step.Element i)) (ap (λ z. part_place z (step.Element i)) a.is ∙ no_offset (element_place (extent low high) a.element (place_of_index low i)) (h a.element (sym s.size-is) few))

pub no_field : (p : Program) (n : ℕ) (low high : ℤ) (of : StType) (sh : Shape) (k : ℕ) → ArrayIs p n low high of sh → LeadsAt p n None (part_place sh (step.Field k))
no_field p n low high of sh k a = leads_none p n (part_place sh (step.Field k)) (ap (λ z. part_place z (step.Field k)) a.is)

-- ---- what has no parts

pub elementary_leads : (p : Program) (n : ℕ) (t : StType) (k : Elem) (sh : Shape) (s : Step) → t ≡ type.Elementary k → shape_within p (suc n) t ≡ Some sh → LeadsAt p n None (part_place sh s)
elementary_leads p n t k sh s e h = leads_none p n (part_place sh s) (ap (λ z. part_place z s) (elementary_is p (suc n) t k sh e h))

pub enumeration_leads : (p : Program) (n : ℕ) (t : StType) (k : ℕ) (sh : Shape) (s : Step) → t ≡ type.Enumeration k → shape_within p (suc n) t ≡ Some sh → LeadsAt p n None (part_place sh s)
enumeration_leads p n t k sh s e h = let i = enumeration_is p (suc n) t k sh e h in leads_none p n (part_place sh s) (ap (λ z. part_place z s) i.2)

pub reference_leads : (p : Program) (n : ℕ) (t : StType) (k : ℕ) (sh : Shape) (s : Step) → t ≡ type.Reference k → shape_within p (suc n) t ≡ Some sh → LeadsAt p n None (part_place sh s)
reference_leads p n t k sh s e h = let i = reference_is p (suc n) t k sh e h in leads_none p n (part_place sh s) (ap (λ z. part_place z s) i.1)

pub interface_leads : (p : Program) (n : ℕ) (t : StType) (k : ℕ) (sh : Shape) (s : Step) → t ≡ type.Interface k → shape_within p (suc n) t ≡ Some sh → LeadsAt p n None (part_place sh s)
interface_leads p n t k sh s e h = let i = interface_is p (suc n) t k sh e h in leads_none p n (part_place sh s) (ap (λ z. part_place z s) i.1)

-- ---- step by step

pub no_steps : (ss : List Step) → length ss ≡ 0 → ss ≡ []
no_steps [] e = refl
no_steps (s ∷ ss) e = absurd (omega (arith, e))

few_bytes : (e : Elem) → bytes e ≤ 8
few_bytes elem.Bool = omega arith
few_bytes elem.Sint = omega arith
few_bytes elem.Int = omega arith
few_bytes elem.Dint = omega arith
few_bytes elem.Lint = omega arith
few_bytes elem.Usint = omega arith
few_bytes elem.Uint = omega arith
few_bytes elem.Udint = omega arith
few_bytes elem.Ulint = omega arith
few_bytes elem.Byte = omega arith
few_bytes elem.Word = omega arith
few_bytes elem.Dword = omega arith
few_bytes elem.Lword = omega arith
few_bytes elem.Time = omega arith

pub small_size : (sh : Shape) → IsSmall sh → size sh < 4294967296
small_size (Elementary e) h = omega (arith, few_bytes e)
small_size (Enumeration name values) h = omega arith
small_size (Reference c name) h = omega arith
small_size (shape.Interface k name) h = omega arith
small_size (Array low n sh) h = h.0
small_size (Structure name fs) h = h.0
small_size (Instance c name fs) h = h.0

moved_none : (o : Option ℕ) → moved_by 0 o ≡ o
moved_none None = refl
moved_none (Some m) = ap Some (omega arith)

moved_more : (a b : ℕ) (o : Option ℕ) → moved_by a (moved_by b o) ≡ moved_by (a + b) o
moved_more a b None = refl
moved_more a b (Some m) = let e : a + (b + m) ≡ a + b + m = omega arith in ap Some e

offset_further : (b : ℕ) (o : Option Place) → offset_of (o >>= λ y. Some (record { offset = b + y.offset; shape = y.shape })) ≡ moved_by b (offset_of o)
offset_further b None = refl
offset_further b (Some y) = refl

pub leading_first : (p : Program) (n : ℕ) (sh : Shape) (ss : List Step) (t : StType) → shape_within p n t ≡ Some sh → IsSmall sh → Leading p n sh ss ss t 0
leading_first p n sh ss t h s = record { shape = sh; unfolds = h; small = s; room = omega (arith, small_size sh s); rest = sym (moved_none (offset_of (inner_place sh ss))) }

leads_some : (p : Program) (n : ℕ) (r : ℕ × StType) (o : Option Place) → LeadsAt p n (Some r) o → (x : Place) × (o ≡ Some x) × (r.0 ≡ x.offset) × (shape_within p n r.1 ≡ Some x.shape) × IsSmall x.shape
leads_some p n r None h = absurd h
leads_some p n r (Some x) h = (x, refl, h.0, h.1, h.2)

leads_nothing : (p : Program) (n : ℕ) (o : Option Place) → LeadsAt p n None o → o ≡ None
leads_nothing p n None h = refl
leads_nothing p n (Some x) h = absurd h

-- the next step has room
pub leading_room : (p : Program) (n : ℕ) (whole : Shape) (ss left : List Step) (s : Step) (at : StType) (offset : ℕ) (r : ℕ × StType) (g : Leading p (suc n) whole ss (s ∷ left) at offset) → LeadsAt p n (Some r) (part_place g.shape s) → offset + r.0 < 4294967296
leading_room p n whole ss left s at offset r g h =
    let x = leads_some p n r (part_place g.shape s) h in
    let w = part_within g.shape s x.0 x.1 in
    let o = g.room in
    let q = x.2 in
    omega (arith, w, o, q)

pub leading_on : (p : Program) (n : ℕ) (whole : Shape) (ss left : List Step) (s : Step) (at : StType) (offset : ℕ) (r : ℕ × StType) (next : StType) (g : Leading p (suc n) whole ss (s ∷ left) at offset) → LeadsAt p n (Some r) (part_place g.shape s) → next ≡ r.1 → Leading p (suc n) whole ss left next (offset + r.0)
leading_on p n whole ss left s at offset r next g h e =
    let x = leads_some p n r (part_place g.shape s) h in
    let w = part_within g.shape s x.0 x.1 in
    let o = g.room in
    let q = x.2 in
    record {
      shape = x.0.shape;
      unfolds = ap (shape_within p (suc n)) e ∙ (one_deeper p n).by r.1 x.0.shape x.3;
      small = x.4;
      room = omega (arith, w, o, q);
      rest =
          g.rest
          ∙ (ap (λ z. moved_by offset (offset_of (z >>= λ (x : Place). inner_place x.shape left >>= λ (y : Place). Some (record { offset = x.offset + y.offset; shape = y.shape })))) x.1
          ∙ (ap (moved_by offset) (offset_further x.0.offset (inner_place x.0.shape left))
          ∙ (moved_more offset x.0.offset (offset_of (inner_place x.0.shape left)) ∙ ap (λ m. moved_by (offset + m) (offset_of (inner_place x.0.shape left))) (sym q))));
    }

pub leading_none : (p : Program) (n : ℕ) (whole : Shape) (ss left : List Step) (s : Step) (at : StType) (offset : ℕ) (g : Leading p (suc n) whole ss (s ∷ left) at offset) → LeadsAt p n None (part_place g.shape s) → None ≡ offset_of (inner_place whole ss)
leading_none p n whole ss left s at offset g h =
    let x = leads_nothing p n (part_place g.shape s) h in
    sym (g.rest ∙ ap (λ z. moved_by offset (offset_of (z >>= λ (x : Place). inner_place x.shape left >>= λ (y : Place). Some (record { offset = x.offset + y.offset; shape = y.shape })))) x)

pub leading_last : (p : Program) (n : ℕ) (whole : Shape) (ss left : List Step) (at : StType) (offset : ℕ) → left ≡ [] → Leading p n whole ss left at offset → Some offset ≡ offset_of (inner_place whole ss)
leading_last p n whole ss left at offset e g =
    let z : offset + 0 ≡ offset = omega arith in
    sym (g.rest ∙ (ap (λ l. moved_by offset (offset_of (inner_place g.shape l))) e ∙ ap Some z))
