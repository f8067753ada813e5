-- The way to what begins at an offset.
use Rattle.std.proofs.Common.{◌≡◌, ◌≢◌, ◌≤◌, ◌<◌, ℕ, zero, suc, ◌+◌, ◌-◌, ◌*◌, ◌/◌, ◌%◌, ℤ, pos, negsuc, Bool, true, false, List, [], ◌∷◌, ◌++◌, Some, None, refl, sym, ap, ◌∙◌, subst, arith, ⊎_elim, inl, inr}
use Rattle.std.specs.Prelude.{◌⊎◌, ◌-ℤ◌, ◌+ℤ◌, ◌≤ℤ◌, ◌<ℤ◌, slice_get, if◌then◌else◌}
use Rattle.std.proofs.lemmas.Int.{ints}
use Rattle.std.proofs.lemmas.List.{append_assoc, append-nil}
use Rattle.std.proofs.lemmas.Bool.{cases_lt, lt-ltb}
use Rattle.std.proofs.lemmas.Nat.{div-add-mod', mod_below}
use Rattle.st_types.specs.declared.elem.Elem.{Elem}
use Rattle.st_types.specs.declared.st_type.StType.{StType, out-StType}
use Rattle.st_types.specs.declared.st_type.StType.TheVariants as type
use Rattle.st_types.specs.declared.st_type.StType.TheOpen.{StType-F}
use Rattle.st_tree.specs.declared.path.Step.TheVariants as step
use Rattle.st_values.specs.Program.{Class, Interface, Program, class_at}
use Rattle.st_values.specs.Value.{Step, ◌>>=◌, natural, place_of_index}
use Rattle.st_values.specs.Shape as shape
use Rattle.st_values.specs.Shape.{Shape, Elementary, Enumeration, Reference, Array, Structure, Instance, Fields, no_fields, field_then, count_to, extent, values_of, simple_shape, shape_within}
use Rattle.st_values.proofs.ValueLaws.{then_some, index_once}
use Rattle.st_values.proofs.ShapeLaws.{mapped_some}
use Rattle.mem_layout.specs.store_bytes.Place.{gap, alignment, size, Place, field_place, element_place, part_place, inner_place}
use Rattle.mem_layout.specs.store_bytes.PlaceLaws.{IsOwn}
use Rattle.mem_layout.proofs.store_bytes.Moves.{row_within, element_is}
use Rattle.mem_layout.proofs.store_bytes.Writes.{no_regions, field_within, inner_within}
use Rattle.mem_layout.proofs.store_bytes.Apart.{same_nat, same_step, own_bytes}
use Rattle.mem_layout.specs.declared.sizes.Field.{Field}
use Rattle.mem_layout.specs.declared.sizes.Measure.{Measure}
use Rattle.mem_layout.specs.declared.sizes.Tables.{Tables}
use Rattle.mem_layout.specs.declared.ways.Inward.{Inward}
use Rattle.mem_layout.specs.Layout.{IsSmall}
use Rattle.mem_layout.specs.Private.Table.{start, fields_in, Rows, IsMeasure, Reach}
use Rattle.mem_layout.specs.Private.Way.{is_own, Misses, Enters, EntersIf, Begins, IsWay, Towards, AreRising, AreBefore}
use Rattle.mem_layout.proofs.Unfold.{elementary_is, enumeration_is, reference_is, interface_is, array_opens, opens}
use Rattle.mem_layout.proofs.SizeLaws.{reach_less}
use Rattle.mem_layout.proofs.PlaceLaws.{row_there, field_part, no_element, FieldsAre, ArrayIs}

-- ---- what begins within something

-- a way inward begins with a step into a part
pub record Inside (sh : Shape) (left : ℕ) (us : List Step) : Type 0 where
  pub first : Step
  pub behind : List Step
  pub is : us ≡ first ∷ behind
  pub place : Place
  pub leads : part_place sh first ≡ Some place
  pub offset : ℕ
  pub within : place.offset + offset ≡ left
  pub begins : Begins place.shape offset behind

own_some : (sh : Shape) → IsOwn sh → is_own sh ≡ true
own_some (Elementary e) h = refl
own_some (Enumeration name values) h = refl
own_some (Reference c name) h = refl
own_some (shape.Interface k name) h = refl
own_some (Array low n sh) h = absurd h
own_some (Structure name fs) h = absurd h
own_some (Instance c name fs) h = refl

some_own : (sh : Shape) → is_own sh ≡ true → IsOwn sh
some_own (Elementary e) h = tt
some_own (Enumeration name values) h = tt
some_own (Reference c name) h = tt
some_own (shape.Interface k name) h = tt
some_own (Array low n sh) h = cc
some_own (Structure name fs) h = cc
some_own (Instance c name fs) h = tt

-- where what begins is not the whole itself
pub inside : (sh : Shape) (left : ℕ) (us : List Step) → (left ≡ 0 → is_own sh ≡ false) → Begins sh left us → Inside sh left us
inside sh left [] n b =
    let e = b.leads in
    let is : record { offset = 0; shape = sh } ≡ b.place = cc in
    let o : 0 ≡ left = ap (λ (x : Place). x.offset) is ∙ b.at in
    let own : IsOwn sh = subst (λ (x : Place). IsOwn x.shape) (sym is) b.own in
    let t = own_some sh own in
    let f = n (sym o) in
    absurd (cc)
inside sh left (s ∷ us) n b =
    let a = then_some (part_place sh s) (λ (x : Place). inner_place x.shape us >>= λ (y : Place). Some (record { offset = x.offset + y.offset; shape = y.shape })) b.place b.leads in
    let c = then_some (inner_place a.0.shape us) (λ (y : Place). Some (record { offset = a.0.offset + y.offset; shape = y.shape })) b.place a.2 in
    let d = c.2 in
    let is : record { offset = a.0.offset + c.0.offset; shape = c.0.shape } ≡ b.place = cc in
    record {
      first = s;
      behind = us;
      is = refl;
      place = a.0;
      leads = a.1;
      offset = c.0.offset;
      within = ap (λ (x : Place). x.offset) is ∙ b.at;
      begins = record { place = c.0; leads = c.1; own = subst (λ (x : Place). IsOwn x.shape) (sym is) b.own; at = refl };
    }

-- nothing begins in a part that misses the offset
missed : (sh : Shape) (left : ℕ) (us : List Step) (i : Inside sh left us) → Misses sh left i.first → ⊥
missed sh left us i m =
    let b = i.begins in
    let w = inner_within i.behind i.place.shape b.place b.leads in
    let s = own_bytes b.place.shape b.own in
    let a = i.within in
    let o = b.at in
    ⊎_elim (λ (x : i.place.offset + size i.place.shape ≤ left). absurd (omega (arith, x, w, s, a, o))) (λ (x : left < i.place.offset). absurd (omega (arith, x, a))) (m i.place i.leads)

-- ---- the search

begins_behind : (sh : Shape) (left : ℕ) (s : Step) (x : Place) (us : List Step) → part_place sh s ≡ Some x → x.offset ≤ left → Begins x.shape (left - x.offset) us → Begins sh left (s ∷ us)
begins_behind sh left s x us e h b =
    let n : x.offset + b.place.offset ≡ left = let a = b.at in omega (arith, a, h) in
    record {
      place = record { offset = x.offset + b.place.offset; shape = b.place.shape };
      leads =
          ap (λ o. o >>= λ (x : Place). inner_place x.shape us >>= λ (y : Place). Some (record { offset = x.offset + y.offset; shape = y.shape })) e
          ∙ ap (λ o. o >>= λ (y : Place). Some (record { offset = x.offset + y.offset; shape = y.shape })) b.leads;
      own = b.own;
      at = n;
    }

pub towards_first : (p : Program) (n : ℕ) (sh : Shape) (offset : ℕ) (ss : List Step) (t : StType) → ss ≡ [] → shape_within p n t ≡ Some sh → IsSmall sh → Towards p n sh offset ss t offset
towards_first p n sh offset ss t e h s = record { shape = sh; unfolds = h; small = s; found = λ ts b. subst (λ l. Begins sh offset (l ++ ts)) (sym e) b; only = λ ts b. (ts, b) }

pub towards_next : (p : Program) (n : ℕ) (whole : Shape) (offset : ℕ) (ss ss' : List Step) (at : StType) (left left' : ℕ) (r : Inward) (next : StType) (g : Towards p (suc n) whole offset ss at left) → (left ≡ 0 → is_own g.shape ≡ false) → Enters p n g.shape left r → ss' ≡ ss ++ r.step ∷ [] → left' ≡ left - r.offset → next ≡ r.kind.now → Towards p n whole offset ss' next left'
towards_next p n whole offset ss ss' at left left' r next g no-own x e l k =
    record {
      shape = x.shape;
      unfolds = ap (shape_within p n) k ∙ x.unfolds;
      small = x.small;
      found = λ ts b.
          let b' : Begins x.shape (left - r.offset) ts = subst (λ m. Begins x.shape m ts) l b in
          let c = g.found (r.step ∷ ts) (begins_behind g.shape left r.step (record { offset = r.offset; shape = x.shape }) ts x.place x.before b') in
          let f : ss ++ r.step ∷ ts ≡ ss' ++ ts = sym (append_assoc ss (r.step ∷ []) ts) ∙ ap (λ m. m ++ ts) (sym e) in
          subst (Begins whole offset) f c;
      only = λ ts b.
          let c = g.only ts b in
          let i = inside g.shape left c.0 no-own c.1 in
          ⊎_elim
          (λ (q : i.first ≡ r.step).
          let both : Some i.place ≡ Some (record { offset = r.offset; shape = x.shape }) = sym i.leads ∙ (ap (part_place g.shape) q ∙ x.place) in
          let is : i.place ≡ record { offset = r.offset; shape = x.shape } = cc in
          let o : i.place.offset ≡ r.offset = ap (λ (z : Place). z.offset) is in
          let w = i.within in
          let m : i.offset ≡ left' = omega (arith, o, w, l) in
          (i.behind, subst (λ a. Begins x.shape a i.behind) m (subst (λ (z : Place). Begins z.shape i.offset i.behind) is i.begins)))
          (λ (q : Misses g.shape left i.first). absurd (missed g.shape left c.0 i q))
          (x.others i.first);
    }

pub none_enters : (p : Program) (n m : ℕ) (whole : Shape) (offset : ℕ) (ss : List Step) (at : StType) (left : ℕ) (g : Towards p n whole offset ss at left) → (left ≡ 0 → is_own g.shape ≡ false) → ((s : Step) → Misses g.shape left s) → IsWay whole offset None
none_enters p n m whole offset ss at left g no-own x = λ ts b.
    let c = g.only ts b in
    let i = inside g.shape left c.0 no-own c.1 in
    missed g.shape left c.0 i (x i.first)

pub reached : (p : Program) (n : ℕ) (whole : Shape) (offset : ℕ) (ss : List Step) (at : StType) (left : ℕ) (g : Towards p n whole offset ss at left) → left ≡ 0 → is_own g.shape ≡ true → IsWay whole offset (Some ss)
reached p n whole offset ss at left g z o =
    let here : Begins g.shape left [] = record { place = record { offset = 0; shape = g.shape }; leads = refl; own = some_own g.shape o; at = sym z } in
    subst (Begins whole offset) (append-nil ss) (g.found [] here)

misses_none : (sh : Shape) (left : ℕ) (s : Step) → part_place sh s ≡ None → Misses sh left s
misses_none sh left s e z q = cc

-- a type that unfolds at once has no parts
pub no_parts : (p : Program) (o : StType-F StType) (sh : Shape) → simple_shape p o ≡ Some sh → (s : Step) → part_place sh s ≡ None
no_parts p (StType-F.Elementary e) sh h s = let is : Elementary e ≡ sh = cc in ap (λ z. part_place z s) (sym is)
no_parts p (StType-F.Enumeration n) sh h s =
    let a = then_some (slice_get p.types n) (λ t. values_of t.body >>= λ values. Some (Enumeration t.name values)) sh h in
    let b = then_some (values_of a.0.body) (λ values. Some (Enumeration a.0.name values)) sh a.2 in
    let c = b.2 in
    let is : Enumeration a.0.name b.0 ≡ sh = cc in
    ap (λ z. part_place z s) (sym is)
no_parts p (StType-F.Structure n) sh h s = cc
no_parts p (StType-F.Array low high of) sh h s = cc
no_parts p (StType-F.Instance c) sh h s = cc
no_parts p (StType-F.Reference c) sh h s = let a = mapped_some (λ (k : Class). Reference c k.name) (class_at p c) sh h in ap (λ z. part_place z s) (sym a.2)
no_parts p (StType-F.Interface i) sh h s = let a = mapped_some (λ (k : Interface). shape.Interface i k.name) (slice_get p.interfaces i) sh h in ap (λ z. part_place z s) (sym a.2)

-- so nothing is found at no depth
pub none_deeper : (p : Program) (whole : Shape) (offset : ℕ) (ss : List Step) (at : StType) (left : ℕ) (g : Towards p 0 whole offset ss at left) → (left ≡ 0 → is_own g.shape ≡ false) → IsWay whole offset None
none_deeper p whole offset ss at left g no-own =
    none_enters p 0 0 whole offset ss at left g no-own (λ s. misses_none g.shape left s (no_parts p (out-StType at) g.shape g.unfolds s))

pub reach_far : (p : Program) (n k m : ℕ) (t : Tables) → n + k ≡ m → Reach p m t → Reach p n t
reach_far p n zero m t e r = let q : m ≡ n = omega arith in subst (λ i. Reach p i t) q r
reach_far p n (suc k) m t e r = let q : suc n + k ≡ m = omega arith in reach_less p n t (reach_far p (suc n) k m t q r)

-- ---- arrays

-- elements that take no bytes
array_empty : (low : ℤ) (n : ℕ) (e : Shape) (left : ℕ) (s : Step) → size e ≡ 0 → Misses (Array low n e) left s
array_empty low n e left (step.Field k) z = misses_none (Array low n e) left (step.Field k) refl
array_empty low n e left (step.Element i) z = λ x q.
    let y = element_is no_regions n e (place_of_index low i) x q in
    let o : y.index * size e ≡ x.offset = ap (λ (w : Place). w.offset) y.place in
    let w : size e ≡ size x.shape = ap (λ (v : Place). size v.shape) y.place in
    let none : y.index * size e ≡ 0 = rw z (omega arith) in
    let r : x.offset + size x.shape ≤ left = omega (arith, o, w, none, z) in
    inl r

-- an element before the k-th ends before the offset, one behind it begins behind
element_misses : (e k j left : ℕ) → k * e ≤ left → left < k * e + e → j ≢ k → (j * e + e ≤ left) ⊎ (left < j * e)
element_misses e k j left low high ne =
    elim (cases_lt j k) [ inl lt ↦ (let q : j * e + e ≤ k * e = row_within j k e lt in inl (omega arith)) | inr ge ↦ (let q : k * e + e ≤ j * e = row_within k j e (omega arith) in inr (omega arith)) ]

index_natural : (low i : ℤ) (k : ℕ) → i ≡ low +ℤ pos k → place_of_index low i ≡ Some k
index_natural low i k e = let z : i -ℤ low ≡ pos k = omega (arith, ints) in ap natural z

count_at : (z : ℤ) (n : ℕ) → z ≡ pos n → count_to z ≡ suc n
count_at z n e = ap count_to e

-- an index is within the bounds exactly where its number is below the count
within_high : (low high i : ℤ) (k : ℕ) → i ≡ low +ℤ pos k → i ≤ℤ high → k < extent low high
within_high low high i k e h = go (high -ℤ low) refl
  where
    go : (y : ℤ) → high -ℤ low ≡ y → k < extent low high
    go (pos m) r = let c : extent low high ≡ suc m = count_at (high -ℤ low) m r in omega (arith, ints, c, e, h, r)
    go (negsuc m) r = absurd (omega (arith, ints, e, h, r))

above_high : (low high i : ℤ) (k : ℕ) → i ≡ low +ℤ pos k → high <ℤ i → extent low high ≤ k
above_high low high i k e h = go (high -ℤ low) refl
  where
    go : (y : ℤ) → high -ℤ low ≡ y → extent low high ≤ k
    go (pos m) r = let c : extent low high ≡ suc m = count_at (high -ℤ low) m r in omega (arith, ints, c, e, h, r)
    go (negsuc m) r = let c : extent low high ≡ 0 = ap count_to r in omega (arith, c)

natural_pos : (z : ℤ) (n : ℕ) → natural z ≡ Some n → z ≡ pos n
natural_pos (pos m) n e = cc
natural_pos (negsuc m) n e = cc

there_at : (n k : ℕ) (sh : Shape) → k < n → element_place n sh (Some k) ≡ Some (record { offset = k * size sh; shape = sh })
there_at n k sh h = ap (λ b. if b then Some (record { offset = k * size sh; shape = sh }) else None) (lt-ltb k n h)

whole_part : (left e : ℕ) → 0 < e → (left / e * e ≤ left) × (left < left / e * e + e) × (left - left % e ≡ left / e * e)
whole_part left e h =
    let a = div-add-mod' left e in
    let b = mod_below left e h in
    (omega (arith, a, b), omega (arith, a, b), omega (arith, a, b))

-- beyond the last element nothing is reached
array_beyond : (low : ℤ) (n : ℕ) (e : Shape) (left k : ℕ) → k * size e ≤ left → n ≤ k → (s : Step) → Misses (Array low n e) left s
array_beyond low n e left k h far (step.Field f) = misses_none (Array low n e) left (step.Field f) refl
array_beyond low n e left k h far (step.Element i) = λ x q.
    let y = element_is no_regions n e (place_of_index low i) x q in
    let o : y.index * size e ≡ x.offset = ap (λ (w : Place). w.offset) y.place in
    let w : size e ≡ size x.shape = ap (λ (v : Place). size v.shape) y.place in
    let lt : y.index < k = let z = y.within in omega (arith, z, far) in
    let r : y.index * size e + size e ≤ k * size e = row_within y.index k (size e) lt in
    let t : x.offset + size x.shape ≤ left = omega (arith, o, w, r, h) in
    inl t

array_others : (low i : ℤ) (n : ℕ) (e : Shape) (left k : ℕ) → k * size e ≤ left → left < k * size e + size e → place_of_index low i ≡ Some k → (s : Step) → (s ≡ step.Element i) ⊎ Misses (Array low n e) left s
array_others low i n e left k a b q (step.Field f) = inr (misses_none (Array low n e) left (step.Field f) refl)
array_others low i n e left k a b q (step.Element j) = ⊎_elim
    (λ (x : step.Element j ≡ step.Element i). inl x)
    (λ (ne : step.Element j ≢ step.Element i). inr (λ x p.
    let y = element_is no_regions n e (place_of_index low j) x p in
    let o : y.index * size e ≡ x.offset = ap (λ (w : Place). w.offset) y.place in
    let w : size e ≡ size x.shape = ap (λ (v : Place). size v.shape) y.place in
    let other : y.index ≢ k = λ z. ne (ap step.Element (index_once low j i k (y.is ∙ ap Some z) q)) in
    let m = element_misses (size e) k y.index left a b other in
    ⊎_elim
    (λ (u : y.index * size e + size e ≤ left). let t : x.offset + size x.shape ≤ left = omega (arith, o, w, u) in inl t)
    (λ (u : left < y.index * size e). let t : left < x.offset = omega (arith, o, u) in inr t)
    m))
    (same_step (step.Element j) (step.Element i))

enters_none : (p : Program) (n : ℕ) (sh whole : Shape) (left : ℕ) → sh ≡ whole → ((s : Step) → Misses whole left s) → EntersIf p n sh left None
enters_none p n sh whole left e f = subst (λ w. (s : Step) → Misses w left s) (sym e) f

pub array_no_bytes : (p : Program) (n : ℕ) (low high : ℤ) (of : StType) (sh : Shape) (m : Measure) (left : ℕ) (a : ArrayIs p n low high of sh) → IsMeasure a.element m → m.size ≡ 0 → EntersIf p n sh left None
array_no_bytes p n low high of sh m left a s z = enters_none p n sh _ left a.is (λ t. array_empty low (extent low high) a.element left t (sym s.size-is ∙ z))

-- no index is so far
pub array_past : (p : Program) (n : ℕ) (low high : ℤ) (of : StType) (sh : Shape) (m : Measure) (left : ℕ) (i : ℤ) (a : ArrayIs p n low high of sh) → IsMeasure a.element m → m.size ≢ 0 → i ≡ low +ℤ pos (left / m.size) → high <ℤ i → EntersIf p n sh left None
array_past p n low high of sh m left i a s ne e h =
    let g : 0 < m.size = grind arith in
    let w = whole_part left m.size g in
    let k = left / m.size in
    let b : k * size a.element ≤ left = subst (λ z. k * z ≤ left) s.size-is w.0 in
    enters_none p n sh _ left a.is (array_beyond low (extent low high) a.element left k b (above_high low high i k e h))

pub array_enters : (p : Program) (n : ℕ) (low high : ℤ) (of : StType) (sh : Shape) (m : Measure) (left : ℕ) (i : ℤ) (r : Inward) (a : ArrayIs p n low high of sh) → IsMeasure a.element m → m.size ≢ 0 → i ≡ low +ℤ pos (left / m.size) → i ≤ℤ high
    → r.step ≡ step.Element i → r.offset ≡ left - left % m.size → r.kind.now ≡ of → EntersIf p n sh left (Some r)
array_enters p n low high of sh m left i r a s ne e h q o t =
    let g : 0 < m.size = grind arith in
    let w = whole_part left m.size g in
    let k = left / m.size in
    let at : k * m.size ≡ k * size a.element = ap (λ z. k * z) s.size-is in
    let off : k * size a.element ≡ r.offset = sym at ∙ (sym w.2 ∙ sym o) in
    let low' : k * size a.element ≤ left = subst (λ z. k * z ≤ left) s.size-is w.0 in
    let high' : left < k * size a.element + size a.element = subst (λ z. left < k * z + z) s.size-is w.1 in
    let is = index_natural low i k e in
    record {
      shape = a.element;
      place =
          ap (part_place sh) q
          ∙ (ap (λ z. part_place z (step.Element i)) a.is
          ∙ (ap (element_place (extent low high) a.element) is ∙ (there_at (extent low high) k a.element (within_high low high i k e h) ∙ ap (λ z. Some (record { offset = z; shape = a.element })) off)));
      before = omega (arith, off, low');
      unfolds = ap (shape_within p n) t ∙ a.unfolds;
      small = a.small;
      others = λ u. subst (λ v. (u ≡ v) ⊎ Misses sh left u) (sym q) (subst (λ z. (u ≡ step.Element i) ⊎ Misses z left u) (sym a.is) (array_others low i (extent low high) a.element left k low' high' is u));
    }

-- ---- fields

-- every row lies behind where the fields begin
rows_above : (rows : List Field) (fs : Fields) (off k : ℕ) (r : Field) → Rows off rows fs → slice_get rows k ≡ Some r → off ≤ r.offset
rows_above [] fs off k r h e = cc
rows_above (q ∷ rows) no_fields off k r h e = absurd h
rows_above (q ∷ rows) (field_then v sh fs) off zero r h e =
    let is : q ≡ r = cc in
    let o : r.offset ≡ off + gap (alignment sh) off = sym (ap (λ (z : Field). z.offset) is) ∙ h.0 in
    omega (arith, o)
rows_above (q ∷ rows) (field_then v sh fs) off (suc k) r h e =
    let a = rows_above rows fs (off + gap (alignment sh) off + size sh) k r h.2 e in omega (arith, a)

rising_at : (rows : List Field) (fs : Fields) (off j k : ℕ) (a b : Field) → Rows off rows fs → j ≤ k → slice_get rows j ≡ Some a → slice_get rows k ≡ Some b → a.offset ≤ b.offset
rising_at [] fs off j k a b h l e f = cc
rising_at (q ∷ rows) no_fields off j k a b h l e f = absurd h
rising_at (q ∷ rows) (field_then v sh fs) off zero zero a b h l e f =
    let is : a ≡ b = cc in
    let o : a.offset ≡ b.offset = ap (λ (z : Field). z.offset) is in
    omega (arith, o)
rising_at (q ∷ rows) (field_then v sh fs) off zero (suc k) a b h l e f =
    let is : q ≡ a = cc in
    let o : a.offset ≡ off + gap (alignment sh) off = sym (ap (λ (z : Field). z.offset) is) ∙ h.0 in
    let u = rows_above rows fs (off + gap (alignment sh) off + size sh) k b h.2 f in
    omega (arith, o, u)
rising_at (q ∷ rows) (field_then v sh fs) off (suc j) zero a b h l e f = absurd (omega (arith, l))
rising_at (q ∷ rows) (field_then v sh fs) off (suc j) (suc k) a b h l e f = rising_at rows fs (off + gap (alignment sh) off + size sh) j k a b h.2 (omega (arith, l)) e f

pub rising : (rows : List Field) (fs : Fields) (off : ℕ) → Rows off rows fs → AreRising rows
rising rows fs off h = record { by = λ j k a b l e f. rising_at rows fs off j k a b h l e f }

-- a field that is there has a row
row_of : (rows : List Field) (fs : Fields) (off k : ℕ) (z : Place) → Rows off rows fs → field_place off fs k ≡ Some z → (r : Field) × (slice_get rows k ≡ Some r) × (r.offset ≡ z.offset)
row_of [] no_fields off k z h e = cc
row_of [] (field_then v sh fs) off k z h e = absurd h
row_of (q ∷ rows) no_fields off k z h e = absurd h
row_of (q ∷ rows) (field_then v sh fs) off zero z h e =
    let is : record { offset = off + gap (alignment sh) off; shape = sh } ≡ z = cc in
    (q, refl, h.0 ∙ ap (λ (x : Place). x.offset) is)
row_of (q ∷ rows) (field_then v sh fs) off (suc k) z h e = row_of rows fs (off + gap (alignment sh) off + size sh) k z h.2 e

-- a field ends before a later one begins
ends_before : (fs : Fields) (off j k : ℕ) (x y : Place) → j < k → field_place off fs j ≡ Some x → field_place off fs k ≡ Some y → x.offset + size x.shape ≤ y.offset
ends_before no_fields off j k x y l p q = cc
ends_before (field_then v sh fs) off j zero x y l p q = absurd (omega (arith, l))
ends_before (field_then v sh fs) off zero (suc k) x y l p q =
    let is : record { offset = off + gap (alignment sh) off; shape = sh } ≡ x = cc in
    let w = field_within fs (off + gap (alignment sh) off + size sh) k y q in
    subst (λ (z : Place). z.offset + size z.shape ≤ y.offset) is w.0
ends_before (field_then v sh fs) off (suc j) (suc k) x y l p q = ends_before fs (off + gap (alignment sh) off + size sh) j k x y (omega (arith, l)) p q

module _ (p : Program) (n : ℕ) (class : Bool) (sh : Shape) (rows : List Field) (f : FieldsAre p n class sh rows) where
  element_missed : (left : ℕ) (i : ℤ) → Misses sh left (step.Element i)
  element_missed left i = misses_none sh left (step.Element i) (no_element class sh f.fields i f.made)

  -- where no field begins before the offset
  pub fields_none : (left count : ℕ) → AreBefore rows left count → count ≡ 0 → EntersIf p n sh left None
  fields_none left count b z = by
    where
      by : (s : Step) → Misses sh left s
      by (step.Element i) = element_missed left i
      by (step.Field k) = λ x q.
          let r = row_of rows f.fields (start class) k x f.rows-are (sym (field_part class sh f.fields k f.made) ∙ q) in
          let far : count ≤ k = omega (arith, z) in
          let h = b.others k r.0 far r.1 in
          let o = r.2 in
          let t : left < x.offset = omega (arith, h, o) in
          inr t

  pub fields_enter : (left count k : ℕ) (row : Field) (r : Inward) → AreBefore rows left count → count ≡ suc k → slice_get rows k ≡ Some row → r.step ≡ step.Field k → r.offset ≡ row.offset → r.kind.now ≡ row.kind → EntersIf p n sh left (Some r)
  fields_enter left count k row r b c e q o t =
      let x = row_there (shape_within p n) rows f.fields (start class) k row f.rows-are f.known f.small e in
      let lt : k < count = omega (arith, c) in
      let near = b.few k row lt e in
      let at : field_place (start class) f.fields k ≡ Some (record { offset = r.offset; shape = x.shape }) = x.place ∙ ap (λ z. Some (record { offset = z; shape = x.shape })) (sym o) in
      record {
        shape = x.shape;
        place = ap (part_place sh) q ∙ (field_part class sh f.fields k f.made ∙ at);
        before = omega (arith, near, o);
        unfolds = ap (shape_within p n) t ∙ x.unfolds;
        small = x.small;
        others = λ s. subst (λ v. (s ≡ v) ⊎ Misses sh left s) (sym q) (by at near s);
      }
    where
      by : {y : Place} → field_place (start class) f.fields k ≡ Some y → row.offset ≤ left → (s : Step) → (s ≡ step.Field k) ⊎ Misses sh left s
      by at near (step.Element i) = inr (element_missed left i)
      by {y = y} at near (step.Field j) = elim (cases_lt j k) [
        | inl lt ↦ inr (λ z g.
            let g' = sym (field_part class sh f.fields j f.made) ∙ g in
            let u = ends_before f.fields (start class) j k z y lt g' at in
            let v = row_of rows f.fields (start class) k y f.rows-are at in
            let w : Some v.0 ≡ Some row = sym v.1 ∙ e in
            let is : v.0 ≡ row = cc in
            let o' : row.offset ≡ y.offset = sym (ap (λ (m : Field). m.offset) is) ∙ v.2 in
            let t' : z.offset + size z.shape ≤ left = omega (arith, u, near, o') in
            inl t')
        | inr ge ↦ ⊎_elim
            (λ (i : j ≡ k). inl (ap step.Field i))
            (λ (i : j ≢ k). inr (λ z g.
            let g' = sym (field_part class sh f.fields j f.made) ∙ g in
            let v = row_of rows f.fields (start class) j z f.rows-are g' in
            let far : count ≤ j = omega (arith, ge, i, c) in
            let h = b.others j v.0 far v.1 in
            let o' = v.2 in
            let t' : left < z.offset = omega (arith, h, o') in
            inr t'))
            (same_nat j k)
      ]

-- ---- what has no parts

pub elementary_enters : (p : Program) (n : ℕ) (t : StType) (k : Elem) (sh : Shape) (left : ℕ) → t ≡ type.Elementary k → shape_within p (suc n) t ≡ Some sh → EntersIf p n sh left None
elementary_enters p n t k sh left e h = enters_none p n sh (Elementary k) left (elementary_is p (suc n) t k sh e h) (λ s. misses_none (Elementary k) left s refl)

pub enumeration_enters : (p : Program) (n : ℕ) (t : StType) (k : ℕ) (sh : Shape) (left : ℕ) → t ≡ type.Enumeration k → shape_within p (suc n) t ≡ Some sh → EntersIf p n sh left None
enumeration_enters p n t k sh left e h = let i = enumeration_is p (suc n) t k sh e h in enters_none p n sh (Enumeration i.0 i.1) left i.2 (λ s. misses_none (Enumeration i.0 i.1) left s refl)

pub reference_enters : (p : Program) (n : ℕ) (t : StType) (k : ℕ) (sh : Shape) (left : ℕ) → t ≡ type.Reference k → shape_within p (suc n) t ≡ Some sh → EntersIf p n sh left None
reference_enters p n t k sh left e h = let i = reference_is p (suc n) t k sh e h in enters_none p n sh (Reference k i.0) left i.1 (λ s. misses_none (Reference k i.0) left s refl)

pub interface_enters : (p : Program) (n : ℕ) (t : StType) (k : ℕ) (sh : Shape) (left : ℕ) → t ≡ type.Interface k → shape_within p (suc n) t ≡ Some sh → EntersIf p n sh left None
interface_enters p n t k sh left e h = let i = interface_is p (suc n) t k sh e h in enters_none p n sh (shape.Interface k i.0) left i.1 (λ s. misses_none (shape.Interface k i.0) left s refl)

-- ---- which types are neither arrays nor structures

pub own_class : (p : Program) (n : ℕ) (k : ℕ) (sh : Shape) → shape_within p n (type.Instance k) ≡ Some sh → true ≡ is_own sh
own_class p n k sh h = go sh (opens p n true k sh h).fields (opens p n true k sh h).made
  where
    go : (sh : Shape) (fs : Fields) → fields_in true sh ≡ Some fs → true ≡ is_own sh
    go (Instance c name gs) fs e = refl
    go (Elementary e) fs h = cc
    go (Enumeration name values) fs h = cc
    go (Reference c name) fs h = cc
    go (shape.Interface i name) fs h = cc
    go (Array low n sh) fs h = cc
    go (Structure name gs) fs h = cc

pub not_own_structure : (p : Program) (n : ℕ) (k : ℕ) (sh : Shape) → shape_within p n (type.Structure k) ≡ Some sh → false ≡ is_own sh
not_own_structure p n k sh h = go sh (opens p n false k sh h).fields (opens p n false k sh h).made
  where
    go : (sh : Shape) (fs : Fields) → fields_in false sh ≡ Some fs → false ≡ is_own sh
    go (Structure name gs) fs e = refl
    go (Elementary e) fs h = cc
    go (Enumeration name values) fs h = cc
    go (Reference c name) fs h = cc
    go (shape.Interface i name) fs h = cc
    go (Array low n sh) fs h = cc
    go (Instance c name gs) fs h = cc

pub not_own_array : (p : Program) (n : ℕ) (low high : ℤ) (of : StType) (sh : Shape) → shape_within p n (type.Array low high of) ≡ Some sh → false ≡ is_own sh
not_own_array p n low high of sh h = let o = array_opens p n (type.Array low high of) low high of sh refl h in sym (ap is_own o.is)

pub own_elementary : (p : Program) (n : ℕ) (k : Elem) (sh : Shape) → shape_within p n (type.Elementary k) ≡ Some sh → true ≡ is_own sh
own_elementary p n k sh h = sym (ap is_own (elementary_is p n (type.Elementary k) k sh refl h))

pub own_enumeration : (p : Program) (n : ℕ) (k : ℕ) (sh : Shape) → shape_within p n (type.Enumeration k) ≡ Some sh → true ≡ is_own sh
own_enumeration p n k sh h = let i = enumeration_is p n (type.Enumeration k) k sh refl h in sym (ap is_own i.2)

pub own_reference : (p : Program) (n : ℕ) (k : ℕ) (sh : Shape) → shape_within p n (type.Reference k) ≡ Some sh → true ≡ is_own sh
own_reference p n k sh h = let i = reference_is p n (type.Reference k) k sh refl h in sym (ap is_own i.1)

pub own_interface : (p : Program) (n : ℕ) (k : ℕ) (sh : Shape) → shape_within p n (type.Interface k) ≡ Some sh → true ≡ is_own sh
own_interface p n k sh h = let i = interface_is p n (type.Interface k) k sh refl h in sym (ap is_own i.1)
