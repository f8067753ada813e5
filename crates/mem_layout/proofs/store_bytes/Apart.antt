-- Parts that are not within each other share no byte, and what begins with a number or a class begins once.
use Rattle.std.proofs.Common.{◌≡◌, ◌≢◌, ◌≤◌, ◌<◌, ℕ, zero, suc, ◌+◌, ◌*◌, ℤ, pos, negsuc, List, [], ◌∷◌, Option, Some, None, refl, sym, ap, ◌∙◌, subst, inl, inr, ⊎_elim, arith}
use Rattle.std.specs.Prelude.{◌⊎◌, Bool, true, false, nat_lt, if◌then◌else◌}
use Rattle.std.proofs.lemmas.Bool.{cases_lt}
use Rattle.mem_image.specs.Laws.{AreApart}
use Rattle.st_tree.specs.declared.path.Step.TheVariants as step
use Rattle.st_values.specs.Value.{Path, Step, ◌>>=◌, place_of_index}
use Rattle.st_values.specs.ValueLaws.{Apart}
use Rattle.st_values.specs.Shape.{Shape, Elementary, Enumeration, Reference, Interface, Array, Structure, Instance, Fields, no_fields, field_then, field, element_shape, shape_part, shape_at}
use Rattle.st_values.proofs.ValueLaws.{then_some, index_once}
use Rattle.mem_layout.specs.store_bytes.Place.{gap, alignment, size, Place, field_place, element_place, part_place, inner_place, place_of}
use Rattle.mem_layout.specs.store_bytes.PlaceLaws.{IsOwn, joined, AreSmall, PlaceLaws, KeptOnce}
use Rattle.mem_layout.proofs.store_bytes.Moves.{ending_above, row_within, element_is}
use Rattle.mem_layout.proofs.store_bytes.Writes.{no_regions, field_within, inner_within}

-- ---- a place is of the part that a value has there

-- where a place is, a part of its shape is
abbrev AreAlike : Option Place → Option Shape → Type 0
AreAlike None o = o ≡ None
AreAlike (Some x) o = o ≡ Some x.shape

field_alike : (off : ℕ) (fs : Fields) (k : ℕ) → AreAlike (field_place off fs k) (field fs k)
field_alike off no_fields k = refl
field_alike off (field_then v sh fs) zero = refl
field_alike off (field_then v sh fs) (suc k) = field_alike (off + gap (alignment sh) off + size sh) fs k

element_alike : (n : ℕ) (sh : Shape) (o : Option ℕ) → AreAlike (element_place n sh o) (element_shape n sh o)
element_alike n sh None = refl
element_alike n sh (Some k) = by (nat_lt k n)
  where
    by : (b : Bool) → AreAlike (if b then Some (record { offset = k * size sh; shape = sh }) else None) (if b then Some sh else None)
    by true = refl
    by false = refl

part_alike : (sh : Shape) (s : Step) → AreAlike (part_place sh s) (shape_part sh s)
part_alike (Elementary e) s = refl
part_alike (Enumeration name values) s = refl
part_alike (Reference c name) s = refl
part_alike (Interface k name) s = refl
part_alike (Array low n sh) (step.Element i) = element_alike n sh (place_of_index low i)
part_alike (Array low n sh) (step.Field k) = refl
part_alike (Structure name fs) (step.Element i) = refl
part_alike (Structure name fs) (step.Field k) = field_alike 0 fs k
part_alike (Instance c name fs) (step.Element i) = refl
part_alike (Instance c name fs) (step.Field k) = field_alike 8 fs k

there_alike : (o : Option Place) (s : Option Shape) (x : Place) → AreAlike o s → o ≡ Some x → s ≡ Some x.shape
there_alike None s x h e = cc
there_alike (Some y) s x h e = let is : y ≡ x = cc in h ∙ ap (λ (z : Place). Some z.shape) is

shape_alike : (o : Option Place) (s : Option Shape) (sh : Shape) → AreAlike o s → s ≡ Some sh → (x : Place) × (o ≡ Some x) × (x.shape ≡ sh)
shape_alike None s sh h e = cc
shape_alike (Some y) s sh h e = (y, refl, cc)

leads : (ss : List Step) (sh : Shape) (x : Place) → inner_place sh ss ≡ Some x → shape_at sh ss ≡ Some x.shape
leads [] sh x e = let is : record { offset = 0; shape = sh } ≡ x = cc in ap (λ (z : Place). Some z.shape) is
leads (s ∷ ss) sh x e =
    let a = then_some (part_place sh s) _ x e in
    let b = then_some (inner_place a.0.shape ss) _ x a.2 in
    let is : record { offset = a.0.offset + b.0.offset; shape = b.0.shape } ≡ x = cc in
    ap (λ o. o >>= λ t. shape_at t ss) (there_alike (part_place sh s) (shape_part sh s) a.0 (part_alike sh s) a.1)
    ∙ (leads ss a.0.shape b.0 b.1 ∙ ap (λ (z : Place). Some z.shape) is)

pub has_place : (ss : List Step) (sh part : Shape) → shape_at sh ss ≡ Some part → (n : ℕ) × (inner_place sh ss ≡ Some (record { offset = n; shape = part }))
has_place [] sh part e = let is : sh ≡ part = cc in (0, ap (λ t. Some (record { offset = 0; shape = t })) is)
has_place (s ∷ ss) sh part e =
    let a = then_some (shape_part sh s) _ part e in
    let x = shape_alike (part_place sh s) (shape_part sh s) a.0 (part_alike sh s) a.1 in
    let r = has_place ss x.0.shape part (ap (λ t. shape_at t ss) x.2 ∙ a.2) in (
      x.0.offset + r.0,
      ap (λ o. o >>= λ (x : Place). inner_place x.shape ss >>= λ (y : Place). Some (record { offset = x.offset + y.offset; shape = y.shape })) x.1
          ∙ ap (λ o. o >>= λ (y : Place). Some (record { offset = x.0.offset + y.offset; shape = y.shape })) r.1,
    )

-- ---- apart

-- two places share no byte
abbrev pub Beside : Place → Place → Type 0
Beside x y = AreApart x.offset (size x.shape) y.offset (size y.shape)

field_beside : (fs : Fields) (off j k : ℕ) (x y : Place) → j ≢ k → field_place off fs j ≡ Some x → field_place off fs k ≡ Some y → Beside x y
field_beside no_fields off j k x y n p q = cc
field_beside (field_then v sh fs) off zero zero x y n p q = absurd (n refl)
field_beside (field_then v sh fs) off zero (suc k) x y n p q =
    let w = field_within fs (off + gap (alignment sh) off + size sh) k y q in
    let is : record { offset = off + gap (alignment sh) off; shape = sh } ≡ x = cc in
    subst (λ (z : Place). Beside z y) is (inl w.0)
field_beside (field_then v sh fs) off (suc j) zero x y n p q =
    let w = field_within fs (off + gap (alignment sh) off + size sh) j x p in
    let is : record { offset = off + gap (alignment sh) off; shape = sh } ≡ y = cc in
    subst (λ (z : Place). Beside x z) is (inr w.0)
field_beside (field_then v sh fs) off (suc j) (suc k) x y n p q = field_beside fs (off + gap (alignment sh) off + size sh) j k x y (λ e. n (ap suc e)) p q

rows_beside : (j k n : ℕ) → j ≢ k → AreApart (j * n) n (k * n) n
rows_beside j k n ne =
    elim (cases_lt j k) [ inl lt ↦ inl (row_within j k n lt) | inr ge ↦ (let q : k * n + n ≤ j * n = row_within k j n (omega arith) in inr q) ]

part_beside : (sh : Shape) (s t : Step) (x y : Place) → s ≢ t → part_place sh s ≡ Some x → part_place sh t ≡ Some y → Beside x y
part_beside (Elementary e) s t x y n p q = cc
part_beside (Enumeration name values) s t x y n p q = cc
part_beside (Reference c name) s t x y n p q = cc
part_beside (Interface k name) s t x y n p q = cc
part_beside (Array low m sh) (step.Field j) t x y n p q = cc
part_beside (Array low m sh) (step.Element j) (step.Field k) x y n p q = cc
part_beside (Array low m sh) (step.Element j) (step.Element k) x y n p q =
    let a = element_is no_regions m sh (place_of_index low j) x p in
    let b = element_is no_regions m sh (place_of_index low k) y q in
    let ne : a.index ≢ b.index = λ i. n (ap step.Element (index_once low j k a.index a.is (b.is ∙ ap Some (sym i)))) in
    subst (λ (z : Place). Beside z y) a.place (subst (λ (z : Place). Beside (record { offset = a.index * size sh; shape = sh }) z) b.place (rows_beside a.index b.index (size sh) ne))
part_beside (Structure name fs) (step.Element j) t x y n p q = cc
part_beside (Structure name fs) (step.Field j) (step.Element k) x y n p q = cc
part_beside (Structure name fs) (step.Field j) (step.Field k) x y n p q = field_beside fs 0 j k x y (λ e. n (ap step.Field e)) p q
part_beside (Instance c name fs) (step.Element j) t x y n p q = cc
part_beside (Instance c name fs) (step.Field j) (step.Element k) x y n p q = cc
part_beside (Instance c name fs) (step.Field j) (step.Field k) x y n p q = field_beside fs 8 j k x y (λ e. n (ap step.Field e)) p q

outside : (x y : Place) (i m j n : ℕ) → Beside x y → i + m ≤ size x.shape → j + n ≤ size y.shape → AreApart (x.offset + i) m (y.offset + j) n
outside x y i m j n h u v = ⊎_elim
    (λ (e : x.offset + size x.shape ≤ y.offset). let r : x.offset + i + m ≤ y.offset + j = omega arith in inl r)
    (λ (e : y.offset + size y.shape ≤ x.offset). let r : y.offset + j + n ≤ x.offset + i = omega arith in inr r) h

shifted : (a b : ℕ) (x y : Place) → a ≡ b → Beside x y → AreApart (a + x.offset) (size x.shape) (b + y.offset) (size y.shape)
shifted a b x y e h = ⊎_elim
    (λ (k : x.offset + size x.shape ≤ y.offset). let r : a + x.offset + size x.shape ≤ b + y.offset = omega arith in inl r)
    (λ (k : y.offset + size y.shape ≤ x.offset). let r : b + y.offset + size y.shape ≤ a + x.offset = omega arith in inr r) h

-- ways that part lead to places that share no byte
inner_beside : (ss ts : List Step) (sh : Shape) (x y : Place) → Apart ss ts → inner_place sh ss ≡ Some x → inner_place sh ts ≡ Some y → Beside x y
inner_beside [] ts sh x y a p q = absurd a
inner_beside (s ∷ ss) [] sh x y a p q = absurd a
inner_beside (s ∷ ss) (t ∷ ts) sh x y a p q =
    let a1 = then_some (part_place sh s) _ x p in
    let b1 = then_some (inner_place a1.0.shape ss) _ x a1.2 in
    let a2 = then_some (part_place sh t) _ y q in
    let b2 = then_some (inner_place a2.0.shape ts) _ y a2.2 in
    let is1 : record { offset = a1.0.offset + b1.0.offset; shape = b1.0.shape } ≡ x = cc in
    let is2 : record { offset = a2.0.offset + b2.0.offset; shape = b2.0.shape } ≡ y = cc in
    let w1 = inner_within ss a1.0.shape b1.0 b1.1 in
    let w2 = inner_within ts a2.0.shape b2.0 b2.1 in
    subst (λ (z : Place). Beside z y) is1 (subst (λ (z : Place). Beside (record { offset = a1.0.offset + b1.0.offset; shape = b1.0.shape }) z) is2
    (⊎_elim
    (λ n. outside a1.0 a2.0 b1.0.offset (size b1.0.shape) b2.0.offset (size b2.0.shape) (part_beside sh s t a1.0 a2.0 n a1.1 a2.1) w1 w2)
    (λ (h : (s ≡ t) × Apart ss ts).
    let same : Some a1.0 ≡ Some a2.0 = sym a1.1 ∙ (ap (part_place sh) h.0 ∙ a2.1) in
    let one : a1.0 ≡ a2.0 = cc in
    let q' : inner_place a1.0.shape ts ≡ Some b2.0 = ap (λ (z : Place). inner_place z.shape ts) one ∙ b2.1 in
    let r = inner_beside ss ts a1.0.shape b1.0 b2.0 h.1 b1.1 q' in
    let e : a1.0.offset ≡ a2.0.offset = ap (λ (z : Place). z.offset) one in
    shifted a1.0.offset a2.0.offset b1.0 b2.0 e r)
    a))

-- ---- once

pub own_bytes : (sh : Shape) → IsOwn sh → 0 < size sh
own_bytes (Elementary e) h = omega arith
own_bytes (Enumeration name values) h = omega arith
own_bytes (Reference c name) h = omega arith
own_bytes (Interface k name) h = omega arith
own_bytes (Array low n sh) h = absurd h
own_bytes (Structure name fs) h = absurd h
own_bytes (Instance c name fs) h = omega (arith, ending_above fs 8)

deeper : (sh : Shape) (s : Step) (x : Place) → IsOwn sh → part_place sh s ≡ Some x → 0 < x.offset
deeper (Elementary e) s x h p = cc
deeper (Enumeration name values) s x h p = cc
deeper (Reference c name) s x h p = cc
deeper (Interface k name) s x h p = cc
deeper (Array low n sh) s x h p = absurd h
deeper (Structure name fs) s x h p = absurd h
deeper (Instance c name fs) (step.Element j) x h p = cc
deeper (Instance c name fs) (step.Field k) x h p = let w = field_within fs 8 k x p in omega (arith, w.0)

pub same_nat : (a b : ℕ) → (a ≡ b) ⊎ (a ≢ b)
same_nat a b = elim (cases_lt a b) [ inl lt ↦ inr (omega arith) | inr ge ↦ (elim (cases_lt b a) [ inl lt ↦ inr (omega arith) | inr le ↦ inl (omega arith) ]) ]

same_int : (a b : ℤ) → (a ≡ b) ⊎ (a ≢ b)
same_int (pos a) (pos b) = ⊎_elim (λ (e : a ≡ b). inl (ap pos e)) (λ (n : a ≢ b). inr (λ e. n cc)) (same_nat a b)
same_int (pos a) (negsuc b) = inr (λ e. cc)
same_int (negsuc a) (pos b) = inr (λ e. cc)
same_int (negsuc a) (negsuc b) = ⊎_elim (λ (e : a ≡ b). inl (ap negsuc e)) (λ (n : a ≢ b). inr (λ e. n cc)) (same_nat a b)

pub same_step : (s t : Step) → (s ≡ t) ⊎ (s ≢ t)
same_step (step.Field j) (step.Field k) = ⊎_elim (λ (e : j ≡ k). inl (ap step.Field e)) (λ (n : j ≢ k). inr (λ e. n cc)) (same_nat j k)
same_step (step.Field j) (step.Element k) = inr (λ e. cc)
same_step (step.Element j) (step.Field k) = inr (λ e. cc)
same_step (step.Element j) (step.Element k) = ⊎_elim (λ (e : j ≡ k). inl (ap step.Element e)) (λ (n : j ≢ k). inr (λ e. n cc)) (same_int j k)

-- there is one way to what begins at a place
pub begins_once : (ss ts : List Step) (sh : Shape) (x y : Place) → inner_place sh ss ≡ Some x → inner_place sh ts ≡ Some y → IsOwn x.shape → IsOwn y.shape → x.offset ≡ y.offset → ss ≡ ts
begins_once [] [] sh x y p q h k e = refl
begins_once [] (t ∷ ts) sh x y p q h k e =
    let is : x ≡ record { offset = 0; shape = sh } = cc in
    let a = then_some (part_place sh t) _ y q in
    let b = then_some (inner_place a.0.shape ts) _ y a.2 in
    let is2 : y ≡ record { offset = a.0.offset + b.0.offset; shape = b.0.shape } = cc in
    let d = deeper sh t a.0 (subst (λ (z : Place). IsOwn z.shape) is h) a.1 in
    absurd (omega (arith, d, e, ap (λ (z : Place). z.offset) is, ap (λ (z : Place). z.offset) is2))
begins_once (s ∷ ss) [] sh x y p q h k e =
    let is : y ≡ record { offset = 0; shape = sh } = cc in
    let a = then_some (part_place sh s) _ x p in
    let b = then_some (inner_place a.0.shape ss) _ x a.2 in
    let is2 : x ≡ record { offset = a.0.offset + b.0.offset; shape = b.0.shape } = cc in
    let d = deeper sh s a.0 (subst (λ (z : Place). IsOwn z.shape) is k) a.1 in
    absurd (omega (arith, d, e, ap (λ (z : Place). z.offset) is, ap (λ (z : Place). z.offset) is2))
begins_once (s ∷ ss) (t ∷ ts) sh x y p q h k e =
    let a1 = then_some (part_place sh s) _ x p in
    let b1 = then_some (inner_place a1.0.shape ss) _ x a1.2 in
    let a2 = then_some (part_place sh t) _ y q in
    let b2 = then_some (inner_place a2.0.shape ts) _ y a2.2 in
    let is1 : x ≡ record { offset = a1.0.offset + b1.0.offset; shape = b1.0.shape } = cc in
    let is2 : y ≡ record { offset = a2.0.offset + b2.0.offset; shape = b2.0.shape } = cc in
    let h' : IsOwn b1.0.shape = subst (λ (z : Place). IsOwn z.shape) is1 h in
    let k' : IsOwn b2.0.shape = subst (λ (z : Place). IsOwn z.shape) is2 k in
    let e1 : x.offset ≡ a1.0.offset + b1.0.offset = ap (λ (z : Place). z.offset) is1 in
    let e2 : y.offset ≡ a2.0.offset + b2.0.offset = ap (λ (z : Place). z.offset) is2 in
    ⊎_elim
    (λ (same : s ≡ t).
    let some : Some a1.0 ≡ Some a2.0 = sym a1.1 ∙ (ap (part_place sh) same ∙ a2.1) in
    let one : a1.0 ≡ a2.0 = cc in
    let q' : inner_place a1.0.shape ts ≡ Some b2.0 = ap (λ (z : Place). inner_place z.shape ts) one ∙ b2.1 in
    let at : a1.0.offset ≡ a2.0.offset = ap (λ (z : Place). z.offset) one in
    let rest : ss ≡ ts = begins_once ss ts a1.0.shape b1.0 b2.0 b1.1 q' h' k' (omega arith) in
    cc)
    (λ (n : s ≢ t).
    absurd (⊎_elim
    (λ (u : a1.0.offset + b1.0.offset + size b1.0.shape ≤ a2.0.offset + b2.0.offset). omega (arith, own_bytes b1.0.shape h'))
    (λ (u : a2.0.offset + b2.0.offset + size b2.0.shape ≤ a1.0.offset + b1.0.offset). omega (arith, own_bytes b2.0.shape k'))
    (outside a1.0 a2.0 b1.0.offset (size b1.0.shape) b2.0.offset (size b2.0.shape) (part_beside sh s t a1.0 a2.0 n a1.1 a2.1) (inner_within ss a1.0.shape b1.0 b1.1) (inner_within ts a2.0.shape b2.0 b2.1))))
    (same_step s t)

base_stays : (base own : Fields) (off k : ℕ) (x : Place) → field_place off base k ≡ Some x → field_place off (joined base own) k ≡ Some x
base_stays no_fields own off k x e = cc
base_stays (field_then v sh fs) own off zero x e = e
base_stays (field_then v sh fs) own off (suc k) x e = base_stays fs own (off + gap (alignment sh) off + size sh) k x e

same_path : (q q' : Path) → q.region ≡ q'.region → q.steps ≡ q'.steps → q ≡ q'
same_path q q' h k =
    let f : ℕ → Path = λ r. record { region = r; steps = q.steps } in
    let g : List Step → Path = λ s. record { region = q'.region; steps = s } in
    ap f h ∙ ap g k

-- what is neither an array nor a structure lies within the first 2 ^ 32 bytes
low : (regions : ℕ → Option Shape) → AreSmall regions → (q : Path) (x : Place) → place_of regions q ≡ Some x → IsOwn x.shape → x.offset < 4294967296
low regions small q x p own =
    let a = then_some (regions q.region) _ x p in
    let w = inner_within q.steps a.0 x a.2 in
    let s = small q.region a.0 a.1 in
    omega (arith, w, s, own_bytes x.shape own)

pub kept_once : KeptOnce
kept_once regions small q r x y p p' own own' e =
    let l = low regions small q x p own in
    let l' = low regions small r y p' own' in
    let off : x.offset ≡ y.offset = omega arith in
    let region : q.region ≡ r.region = omega arith in
    let a = then_some (regions q.region) _ x p in
    let b = then_some (regions r.region) _ y p' in
    let one : Some a.0 ≡ Some b.0 = sym a.1 ∙ (ap regions region ∙ b.1) in
    let same : a.0 ≡ b.0 = cc in
    let steps : q.steps ≡ r.steps = begins_once q.steps r.steps a.0 x y a.2 (ap (λ sh. inner_place sh r.steps) same ∙ b.2) own own' off in
    same_path q r region steps

pub place_laws : PlaceLaws
place_laws = record {
  leads = λ sh ss x e. leads ss sh x e;
  has = λ sh part ss e. has_place ss sh part e;
  within = λ sh ss x e. inner_within ss sh x e;
  apart = λ sh ss ts x y a p q. inner_beside ss ts sh x y a p q;
  once = λ sh ss ts x y p q h k e. begins_once ss ts sh x y p q h k e;
  base = λ off base own k x e. base_stays base own off k x e;
}
