-- What is spelled with other bytes at a part.
use Rattle.std.proofs.Common.{◌≡◌, ◌≢◌, ◌≤◌, ◌<◌, ℕ, zero, suc, ◌+◌, ◌*◌, List, [], ◌∷◌, Option, Some, None, refl, sym, ap, ◌∙◌, subst, inl, inr, arith}
use Rattle.std.specs.Prelude.{◌⊎◌}
use Rattle.std.proofs.lemmas.Bool.{cases_lt}
use Rattle.st_tree.specs.declared.path.Step.TheVariants as step
use Rattle.st_values.specs.Value.{Step, Value, array, Values, no_values, value_then, Members, ◌>>=◌, part, with_part, element, with_element, with_element_at, with_member, place_of_index, value_with}
use Rattle.st_values.specs.Shape.{Shape, Elementary, Enumeration, Reference, Interface, Array, Structure, Instance, Fields, no_fields, field_then}
use Rattle.st_values.proofs.ValueLaws.{then_some, element_put, element_stays}
use Rattle.mem_layout.specs.store_bytes.Place.{gap, alignment, greatest, size, ending, Place, field_place, part_place, inner_place}
use Rattle.mem_layout.specs.store_bytes.Spells.{count, Spells, EachSpells}
use Rattle.mem_layout.specs.store_bytes.StoreLaws.{Keeps}
use Rattle.mem_layout.proofs.store_bytes.Moves.{kept_same, ending_above, row_within, holds_moved, blank_moved, moved, each_moved, part_read, element_is}

-- ---- parts lie within

pub field_within : (fs : Fields) (off k : ℕ) (x : Place) → field_place off fs k ≡ Some x → (off ≤ x.offset) × (x.offset + size x.shape ≤ ending off fs)
field_within no_fields off k x e = cc
field_within (field_then v sh fs) off zero x e =
    let is : record { offset = off + gap (alignment sh) off; shape = sh } ≡ x = cc in
    let behind = off + gap (alignment sh) off + size sh in
    let more : behind ≤ ending behind fs = ending_above fs behind in
    subst (λ (y : Place). (off ≤ y.offset) × (y.offset + size y.shape ≤ ending behind fs)) is (omega arith, more)
field_within (field_then v sh fs) off (suc k) x e =
    let h = field_within fs (off + gap (alignment sh) off + size sh) k x e in (omega arith, h.1)

pub no_regions : ℕ → Option Shape
no_regions r = None

pub part_within : (sh : Shape) (s : Step) (x : Place) → part_place sh s ≡ Some x → x.offset + size x.shape ≤ size sh
part_within (Elementary e) s x p = cc
part_within (Enumeration name values) s x p = cc
part_within (Reference c name) s x p = cc
part_within (Interface k name) s x p = cc
part_within (Array low n sh) (step.Field f) x p = cc
part_within (Array low n sh) (step.Element j) x p =
    let y = element_is no_regions n sh (place_of_index low j) x p in
    subst (λ (z : Place). z.offset + size z.shape ≤ n * size sh) y.place (row_within y.index n (size sh) y.within)
part_within (Structure name fs) (step.Element j) x p = cc
part_within (Structure name fs) (step.Field k) x p = let h = field_within fs 0 k x p in omega (arith, h.1)
part_within (Instance c name fs) (step.Element j) x p = cc
part_within (Instance c name fs) (step.Field k) x p = let h = field_within fs 8 k x p in omega (arith, h.1)

pub inner_within : (ss : List Step) (sh : Shape) (x : Place) → inner_place sh ss ≡ Some x → x.offset + size x.shape ≤ size sh
inner_within [] sh x e =
    let is : record { offset = 0; shape = sh } ≡ x = cc in
    subst (λ (y : Place). y.offset + size y.shape ≤ size sh) is (omega arith)
inner_within (s ∷ ss) sh x e =
    let a = then_some (part_place sh s) _ x e in
    let b = then_some (inner_place a.0.shape ss) _ x a.2 in
    let is : record { offset = a.0.offset + b.0.offset; shape = b.0.shape } ≡ x = cc in
    let p = part_within sh s a.0 a.1 in
    let q = inner_within ss a.0.shape b.0 b.1 in
    subst (λ (y : Place). y.offset + size y.shape ≤ size sh) is (omega arith)

-- ---- with another part

pub count_stays : (vs : Values) (i : ℕ) (new : Value) → count (with_element vs i new) ≡ count vs
count_stays no_values i new = refl
count_stays (value_then v vs) zero new = refl
count_stays (value_then v vs) (suc i) new = ap suc (count_stays vs i new)

with_there : (v : Value) (s : Step) (ss : List Step) (w w' new : Value) → part v s ≡ Some w → value_with w ss new ≡ Some w' → value_with v (s ∷ ss) new ≡ Some (with_part v s w')
with_there v s ss w w' new e f = ap (λ o. o >>= λ w. value_with w ss new >>= λ w'. Some (with_part v s w')) e ∙ ap (λ o. o >>= λ w'. Some (with_part v s w')) f

module _ (regions : ℕ → Option Shape) where
  -- a change of bytes within the part
  record Change (im im' : List ℕ) (i : ℕ) (x : Place) : Type 0 where
    from : ℕ
    long : ℕ
    low : i + x.offset ≤ from
    high : from + long ≤ i + x.offset + size x.shape
    keeps : Keeps im im' from long

  field_write : (fs : Fields) (off : ℕ) (ms : Members) (im im' : List ℕ) (i k : ℕ) (x : Place) (new : Value) → EachSpells regions off fs ms im i → field_place off fs k ≡ Some x → Change im im' i x → Spells regions x.shape new im' (i + x.offset)
      → EachSpells regions off fs (with_member ms k new) im' i
  field_write no_fields off ms im im' i k x new h e c n = cc
  field_write (field_then v sh fs) off ms im im' i zero x new h e c n =
      let is : x ≡ record { offset = off + gap (alignment sh) off; shape = sh } = cc in
      let at : x.offset ≡ off + gap (alignment sh) off = ap (λ (y : Place). y.offset) is in
      let wide : size x.shape ≡ size sh = ap (λ (y : Place). size y.shape) is in
      let low : i + off + gap (alignment sh) off ≤ c.from = omega (arith, c.low) in
      let high : c.from + c.long ≤ i + (off + gap (alignment sh) off + size sh) = omega (arith, c.high) in (
        new,
        h.1,
        ap (λ u. with_member u zero new) h.2,
        blank_moved off (gap (alignment sh) off) (kept_same c.keeps i off (off + gap (alignment sh) off) (inl (omega arith))) (omega arith) (omega arith) h.3,
        subst (λ (y : Place). Spells regions y.shape new im' (i + y.offset)) is n,
        each_moved regions fs (off + gap (alignment sh) off + size sh) h.1 im im' i i (kept_same c.keeps i (off + gap (alignment sh) off + size sh) (ending (off + gap (alignment sh) off + size sh) fs) (inr high)) h.5,
      )
  field_write (field_then v sh fs) off ms im im' i (suc k) x new h e c n =
      let behind = off + gap (alignment sh) off + size sh in
      let w = field_within fs behind k x e in
      let low : i + behind ≤ c.from = omega (arith, c.low, w.0) in
      let r = field_write fs behind h.1 im im' i k x new h.5 e c n in (
        h.0,
        with_member h.1 k new,
        ap (λ u. with_member u (suc k) new) h.2,
        blank_moved off (gap (alignment sh) off) (kept_same c.keeps i off (off + gap (alignment sh) off) (inl (omega arith))) (omega arith) (omega arith) h.3,
        moved regions sh h.0 im im' (i + (off + gap (alignment sh) off)) (i + (off + gap (alignment sh) off)) (kept_same c.keeps (i + (off + gap (alignment sh) off)) 0 (size sh) (inl (omega arith))) h.4,
        r,
      )

  part_write : (sh : Shape) (s : Step) (v : Value) (im im' : List ℕ) (i : ℕ) (x : Place) (new : Value) → Spells regions sh v im i → part_place sh s ≡ Some x → Change im im' i x → Spells regions x.shape new im' (i + x.offset) → Spells regions sh (with_part v s new) im' i
  part_write (Elementary e) s v im im' i x new h p c n = cc
  part_write (Enumeration name values) s v im im' i x new h p c n = cc
  part_write (Reference d name) s v im im' i x new h p c n = cc
  part_write (Interface k name) s v im im' i x new h p c n = cc
  part_write (Array low m sh) (step.Field f) v im im' i x new h p c n = cc
  part_write (Array low m sh) (step.Element j) v im im' i x new h p c n =
      let y = element_is regions m sh (place_of_index low j) x p in
      let at : y.index * size sh ≡ x.offset = ap (λ (z : Place). z.offset) y.place in
      let wide : size sh ≡ size x.shape = ap (λ (z : Place). size z.shape) y.place in
      let old = h.3 y.index y.within in
      let each : (k : ℕ) → k < m → (w : Value) × (element (with_element h.0 y.index new) k ≡ Some w) × Spells regions sh w im' (i + k * size sh) = λ k lt.
      elim (cases_eq k y.index) [
        | inl q ↦ (
          new,
          ap (element (with_element h.0 y.index new)) q ∙ element_put h.0 y.index old.0 new old.1,
          subst (λ u. Spells regions sh new im' (i + u * size sh)) (sym q) (subst (λ (z : Place). Spells regions z.shape new im' (i + z.offset)) (sym y.place) n),
        )
        | inr q ↦
            let r = h.3 k lt in (
              r.0,
              element_stays h.0 y.index k new (λ u. q (sym u)) ∙ r.1,
              moved regions sh r.0 im im' (i + k * size sh) (i + k * size sh) (kept_same c.keeps (i + k * size sh) 0 (size sh) (beside k y.index (size sh) q i c.from c.long (omega (arith, c.low)) (omega (arith, c.high)))) r.2,
            )
      ] in (
        with_element h.0 y.index new,
        ap (λ u. with_part u (step.Element j) new) h.1 ∙ ap (λ o. array low (with_element_at h.0 o new)) y.is,
        count_stays h.0 y.index new ∙ h.2,
        each,
      )
    where
      cases_eq : (a b : ℕ) → (a ≡ b) ⊎ (a ≢ b)
      cases_eq a b = elim (cases_lt a b) [ inl lt ↦ inr (omega arith) | inr ge ↦ (elim (cases_lt b a) [ inl lt ↦ inr (omega arith) | inr le ↦ inl (omega arith) ]) ]

      beside : (k l n : ℕ) → k ≢ l → (i d m : ℕ) → i + l * n ≤ d → d + m ≤ i + l * n + n → (i + k * n + n ≤ d) ⊎ (d + m ≤ i + k * n + 0)
      beside k l n ne i d m low high =
          elim (cases_lt k l) [ inl lt ↦ (let q : k * n + n ≤ l * n = row_within k l n lt in inl (omega arith)) | inr ge ↦ (let q : l * n + n ≤ k * n = row_within l k n (omega arith) in inr (omega arith)) ]
  part_write (Structure name fs) (step.Element j) v im im' i x new h p c n = cc
  part_write (Structure name fs) (step.Field k) v im im' i x new h p c n =
      let w = field_within fs 0 k x p in
      let r = field_write fs 0 h.0 im im' i k x new h.2 p c n in
      let high : c.from + c.long ≤ i + ending 0 fs = omega (arith, c.high, w.1) in (
        with_member h.0 k new,
        ap (λ u. with_part u (step.Field k) new) h.1,
        r,
        blank_moved (ending 0 fs) (gap (greatest fs) (ending 0 fs)) (kept_same c.keeps i (ending 0 fs) (ending 0 fs + gap (greatest fs) (ending 0 fs)) (inr high)) (omega arith) (omega arith) h.3,
      )
  part_write (Instance d name fs) (step.Element j) v im im' i x new h p c n = cc
  part_write (Instance d name fs) (step.Field k) v im im' i x new h p c n =
      let w = field_within fs 8 k x p in
      let r = field_write fs 8 h.0 im im' i k x new h.3 p c n in
      let low : i + 8 ≤ c.from = omega (arith, c.low, w.0) in
      let high : c.from + c.long ≤ i + ending 8 fs = omega (arith, c.high, w.1) in (
        with_member h.0 k new,
        ap (λ u. with_part u (step.Field k) new) h.1,
        holds_moved (kept_same c.keeps i 0 8 (inl low)) h.2,
        r,
        blank_moved (ending 8 fs) (gap 8 (ending 8 fs)) (kept_same c.keeps i (ending 8 fs) (ending 8 fs + gap 8 (ending 8 fs)) (inr high)) (omega arith) (omega arith) h.4,
      )

  pub write : (ss : List Step) (sh : Shape) (v new : Value) (im im' : List ℕ) (i : ℕ) (x : Place) → Spells regions sh v im i → inner_place sh ss ≡ Some x → Keeps im im' (i + x.offset) (size x.shape) → Spells regions x.shape new im' (i + x.offset)
      → (w : Value) × (value_with v ss new ≡ Some w) × Spells regions sh w im' i
  write [] sh v new im im' i x h e c n =
      let is : x ≡ record { offset = 0; shape = sh } = cc in
      let here : i + 0 ≡ i = omega arith in
      (new, refl, subst (λ a. Spells regions sh new im' a) here (subst (λ (y : Place). Spells regions y.shape new im' (i + y.offset)) is n))
  write (s ∷ ss) sh v new im im' i x h e c n =
      let a = then_some (part_place sh s) _ x e in
      let b = then_some (inner_place a.0.shape ss) _ x a.2 in
      let is : x ≡ record { offset = a.0.offset + b.0.offset; shape = b.0.shape } = cc in
      let at : i + (a.0.offset + b.0.offset) ≡ i + a.0.offset + b.0.offset = omega arith in
      let c' : Keeps im im' (i + a.0.offset + b.0.offset) (size b.0.shape) = subst (λ m. Keeps im im' m (size b.0.shape)) at (subst (λ (y : Place). Keeps im im' (i + y.offset) (size y.shape)) is c) in
      let n' : Spells regions b.0.shape new im' (i + a.0.offset + b.0.offset) = subst (λ m. Spells regions b.0.shape new im' m) at (subst (λ (y : Place). Spells regions y.shape new im' (i + y.offset)) is n) in
      let p = part_read regions sh s v im i a.0 h a.1 in
      let r = write ss a.0.shape p.inner new im im' (i + a.0.offset) b.0 p.spells b.1 c' n' in
      let q = inner_within ss a.0.shape b.0 b.1 in
      let w = part_write sh s v im im' i a.0 r.0 h a.1 (record { from = i + a.0.offset + b.0.offset; long = size b.0.shape; low = omega arith; high = omega arith; keeps = c' }) r.2 in
      (with_part v s r.0, with_there v s ss p.inner r.0 new p.there r.1, w)
