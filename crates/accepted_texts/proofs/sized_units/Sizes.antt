-- A type takes at most eight bytes for each counted value.
use Rattle.std.proofs.Common.{◌≡◌, ◌≤◌, ℕ, zero, suc, ◌+◌, ◌*◌, refl, sym, subst, inl, inr, ⊎_elim, arith}
use Rattle.std.specs.Prelude.{◌⊎◌, max}
use Rattle.st_types.specs.declared.elem.Elem.{Elem}
use Rattle.st_types.specs.declared.elem.Elem.TheVariants as elem
use Rattle.st_types.specs.Elem.{bytes}
use Rattle.st_values.specs.Shape.{Shape, Elementary, Enumeration, Reference, Interface, Array, Structure, Instance, Fields, no_fields, field_then}
use Rattle.mem_layout.specs.store_bytes.Place.{gap, alignment, greatest, size, ending}
use Rattle.mem_layout.specs.loaded_meaning.Sized.{values_of, all_values_of}

abbrev IsStep : ℕ → Type 0
IsStep a = (a ≡ 1) ⊎ ((a ≡ 2) ⊎ ((a ≡ 4) ⊎ (a ≡ 8)))

step_1 : IsStep 1
step_1 = inl refl

step_2 : IsStep 2
step_2 = inr (inl refl)

step_4 : IsStep 4
step_4 = inr (inr (inl refl))

step_8 : IsStep 8
step_8 = inr (inr (inr refl))

elem_step : (e : Elem) → IsStep (bytes e)
elem_step elem.Bool = step_1
elem_step elem.Sint = step_1
elem_step elem.Int = step_2
elem_step elem.Dint = step_4
elem_step elem.Lint = step_8
elem_step elem.Usint = step_1
elem_step elem.Uint = step_2
elem_step elem.Udint = step_4
elem_step elem.Ulint = step_8
elem_step elem.Byte = step_1
elem_step elem.Word = step_2
elem_step elem.Dword = step_4
elem_step elem.Lword = step_8
elem_step elem.Time = step_4

max_either : (a b : ℕ) → (max a b ≡ a) ⊎ (max a b ≡ b)
max_either zero b = inr (omega arith)
max_either (suc a) zero = inl (omega arith)
max_either (suc a) (suc b) = ⊎_elim (λ (e : max a b ≡ a). inl (omega arith)) (λ (e : max a b ≡ b). inr (omega arith)) (max_either a b)

pub at_least_one : (a b : ℕ) → a ≤ b → a ≤ max 1 b
at_least_one a zero h = omega (arith, h)
at_least_one a (suc b) h = omega (arith, h)

mutual
  shape_step : (sh : Shape) → IsStep (alignment sh)
  shape_step (Elementary e) = elem_step e
  shape_step (Enumeration name values) = step_4
  shape_step (Reference c name) = step_8
  shape_step (Interface k name) = step_8
  shape_step (Array low n sh) = shape_step sh
  shape_step (Structure name fs) = fields_step fs
  shape_step (Instance c name fs) = step_8

  fields_step : (fs : Fields) → IsStep (greatest fs)
  fields_step no_fields = step_1
  fields_step (field_then v sh fs) = by (max_either (alignment sh) (greatest fs)) (shape_step sh) (fields_step fs)
    where
      by : (max (alignment sh) (greatest fs) ≡ alignment sh) ⊎ (max (alignment sh) (greatest fs) ≡ greatest fs) → IsStep (alignment sh) → IsStep (greatest fs) → IsStep (max (alignment sh) (greatest fs))
      by (inl e) s t = subst IsStep (sym e) s
      by (inr e) s t = subst IsStep (sym e) t

-- up to the next multiple of its alignment it is no further than to that of eight
within_eight : (a off n : ℕ) → IsStep a → off ≤ 8 * n → off + gap a off ≤ 8 * n
within_eight a off n (inl e) h = subst (λ z. off + gap z off ≤ 8 * n) (sym e) (omega arith)
within_eight a off n (inr (inl e)) h = subst (λ z. off + gap z off ≤ 8 * n) (sym e) (omega arith)
within_eight a off n (inr (inr (inl e))) h = subst (λ z. off + gap z off ≤ 8 * n) (sym e) (omega arith)
within_eight a off n (inr (inr (inr e))) h = subst (λ z. off + gap z off ≤ 8 * n) (sym e) (omega arith)

rows : (n s v : ℕ) → s ≤ 8 * v → n * s ≤ 8 * (n * v)
rows zero s v h = omega arith
rows (suc n) s v h =
    let k = rows n s v h in
    let a : suc n * s ≡ s + n * s = grind arith in
    let b : suc n * v ≡ v + n * v = grind arith in
    omega (arith, h, k, a, b)

mutual
  pub size_within : (sh : Shape) → size sh ≤ 8 * values_of sh
  size_within (Elementary e) = ⊎_elim (λ (i : bytes e ≡ 1). omega arith) (λ h. ⊎_elim (λ (i : bytes e ≡ 2). omega arith) (λ k. ⊎_elim (λ (i : bytes e ≡ 4). omega arith) (λ (i : bytes e ≡ 8). omega arith) k) h) (elem_step e)
  size_within (Enumeration name values) = omega arith
  size_within (Reference c name) = omega arith
  size_within (Interface k name) = omega arith
  size_within (Array low n sh) = rows n (size sh) (values_of sh) (size_within sh)
  size_within (Structure name fs) =
      let e = ending_within fs 0 0 (omega arith) in
      let w = within_eight (greatest fs) (ending 0 fs) (all_values_of fs) (fields_step fs) (omega (arith, e)) in
      let m = at_least_one (all_values_of fs) (all_values_of fs) (omega arith) in
      omega (arith, w, m)
  size_within (Instance c name fs) =
      let e = ending_within fs 8 1 (omega arith) in
      within_eight 8 (ending 8 fs) (1 + all_values_of fs) step_8 (omega (arith, e))

  ending_within : (fs : Fields) (off n : ℕ) → off ≤ 8 * n → ending off fs ≤ 8 * (n + all_values_of fs)
  ending_within no_fields off n h = omega arith
  ending_within (field_then v sh fs) off n h =
      let a = within_eight (alignment sh) off n (shape_step sh) h in
      let b = size_within sh in
      let c = ending_within fs (off + gap (alignment sh) off + size sh) (n + values_of sh) (omega (arith, a, b)) in
      omega (arith, c)
