-- What is found by an offset is what the way leads to.
use Rattle.std.proofs.Common.{◌≡◌, ◌≤◌, ◌<◌, ℕ, zero, suc, ◌+◌, ◌-◌, ◌*◌, ◌/◌, ◌%◌, ℤ, pos, negsuc, Bool, true, false, List, Option, Some, None, refl, sym, ap, ap₂, ◌∙◌, inl, inr, arith}
use Rattle.std.specs.Prelude.{nat_lt, if◌then◌else◌, ◌+ℤ◌, ◌-ℤ◌, option_map}
use Rattle.std.proofs.lemmas.Bool.{cases_lt, lt-ltb, ltb-true}
use Rattle.std.proofs.lemmas.Int.{ints}
use Rattle.st_values.specs.Program.{Program}
use Rattle.st_values.specs.Value.{◌>>=◌, natural, place_of_index}
use Rattle.st_values.specs.Shape.{Shape, Elementary, Enumeration, Reference, Interface, Array, Structure, Instance, Fields, no_fields, field_then}
use Rattle.mem_layout.specs.store_bytes.Place.{gap, alignment, size}
use Rattle.st_change.specs.From.{new_name, pairs_of}
use Rattle.image_moves.specs.Ways.{Found, further, of_size, Stride, at_place, Way, nowhere, Parts, part_then, led, led_in}
use Rattle.image_moves.specs.Ways as ways
use Rattle.carry_moves.specs.CarryMoves.{Lies, first_new, first_old}
use Rattle.carry_moves.specs.Found.{instance_at, field_lies, start_of, at_element, at_index, inside, found, found_in}
use Rattle.carry_moves.specs.WaysOf.{class_at, elements_way, part_at, way, parts}

-- where an index lies in an array
place_behind : (low l d : ℤ) (k : ℕ) → l -ℤ low ≡ d → first_new d ≤ k → place_of_index l (low +ℤ pos k) ≡ Some (k - first_new d + first_old d)
place_behind low l (pos p) k e h =
    let r = k - p in
    let is : k ≡ p + r = omega arith in
    let z : (low +ℤ pos k) -ℤ l ≡ pos r = omega (arith, ints) in
    ap natural z ∙ ap Some (omega arith)
place_behind low l (negsuc q) k e h =
    let z : (low +ℤ pos k) -ℤ l ≡ pos (suc q + k) = omega (arith, ints) in
    ap natural z ∙ ap Some (omega arith)

place_before : (low l d : ℤ) (k : ℕ) → l -ℤ low ≡ d → k < first_new d → place_of_index l (low +ℤ pos k) ≡ None
place_before low l (pos p) k e h =
    let r = p - suc k in
    let is : p ≡ k + suc r = omega arith in
    let z : (low +ℤ pos k) -ℤ l ≡ negsuc r = omega (arith, ints) in
    ap natural z
place_before low l (negsuc q) k e h = absurd (omega arith)

element_led : (l low : ℤ) (a n : ℕ) (z : Shape) (f : Found) (k : ℕ) → ways.at_element (record { old = a; new = size z; skip = first_new (low -ℤ l); lead = first_old (low -ℤ l); count = n }) f k ≡ at_element n z (λ w. f) (place_of_index low (l +ℤ pos k))
element_led l low a n z f k = elim (cases_lt k (first_new (low -ℤ l))) [
  | inl x ↦ ap (λ b. if b then None else at_place stride f (k - stride.skip + stride.lead)) (lt-ltb k (first_new (low -ℤ l)) x) ∙ sym (ap (at_element n z (λ w. f)) (place_before l low (low -ℤ l) k refl x))
  | inr x ↦ high (nat_lt k (first_new (low -ℤ l))) refl x ∙ sym (ap (at_element n z (λ w. f)) (place_behind l low (low -ℤ l) k refl x))
]
  where
    stride : Stride
    stride = record { old = a; new = size z; skip = first_new (low -ℤ l); lead = first_old (low -ℤ l); count = n }

    high : (b : Bool) → nat_lt k (first_new (low -ℤ l)) ≡ b → first_new (low -ℤ l) ≤ k → (if b then None else at_place stride f (k - stride.skip + stride.lead)) ≡ at_place stride f (k - stride.skip + stride.lead)
    high true e h = let lt = ltb-true k (first_new (low -ℤ l)) e in absurd (omega arith)
    high false e h = refl

nothing : (s : ℕ) → None ≡ of_size s None
nothing zero = refl
nothing (suc s) = refl

own_class : (z : Shape) → option_map (λ c. (0, c)) (class_at z) ≡ instance_at z 0
own_class (Elementary e) = refl
own_class (Enumeration name vs) = refl
own_class (Reference c name) = refl
own_class (Interface c name) = refl
own_class (Array l m y) = refl
own_class (Structure name fs) = refl
own_class (Instance c name fs) = refl

module _ (old new : Program) where
  abbrev Leads : Shape → Type 0
  Leads sh = (z : Shape) (offset : ℕ) → led (way old new sh z) offset ≡ found old new sh z offset

  array_led : (l : ℤ) (m : ℕ) (y : Shape) → Leads y → Leads (Array l m y)
  array_led l m y h (Array low n z) offset =
      ap (of_size (size y)) (element_led l low (size y) n z (led (way old new y z) (offset % size y)) (offset / size y) ∙ ap (λ f. at_element n z (λ w. f) (place_of_index low (l +ℤ pos (offset / size y)))) (h z (offset % size y)) ∙ same (place_of_index low (l +ℤ pos (offset / size y))))
    where
      same : (o : Option ℕ) → at_element n z (λ w. found old new y z (offset % size y)) o ≡ at_element n z (λ w. found old new y w (offset % size y)) o
      same None = refl
      same (Some j) = refl
  array_led l m y h (Elementary e) offset = nothing (size y)
  array_led l m y h (Enumeration name vs) offset = nothing (size y)
  array_led l m y h (Reference c name) offset = nothing (size y)
  array_led l m y h (Interface c name) offset = nothing (size y)
  array_led l m y h (Structure name fs) offset = nothing (size y)
  array_led l m y h (Instance c name fs) offset = nothing (size y)

  part_led : (start end : ℕ) (sh z : Shape) (o : List ℕ) (ps : Parts) (offset : ℕ) (rest : Found) → Leads sh → led_in ps offset ≡ rest
      → led_in (part_at start end (way old new sh) (new_name (pairs_of old new z) o >>= λ n. field_lies z n) ps) offset ≡ (if nat_lt offset end then inside old new (found old new sh) z o (offset - start) else rest)
  part_led start end sh z o ps offset rest h e = by (new_name (pairs_of old new z) o)
    where
      at : (x : Option Lies) → led_in (part_at start end (way old new sh) x ps) offset ≡ (if nat_lt offset end then (x >>= λ y. further (start_of y) (found old new sh y.shape (offset - start))) else rest)
      at None = ap (λ r. if nat_lt offset end then None else r) e
      at (Some x) = ap₂ (λ a r. if nat_lt offset end then further (start_of x) a else r) (h x.shape (offset - start)) e

      by : (p : Option (List ℕ)) → led_in (part_at start end (way old new sh) (p >>= λ n. field_lies z n) ps) offset ≡ (if nat_lt offset end then (p >>= λ n. field_lies z n >>= λ y. further (start_of y) (found old new sh y.shape (offset - start))) else rest)
      by None = at None
      by (Some n) = at (field_lies z n)

  instance_led : (c : ℕ) (name : List ℕ) (gs : Fields) → ((z : Shape) (offset : ℕ) → led_in (parts old new 8 gs z) offset ≡ found_in old new 8 gs z offset) → Leads (Instance c name gs)
  instance_led c name gs h z zero = own_class z
  instance_led c name gs h z (suc offset) = h z (suc offset)

  mutual
    pub leads : (sh : Shape) → Leads sh
    leads (Elementary e) = λ z offset. refl
    leads (Enumeration name vs) = λ z offset. refl
    leads (Reference c name) = λ z offset. refl
    leads (Interface c name) = λ z offset. refl
    leads (Array l m y) = array_led l m y (leads y)
    leads (Structure name gs) = λ z offset. parts_lead gs 0 z offset
    leads (Instance c name gs) = instance_led c name gs (parts_lead gs 8)

    parts_lead : (gs : Fields) (at : ℕ) (z : Shape) (offset : ℕ) → led_in (parts old new at gs z) offset ≡ found_in old new at gs z offset
    parts_lead no_fields at z offset = refl
    parts_lead (field_then v sh gs) at z offset =
        part_led (at + gap (alignment sh) at) (at + gap (alignment sh) at + size sh) sh z v.name (parts old new (at + gap (alignment sh) at + size sh) gs z) offset _ (leads sh) (parts_lead gs (at + gap (alignment sh) at + size sh) z offset)
