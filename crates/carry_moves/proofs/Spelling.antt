-- Leaves, gaps and arrays: what is moved spells what is carried.
use Rattle.std.proofs.Common.{◌≡◌, ◌≤◌, ◌<◌, ℕ, zero, suc, ◌+◌, ◌-◌, ◌*◌, ℤ, pos, negsuc, Bool, true, false, List, [], ◌∷◌, length, Option, Some, None, replicate, refl, sym, ap, ap₂, ◌∙◌, subst, inl, inr, arith}
use Rattle.std.specs.Prelude.{◌⊎◌, ◌&&◌, nat_eq, min, if◌then◌else◌, slice_range, ◌-ℤ◌, ◌+ℤ◌}
use Rattle.std.proofs.lemmas.Bool.{eqb-true, cases_lt}
use Rattle.std.proofs.lemmas.Int.{ints}
use Rattle.plc_text.specs.Words.{same}
use Rattle.st_types.specs.declared.elem.Elem.{Elem}
use Rattle.st_types.specs.declared.elem.Elem.TheVariants.{Udint, Ulint}
use Rattle.st_types.specs.Elem.{bytes}
use Rattle.st_types.specs.Range.{Fits}
use Rattle.st_types.specs.declared.st_type.StType.{StType}
use Rattle.st_types.specs.declared.st_type.StType.TheVariants as type
use Rattle.mem_image.specs.Image.{value_at, replaced, written}
use Rattle.mem_image.specs.Laws.{AreApart}
use Rattle.mem_image.proofs.PartLaws.{length-range, holds}
use Rattle.st_values.specs.Program.{Program}
use Rattle.st_values.specs.Value.{Path, Value, number, reference, array, structure, instance, Values, no_values, value_then, Members, element, place_of_index, natural, ◌>>=◌}
use Rattle.st_values.specs.Shape.{Shape, Elementary, Enumeration, Reference, Interface, Array, Structure, Instance, Fields, region_shape, same_elem, same_names}
use Rattle.mem_layout.specs.store_bytes.Place.{gap, alignment, size}
use Rattle.mem_layout.specs.store_bytes.Spells.{count, Holds, HoldsAddress, Blank, Spells}
use Rattle.mem_layout.specs.store_bytes.StoreLaws.{Keeps}
use Rattle.mem_layout.proofs.store_bytes.Moves.{Same, kept_same, holds_moved, row_within, moved as spells_moved}
use Rattle.mem_layout.proofs.store_bytes.Leaves.{copied_same, value_is, holds_written}
use Rattle.st_change.specs.Carry.{Old, old_element, number_of, reference_before, relocated, carry, carry_elements}
use Rattle.st_change.proofs.Carried.{elem-true}
use Rattle.st_change.proofs.carry_places.Carried.{nothing_carried}
use Rattle.image_moves.specs.Moves.{Move, copy, address, clear, repeat, Moves, no_moves, move_then, repeated, moved_by, moved}
use Rattle.image_moves.proofs.MoveFacts.{Stays, same_stays, wider, then_stays, part_stays, word_long}
use Rattle.carry_moves.specs.CarryMoves as moves
use Rattle.carry_moves.specs.CarryMoves.{then_moves, one, gap_moves, first_new, first_old, several, element_moves}
use Rattle.carry_moves.specs.Addresses.{IsAddressOf, IsAim, Relocates}

-- ---- what stays

pub keeps_of : {im im' : List ℕ} {d n : ℕ} → Stays im im' d n → Keeps im im' d n
keeps_of h = record { by = h.keeps }

pub spelled_stays : (p : Program) (sh : Shape) (v : Value) (im im' : List ℕ) (j d n : ℕ) → Stays im im' d n → (j + size sh ≤ d) ⊎ (d + n ≤ j) → Spells (region_shape p) sh v im j → Spells (region_shape p) sh v im' j
spelled_stays p sh v im im' j d n s a h =
    spells_moved (region_shape p) sh v im im' j j (kept_same (keeps_of s) j 0 (size sh) (elim a [
      | inl x ↦ inl x
      | inr x ↦ (let y : d + n ≤ j + 0 = omega arith in inr y)
    ])) h

pub blank_stays : (im im' : List ℕ) (j k d n : ℕ) → Stays im im' d n → (j + k ≤ d) ⊎ (d + n ≤ j) → Blank im j k → Blank im' j k
blank_stays im im' j k d n s a h = s.keeps j k (elim a [
  | inl x ↦ inr x
  | inr x ↦ inl x
]) ∙ h

pub holds_stays : (e : Elem) (z : ℤ) (im im' : List ℕ) (j d n : ℕ) → Stays im im' d n → (j + bytes e ≤ d) ⊎ (d + n ≤ j) → Holds e z im j → Holds e z im' j
holds_stays e z im im' j d n s a h = record {
  fits = h.fits;
  stands = s.keeps j (bytes e) (elim a [
    | inl x ↦ inr x
    | inr x ↦ inl x
  ]) ∙ h.stands;
}

-- a new image that spells a value where another one was spelled, and is as it was elsewhere
pub record Done (p : Program) (sh : Shape) (w : Value) (im im' : List ℕ) (j : ℕ) : Type 0 where
  pub stays : Stays im im' j (size sh)
  pub spells : Spells (region_shape p) sh w im' j

pub nothing_done : (p : Program) (sh : Shape) (w : Value) (im : List ℕ) (j : ℕ) → Spells (region_shape p) sh w im j → Done p sh w im im j
nothing_done p sh w im j h = record { stays = same_stays im j (size sh); spells = h }

pub times : (k n m : ℕ) → k ≤ n → k * m ≤ n * m
times k n m h = grind arith

pub choose : {A : Type 0} (P : A → Type 0) (b : Bool) (x y : A) → (b ≡ true → P x) → (b ≡ false → P y) → P (if b then x else y)
choose P true x y f g = f refl
choose P false x y f g = g refl

pub and_true : (a b : Bool) → (a && b) ≡ true → (a ≡ true) × (b ≡ true)
and_true true b e = (refl, e)
and_true false b e = cc

module _ (relocated_as : ℕ → ℤ → ℤ) (source : List ℕ) where
  pub then_moved : (ms ns : Moves) (i j : ℕ) (im : List ℕ) → moved relocated_as source (then_moves ms ns) i j im ≡ moved relocated_as source ns i j (moved relocated_as source ms i j im)
  then_moved no_moves ns i j im = refl
  then_moved (move_then m ms) ns i j im = then_moved ms ns i j (moved_by relocated_as source m i j im)

  -- a number of a kind, copied
  pub number_copied : (e : Elem) (z : ℤ) (from to n i j : ℕ) (im : List ℕ) → n ≡ bytes e → Holds e z source (i + from) → i + from + n ≤ length source → j + to + n ≤ length im
      → Holds e z (moved relocated_as source (one (copy from to n)) i j im) (j + to) × Stays im (moved relocated_as source (one (copy from to n)) i j im) (j + to) n
  number_copied e z from to n i j im is h p q = (
    holds_moved (subst (λ k. Same source (replaced im (j + to) (slice_range source (i + from) (i + from + n))) (i + from) (j + to) 0 k) is (copied_same im source (j + to) (i + from) n q p)) h,
    part_stays im (slice_range source (i + from) (i + from + n)) (j + to) n (length-range source (i + from) n p) q,
  )

  -- zeros, copied
  pub gap_done : (g h from to i j : ℕ) (im : List ℕ) → Blank source (i + from) h → Blank im (j + to) g → i + from + h ≤ length source → j + to + g ≤ length im
      → Blank (moved relocated_as source (gap_moves g h from to) i j im) (j + to) g × Stays im (moved relocated_as source (gap_moves g h from to) i j im) (j + to) g
  gap_done zero h from to i j im s b p q = (b, same_stays im (j + to) zero)
  gap_done (suc g) h from to i j im s b p q =
      choose (λ ms. Blank (moved relocated_as source ms i j im) (j + to) (suc g) × Stays im (moved relocated_as source ms i j im) (j + to) (suc g)) (nat_eq (suc g) h) _ _ (λ e. copied (eqb-true (suc g) h e)) (λ e. (b, same_stays im (j + to) (suc g)))
    where
      copied : suc g ≡ h → Blank (replaced im (j + to) (slice_range source (i + from) (i + from + suc g))) (j + to) (suc g) × Stays im (replaced im (j + to) (slice_range source (i + from) (i + from + suc g))) (j + to) (suc g)
      copied e =
          let part = slice_range source (i + from) (i + from + suc g) in
          let long = length-range source (i + from) (suc g) (omega (arith, e)) in (
            ap (λ k. slice_range (replaced im (j + to) part) (j + to) (j + to + k)) (sym long) ∙ holds im part (j + to) (omega (arith, long)) ∙ subst (λ k. slice_range source (i + from) (i + from + k) ≡ replicate k 0) (sym e) s,
            part_stays im part (j + to) (suc g) long q,
          )

module _ (old new : Program) (aim : StType → ℕ) (relocated_as : ℕ → ℤ → ℤ) (keeping : Bool) (rel : Relocates old new aim relocated_as) (source : List ℕ) where
  abbrev MV : Moves → ℕ → ℕ → List ℕ → List ℕ
  MV ms i j im = moved relocated_as source ms i j im

  abbrev carried : Shape → Old → Value → Value
  carried sh o held = carry old new keeping sh o held

  -- what is to be shown of moves from an old value
  abbrev pub Carries : Shape → Shape → Value → Value → Moves → ℕ → ℕ → ℕ → ℕ → List ℕ → Type 0
  Carries sh x v held ms from to i j im = Done new sh (carry old new keeping sh (Some (x, v)) held) im (moved relocated_as source ms i j im) (j + to)

  -- ---- numbers

  pub number_done : (e : Elem) (x : Shape) (v held : Value) (from to i j : ℕ) (im : List ℕ) → Spells (region_shape old) x v source (i + from) → Spells (region_shape new) (Elementary e) held im (j + to) → i + from + size x ≤ length source → j + to + bytes e ≤ length im
      → Carries (Elementary e) x v held (moves.number_moves e x from to) from to i j im
  number_done e x v held from to i j im s h p q =
      subst (λ u. Carries (Elementary e) x v u (moves.number_moves e x from to) from to i j im) (sym h.1) (by x s p)
    where
      stay : Done new (Elementary e) (number h.0) im im (j + to)
      stay = nothing_done new (Elementary e) (number h.0) im (j + to) (h.0, refl, h.2)

      by : (x : Shape) → Spells (region_shape old) x v source (i + from) → i + from + size x ≤ length source → Carries (Elementary e) x v (number h.0) (moves.number_moves e x from to) from to i j im
      by (Elementary d) s p = subst (λ u. Carries (Elementary e) (Elementary d) u (number h.0) (moves.number_moves e (Elementary d) from to) from to i j im) (sym s.1) (go (same_elem e d) refl)
        where
          go : (b : Bool) → same_elem e d ≡ b → Done new (Elementary e) (number (if b then s.0 else h.0)) im (MV (if b then one (copy from to (bytes e)) else no_moves) i j im) (j + to)
          go true k =
              let is = elem-true e d k in
              let c = number_copied relocated_as source e s.0 from to (bytes e) i j im refl (subst (λ f. Holds f s.0 source (i + from)) (sym is) s.2) (subst (λ f. i + from + bytes f ≤ length source) (sym is) p) q in
              record { stays = c.1; spells = (s.0, refl, c.0) }
          go false k = stay
      by (Enumeration n vs) s p = stay
      by (Reference c n) s p = stay
      by (Interface k n) s p = stay
      by (Array l m y) s p = stay
      by (Structure n gs) s p = stay
      by (Instance d n gs) s p = stay

  pub enumerator_done : (name : List ℕ) (values : List (List ℕ)) (x : Shape) (v held : Value) (from to i j : ℕ) (im : List ℕ) → Spells (region_shape old) x v source (i + from) → Spells (region_shape new) (Enumeration name values) held im (j + to) → i + from + size x ≤ length source → j + to + 4 ≤ length im
      → Carries (Enumeration name values) x v held (moves.enumerator_moves name values x from to) from to i j im
  enumerator_done name values x v held from to i j im s h p q =
      subst (λ u. Carries (Enumeration name values) x v u (moves.enumerator_moves name values x from to) from to i j im) (sym h.1) (by x s p)
    where
      stay : Done new (Enumeration name values) (number h.0) im im (j + to)
      stay = nothing_done new (Enumeration name values) (number h.0) im (j + to) (h.0, refl, h.2)

      by : (x : Shape) → Spells (region_shape old) x v source (i + from) → i + from + size x ≤ length source → Carries (Enumeration name values) x v (number h.0) (moves.enumerator_moves name values x from to) from to i j im
      by (Elementary d) s p = stay
      by (Enumeration n vs) s p = subst (λ u. Carries (Enumeration name values) (Enumeration n vs) u (number h.0) (moves.enumerator_moves name values (Enumeration n vs) from to) from to i j im) (sym s.1) (go (same n name && same_names vs values) refl)
        where
          go : (b : Bool) → (same n name && same_names vs values) ≡ b → Done new (Enumeration name values) (number (if b then s.0 else h.0)) im (MV (if b then one (copy from to 4) else no_moves) i j im) (j + to)
          go true k =
              let c = number_copied relocated_as source Udint s.0 from to 4 i j im refl s.2 p q in
              record { stays = c.1; spells = (s.0, refl, c.0) }
          go false k = stay
      by (Reference c n) s p = stay
      by (Interface k n) s p = stay
      by (Array l m y) s p = stay
      by (Structure n gs) s p = stay
      by (Instance d n gs) s p = stay

  -- ---- references

  -- an address that becomes NULL
  pub cleared : (to i j : ℕ) (im : List ℕ) → j + to + 8 ≤ length im → HoldsAddress (region_shape new) None (MV (one (clear to)) i j im) (j + to) × Stays im (MV (one (clear to)) i j im) (j + to) 8
  cleared to i j im q = (
    record { word = 0; refers = refl; holds = holds_written Ulint (pos 0) im (j + to) zero_fits q },
    part_stays im _ (j + to) 8 (word_long (pos 0)) q,
  )
    where
      zero_fits : Fits Ulint (pos 0)
      zero_fits = (omega (arith, ints), omega (arith, ints))

  pub readdressed : (t : StType) → IsAim t → (o : Option Path) (from to i j : ℕ) (im : List ℕ) → HoldsAddress (region_shape old) o source (i + from) → j + to + 8 ≤ length im
      → HoldsAddress (region_shape new) (relocated old new t o) (MV (one (address (aim t) from to)) i j im) (j + to) × Stays im (MV (one (address (aim t) from to)) i j im) (j + to) 8
  readdressed t g o from to i j im h q =
      let z = value_at Ulint source (i + from) in
      let is : z ≡ pos h.word = value_is Ulint (pos h.word) source (i + from) h.holds in
      let a = rel.by t g o z (record { word = h.word; is = is; refers = h.refers; fits = h.holds.fits }) in (
        record { word = a.word; refers = a.refers; holds = subst (λ y. Holds Ulint (pos a.word) (written Ulint im (j + to) y) (j + to)) (sym a.is) (holds_written Ulint (pos a.word) im (j + to) a.fits q) },
        part_stays im _ (j + to) 8 (word_long (relocated_as (aim t) z)) q,
      )

  -- what is carried to a variable of the type
  abbrev pub refers_to : StType → Shape → Value → Option Path → Value
  refers_to t x v h = reference (reference_before old new t (Some (x, v)) h)

  -- the bytes of a reference, or of an interface value
  pub record Held (w : Value) (im im' : List ℕ) (j : ℕ) : Type 0 where
    pub path : Option Path
    pub is : w ≡ reference path
    pub holds : HoldsAddress (region_shape new) path im' j
    pub stays : Stays im im' j 8

  pub reference_done : (t : StType) → IsAim t → (x : Shape) (v : Value) (h : Option Path) (from to i j : ℕ) (im : List ℕ) → Spells (region_shape old) x v source (i + from) → j + to + 8 ≤ length im
      → Held (refers_to t x v h) im (MV (moves.reference_moves (aim t) x from to) i j im) (j + to)
  reference_done t g (Elementary d) v h from to i j im s q = let c = cleared to i j im q in record { path = None; is = refl; holds = c.0; stays = c.1 }
  reference_done t g (Enumeration n vs) v h from to i j im s q = let c = cleared to i j im q in record { path = None; is = refl; holds = c.0; stays = c.1 }
  reference_done t g (Array l m y) v h from to i j im s q = let c = cleared to i j im q in record { path = None; is = refl; holds = c.0; stays = c.1 }
  reference_done t g (Structure n gs) v h from to i j im s q = let c = cleared to i j im q in record { path = None; is = refl; holds = c.0; stays = c.1 }
  reference_done t g (Instance d n gs) v h from to i j im s q = let c = cleared to i j im q in record { path = None; is = refl; holds = c.0; stays = c.1 }
  reference_done t g (Reference d n) v h from to i j im s q =
      let c = readdressed t g s.0 from to i j im s.2 q in record { path = relocated old new t s.0; is = ap (λ u. refers_to t (Reference d n) u h) s.1; holds = c.0; stays = c.1 }
  reference_done t g (Interface d n) v h from to i j im s q =
      let c = readdressed t g s.0 from to i j im s.2 q in record { path = relocated old new t s.0; is = ap (λ u. refers_to t (Interface d n) u h) s.1; holds = c.0; stays = c.1 }

  -- ---- arrays

  abbrev pub at_or : Values → ℕ → Value
  at_or no_values k = number (pos 0)
  at_or (value_then v vs) zero = v
  at_or (value_then v vs) (suc k) = at_or vs k

  pub at_is : (vs : Values) (k : ℕ) (w : Value) → element vs k ≡ Some w → at_or vs k ≡ w
  at_is no_values k w e = cc
  at_is (value_then v vs) zero w e = cc
  at_is (value_then v vs) (suc k) w e = at_is vs k w e

  no_element : (vs : Values) (k : ℕ) → count vs ≤ k → element vs k ≡ None
  no_element no_values k h = refl
  no_element (value_then v vs) zero h = absurd (omega arith)
  no_element (value_then v vs) (suc k) h = no_element vs k (omega arith)

  element_carried : (hs : Values) (sh : Shape) (o : Old) (i j : ℤ) (k : ℕ) (h : Value) → j ≡ i +ℤ pos k → element hs k ≡ Some h
      → element (carry_elements old new keeping sh o i hs) k ≡ Some (carry old new keeping sh (old_element o j) h)
  element_carried no_values sh o i j k h d e = cc
  element_carried (value_then w hs) sh o i j zero h d e =
      let a : w ≡ h = cc in
      let b : i ≡ j = omega (arith, ints) in
      ap₂ (λ x y. Some (carry old new keeping sh (old_element o x) y)) b a
  element_carried (value_then w hs) sh o i j (suc k) h d e =
      let c : j ≡ (i +ℤ pos 1) +ℤ pos k = omega (arith, ints) in
      element_carried hs sh o (i +ℤ pos 1) j k h c e

  count_carried : (hs : Values) (sh : Shape) (o : Old) (i : ℤ) → count (carry_elements old new keeping sh o i hs) ≡ count hs
  count_carried no_values sh o i = refl
  count_carried (value_then h hs) sh o i = ap suc (count_carried hs sh o (i +ℤ pos 1))

  pub elements_stay : (hs : Values) (sh : Shape) (o : Old) (i : ℤ) → ((k : ℤ) → old_element o k ≡ None) → carry_elements old new keeping sh o i hs ≡ hs
  elements_stay no_values sh o i n = refl
  elements_stay (value_then h hs) sh o i n =
      ap₂ value_then (ap (λ a. carry old new keeping sh a h) (n i) ∙ nothing_carried old new keeping h sh) (elements_stay hs sh o (i +ℤ pos 1) n)

  -- where an index of the new array lies in the old one
  place_behind : (low l d : ℤ) (k : ℕ) → l -ℤ low ≡ d → first_new d ≤ k → place_of_index l (low +ℤ pos k) ≡ Some (first_old d + (k - first_new d))
  place_behind low l (pos p) k e h =
      let r = k - p in
      let is : k ≡ p + r = omega arith in
      let z : (low +ℤ pos k) -ℤ l ≡ pos r = omega (arith, ints) in
      ap natural z ∙ ap Some (omega arith)
  place_behind low l (negsuc q) k e h =
      let z : (low +ℤ pos k) -ℤ l ≡ pos (suc q + k) = omega (arith, ints) in
      ap natural z ∙ ap Some (omega arith)

  place_before : (low l d : ℤ) (k : ℕ) → l -ℤ low ≡ d → k < first_new d → place_of_index l (low +ℤ pos k) ≡ None
  place_before low l (pos p) k e h =
      let r = p - suc k in
      let is : p ≡ k + suc r = omega arith in
      let z : (low +ℤ pos k) -ℤ l ≡ negsuc r = omega (arith, ints) in
      ap natural z
  place_before low l (negsuc q) k e h = absurd (omega arith)

  pub record RowDone (sh : Shape) (ws : ℕ → Value) (n : ℕ) (im im' : List ℕ) (j : ℕ) : Type 0 where
    pub stays : Stays im im' j (n * size sh)
    pub spells : (k : ℕ) → k < n → Spells (region_shape new) sh (ws k) im' (j + k * size sh)

  -- elements one behind the other, each moved by itself
  rows_done : (sh x : Shape) (f : ℕ → ℕ → List ℕ → List ℕ) (c : Value → Value → Value)
      → ((v h : Value) (i j : ℕ) (im : List ℕ) → Spells (region_shape old) x v source i → Spells (region_shape new) sh h im j → i + size x ≤ length source → j + size sh ≤ length im → Done new sh (c v h) im (f i j im) j)
      → (n : ℕ) (vs hs : ℕ → Value) (i j : ℕ) (im : List ℕ) → ((k : ℕ) → k < n → Spells (region_shape old) x (vs k) source (i + k * size x)) → ((k : ℕ) → k < n → Spells (region_shape new) sh (hs k) im (j + k * size sh))
      → i + n * size x ≤ length source → j + n * size sh ≤ length im → RowDone sh (λ k. c (vs k) (hs k)) n im (repeated f n i j (size x) (size sh) im) j
  rows_done sh x f c H zero vs hs i j im s h p q = record { stays = same_stays im j (zero * size sh); spells = λ k lt. absurd (omega (arith, lt)) }
  rows_done sh x f c H (suc n) vs hs i j im s h p q =
      let a = size x in
      let b = size sh in
      let ia : i + 0 * a ≡ i = omega arith in
      let jb : j + 0 * b ≡ j = omega arith in
      let first = H (vs 0) (hs 0) i j im (subst (Spells (region_shape old) x (vs 0) source) ia (s 0 (omega arith))) (subst (Spells (region_shape new) sh (hs 0) im) jb (h 0 (omega arith))) (grind arith) (grind arith) in
      let im1 = f i j im in
      let rest = rows_done sh x f c H n (λ k. vs (suc k)) (λ k. hs (suc k)) (i + a) (j + b) im1
      (λ k lt. let e : i + suc k * a ≡ i + a + k * a = grind arith in subst (Spells (region_shape old) x (vs (suc k)) source) e (s (suc k) (omega (arith, lt))))
      (λ k lt. let e : j + suc k * b ≡ j + b + k * b = grind arith in
      spelled_stays new sh (hs (suc k)) im im1 (j + b + k * b) j b first.stays (inr (omega arith)) (subst (Spells (region_shape new) sh (hs (suc k)) im) e (h (suc k) (omega (arith, lt)))))
      (grind arith) (grind (arith, first.stays.long)) in
      let wide : suc n * b ≡ b + n * b = grind arith in
      record {
        stays = then_stays (wider j (suc n * b) (omega arith) (omega (arith, wide)) first.stays) (wider j (suc n * b) (omega arith) (omega (arith, wide)) rest.stays);
        spells = λ k lt. each k lt first.spells rest;
      }
    where
      each : (k : ℕ) → k < suc n → Spells (region_shape new) sh (c (vs 0) (hs 0)) (f i j im) j
          → RowDone sh (λ k. c (vs (suc k)) (hs (suc k))) n (f i j im) (repeated f n (i + size x) (j + size sh) (size x) (size sh) (f i j im)) (j + size sh)
          → Spells (region_shape new) sh (c (vs k) (hs k)) (repeated f n (i + size x) (j + size sh) (size x) (size sh) (f i j im)) (j + k * size sh)
      each zero lt one rest =
          let e : j ≡ j + zero * size sh = omega arith in
          subst (Spells (region_shape new) sh (c (vs 0) (hs 0)) _) e (spelled_stays new sh (c (vs 0) (hs 0)) (f i j im) _ j (j + size sh) (n * size sh) rest.stays (inl (omega arith)) one)
      each (suc k) lt one rest =
          let e : j + size sh + k * size sh ≡ j + suc k * size sh = grind arith in
          subst (Spells (region_shape new) sh (c (vs (suc k)) (hs (suc k))) _) e (rest.spells k (omega (arith, lt)))

  -- how the moves of an element are known to carry it
  abbrev pub CarriesElement : Shape → Shape → Moves → Type 0
  CarriesElement sh y ms = (v h : Value) (i j : ℕ) (im : List ℕ) → Spells (region_shape old) y v source i → Spells (region_shape new) sh h im j → i + size y ≤ length source → j + size sh ≤ length im
      → Done new sh (carry old new keeping sh (Some (y, v)) h) im (MV ms i j im) j

  several_moved : (t from to a b : ℕ) (ms : Moves) (i j : ℕ) (im : List ℕ) → MV (several t from to a b ms) i j im ≡ repeated (MV ms) t (i + from) (j + to) a b im
  several_moved zero from to a b ms i j im = refl
  several_moved (suc t) from to a b ms i j im = refl

  -- so many elements of a run have been moved, and all others of the array are as they were
  record Run (low l : ℤ) (n m t : ℕ) (sh y : Shape) (vs hs : Values) (im im' : List ℕ) (j : ℕ) : Type 0 where
    stays : Stays im im' j (n * size sh)
    inside : (r : ℕ) → r < t → Spells (region_shape new) sh (carry old new keeping sh (Some (y, at_or vs (first_old (l -ℤ low) + r))) (at_or hs (first_new (l -ℤ low) + r))) im' (j + (first_new (l -ℤ low) + r) * size sh)
    outside : (k : ℕ) → k < n → (k < first_new (l -ℤ low)) ⊎ (first_new (l -ℤ low) + t ≤ k) → Spells (region_shape new) sh (at_or hs k) im' (j + k * size sh)

  array_run : (low l : ℤ) (n m t : ℕ) (sh y : Shape) (ms : Moves) (vs hs : Values) (from to i j : ℕ) (im : List ℕ) → CarriesElement sh y ms
      → t ≡ min (n - first_new (l -ℤ low)) (m - first_old (l -ℤ low))
      → ((k : ℕ) → k < m → Spells (region_shape old) y (at_or vs k) source (i + from + k * size y))
      → ((k : ℕ) → k < n → Spells (region_shape new) sh (at_or hs k) im (j + to + k * size sh))
      → i + from + m * size y ≤ length source → j + to + n * size sh ≤ length im
      → Run low l n m t sh y vs hs im (MV (several t (from + first_old (l -ℤ low) * size y) (to + first_new (l -ℤ low) * size sh) (size y) (size sh) ms) i j im) (j + to)
  array_run low l n m zero sh y ms vs hs from to i j im H e s h p q = record {
    stays = same_stays im (j + to) (n * size sh);
    inside = λ r lt. absurd (omega (arith, lt));
    outside = λ k lt o. h k lt;
  }
  array_run low l n m (suc u) sh y ms vs hs from to i j im H e s h p q =
      let t = suc u in
      let pn = first_new (l -ℤ low) in
      let qo = first_old (l -ℤ low) in
      let a = size y in
      let b = size sh in
      let f = i + (from + qo * a) in
      let g = j + (to + pn * b) in
      let in_new : pn + t ≤ n = omega (arith, e) in
      let in_old : qo + t ≤ m = omega (arith, e) in
      let old_room : (qo + t) * a ≤ m * a = times (qo + t) m a in_old in
      let new_room : (pn + t) * b ≤ n * b = times (pn + t) n b in_new in
      let old_split : (qo + t) * a ≡ qo * a + t * a = grind arith in
      let new_split : (pn + t) * b ≡ pn * b + t * b = grind arith in
      let row = rows_done sh y (MV ms) (λ v w. carry old new keeping sh (Some (y, v)) w) H t (λ k. at_or vs (qo + k)) (λ k. at_or hs (pn + k)) f g im
      (λ k lt. let e : i + from + (qo + k) * a ≡ f + k * a = grind arith in subst (Spells (region_shape old) y (at_or vs (qo + k)) source) e (s (qo + k) (omega (arith, lt))))
      (λ k lt. let e : j + to + (pn + k) * b ≡ g + k * b = grind arith in subst (Spells (region_shape new) sh (at_or hs (pn + k)) im) e (h (pn + k) (omega (arith, lt))))
      (omega arith) (omega arith) in
      record {
        stays = wider (j + to) (n * b) (omega arith) (omega arith) row.stays;
        inside = λ r lt. let e : g + r * b ≡ j + to + (pn + r) * b = grind arith in subst (Spells (region_shape new) sh _ _) e (row.spells r lt);
        outside = λ k lt o. spelled_stays new sh (at_or hs k) im _ (j + to + k * b) g (t * b) row.stays (elim o [
          | inl x ↦ (let z : k * b + b ≤ pn * b = row_within k pn b x in let w : j + to + k * b + b ≤ g = omega arith in inl w)
          | inr x ↦ (let z : (pn + t) * b ≤ k * b = times (pn + t) k b x in let w : g + t * b ≤ j + to + k * b = omega arith in inr w)
        ]) (h k lt);
      }

  pub array_row : (low l : ℤ) (n m : ℕ) (sh y : Shape) (ms : Moves) (vs hs : Values) (from to i j : ℕ) (im : List ℕ) → CarriesElement sh y ms
      → count vs ≡ m → ((k : ℕ) → k < m → (w : Value) × (element vs k ≡ Some w) × Spells (region_shape old) y w source (i + from + k * size y))
      → count hs ≡ n → ((k : ℕ) → k < n → (w : Value) × (element hs k ≡ Some w) × Spells (region_shape new) sh w im (j + to + k * size sh))
      → i + from + m * size y ≤ length source → j + to + n * size sh ≤ length im
      → Done new (Array low n sh) (array low (carry_elements old new keeping sh (Some (Array l m y, array l vs)) low hs)) im (MV (element_moves (l -ℤ low) n sh m y from to ms) i j im) (j + to)
  array_row low l n m sh y ms vs hs from to i j im H cv s ch h p q =
      let d = l -ℤ low in
      let pn = first_new d in
      let qo = first_old d in
      let t = min (n - pn) (m - qo) in
      let o : Old = Some (Array l m y, array l vs) in
      let run = array_run low l n m t sh y ms vs hs from to i j im H refl
      (λ k lt. let w = s k lt in subst (λ u. Spells (region_shape old) y u source (i + from + k * size y)) (sym (at_is vs k w.0 w.1)) w.2)
      (λ k lt. let w = h k lt in subst (λ u. Spells (region_shape new) sh u im (j + to + k * size sh)) (sym (at_is hs k w.0 w.1)) w.2)
      p q in
      record { stays = run.stays; spells = (carry_elements old new keeping sh o low hs, refl, count_carried hs sh o low ∙ ch, λ k lt. each k lt run) }
    where
      im' : List ℕ
      im' = MV (element_moves (l -ℤ low) n sh m y from to ms) i j im

      o : Old
      o = Some (Array l m y, array l vs)

      -- what nothing comes to
      held : (k : ℕ) → (lt : k < n) → old_element o (low +ℤ pos k) ≡ None → Spells (region_shape new) sh (at_or hs k) im' (j + to + k * size sh)
          → (w : Value) × (element (carry_elements old new keeping sh o low hs) k ≡ Some w) × Spells (region_shape new) sh w im' (j + to + k * size sh)
      held k lt e x =
          let w = h k lt in
          (w.0, element_carried hs sh o low (low +ℤ pos k) k w.0 refl w.1 ∙ ap (λ a. Some (carry old new keeping sh a w.0)) e ∙ ap Some (nothing_carried old new keeping w.0 sh), subst (λ u. Spells (region_shape new) sh u im' (j + to + k * size sh)) (at_is hs k w.0 w.1) x)

      each : (k : ℕ) → k < n → Run low l n m (min (n - first_new (l -ℤ low)) (m - first_old (l -ℤ low))) sh y vs hs im im' (j + to)
          → (w : Value) × (element (carry_elements old new keeping sh o low hs) k ≡ Some w) × Spells (region_shape new) sh w im' (j + to + k * size sh)
      each k lt run = elim (cases_lt k (first_new (l -ℤ low))) [
        | inl before ↦ held k lt (ap (λ a. a >>= λ q. element vs q >>= λ v. Some (y, v)) (place_before low l (l -ℤ low) k refl before)) (run.outside k lt (inl before))
        | inr behind ↦ after k lt run behind
      ]
        where
          after : (k : ℕ) → k < n → Run low l n m (min (n - first_new (l -ℤ low)) (m - first_old (l -ℤ low))) sh y vs hs im im' (j + to) → first_new (l -ℤ low) ≤ k
              → (w : Value) × (element (carry_elements old new keeping sh o low hs) k ≡ Some w) × Spells (region_shape new) sh w im' (j + to + k * size sh)
          after k lt run behind =
              let pn = first_new (l -ℤ low) in
              let qo = first_old (l -ℤ low) in
              let t = min (n - pn) (m - qo) in
              let place = place_behind low l (l -ℤ low) k refl behind in
              elim (cases_lt (k - pn) t) [
                | inl x ↦ (let w = h k lt in
                    let v = s (qo + (k - pn)) (omega (arith, x)) in
                    let is : pn + (k - pn) ≡ k = omega arith in
                    let from : old_element o (low +ℤ pos k) ≡ Some (y, v.0) = ap (λ a. a >>= λ q. element vs q >>= λ v. Some (y, v)) place ∙ ap (λ a. a >>= λ v. Some (y, v)) v.1 in (
                      carry old new keeping sh (Some (y, v.0)) w.0,
                      element_carried hs sh o low (low +ℤ pos k) k w.0 refl w.1 ∙ ap (λ a. Some (carry old new keeping sh a w.0)) from,
                      subst (λ r. Spells (region_shape new) sh (carry old new keeping sh (Some (y, v.0)) w.0) im' (j + to + r * size sh)) is
                          (subst (λ u. Spells (region_shape new) sh (carry old new keeping sh (Some (y, v.0)) u) im' (j + to + (pn + (k - pn)) * size sh)) (ap (at_or hs) is ∙ at_is hs k w.0 w.1)
                          (subst (λ u. Spells (region_shape new) sh (carry old new keeping sh (Some (y, u)) (at_or hs (pn + (k - pn)))) im' (j + to + (pn + (k - pn)) * size sh)) (at_is vs (qo + (k - pn)) v.0 v.1) (run.inside (k - pn) x))),
                    ))
                | inr x ↦ (let far : m ≤ qo + (k - pn) = omega (arith, x) in
                    let out : pn + t ≤ k = omega (arith, x) in
                    held k lt (ap (λ a. a >>= λ q. element vs q >>= λ v. Some (y, v)) place ∙ ap (λ a. a >>= λ v. Some (y, v)) (no_element vs (qo + (k - pn)) (omega (arith, cv)))) (run.outside k lt (inr out)))
              ]
