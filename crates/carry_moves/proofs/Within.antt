-- Moves read and write within the values.
use Rattle.std.proofs.Common.{◌≡◌, ◌≤◌, ◌<◌, ℕ, zero, suc, ◌+◌, ◌-◌, ◌*◌, ℤ, Bool, true, false, List, Option, Some, None, refl, sym, ap, ◌∙◌, subst, arith}
use Rattle.std.specs.Prelude.{nat_eq, min, if◌then◌else◌, ◌&&◌, ◌-ℤ◌}
use Rattle.std.proofs.lemmas.Bool.{eqb-true}
use Rattle.plc_text.specs.Words.{same}
use Rattle.st_types.specs.declared.elem.Elem.{Elem}
use Rattle.st_types.specs.Elem.{bytes}
use Rattle.st_types.specs.declared.st_type.StType.{StType}
use Rattle.st_types.specs.declared.st_type.StType.TheVariants as type
use Rattle.st_values.specs.Program.{Variable, Program}
use Rattle.st_values.specs.Value.{◌>>=◌}
use Rattle.st_values.specs.Shape.{Shape, Elementary, Enumeration, Reference, Interface, Array, Structure, Instance, Fields, no_fields, field_then, same_elem, same_names}
use Rattle.mem_layout.specs.store_bytes.Place.{gap, alignment, greatest, size, ending}
use Rattle.mem_layout.proofs.store_bytes.Moves.{ending_above}
use Rattle.st_change.specs.From.{Pairs, old_name, structure_pairs, class_pairs}
use Rattle.st_change.specs.Carry.{stays}
use Rattle.st_change.proofs.Carried.{elem-true}
use Rattle.image_moves.specs.Moves.{Move, copy, repeat, Moves, no_moves, move_then, AreWithin}
use Rattle.image_moves.proofs.MoverLaws.{moves_wider}
use Rattle.carry_moves.specs.CarryMoves as moves
use Rattle.carry_moves.specs.CarryMoves.{then_moves, one, gap_moves, Lies, named_place, first_new, first_old, several, element_moves, field_moves}
use Rattle.carry_moves.proofs.Spelling.{choose, times}

then_within : (ms ns : Moves) (s d : ℕ) → AreWithin ms s d → AreWithin ns s d → AreWithin (then_moves ms ns) s d
then_within no_moves ns s d h g = g
then_within (move_then m ms) ns s d h g = (h.0, then_within ms ns s d h.1 g)

gap_within : (g h from to s d : ℕ) → from + h ≤ s → to + g ≤ d → AreWithin (gap_moves g h from to) s d
gap_within zero h from to s d p q = tt
gap_within (suc g) h from to s d p q = choose (λ ms. AreWithin ms s d) (nat_eq (suc g) h) (one (copy from to (suc g))) no_moves (λ e. let k = eqb-true (suc g) h e in ((omega arith, omega arith), tt)) (λ e. tt)

-- a field that is found lies within
named_within : (gs : Fields) (at : ℕ) (name : List ℕ) (x : Lies) → named_place at gs name ≡ Some x → x.begins + gap (alignment x.shape) x.begins + size x.shape ≤ ending at gs
named_within no_fields at name x e = cc
named_within (field_then v sh gs) at name x e = by (same v.name name) e (named_within gs (at + gap (alignment sh) at + size sh) name x)
  where
    behind : ℕ
    behind = at + gap (alignment sh) at + size sh

    by : (b : Bool) → (if b then Some (record { begins = at; shape = sh }) else named_place behind gs name) ≡ Some x → (named_place behind gs name ≡ Some x → x.begins + gap (alignment x.shape) x.begins + size x.shape ≤ ending behind gs)
        → x.begins + gap (alignment x.shape) x.begins + size x.shape ≤ ending behind gs
    by true e g =
        let is : record { begins = at; shape = sh } ≡ x = cc in
        subst (λ (y : Lies). y.begins + gap (alignment y.shape) y.begins + size y.shape ≤ ending behind gs) is (ending_above gs behind)
    by false e g = g e

several_within : (t from to a b s d : ℕ) (ms : Moves) → (0 < t → (from + t * a ≤ s) × (to + t * b ≤ d)) → AreWithin ms a b → AreWithin (several t from to a b ms) s d
several_within zero from to a b s d ms h w = tt
several_within (suc t) from to a b s d ms h w = let k = h (omega arith) in ((k.0, k.1, w), tt)

elements_within : (d : ℤ) (n m : ℕ) (sh x : Shape) (from to : ℕ) (ms : Moves) → AreWithin ms (size x) (size sh) → AreWithin (element_moves d n sh m x from to ms) (from + m * size x) (to + n * size sh)
elements_within d n m sh x from to ms w =
    let pn = first_new d in
    let qo = first_old d in
    let t = min (n - pn) (m - qo) in
    several_within t (from + qo * size x) (to + pn * size sh) (size x) (size sh) (from + m * size x) (to + n * size sh) ms (λ some. bounds t refl some) w
  where
    bounds : (t : ℕ) → t ≡ min (n - first_new d) (m - first_old d) → 0 < t → (from + first_old d * size x + t * size x ≤ from + m * size x) × (to + first_new d * size sh + t * size sh ≤ to + n * size sh)
    bounds t e some =
        let in_old : first_old d + t ≤ m = omega (arith, e, some) in
        let in_new : first_new d + t ≤ n = omega (arith, e, some) in
        (added from (first_old d) t m (size x) in_old, added to (first_new d) t n (size sh) in_new)
      where
        added : (i k t m a : ℕ) → k + t ≤ m → i + k * a + t * a ≤ i + m * a
        added i k t m a h = let all = times (k + t) m a h in let split : (k + t) * a ≡ k * a + t * a = grind arith in omega arith

module _ (old new : Program) (aim : StType → ℕ) (keeping : Bool) where
  abbrev Inside : Shape → (Shape → ℕ → ℕ → Moves) → Type 0
  Inside sh f = (x : Shape) (from to : ℕ) → AreWithin (f x from to) (from + size x) (to + size sh)

  abbrev FieldsInside : Fields → ℕ → ℕ → (Fields → ℕ → ℕ → Moves) → Type 0
  FieldsInside fs at start f = (gs : Fields) (from to : ℕ) → AreWithin (f gs from to) (from + ending start gs) (to + ending at fs)

  field_within : (sh : Shape) (f : Shape → ℕ → ℕ → Moves) → Inside sh f → (o : Option Lies) (from to at s d : ℕ) → ((x : Lies) → o ≡ Some x → from + (x.begins + gap (alignment x.shape) x.begins + size x.shape) ≤ s) → to + (at + gap (alignment sh) at + size sh) ≤ d
      → AreWithin (field_moves f sh o from to at) s d
  field_within sh f F None from to at s d h q = tt
  field_within sh f F (Some x) from to at s d h q =
      let g = gap (alignment sh) at in
      let k = gap (alignment x.shape) x.begins in
      let p = h x refl in
      then_within (gap_moves g k (from + x.begins) (to + at)) (f x.shape (from + (x.begins + k)) (to + (at + g))) s d
      (gap_within g k (from + x.begins) (to + at) s d (omega arith) (omega arith)) (moves_wider (f x.shape (from + (x.begins + k)) (to + (at + g))) _ _ s d (omega arith) (omega arith) (F x.shape (from + (x.begins + k)) (to + (at + g))))

  number_within : (e : Elem) → Inside (Elementary e) (moves.number_moves e)
  number_within e (Elementary c) from to =
      choose (λ ms. AreWithin ms (from + bytes c) (to + bytes e)) (same_elem e c) (one (copy from to (bytes e))) no_moves (λ k. let is = ap bytes (elem-true e c k) in ((omega arith, omega arith), tt)) (λ k. tt)
  number_within e (Enumeration n vs) from to = tt
  number_within e (Reference c n) from to = tt
  number_within e (Interface i n) from to = tt
  number_within e (Array l m y) from to = tt
  number_within e (Structure n gs) from to = tt
  number_within e (Instance c n gs) from to = tt

  enumerator_within : (name : List ℕ) (values : List (List ℕ)) → Inside (Enumeration name values) (moves.enumerator_moves name values)
  enumerator_within name values (Enumeration n vs) from to = choose (λ ms. AreWithin ms (from + 4) (to + 4)) (same n name && same_names vs values) (one (copy from to 4)) no_moves (λ k. ((omega arith, omega arith), tt)) (λ k. tt)
  enumerator_within name values (Elementary c) from to = tt
  enumerator_within name values (Reference c n) from to = tt
  enumerator_within name values (Interface i n) from to = tt
  enumerator_within name values (Array l m y) from to = tt
  enumerator_within name values (Structure n gs) from to = tt
  enumerator_within name values (Instance c n gs) from to = tt

  reference_within : (t : StType) (x : Shape) (from to : ℕ) → AreWithin (moves.reference_moves (aim t) x from to) (from + size x) (to + 8)
  reference_within t (Reference c n) from to = ((omega arith, omega arith), tt)
  reference_within t (Interface i n) from to = ((omega arith, omega arith), tt)
  reference_within t (Elementary c) from to = (omega arith, tt)
  reference_within t (Enumeration n vs) from to = (omega arith, tt)
  reference_within t (Array l m y) from to = (omega arith, tt)
  reference_within t (Structure n gs) from to = (omega arith, tt)
  reference_within t (Instance c n gs) from to = (omega arith, tt)

  array_within : (low : ℤ) (n : ℕ) (sh : Shape) (f : Shape → ℕ → ℕ → Moves) → Inside sh f → Inside (Array low n sh) (moves.array_moves low n sh f)
  array_within low n sh f F (Array l m y) from to = elements_within (l -ℤ low) n m sh y from to (f y 0 0) (moves_wider (f y 0 0) _ _ (size y) (size sh) (omega arith) (omega arith) (F y 0 0))
  array_within low n sh f F (Elementary c) from to = tt
  array_within low n sh f F (Enumeration m vs) from to = tt
  array_within low n sh f F (Reference c m) from to = tt
  array_within low n sh f F (Interface i m) from to = tt
  array_within low n sh f F (Structure m gs) from to = tt
  array_within low n sh f F (Instance c m gs) from to = tt

  structure_within : (name : List ℕ) (fs : Fields) (f : Fields → ℕ → ℕ → Moves) → FieldsInside fs 0 0 f → Inside (Structure name fs) (moves.structure_moves name fs f)
  structure_within name fs f F (Structure n gs) from to =
      let s = from + size (Structure n gs) in
      let d = to + size (Structure name fs) in
      let E = moves.end_moves (greatest fs) (ending 0 fs) (greatest gs) (ending 0 gs) from to in
      choose (λ ms. AreWithin ms s d) (same n name) (then_moves (f gs from to) E) no_moves
      (λ k. then_within (f gs from to) E s d (moves_wider (f gs from to) _ _ s d (omega arith) (omega arith) (F gs from to)) (gap_within (gap (greatest fs) (ending 0 fs)) (gap (greatest gs) (ending 0 gs)) (from + ending 0 gs) (to + ending 0 fs) s d (omega arith) (omega arith))) (λ k. tt)
  structure_within name fs f F (Elementary c) from to = tt
  structure_within name fs f F (Enumeration m vs) from to = tt
  structure_within name fs f F (Reference c m) from to = tt
  structure_within name fs f F (Interface i m) from to = tt
  structure_within name fs f F (Array l m y) from to = tt
  structure_within name fs f F (Instance c m gs) from to = tt

  instance_within : (c : ℕ) (name : List ℕ) (fs : Fields) (f : Fields → ℕ → ℕ → Moves) → FieldsInside fs 8 8 f → Inside (Instance c name fs) (moves.instance_moves c name fs f)
  instance_within c name fs f F (Instance b n gs) from to =
      let s = from + size (Instance b n gs) in
      let d = to + size (Instance c name fs) in
      let high = ending_above fs 8 in
      let old_high = ending_above gs 8 in
      let C = moves.class_moves c b from to in
      let E = moves.end_moves 8 (ending 8 fs) 8 (ending 8 gs) from to in
      choose (λ ms. AreWithin ms s d) (same n name) (then_moves C (then_moves (f gs from to) E)) no_moves
      (λ k. then_within C (then_moves (f gs from to) E) s d (choose (λ ms. AreWithin ms s d) (nat_eq c b) (one (copy from to 8)) no_moves (λ e. ((omega arith, omega arith), tt)) (λ e. tt))
      (then_within (f gs from to) E s d (moves_wider (f gs from to) _ _ s d (omega arith) (omega arith) (F gs from to)) (gap_within (gap 8 (ending 8 fs)) (gap 8 (ending 8 gs)) (from + ending 8 gs) (to + ending 8 fs) s d (omega arith) (omega arith)))) (λ k. tt)
  instance_within c name fs f F (Elementary b) from to = tt
  instance_within c name fs f F (Enumeration m vs) from to = tt
  instance_within c name fs f F (Reference b m) from to = tt
  instance_within c name fs f F (Interface i m) from to = tt
  instance_within c name fs f F (Array l m y) from to = tt
  instance_within c name fs f F (Structure m gs) from to = tt

  next_within : (v : Variable) (sh : Shape) (fs : Fields) (at start : ℕ) (ps : Pairs) (f : Shape → ℕ → ℕ → Moves) → Inside sh f → (g : Fields → ℕ → ℕ → Moves) → FieldsInside fs (at + gap (alignment sh) at + size sh) start g
      → FieldsInside (field_then v sh fs) at start (λ gs from to. then_moves (if stays old new keeping v then no_moves else field_moves f sh (old_name ps v.name >>= named_place start gs) from to at) (g gs from to))
  next_within v sh fs at start ps f F g G gs from to =
      let behind = at + gap (alignment sh) at + size sh in
      let more : behind ≤ ending behind fs = ending_above fs behind in
      let s = from + ending start gs in
      let d = to + ending behind fs in
      let o = old_name ps v.name >>= named_place start gs in
      then_within (if stays old new keeping v then no_moves else field_moves f sh o from to at) (g gs from to) s d
      (choose (λ ms. AreWithin ms s d) (stays old new keeping v) no_moves (field_moves f sh o from to at) (λ e. tt) (λ e. field_within sh f F o from to at s d (λ x k. found (old_name ps v.name) x k) (omega arith))) (G gs from to)
    where
      found : (o : Option (List ℕ)) (x : Lies) → (o >>= named_place start gs) ≡ Some x → from + (x.begins + gap (alignment x.shape) x.begins + size x.shape) ≤ from + ending start gs
      found None x e = cc
      found (Some n) x e = let h = named_within gs start n x e in omega arith

  mutual
    pub value_within : (sh : Shape) → Inside sh (moves.moves_of old new aim keeping sh)
    value_within (Elementary e) = number_within e
    value_within (Enumeration name values) = enumerator_within name values
    value_within (Reference c name) = reference_within (type.Reference c)
    value_within (Interface i name) = reference_within (type.Interface i)
    value_within (Array low n sh) = array_within low n sh (moves.moves_of old new aim keeping sh) (value_within sh)
    value_within (Structure name fs) = structure_within name fs (moves.fields_moves old new aim keeping 0 0 fs (structure_pairs old new name)) (fields_within fs 0 0 (structure_pairs old new name))
    value_within (Instance c name fs) = instance_within c name fs (moves.fields_moves old new aim keeping 8 8 fs (class_pairs old new c)) (fields_within fs 8 8 (class_pairs old new c))

    fields_within : (fs : Fields) (at start : ℕ) (ps : Pairs) → FieldsInside fs at start (moves.fields_moves old new aim keeping at start fs ps)
    fields_within no_fields at start ps = λ gs from to. tt
    fields_within (field_then v sh fs) at start ps = next_within v sh fs at start ps (moves.moves_of old new aim keeping sh) (value_within sh) (moves.fields_moves old new aim keeping (at + gap (alignment sh) at + size sh) start fs ps) (fields_within fs (at + gap (alignment sh) at + size sh) start ps)

  pub moves_within : (sh x : Shape) → AreWithin (moves.moves_of old new aim keeping sh x 0 0) (size x) (size sh)
  moves_within sh x = moves_wider (moves.moves_of old new aim keeping sh x 0 0) _ _ (size x) (size sh) (omega arith) (omega arith) (value_within sh x 0 0)
