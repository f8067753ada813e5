-- Structures, instances and whole values: what is moved spells what is carried.
use Rattle.std.proofs.Common.{◌≡◌, ◌≤◌, ◌<◌, ℕ, zero, suc, ◌+◌, ◌-◌, ◌*◌, ℤ, pos, Bool, true, false, List, [], ◌∷◌, length, Option, Some, None, refl, sym, ap, ap₂, ◌∙◌, subst, inl, inr, arith}
use Rattle.std.specs.Prelude.{◌⊎◌, nat_eq, if◌then◌else◌, ◌-ℤ◌}
use Rattle.std.proofs.lemmas.Bool.{eqb-true}
use Rattle.plc_text.specs.Words.{same}
use Rattle.st_types.specs.declared.elem.Elem.TheVariants.{Ulint}
use Rattle.st_types.specs.declared.st_type.StType.{StType}
use Rattle.st_types.specs.declared.st_type.StType.TheVariants as type
use Rattle.st_values.specs.Program.{Variable, Program}
use Rattle.st_values.specs.Value.{Value, number, reference, array, structure, instance, Members, no_members, member_then, ◌>>=◌}
use Rattle.st_values.specs.Shape.{Shape, Elementary, Enumeration, Reference, Interface, Array, Structure, Instance, Fields, no_fields, field_then, region_shape}
use Rattle.mem_layout.specs.store_bytes.Place.{gap, alignment, greatest, size, ending}
use Rattle.mem_layout.specs.store_bytes.Spells.{Holds, Blank, Spells, EachSpells}
use Rattle.mem_layout.proofs.store_bytes.Moves.{kept_same, ending_above, each_moved}
use Rattle.st_change.specs.From.{Pairs, old_name, structure_pairs, class_pairs}
use Rattle.st_change.specs.Carry.{Old, old_field, field_before, variable_before, before_by, stays, old_element, carry, carry_elements, carry_members}
use Rattle.st_change.proofs.carry_places.Carried.{nothing_carried}
use Rattle.image_moves.specs.Moves.{Move, copy, Moves, no_moves, move_then, moved}
use Rattle.image_moves.proofs.MoveFacts.{Stays, same_stays, wider, then_stays}
use Rattle.carry_moves.specs.CarryMoves as moves
use Rattle.carry_moves.specs.CarryMoves.{then_moves, one, gap_moves, Lies, named_place, field_moves}
use Rattle.carry_moves.specs.Addresses.{Relocates}
use Rattle.carry_moves.specs.MoveLaws.{Spelled}
use Rattle.carry_moves.proofs.Spelling.{keeps_of, spelled_stays, blank_stays, holds_stays, Done, nothing_done, then_moved, number_copied, gap_done, number_done, enumerator_done, reference_done, array_row, elements_stay}

module _ (old new : Program) (aim : StType → ℕ) (relocated_as : ℕ → ℤ → ℤ) (keeping : Bool) (rel : Relocates old new aim relocated_as) (source : List ℕ) where
  abbrev MV : Moves → ℕ → ℕ → List ℕ → List ℕ
  MV ms i j im = moved relocated_as source ms i j im

  -- ---- what a name means among old fields, and where its bytes lie

  abbrev Looks : Old → Option Lies → ℕ → Type 0
  Looks o None i = o ≡ None
  Looks o (Some x) i =
      (w : Value) × (o ≡ Some (x.shape, w)) × Blank source (i + x.begins) (gap (alignment x.shape) x.begins)
      × Spells (region_shape old) x.shape w source (i + (x.begins + gap (alignment x.shape) x.begins)) × (i + (x.begins + gap (alignment x.shape) x.begins + size x.shape) ≤ length source)

  old_looks : (gs : Fields) (at : ℕ) (ms : Members) (name : List ℕ) (i : ℕ) → EachSpells (region_shape old) at gs ms source i → i + ending at gs ≤ length source → Looks (old_field gs ms name) (named_place at gs name) i
  old_looks no_fields at ms name i s b = refl
  old_looks (field_then v sh gs) at ms name i s b = subst (λ u. Looks (old_field (field_then v sh gs) u name) (named_place at (field_then v sh gs) name) i) (sym s.2) (go (same v.name name) (old_looks gs (at + gap (alignment sh) at + size sh) s.1 name i s.5 b))
    where
      behind : ℕ
      behind = at + gap (alignment sh) at + size sh

      go : (b : Bool) → Looks (old_field gs s.1 name) (named_place behind gs name) i → Looks (if b then Some (sh, s.0) else old_field gs s.1 name) (if b then Some (record { begins = at; shape = sh }) else named_place behind gs name) i
      go true l = let more : behind ≤ ending behind gs = ending_above gs behind in let fits : i + behind ≤ length source = omega arith in (s.0, refl, s.3, s.4, fits)
      go false l = l

  -- ---- one field

  record FieldDone (sh : Shape) (at : ℕ) (w : Value) (im im' : List ℕ) (j : ℕ) : Type 0 where
    stays : Stays im im' (j + at) (gap (alignment sh) at + size sh)
    blank : Blank im' (j + at) (gap (alignment sh) at)
    spells : Spells (region_shape new) sh w im' (j + (at + gap (alignment sh) at))

  -- how moves of a shape are known to carry it
  abbrev CarriesAll : Shape → (Shape → ℕ → ℕ → Moves) → Type 0
  CarriesAll sh f = (x : Shape) (v h : Value) (from to i j : ℕ) (im : List ℕ) → Spells (region_shape old) x v source (i + from) → Spells (region_shape new) sh h im (j + to) → i + from + size x ≤ length source → j + to + size sh ≤ length im
      → Done new sh (carry old new keeping sh (Some (x, v)) h) im (MV (f x from to) i j im) (j + to)

  field_done : (sh : Shape) (f : Shape → ℕ → ℕ → Moves) → CarriesAll sh f → (x : Option Lies) (o : Old) (h : Value) (from to at i j : ℕ) (im : List ℕ) → Looks o x (i + from) → Blank im (j + to + at) (gap (alignment sh) at)
      → Spells (region_shape new) sh h im (j + to + (at + gap (alignment sh) at)) → j + to + (at + gap (alignment sh) at + size sh) ≤ length im
      → FieldDone sh at (carry old new keeping sh o h) im (MV (field_moves f sh x from to at) i j im) (j + to)
  field_done sh f H None o h from to at i j im l b s q =
      subst (λ w. FieldDone sh at w im im (j + to)) (sym (ap (λ a. carry old new keeping sh a h) l ∙ nothing_carried old new keeping h sh)) (record { stays = same_stays im _ _; blank = b; spells = s })
  field_done sh f H (Some x) o h from to at i j im l b s q =
      let g = gap (alignment sh) at in
      let k = gap (alignment x.shape) x.begins in
      let A = gap_moves g k (from + x.begins) (to + at) in
      let B = f x.shape (from + (x.begins + k)) (to + (at + g)) in
      let e1 : i + from + x.begins ≡ i + (from + x.begins) = omega arith in
      let e2 : j + to + at ≡ j + (to + at) = omega arith in
      let e3 : i + from + (x.begins + k) ≡ i + (from + (x.begins + k)) = omega arith in
      let e4 : j + to + (at + g) ≡ j + (to + (at + g)) = omega arith in
      let gd = gap_done relocated_as source g k (from + x.begins) (to + at) i j im (subst (λ y. Blank source y k) e1 l.2) (subst (λ y. Blank im y g) e2 b) (omega (arith, l.4)) (omega (arith, q)) in
      let im1 = MV A i j im in
      let vd = H x.shape l.0 h (from + (x.begins + k)) (to + (at + g)) i j im1 (subst (Spells (region_shape old) x.shape l.0 source) e3 l.3)
      (spelled_stays new sh h im im1 (j + (to + (at + g))) (j + (to + at)) g gd.1 (inr (omega arith)) (subst (Spells (region_shape new) sh h im) e4 s)) (omega (arith, l.4)) (omega (arith, q, gd.1.long)) in
      let im2 = MV B i j im1 in
      let whole : MV (then_moves A B) i j im ≡ im2 = then_moved relocated_as source A B i j im in
      let done : FieldDone sh at (carry old new keeping sh (Some (x.shape, l.0)) h) im im2 (j + to) =
      record {
        stays = then_stays (wider (j + to + at) (g + size sh) (omega arith) (omega arith) gd.1) (wider (j + to + at) (g + size sh) (omega arith) (omega arith) vd.stays);
        blank = subst (λ y. Blank im2 y g) (sym e2) (blank_stays im1 im2 (j + (to + at)) g (j + (to + (at + g))) (size sh) vd.stays (inl (omega arith)) gd.0);
        spells = subst (Spells (region_shape new) sh _ im2) (sym e4) vd.spells;
      } in
      subst (λ y. FieldDone sh at (carry old new keeping sh o h) im y (j + to)) (sym whole) (subst (λ a. FieldDone sh at (carry old new keeping sh a h) im im2 (j + to)) (sym l.1) done)

  -- ---- the fields of a structure or an instance

  record FieldsDone (fs : Fields) (at : ℕ) (ws : Members) (im im' : List ℕ) (j : ℕ) : Type 0 where
    stays : Stays im im' (j + at) (ending at fs - at)
    spells : EachSpells (region_shape new) at fs ws im' j

  each_stays : (fs : Fields) (at : ℕ) (ws : Members) (im im' : List ℕ) (j d n : ℕ) → Stays im im' d n → (j + ending at fs ≤ d) ⊎ (d + n ≤ j + at) → EachSpells (region_shape new) at fs ws im j → EachSpells (region_shape new) at fs ws im' j
  each_stays fs at ws im im' j d n s a h = each_moved (region_shape new) fs at ws im im' j j (kept_same (keeps_of s) j at (ending at fs) a) h

  members_nothing : (hs : Members) (fs : Fields) (ps : Pairs) (part : List ℕ → Old) → ((f : List ℕ) → part f ≡ None) → carry_members old new keeping fs ps part hs ≡ hs
  members_nothing no_members fs ps part n = refl
  members_nothing (member_then m h hs) no_fields ps part n = refl
  members_nothing (member_then m h hs) (field_then v sh fs) ps part n = ap₂ (member_then m) (by (stays old new keeping v) (old_name ps v.name)) (members_nothing hs fs ps part n)
    where
      none : (o : Option (List ℕ)) → before_by part o ≡ None
      none None = refl
      none (Some f) = n f

      by : (b : Bool) (o : Option (List ℕ)) → (if b then h else carry old new keeping sh (before_by part o) h) ≡ h
      by true o = refl
      by false o = ap (λ a. carry old new keeping sh a h) (none o) ∙ nothing_carried old new keeping h sh

  -- how the moves of fields are known to carry them
  abbrev CarriesFields : Fields → ℕ → ℕ → Pairs → (Fields → ℕ → ℕ → Moves) → Type 0
  CarriesFields fs at start ps f = (gs : Fields) (part : List ℕ → Old) (hs : Members) (from to i j : ℕ) (im : List ℕ) → ((name : List ℕ) → Looks (part name) (named_place start gs name) (i + from)) → EachSpells (region_shape new) at fs hs im (j + to)
      → j + to + ending at fs ≤ length im → FieldsDone fs at (carry_members old new keeping fs ps part hs) im (MV (f gs from to) i j im) (j + to)

  -- a field, and those behind it
  next_done : (v : Variable) (sh : Shape) (fs : Fields) (at start : ℕ) (ps : Pairs) (f : Shape → ℕ → ℕ → Moves) → CarriesAll sh f → (g : Fields → ℕ → ℕ → Moves) → CarriesFields fs (at + gap (alignment sh) at + size sh) start ps g
      → CarriesFields (field_then v sh fs) at start ps (λ gs from to. then_moves (if stays old new keeping v then no_moves else field_moves f sh (old_name ps v.name >>= named_place start gs) from to at) (g gs from to))
  next_done v sh fs at start ps f H g G gs part hs from to i j im lk s q =
      let A = if stays old new keeping v then no_moves else field_moves f sh (old_name ps v.name >>= named_place start gs) from to at in
      let B = g gs from to in
      let im1 = MV A i j im in
      let im2 = MV B i j im1 in
      let behind = at + gap (alignment sh) at + size sh in
      let more : behind ≤ ending behind fs = ending_above fs behind in
      let w = if stays old new keeping v then s.0 else carry old new keeping sh (before_by part (old_name ps v.name)) s.0 in
      let first : FieldDone sh at w im im1 (j + to) = by (stays old new keeping v) (old_name ps v.name) in
      let rest = G gs part s.1 from to i j im1 lk (each_stays fs behind s.1 im im1 (j + to) (j + to + at) (gap (alignment sh) at + size sh) first.stays (inr (omega arith)) s.5) (omega (arith, first.stays.long)) in
      let whole : MV (then_moves A B) i j im ≡ im2 = then_moved relocated_as source A B i j im in
      let done : FieldsDone (field_then v sh fs) at (member_then v.name w (carry_members old new keeping fs ps part s.1)) im im2 (j + to) =
      record {
        stays = then_stays (wider (j + to + at) (ending behind fs - at) (omega arith) (omega arith) first.stays) (wider (j + to + at) (ending behind fs - at) (omega arith) (omega arith) rest.stays);
        spells = (
          w,
          carry_members old new keeping fs ps part s.1,
          refl,
          blank_stays im1 im2 (j + to + at) (gap (alignment sh) at) (j + to + behind) (ending behind fs - behind) rest.stays (inl (omega arith)) first.blank,
          spelled_stays new sh w im1 im2 (j + to + (at + gap (alignment sh) at)) (j + to + behind) (ending behind fs - behind) rest.stays (inl (omega arith)) first.spells,
          rest.spells,
        );
      } in
      subst (λ u. FieldsDone (field_then v sh fs) at (carry_members old new keeping (field_then v sh fs) ps part u) im (MV (then_moves A B) i j im) (j + to)) (sym s.2)
      (subst (λ y. FieldsDone (field_then v sh fs) at (member_then v.name w (carry_members old new keeping fs ps part s.1)) im y (j + to)) (sym whole) done)
    where
      behind_room : j + to + (at + gap (alignment sh) at + size sh) ≤ length im
      behind_room = let more = ending_above fs (at + gap (alignment sh) at + size sh) in omega (arith, more, q)

      looks : (o : Option (List ℕ)) → Looks (before_by part o) (o >>= named_place start gs) (i + from)
      looks None = refl
      looks (Some n) = lk n

      by : (b : Bool) (o : Option (List ℕ)) → FieldDone sh at (if b then s.0 else carry old new keeping sh (before_by part o) s.0) im (MV (if b then no_moves else field_moves f sh (o >>= named_place start gs) from to at) i j im) (j + to)
      by true o = record { stays = same_stays im _ _; blank = s.3; spells = s.4 }
      by false o = field_done sh f H (o >>= named_place start gs) (before_by part o) s.0 from to at i j im (looks o) s.3 s.4 behind_room

  -- fields, and the bytes behind them
  record BlockDone (fs : Fields) (at w : ℕ) (ws : Members) (im im' : List ℕ) (j : ℕ) : Type 0 where
    stays : Stays im im' (j + at) (ending at fs + gap w (ending at fs) - at)
    spells : EachSpells (region_shape new) at fs ws im' j
    blank : Blank im' (j + ending at fs) (gap w (ending at fs))

  block_done : (fs : Fields) (at start w ow : ℕ) (ps : Pairs) (f : Fields → ℕ → ℕ → Moves) → CarriesFields fs at start ps f → (gs : Fields) (part : List ℕ → Old) (hs : Members) (from to i j : ℕ) (im : List ℕ)
      → ((name : List ℕ) → Looks (part name) (named_place start gs name) (i + from)) → Blank source (i + from + ending start gs) (gap ow (ending start gs)) → i + from + (ending start gs + gap ow (ending start gs)) ≤ length source
      → EachSpells (region_shape new) at fs hs im (j + to) → Blank im (j + to + ending at fs) (gap w (ending at fs)) → j + to + (ending at fs + gap w (ending at fs)) ≤ length im
      → BlockDone fs at w (carry_members old new keeping fs ps part hs) im (MV (then_moves (f gs from to) (moves.end_moves w (ending at fs) ow (ending start gs) from to)) i j im) (j + to)
  block_done fs at start w ow ps f F gs part hs from to i j im lk ob p s b q =
      let end = ending at fs in
      let oe = ending start gs in
      let A = f gs from to in
      let B = moves.end_moves w end ow oe from to in
      let low : at ≤ end = ending_above fs at in
      let fd = F gs part hs from to i j im lk s (omega arith) in
      let im1 = MV A i j im in
      let e1 : i + from + oe ≡ i + (from + oe) = omega arith in
      let e2 : j + to + end ≡ j + (to + end) = omega arith in
      let gd = gap_done relocated_as source (gap w end) (gap ow oe) (from + oe) (to + end) i j im1 (subst (λ y. Blank source y (gap ow oe)) e1 ob)
      (subst (λ y. Blank im1 y (gap w end)) e2 (blank_stays im im1 (j + to + end) (gap w end) (j + to + at) (end - at) fd.stays (inr (omega arith)) b)) (omega arith) (omega (arith, fd.stays.long)) in
      let im2 = MV B i j im1 in
      let whole : MV (then_moves A B) i j im ≡ im2 = then_moved relocated_as source A B i j im in
      subst (λ y. BlockDone fs at w (carry_members old new keeping fs ps part hs) im y (j + to)) (sym whole) (record {
        stays = then_stays (wider (j + to + at) (end + gap w end - at) (omega arith) (omega arith) fd.stays) (wider (j + to + at) (end + gap w end - at) (omega arith) (omega arith) gd.1);
        spells = each_stays fs at _ im1 im2 (j + to) (j + (to + end)) (gap w end) gd.1 (inl (omega arith)) fd.spells;
        blank = subst (λ y. Blank im2 y (gap w end)) (sym e2) gd.0;
      })

  -- ---- structures

  structure_done : (name : List ℕ) (fs : Fields) (f : Fields → ℕ → ℕ → Moves) → CarriesFields fs 0 0 (structure_pairs old new name) f → CarriesAll (Structure name fs) (moves.structure_moves name fs f)
  structure_done name fs f F x v h from to i j im s t p q = subst (λ u. Done new (Structure name fs) (carry old new keeping (Structure name fs) (Some (x, v)) u) im (MV (moves.structure_moves name fs f x from to) i j im) (j + to)) (sym t.1) (by x s p)
    where
      ps : Pairs
      ps = structure_pairs old new name

      stay : (part : List ℕ → Old) → ((g : List ℕ) → part g ≡ None) → Done new (Structure name fs) (structure name (carry_members old new keeping fs ps part t.0)) im im (j + to)
      stay part n = nothing_done new (Structure name fs) _ im (j + to) (t.0, ap (structure name) (members_nothing t.0 fs ps part n), t.2, t.3)

      by : (x : Shape) → Spells (region_shape old) x v source (i + from) → i + from + size x ≤ length source
          → Done new (Structure name fs) (structure name (carry_members old new keeping fs ps (field_before name (Some (x, v))) t.0)) im (MV (moves.structure_moves name fs f x from to) i j im) (j + to)
      by (Elementary d) s p = stay (field_before name (Some (Elementary d, v))) (λ g. refl)
      by (Enumeration n vs) s p = stay (field_before name (Some (Enumeration n vs, v))) (λ g. refl)
      by (Reference c n) s p = stay (field_before name (Some (Reference c n, v))) (λ g. refl)
      by (Interface k n) s p = stay (field_before name (Some (Interface k n, v))) (λ g. refl)
      by (Array l m y) s p = stay (field_before name (Some (Array l m y, v))) (λ g. refl)
      by (Instance d n gs) s p = stay (field_before name (Some (Instance d n gs, v))) (λ g. refl)
      by (Structure n gs) s p =
          subst (λ u. Done new (Structure name fs) (structure name (carry_members old new keeping fs ps (field_before name (Some (Structure n gs, u))) t.0)) im (MV (moves.structure_moves name fs f (Structure n gs) from to) i j im) (j + to)) (sym s.1) (go (same n name))
        where
          go : (b : Bool) → Done new (Structure name fs) (structure name (carry_members old new keeping fs ps (λ g. if b then old_field gs s.0 g else None) t.0)) im
              (MV (if b then then_moves (f gs from to) (moves.end_moves (greatest fs) (ending 0 fs) (greatest gs) (ending 0 gs) from to) else no_moves) i j im) (j + to)
          go false = stay (λ g. None) (λ g. refl)
          go true =
              let e : i + from + ending 0 gs ≤ length source = omega arith in
              let d = block_done fs 0 0 (greatest fs) (greatest gs) ps f F gs (λ g. old_field gs s.0 g) t.0 from to i j im (λ g. old_looks gs 0 s.0 g (i + from) s.2 e) s.3 (omega arith) t.2 t.3 (omega arith) in
              record { stays = wider (j + to) (size (Structure name fs)) (omega arith) (omega arith) d.stays; spells = (carry_members old new keeping fs ps (λ g. old_field gs s.0 g) t.0, refl, d.spells, d.blank) }

  -- ---- instances

  class_done : (c d from to i j : ℕ) (im : List ℕ) → Holds Ulint (pos d) source (i + from) → Holds Ulint (pos c) im (j + to) → i + from + 8 ≤ length source → j + to + 8 ≤ length im
      → Holds Ulint (pos c) (MV (moves.class_moves c d from to) i j im) (j + to) × Stays im (MV (moves.class_moves c d from to) i j im) (j + to) 8
  class_done c d from to i j im s h p q = by (nat_eq c d) refl
    where
      by : (b : Bool) → nat_eq c d ≡ b → Holds Ulint (pos c) (MV (if b then one (copy from to 8) else no_moves) i j im) (j + to) × Stays im (MV (if b then one (copy from to 8) else no_moves) i j im) (j + to) 8
      by true e = number_copied relocated_as source Ulint (pos c) from to 8 i j im refl (subst (λ k. Holds Ulint (pos k) source (i + from)) (sym (eqb-true c d e)) s) p q
      by false e = (h, same_stays im (j + to) 8)

  instance_done : (c : ℕ) (name : List ℕ) (fs : Fields) (f : Fields → ℕ → ℕ → Moves) → CarriesFields fs 8 8 (class_pairs old new c) f → CarriesAll (Instance c name fs) (moves.instance_moves c name fs f)
  instance_done c name fs f F x v h from to i j im s t p q = subst (λ u. Done new (Instance c name fs) (carry old new keeping (Instance c name fs) (Some (x, v)) u) im (MV (moves.instance_moves c name fs f x from to) i j im) (j + to)) (sym t.1) (by x s p)
    where
      ps : Pairs
      ps = class_pairs old new c

      stay : (part : List ℕ → Old) → ((g : List ℕ) → part g ≡ None) → Done new (Instance c name fs) (instance name (carry_members old new keeping fs ps part t.0)) im im (j + to)
      stay part n = nothing_done new (Instance c name fs) _ im (j + to) (t.0, ap (instance name) (members_nothing t.0 fs ps part n), t.2, t.3, t.4)

      by : (x : Shape) → Spells (region_shape old) x v source (i + from) → i + from + size x ≤ length source
          → Done new (Instance c name fs) (instance name (carry_members old new keeping fs ps (variable_before name (Some (x, v))) t.0)) im (MV (moves.instance_moves c name fs f x from to) i j im) (j + to)
      by (Elementary d) s p = stay (variable_before name (Some (Elementary d, v))) (λ g. refl)
      by (Enumeration n vs) s p = stay (variable_before name (Some (Enumeration n vs, v))) (λ g. refl)
      by (Reference k n) s p = stay (variable_before name (Some (Reference k n, v))) (λ g. refl)
      by (Interface k n) s p = stay (variable_before name (Some (Interface k n, v))) (λ g. refl)
      by (Array l m y) s p = stay (variable_before name (Some (Array l m y, v))) (λ g. refl)
      by (Structure n gs) s p = stay (variable_before name (Some (Structure n gs, v))) (λ g. refl)
      by (Instance d n gs) s p =
          subst (λ u. Done new (Instance c name fs) (instance name (carry_members old new keeping fs ps (variable_before name (Some (Instance d n gs, u))) t.0)) im (MV (moves.instance_moves c name fs f (Instance d n gs) from to) i j im) (j + to)) (sym s.1) (go (same n name))
        where
          go : (b : Bool) → Done new (Instance c name fs) (instance name (carry_members old new keeping fs ps (λ g. if b then old_field gs s.0 g else None) t.0)) im
              (MV (if b then then_moves (moves.class_moves c d from to) (then_moves (f gs from to) (moves.end_moves 8 (ending 8 fs) 8 (ending 8 gs) from to)) else no_moves) i j im) (j + to)
          go false = stay (λ g. None) (λ g. refl)
          go true =
              let high : 8 ≤ ending 8 fs = ending_above fs 8 in
              let old_high : 8 ≤ ending 8 gs = ending_above gs 8 in
              let e : i + from + ending 8 gs ≤ length source = omega arith in
              let C = moves.class_moves c d from to in
              let B = then_moves (f gs from to) (moves.end_moves 8 (ending 8 fs) 8 (ending 8 gs) from to) in
              let cd = class_done c d from to i j im s.2 t.2 (omega arith) (omega arith) in
              let im1 = MV C i j im in
              let k = block_done fs 8 8 8 8 ps f F gs (λ g. old_field gs s.0 g) t.0 from to i j im1 (λ g. old_looks gs 8 s.0 g (i + from) s.3 e) s.4 (omega arith)
              (each_stays fs 8 t.0 im im1 (j + to) (j + to) 8 cd.1 (inr (omega arith)) t.3) (blank_stays im im1 (j + to + ending 8 fs) (gap 8 (ending 8 fs)) (j + to) 8 cd.1 (inr (omega arith)) t.4) (omega (arith, cd.1.long)) in
              let im2 = MV B i j im1 in
              let whole : MV (then_moves C B) i j im ≡ im2 = then_moved relocated_as source C B i j im in
              subst (λ y. Done new (Instance c name fs) (instance name (carry_members old new keeping fs ps (λ g. old_field gs s.0 g) t.0)) im y (j + to)) (sym whole) (record {
                stays = then_stays (wider (j + to) (size (Instance c name fs)) (omega arith) (omega arith) cd.1) (wider (j + to) (size (Instance c name fs)) (omega arith) (omega arith) k.stays);
                spells = (carry_members old new keeping fs ps (λ g. old_field gs s.0 g) t.0, refl, holds_stays Ulint (pos c) im1 im2 (j + to) (j + to + 8) _ k.stays (inl (omega arith)) cd.0, k.spells, k.blank);
              })

  -- ---- arrays

  array_done : (low : ℤ) (n : ℕ) (sh : Shape) (f : Shape → ℕ → ℕ → Moves) → CarriesAll sh f → CarriesAll (Array low n sh) (moves.array_moves low n sh f)
  array_done low n sh f H x v h from to i j im s t p q = subst (λ u. Done new (Array low n sh) (carry old new keeping (Array low n sh) (Some (x, v)) u) im (MV (moves.array_moves low n sh f x from to) i j im) (j + to)) (sym t.1) (by x s p)
    where
      stay : (o : Old) → ((k : ℤ) → old_element o k ≡ None) → Done new (Array low n sh) (array low (carry_elements old new keeping sh o low t.0)) im im (j + to)
      stay o e = nothing_done new (Array low n sh) _ im (j + to) (t.0, ap (array low) (elements_stay old new aim relocated_as keeping rel source t.0 sh o low e), t.2, t.3)

      by : (x : Shape) → Spells (region_shape old) x v source (i + from) → i + from + size x ≤ length source
          → Done new (Array low n sh) (array low (carry_elements old new keeping sh (Some (x, v)) low t.0)) im (MV (moves.array_moves low n sh f x from to) i j im) (j + to)
      by (Elementary d) s p = stay (Some (Elementary d, v)) (λ k. refl)
      by (Enumeration m vs) s p = stay (Some (Enumeration m vs, v)) (λ k. refl)
      by (Reference c m) s p = stay (Some (Reference c m, v)) (λ k. refl)
      by (Interface c m) s p = stay (Some (Interface c m, v)) (λ k. refl)
      by (Structure m gs) s p = stay (Some (Structure m gs, v)) (λ k. refl)
      by (Instance d m gs) s p = stay (Some (Instance d m gs, v)) (λ k. refl)
      by (Array l m y) s p =
          subst (λ u. Done new (Array low n sh) (array low (carry_elements old new keeping sh (Some (Array l m y, u)) low t.0)) im (MV (moves.array_moves low n sh f (Array l m y) from to) i j im) (j + to)) (sym s.1)
          (array_row old new aim relocated_as keeping rel source low l n m sh y (f y 0 0) s.0 t.0 from to i j im one_element s.2 s.3 t.2 t.3 p q)
        where
          one_element : (v h : Value) (i j : ℕ) (im : List ℕ) → Spells (region_shape old) y v source i → Spells (region_shape new) sh h im j → i + size y ≤ length source → j + size sh ≤ length im
              → Done new sh (carry old new keeping sh (Some (y, v)) h) im (MV (f y 0 0) i j im) j
          one_element v h i j im s t p q =
              let a : i ≡ i + 0 = omega arith in
              let b : j ≡ j + 0 = omega arith in
              subst (λ k. Done new sh (carry old new keeping sh (Some (y, v)) h) im (MV (f y 0 0) i j im) k) (sym b) (H y v h 0 0 i j im (subst (Spells (region_shape old) y v source) a s) (subst (Spells (region_shape new) sh h im) b t) (omega arith) (omega arith))

  -- ---- whole values

  mutual
    value_done : (sh : Shape) → CarriesAll sh (moves.moves_of old new aim keeping sh)
    value_done (Elementary e) = λ x v h from to i j im s t p q. number_done old new aim relocated_as keeping rel source e x v h from to i j im s t p q
    value_done (Enumeration name values) = λ x v h from to i j im s t p q. enumerator_done old new aim relocated_as keeping rel source name values x v h from to i j im s t p q
    value_done (Reference c name) = λ x v h from to i j im s t p q.
        let d = reference_done old new aim relocated_as keeping rel source (type.Reference c) (inl (c, refl)) x v t.0 from to i j im s q in
        subst (λ u. Done new (Reference c name) (carry old new keeping (Reference c name) (Some (x, v)) u) im (MV (moves.moves_of old new aim keeping (Reference c name) x from to) i j im) (j + to)) (sym t.1) (record { stays = d.stays; spells = (d.path, d.is, d.holds) })
    value_done (Interface c name) = λ x v h from to i j im s t p q.
        let d = reference_done old new aim relocated_as keeping rel source (type.Interface c) (inr (c, refl)) x v t.0 from to i j im s q in
        subst (λ u. Done new (Interface c name) (carry old new keeping (Interface c name) (Some (x, v)) u) im (MV (moves.moves_of old new aim keeping (Interface c name) x from to) i j im) (j + to)) (sym t.1) (record { stays = d.stays; spells = (d.path, d.is, d.holds) })
    value_done (Array low n sh) = array_done low n sh (moves.moves_of old new aim keeping sh) (value_done sh)
    value_done (Structure name fs) = structure_done name fs (moves.fields_moves old new aim keeping 0 0 fs (structure_pairs old new name)) (fields_done fs 0 0 (structure_pairs old new name))
    value_done (Instance c name fs) = instance_done c name fs (moves.fields_moves old new aim keeping 8 8 fs (class_pairs old new c)) (fields_done fs 8 8 (class_pairs old new c))

    fields_done : (fs : Fields) (at start : ℕ) (ps : Pairs) → CarriesFields fs at start ps (moves.fields_moves old new aim keeping at start fs ps)
    fields_done no_fields at start ps = λ gs part hs from to i j im lk s q.
        subst (λ u. FieldsDone no_fields at (carry_members old new keeping no_fields ps part u) im im (j + to)) (sym s) (record { stays = same_stays im _ _; spells = refl })
    fields_done (field_then v sh fs) at start ps = next_done v sh fs at start ps (moves.moves_of old new aim keeping sh) (value_done sh) (moves.fields_moves old new aim keeping (at + gap (alignment sh) at + size sh) start fs ps) (fields_done fs (at + gap (alignment sh) at + size sh) start ps)

  pub carries : (sh x : Shape) (v held : Value) (image : List ℕ) (i j : ℕ) → Spells (region_shape old) x v source i → Spells (region_shape new) sh held image j → i + size x ≤ length source → j + size sh ≤ length image
      → Spelled new sh (carry old new keeping sh (Some (x, v)) held) image (MV (moves.moves_of old new aim keeping sh x 0 0) i j image) j
  carries sh x v held image i j s t p q =
      let a : i ≡ i + 0 = omega arith in
      let b : j ≡ j + 0 = omega arith in
      let d = subst (λ k. Done new sh (carry old new keeping sh (Some (x, v)) held) image (MV (moves.moves_of old new aim keeping sh x 0 0) i j image) k) (sym b)
      (value_done sh x v held 0 0 i j image (subst (Spells (region_shape old) x v source) a s) (subst (Spells (region_shape new) sh held image) b t) (omega arith) (omega arith)) in
      record { long = d.stays.long; keeps = keeps_of d.stays; spells = d.spells }
