-- Locals of open calls: what is read and written in them.
use Rattle.std.proofs.Common.{◌≡◌, ◌≢◌, ◌≤◌, ◌<◌, ◌⊎◌, ℕ, zero, suc, ◌+◌, ℤ, Bool, true, false, List, [], ◌∷◌, length, Option, Some, None, refl, sym, ap, ◌∙◌, subst, arith, inl, inr, ⊎_elim}
use Rattle.std.specs.Prelude.{slice_range, if◌then◌else◌, slice_get, slice_set, nat_eq}
use Rattle.std.proofs.lemmas.Bool.{eqb-true, eq-eqb, ne_eqb}
use Rattle.mem_image.proofs.PartLaws.{length-range, range_of_range}
use Rattle.st_types.specs.declared.elem.Elem.{Elem}
use Rattle.st_types.specs.Elem.{bytes}
use Rattle.st_types.specs.declared.elem.Elem.TheVariants as elem
use Rattle.mem_image.specs.Laws.{AreApart}
use Rattle.st_values.specs.Program.{Variable, Program}
use Rattle.st_values.specs.Value.{Value, number, ◌>>=◌}
use Rattle.st_values.specs.Shape.{Shape, Elementary, Enumeration, shape_of, region_shape}
use Rattle.st_values.proofs.ValueLaws.{then_some}
use Rattle.st_meaning.specs.State.{Spot, in_store, in_frame, Slot, holds, bound, unbound, Frame, frame_at, frames_with}
use Rattle.st_meaning.specs.Call.{is_in_out}
use Rattle.stack_code.specs.declared.memory.Space.TheVariants.{Locals}
use Rattle.mem_layout.specs.store_bytes.Place.{size, Place, inner_place}
use Rattle.mem_layout.specs.store_bytes.Spells.{Holds, Spells}
use Rattle.mem_layout.specs.store_bytes.StoreLaws.{IsNumber, Keeps}
use Rattle.mem_layout.proofs.store_bytes.Moves.{Same, kept_same, holds_moved, moved}
use Rattle.mem_layout.proofs.store_bytes.Store.{get_set_same, get_set_other}
use Rattle.code_rules.specs.Places.{width, size_in, local_offset, locals_end}
use Rattle.shown_memory.specs.Shown.{BlockAt, Kept, AllKept, Open, Layout, layouts, layout_at, local_place, in_layout, Located, located, SlotShown, SlotsShown, FramesShown}

-- a number that is spelled
pub number_spelled : (regions : ℕ → Option Shape) (sh : Shape) (e : Elem) (v : Value) (image : List ℕ) (i : ℕ) → IsNumber sh e → Spells regions sh v image i → (z : ℤ) × (v ≡ number z) × Holds e z image i
number_spelled regions (Elementary k) e v image i h s = subst (λ x. (z : ℤ) × (v ≡ number z) × Holds x z image i) h s
number_spelled regions (Enumeration n vs) e v image i h s = subst (λ x. (z : ℤ) × (v ≡ number z) × Holds x z image i) (sym h) s
number_spelled regions sh e v image i h s = absurd h

pub spelled_number : (regions : ℕ → Option Shape) (sh : Shape) (e : Elem) (z : ℤ) (image : List ℕ) (i : ℕ) → IsNumber sh e → Holds e z image i → Spells regions sh (number z) image i
spelled_number regions (Elementary k) e z image i h s = (z, refl, subst (λ x. Holds x z image i) (sym h) s)
spelled_number regions (Enumeration n vs) e z image i h s = (z, refl, subst (λ x. Holds x z image i) h s)
spelled_number regions sh e z image i h s = absurd h

pub number_size : (sh : Shape) (e : Elem) → IsNumber sh e → size sh ≡ bytes e
number_size (Elementary k) e h = ap bytes h
number_size (Enumeration n vs) e h = ap bytes (sym h)
number_size sh e h = absurd h

pub some_once : {A : Type 0} {a b : A} → Some a ≡ Some b → a ≡ b
some_once e = cc

clash : true ≡ false → ⊥
clash e = cc

pub same_length : (ks : List Open) → length (layouts ks) ≡ length ks
same_length [] = refl
same_length (k ∷ ks) = ap suc (same_length ks)

module _ (p : Program) (base : ℕ) where
  pub as_many : (ks : List Open) (fs : List Frame) (images : List (List ℕ)) → FramesShown p base ks fs images → length ks ≡ length fs
  as_many [] [] images h = refl
  as_many [] (f ∷ fs) images h = absurd h
  as_many (k ∷ ks) [] images h = absurd h
  as_many (k ∷ ks) (f ∷ fs) images h = ap suc (as_many ks fs images h.1)

  -- a local that holds a value
  pub record Local (ss : List Slot) (n : ℕ) (x : Place) (image : List ℕ) (low high : ℕ) : Type 0 where
    pub value : Value
    pub there : slice_get ss n ≡ Some (holds value)
    pub spells : Spells (region_shape p) x.shape value image x.offset
    pub above : low ≤ x.offset
    pub below : x.offset + size x.shape ≤ high

  pub end_above : (vs : List Variable) (i : ℕ) → i ≤ locals_end p i vs
  end_above [] i = omega arith
  end_above (v ∷ vs) i = let h = end_above vs (i + width p v) in omega (arith, h)

  pub offset_above : (vs : List Variable) (i n : ℕ) → i ≤ local_offset p i vs n
  offset_above [] i n = omega arith
  offset_above (v ∷ vs) i zero = omega arith
  offset_above (v ∷ vs) i (suc n) = let h = offset_above vs (i + width p v) n in omega (arith, h)

  pub offset_below : (vs : List Variable) (i n : ℕ) (v : Variable) → slice_get vs n ≡ Some v → local_offset p i vs n + width p v ≤ locals_end p i vs
  offset_below [] i n v e = cc
  offset_below (x ∷ vs) i zero v e = let d : x ≡ v = cc in let wide : width p x ≡ width p v = ap (width p) d in let l = end_above vs (i + width p x) in omega (arith, l, wide)
  offset_below (x ∷ vs) i (suc n) v e = offset_below vs (i + width p x) n v e

  pub slot_found : (ls : List Layout) (vs : List Variable) (ss : List Slot) (image : List ℕ) (i n : ℕ) (x : Place) → SlotsShown p base ls vs ss image i → local_place p base i vs n ≡ Some x → Local ss n x image i (locals_end p i vs)
  slot_found ls [] ss image i n x h e = cc
  slot_found ls (v ∷ vs) [] image i n x h e = absurd h
  slot_found ls (v ∷ vs) (s ∷ ss) image i (suc n) x h e =
      let a = slot_found ls vs ss image (i + width p v) n x h.1 e in
      let b = a.above in
      record { value = a.value; there = a.there; spells = a.spells; above = omega (arith, b); below = a.below }
  slot_found ls (v ∷ vs) (s ∷ ss) image i zero x h e = by (is_in_out v.sort) refl s h.0 e
    where
      by : (b : Bool) → is_in_out v.sort ≡ b → (s : Slot) → SlotShown p base ls v s image i → (if b then None else (shape_of p v.kind >>= λ sh. Some (record { offset = i; shape = sh }))) ≡ Some x → Local (s ∷ ss) zero x image i (locals_end p (i + width p v) vs)
      by true q s h e = cc
      by false q (bound spot) h e = let c : true ≡ false = sym h.0 ∙ q in cc
      by false q unbound h e = let c : true ≡ false = sym h.0 ∙ q in cc
      by false q (holds w) h e =
          let o = then_some (shape_of p v.kind) (λ sh. Some (record { offset = i; shape = sh })) x e in
          let is : record { offset = i; shape = o.0 } ≡ x = let c : Some _ ≡ Some x = o.2 in cc in
          let sh = h.1.0 in
          let same : sh ≡ o.0 = let c : Some sh ≡ Some o.0 = sym h.1.1 ∙ o.1 in cc in
          let wide : width p v ≡ size o.0 = ap (λ b. if b then 8 else size_in (shape_of p v.kind)) q ∙ ap size_in o.1 in
          let last = end_above vs (i + width p v) in
          subst (λ (x : Place). Local (holds w ∷ ss) zero x image i (locals_end p (i + width p v) vs)) is
          (record { value = w; there = refl; spells = subst (λ y. Spells (region_shape p) y w image i) same h.1.2; above = omega arith; below = omega (arith, wide, last) })

  -- the local of an open call
  pub record FoundBy (o : Option Frame) (images : List (List ℕ)) (d n : ℕ) (x : Place) : Type 0 where
    pub frame : Frame
    pub image : List ℕ
    pub value : Value
    pub in_frames : o ≡ Some frame
    pub in_images : slice_get images (base + d) ≡ Some image
    pub in_locals : slice_get frame.locals n ≡ Some (holds value)
    pub spells : Spells (region_shape p) x.shape value image x.offset
    pub within : x.offset + size x.shape ≤ length image
    pub short : length image < 4294967296

  pub found : (ks : List Open) (fs : List Frame) (images : List (List ℕ)) (d n : ℕ) (x : Place) → FramesShown p base ks fs images → in_layout p base (layout_at (layouts ks) d) n ≡ Some x → FoundBy (frame_at fs d) images d n x
  found [] fs images d n x h e = cc
  found (k ∷ ks) [] images d n x h e = absurd h
  found (k ∷ ks) (f ∷ fs) images d n x h e =
      by (nat_eq d (length (layouts ks))) (nat_eq d (length fs)) (ap (nat_eq d) (same_length ks ∙ as_many ks fs images h.1)) (λ t. eqb-true d (length (layouts ks)) t ∙ same_length ks) e (found ks fs images d n x h.1)
    where
      by : (b c : Bool) → b ≡ c → (b ≡ true → d ≡ length ks) → in_layout p base (if b then Some (record { start = k.start; locals = k.scope.locals }) else layout_at (layouts ks) d) n ≡ Some x → (in_layout p base (layout_at (layouts ks) d) n ≡ Some x → FoundBy (frame_at fs d) images d n x)
          → FoundBy (if c then Some f else frame_at fs d) images d n x
      by true true q t e g =
          let a = slot_found (layouts ks) k.scope.locals f.locals h.0.image k.start n x h.0.slots e in
          let low = h.0.low in
          let room = h.0.room in
          let long = h.0.long in
          let high = a.below in
          let short = h.0.short in
          record { frame = f; image = h.0.image; value = a.value; in_frames = refl; in_images = ap (λ j. slice_get images (base + j)) (t refl) ∙ h.0.there; in_locals = a.there; spells = a.spells; within = omega (arith, low, room, long, high); short = omega (arith, long, short) }
      by false false q t e g = let a = g e in record { frame = a.frame; image = a.image; value = a.value; in_frames = a.in_frames; in_images = a.in_images; in_locals = a.in_locals; spells = a.spells; within = a.within; short = a.short }
      by true false q t e g = cc
      by false true q t e g = cc

  pub block_stays : (image image' : List ℕ) (a m : ℕ) → Keeps image image' a m → (o : Option ℕ) (start : ℕ) → start ≤ a → BlockAt p base o start image → BlockAt p base o start image'
  block_stays image image' a m keeps None start h k = tt
  block_stays image image' a m keeps (Some w) start h k = let b = k.0 in (k.0, holds_moved {e = elem.Ulint} (kept_same keeps 0 0 8 (inl (omega (arith, h, b)))) k.1)

  -- ---- a local that is replaced

  module _ (image image' : List ℕ) (a m : ℕ) (keeps : Keeps image image' a m) where
    same : (n i : ℕ) → (i + n ≤ a) ⊎ (a + m ≤ i) → Same image image' i i 0 n
    same n i h = kept_same keeps i 0 n (⊎_elim (λ k. inl k) (λ k. inr (omega (arith, k))) h)

    pub slot_moved : (ls : List Layout) (v : Variable) (s : Slot) (i : ℕ) → (i + width p v ≤ a) ⊎ (a + m ≤ i) → SlotShown p base ls v s image i → SlotShown p base ls v s image' i
    slot_moved ls v (holds w) i h k =
        let wide : width p v ≡ size k.1.0 = ap (λ b. if b then 8 else size_in (shape_of p v.kind)) k.0 ∙ ap size_in k.1.1 in
        (k.0, (k.1.0, k.1.1, moved (region_shape p) k.1.0 w image image' i i (subst (λ n. Same image image' i i 0 n) wide (same (width p v) i h)) k.1.2))
    slot_moved ls v (bound spot) i h k =
        let wide : width p v ≡ 8 = ap (λ b. if b then 8 else size_in (shape_of p v.kind)) k.0 in
        (k.0, record { there = k.1.there; is = k.1.is; holds_word = holds_moved {e = elem.Ulint} (subst (λ n. Same image image' i i 0 n) wide (same (width p v) i h)) k.1.holds_word })
    slot_moved ls v unbound i h k =
        let wide : width p v ≡ 8 = ap (λ b. if b then 8 else size_in (shape_of p v.kind)) k.0 in
        (k.0, holds_moved {e = elem.Ulint} (subst (λ n. Same image image' i i 0 n) wide (same (width p v) i h)) k.1)

    pub slots_behind : (ls : List Layout) (vs : List Variable) (ss : List Slot) (i : ℕ) → a + m ≤ i → SlotsShown p base ls vs ss image i → SlotsShown p base ls vs ss image' i
    slots_behind ls [] [] i h k = tt
    slots_behind ls [] (s ∷ ss) i h k = absurd k
    slots_behind ls (v ∷ vs) [] i h k = absurd k
    slots_behind ls (v ∷ vs) (s ∷ ss) i h k = (slot_moved ls v s i (inr h) k.0, slots_behind ls vs ss (i + width p v) (omega (arith, h)) k.1)

    all_kept : (low high : ℕ) (xs : List Kept) → a + m ≤ low → AllKept p base image low high xs → AllKept p base image' low high xs
    all_kept low high [] h k = tt
    all_kept low high (x ∷ xs) h k =
        let from = k.0.above in
        (record { above = k.0.above; below = k.0.below; stands = keeps.by x.from (length x.bytes) (apart x.from (length x.bytes) (omega (arith, h, from))) ∙ k.0.stands }, all_kept low x.from xs h k.1)
      where
        apart : (j n : ℕ) → a + m ≤ j → AreApart a m j n
        apart j n h = inl h

    slots_put : (ls : List Layout) (vs : List Variable) (ss : List Slot) (i n : ℕ) (x : Place) (new : Value) → SlotsShown p base ls vs ss image i → local_place p base i vs n ≡ Some x → x.offset ≤ a → a + m ≤ x.offset + size x.shape → Spells (region_shape p) x.shape new image' x.offset
        → SlotsShown p base ls vs (slice_set ss n (holds new)) image' i
    slots_put ls [] ss i n x new h e l u s = cc
    slots_put ls (v ∷ vs) [] i n x new h e l u s = absurd h
    slots_put ls (v ∷ vs) (t ∷ ss) i (suc n) x new h e l u s =
        let b = (slot_found ls vs ss image (i + width p v) n x h.1 e).above in
        (slot_moved ls v t i (inl (omega (arith, b, l))) h.0, slots_put ls vs ss (i + width p v) n x new h.1 e l u s)
    slots_put ls (v ∷ vs) (t ∷ ss) i zero x new h e l u s = by (is_in_out v.sort) refl e
      where
        by : (b : Bool) → is_in_out v.sort ≡ b → (if b then None else (shape_of p v.kind >>= λ sh. Some (record { offset = i; shape = sh }))) ≡ Some x → SlotShown p base ls v (holds new) image' i × SlotsShown p base ls vs ss image' (i + width p v)
        by true q e = cc
        by false q e =
            let o = then_some (shape_of p v.kind) (λ sh. Some (record { offset = i; shape = sh })) x e in
            let is : record { offset = i; shape = o.0 } ≡ x = let c : Some _ ≡ Some x = o.2 in cc in
            let wide : width p v ≡ size o.0 = ap (λ b. if b then 8 else size_in (shape_of p v.kind)) q ∙ ap size_in o.1 in
            let end : x.offset + size x.shape ≡ i + size o.0 = sym (ap (λ (y : Place). y.offset + size y.shape) is) in
            let here = subst (λ (y : Place). Spells (region_shape p) y.shape new image' y.offset) (sym is) s in
            ((q, (o.0, o.1, here)), slots_behind ls vs ss (i + width p v) (omega (arith, u, end, wide)) h.1)

    -- a slot is given what the new bytes show
    pub slot_given : (ls : List Layout) (vs : List Variable) (ss : List Slot) (i n : ℕ) (v : Variable) (slot : Slot) → SlotsShown p base ls vs ss image i → slice_get vs n ≡ Some v → a ≡ local_offset p i vs n → m ≡ width p v → SlotShown p base ls v slot image' (local_offset p i vs n) → SlotsShown p base ls vs (slice_set ss n slot) image' i
    slot_given ls [] ss i n v slot h e q w k = cc
    slot_given ls (x ∷ vs) [] i n v slot h e q w k = absurd h
    slot_given ls (x ∷ vs) (s ∷ ss) i zero v slot h e q w k =
        let d : x ≡ v = cc in
        let wide : width p x ≡ width p v = ap (width p) d in
        (subst (λ y. SlotShown p base ls y slot image' i) (sym d) k, slots_behind ls vs ss (i + width p x) (omega (arith, q, w, wide)) h.1)
    slot_given ls (x ∷ vs) (s ∷ ss) i (suc n) v slot h e q w k =
        let b = offset_above vs (i + width p x) n in
        (slot_moved ls x s i (inl (omega (arith, b, q))) h.0, slot_given ls vs ss (i + width p x) n v slot h.1 e q w k)

  -- images of deeper calls do not matter
  pub frames_other : (ks : List Open) (fs : List Frame) (images : List (List ℕ)) (j : ℕ) (image' : List ℕ) → base + length ks ≤ j → FramesShown p base ks fs images → FramesShown p base ks fs (slice_set images j image')
  frames_other [] [] images j image' l h = tt
  frames_other [] (f ∷ fs) images j image' l h = absurd h
  frames_other (k ∷ ks) [] images j image' l h = absurd h
  frames_other (k ∷ ks) (f ∷ fs) images j image' l h =
      let g = h.0 in
      (record { image = g.image; there = get_set_other images j (base + length ks) image' (λ e. absurd (omega (arith, l, e))) ∙ g.there; long = g.long; own = g.own; block = g.block; slots = g.slots; low = g.low; room = g.room; short = g.short; kept = g.kept }, frames_other ks fs images j image' (omega (arith, l)) h.1)

  pub frames_put : (ks : List Open) (fs : List Frame) (images : List (List ℕ)) (d n : ℕ) (x : Place) (image image' : List ℕ) (frame : Frame) (a m : ℕ) (new : Value) → FramesShown p base ks fs images → in_layout p base (layout_at (layouts ks) d) n ≡ Some x
      → frame_at fs d ≡ Some frame → slice_get images (base + d) ≡ Some image → length image' ≡ length image → Keeps image image' a m → x.offset ≤ a → a + m ≤ x.offset + size x.shape → Spells (region_shape p) x.shape new image' x.offset
      → FramesShown p base ks (frames_with fs d (record frame { locals = slice_set frame.locals n (holds new) })) (slice_set images (base + d) image')
  frames_put [] fs images d n x image image' frame a m new h e f g long keeps l u s = cc
  frames_put (k ∷ ks) [] images d n x image image' frame a m new h e f g long keeps l u s = absurd h
  frames_put (k ∷ ks) (y ∷ fs) images d n x image image' frame a m new h e f g long keeps l u s =
      by (nat_eq d (length (layouts ks))) (nat_eq d (length fs)) (ap (nat_eq d) (same_length ks ∙ as_many ks fs images h.1)) refl e f (frames_put ks fs images d n x image image' frame a m new h.1)
    where
      by : (b c : Bool) → b ≡ c → nat_eq d (length (layouts ks)) ≡ b → in_layout p base (if b then Some (record { start = k.start; locals = k.scope.locals }) else layout_at (layouts ks) d) n ≡ Some x → (if c then Some y else frame_at fs d) ≡ Some frame
          → (in_layout p base (layout_at (layouts ks) d) n ≡ Some x → frame_at fs d ≡ Some frame → slice_get images (base + d) ≡ Some image → length image' ≡ length image → Keeps image image' a m → x.offset ≤ a → a + m ≤ x.offset + size x.shape → Spells (region_shape p) x.shape new image' x.offset → FramesShown p base ks (frames_with fs d (record frame { locals = slice_set frame.locals n (holds new) })) (slice_set images (base + d) image'))
          → FramesShown p base (k ∷ ks) (if c then record frame { locals = slice_set frame.locals n (holds new) } ∷ fs else y ∷ frames_with fs d (record frame { locals = slice_set frame.locals n (holds new) })) (slice_set images (base + d) image')
      by true true q t e f ih =
          let o = h.0 in
          let same_d : d ≡ length ks = eqb-true d (length (layouts ks)) t ∙ same_length ks in
          let same_y : y ≡ frame = cc in
          let same_image : o.image ≡ image = some_once (sym o.there ∙ (ap (λ j. slice_get images (base + j)) (sym same_d) ∙ g)) in
          let slots = subst (λ i. SlotsShown p base (layouts ks) k.scope.locals frame.locals i k.start) same_image (subst (λ (z : Frame). SlotsShown p base (layouts ks) k.scope.locals z.locals o.image k.start) same_y o.slots) in
          let last = (slot_found (layouts ks) k.scope.locals frame.locals image k.start n x slots e).below in
          let start = (slot_found (layouts ks) k.scope.locals frame.locals image k.start n x slots e).above in (
            record {
              image = image';
              there = ap (λ j. slice_get (slice_set images (base + d) image') (base + j)) (sym same_d) ∙ get_set_same images (base + d) image' image g;
              long = long ∙ (ap length (sym same_image) ∙ o.long);
              own = ap (λ (z : Frame). z.own) (sym same_y) ∙ o.own;
              block = block_stays image image' a m keeps k.block k.start (omega (arith, start, l)) (subst (BlockAt p base k.block k.start) same_image o.block);
              slots = slots_put image image' a m keeps (layouts ks) k.scope.locals frame.locals k.start n x new slots e l u s;
              low = o.low;
              room = o.room;
              short = o.short;
              kept = all_kept image image' a m keeps (locals_end p k.start k.scope.locals) k.free k.kept (omega (arith, u, last)) (subst (λ i. AllKept p base i (locals_end p k.start k.scope.locals) k.free k.kept) same_image o.kept);
            },
            frames_other ks fs images (base + d) image' (omega (arith, same_d)) h.1,
          )
      by false false q t e f ih =
          let o = h.0 in
          let other : base + length ks ≢ base + d = λ w. let z = eq-eqb d (length (layouts ks)) (let r : d ≡ length ks = omega (arith, w) in r ∙ sym (same_length ks)) in absurd (clash (sym z ∙ t)) in
          (record { image = o.image; there = get_set_other images (base + d) (base + length ks) image' other ∙ o.there; long = o.long; own = o.own; block = o.block; slots = o.slots; low = o.low; room = o.room; short = o.short; kept = o.kept }, ih e f g long keeps l u s)
      by true false q t e f ih = cc
      by false true q t e f ih = cc

  -- ---- bytes that are kept behind the locals are written

  module _ (image image' : List ℕ) (a m : ℕ) (keeps : Keeps image image' a m) where
    pub slots_before : (ls : List Layout) (vs : List Variable) (ss : List Slot) (i : ℕ) → locals_end p i vs ≤ a → SlotsShown p base ls vs ss image i → SlotsShown p base ls vs ss image' i
    slots_before ls [] [] i h k = tt
    slots_before ls [] (s ∷ ss) i h k = absurd k
    slots_before ls (v ∷ vs) [] i h k = absurd k
    slots_before ls (v ∷ vs) (s ∷ ss) i h k =
        let e = end_above vs (i + width p v) in
        (slot_moved image image' a m keeps ls v s i (inl (omega (arith, h, e))) k.0, slots_before ls vs ss (i + width p v) h k.1)

    pub kept_before : (low high : ℕ) (xs : List Kept) → high ≤ a → AllKept p base image low high xs → AllKept p base image' low high xs
    kept_before low high [] h k = tt
    kept_before low high (x ∷ xs) h k =
        let e = k.0.below in
        (record { above = k.0.above; below = k.0.below; stands = keeps.by x.from (length x.bytes) (inr (omega (arith, h, e))) ∙ k.0.stands }, kept_before low x.from xs (omega (arith, h, e)) k.1)

  abbrev pub keeping : Open → ℕ → List ℕ → List Kept → Open
  keeping k block bytes rest = record k { kept = record { from = block; bytes = bytes } ∷ rest }

  pub block_there : (k : Open) (ks : List Open) (fs : List Frame) (images : List (List ℕ)) (block : ℕ) (bytes : List ℕ) (rest : List Kept) → FramesShown p base (keeping k block bytes rest ∷ ks) fs images
      → (image : List ℕ) × (slice_get images (base + length ks) ≡ Some image) × (block + length bytes ≤ length image) × (slice_range image block (block + length bytes) ≡ bytes)
  block_there k ks [] images block bytes rest h = absurd h
  block_there k ks (f ∷ fs) images block bytes rest h =
      let a = h.0.kept.0.below in
      let b = h.0.room in
      let c = h.0.long in
      (h.0.image, h.0.there, omega (arith, a, b, c), h.0.kept.0.stands)

  pub block_put : (k : Open) (ks : List Open) (fs : List Frame) (images : List (List ℕ)) (block : ℕ) (bytes : List ℕ) (rest : List Kept) (image image' : List ℕ) (at n : ℕ) → FramesShown p base (keeping k block bytes rest ∷ ks) fs images
      → slice_get images (base + length ks) ≡ Some image → length image' ≡ length image → Keeps image image' (block + at) n → at + n ≤ length bytes
      → FramesShown p base (keeping k block (slice_range image' block (block + length bytes)) rest ∷ ks) fs (slice_set images (base + length ks) image')
  block_put k ks [] images block bytes rest image image' at n h g long keeps fit = absurd h
  block_put k ks (f ∷ fs) images block bytes rest image image' at n h g long keeps fit =
      let o = h.0 in
      let x = o.kept.0 in
      let same_image : o.image ≡ image = some_once (sym o.there ∙ g) in
      let above = x.above in
      let under = x.below in
      let room = o.room in
      let o_long = o.long in
      let image_long : length image ≡ k.long = sym (ap length same_image) ∙ o.long in
      let long' : length (slice_range image' block (block + length bytes)) ≡ length bytes = length-range image' block (length bytes) (omega (arith, long, image_long, under, room)) in (
        record {
          image = image';
          there = get_set_same images (base + length ks) image' image g;
          long = long ∙ image_long;
          own = o.own;
          block = block_stays image image' (block + at) n keeps k.block k.start (let e = end_above k.scope.locals k.start in omega (arith, above, e)) (subst (BlockAt p base k.block k.start) same_image o.block);
          slots = slots_before image image' (block + at) n keeps (layouts ks) k.scope.locals f.locals k.start (omega (arith, above)) (subst (λ i. SlotsShown p base (layouts ks) k.scope.locals f.locals i k.start) same_image o.slots);
          low = o.low;
          room = o.room;
          short = o.short;
          kept = (
            record { above = x.above; below = omega (arith, long', under); stands = ap (λ j. slice_range image' block (block + j)) long' },
            kept_before image image' (block + at) n keeps (locals_end p k.start k.scope.locals) block rest (omega arith) (subst (λ i. AllKept p base i (locals_end p k.start k.scope.locals) block rest) same_image o.kept.1),
          );
        },
        frames_other ks fs images (base + length ks) image' (omega arith) h.1,
      )

  -- what is kept below the block is written
  pub below_put : (k : Open) (ks : List Open) (fs : List Frame) (images : List (List ℕ)) (block : ℕ) (bytes : List ℕ) (y : Kept) (behind : List Kept) (image image' : List ℕ) → FramesShown p base (keeping k block bytes (y ∷ behind) ∷ ks) fs images
      → slice_get images (base + length ks) ≡ Some image → length image' ≡ length image → Keeps image image' y.from (length y.bytes)
      → FramesShown p base (keeping k block bytes (record { from = y.from; bytes = slice_range image' y.from (y.from + length y.bytes) } ∷ behind) ∷ ks) fs (slice_set images (base + length ks) image')
  below_put k ks [] images block bytes y behind image image' h g long keeps = absurd h
  below_put k ks (f ∷ fs) images block bytes y behind image image' h g long keeps =
      let o = h.0 in
      let x = o.kept.0 in
      let z = o.kept.1.0 in
      let same_image : o.image ≡ image = some_once (sym o.there ∙ g) in
      let above = z.above in
      let under = z.below in
      let x_under = x.below in
      let room = o.room in
      let image_long : length image ≡ k.long = sym (ap length same_image) ∙ o.long in
      let long' : length (slice_range image' y.from (y.from + length y.bytes)) ≡ length y.bytes = length-range image' y.from (length y.bytes) (omega (arith, long, image_long, under, x_under, room)) in
      let stood : slice_range image block (block + length bytes) ≡ bytes = subst (λ i. slice_range i block (block + length bytes) ≡ bytes) same_image x.stands in (
        record {
          image = image';
          there = get_set_same images (base + length ks) image' image g;
          long = long ∙ image_long;
          own = o.own;
          block = block_stays image image' y.from (length y.bytes) keeps k.block k.start (let e = end_above k.scope.locals k.start in omega (arith, above, e)) (subst (BlockAt p base k.block k.start) same_image o.block);
          slots = slots_before image image' y.from (length y.bytes) keeps (layouts ks) k.scope.locals f.locals k.start above (subst (λ i. SlotsShown p base (layouts ks) k.scope.locals f.locals i k.start) same_image o.slots);
          low = o.low;
          room = o.room;
          short = o.short;
          kept = (
            record { above = x.above; below = x.below; stands = keeps.by block (length bytes) (inl under) ∙ stood },
            (
              record { above = z.above; below = omega (arith, long', under); stands = ap (λ j. slice_range image' y.from (y.from + j)) long' },
              kept_before image image' y.from (length y.bytes) keeps (locals_end p k.start k.scope.locals) y.from behind (omega arith) (subst (λ i. AllKept p base i (locals_end p k.start k.scope.locals) y.from behind) same_image o.kept.1.1),
            ),
          );
        },
        frames_other ks fs images (base + length ks) image' (omega arith) h.1,
      )

  -- more bytes are kept behind the locals of the innermost call
  pub kept_room : (n : ℕ) (k : Open) (ks : List Open) (fs : List Frame) (images : List (List ℕ)) (image image' : List ℕ) → FramesShown p base (k ∷ ks) fs images → slice_get images (base + length ks) ≡ Some image → length image' ≡ length image → Keeps image image' k.free n → k.free + n ≤ k.long
      → FramesShown p base (record k { free = k.free + n; kept = record { from = k.free; bytes = slice_range image' k.free (k.free + n) } ∷ k.kept } ∷ ks) fs (slice_set images (base + length ks) image')
  kept_room n k ks [] images image image' h g long keeps room = absurd h
  kept_room n k ks (f ∷ fs) images image image' h g long keeps room =
      let o = h.0 in
      let same_image : o.image ≡ image = some_once (sym o.there ∙ g) in
      let image_long : length image ≡ k.long = sym (ap length same_image) ∙ o.long in
      let low = o.low in
      let part : length (slice_range image' k.free (k.free + n)) ≡ n = length-range image' k.free n (omega (arith, long, image_long, room)) in (
        record {
          image = image';
          there = get_set_same images (base + length ks) image' image g;
          long = long ∙ image_long;
          own = o.own;
          block = block_stays image image' k.free n keeps k.block k.start (let e = end_above k.scope.locals k.start in omega (arith, low, e)) (subst (BlockAt p base k.block k.start) same_image o.block);
          slots = slots_before image image' k.free n keeps (layouts ks) k.scope.locals f.locals k.start o.low (subst (λ i. SlotsShown p base (layouts ks) k.scope.locals f.locals i k.start) same_image o.slots);
          low = omega (arith, low);
          room = room;
          short = o.short;
          kept = (
            record { above = o.low; below = omega (arith, part); stands = ap (λ j. slice_range image' k.free (k.free + j)) part },
            kept_before image image' k.free n keeps (locals_end p k.start k.scope.locals) k.free k.kept (omega arith) (subst (λ i. AllKept p base i (locals_end p k.start k.scope.locals) k.free k.kept) same_image o.kept),
          );
        },
        frames_other ks fs images (base + length ks) image' (omega arith) h.1,
      )

  pub kept_new : (k : Open) (ks : List Open) (fs : List Frame) (images : List (List ℕ)) (image image' : List ℕ) → FramesShown p base (k ∷ ks) fs images → slice_get images (base + length ks) ≡ Some image → length image' ≡ length image → Keeps image image' k.free 8 → k.free + 8 ≤ k.long
      → FramesShown p base (record k { free = k.free + 8; kept = record { from = k.free; bytes = slice_range image' k.free (k.free + 8) } ∷ k.kept } ∷ ks) fs (slice_set images (base + length ks) image')
  kept_new k ks fs images image image' h g long keeps room = kept_room 8 k ks fs images image image' h g long keeps room

  -- and no longer
  pub kept_less : (k : Open) (ks : List Open) (fs : List Frame) (images : List (List ℕ)) (free : ℕ) (x : Kept) (kept : List Kept) → x.from ≡ free → FramesShown p base (record k { kept = x ∷ kept } ∷ ks) fs images → FramesShown p base (record k { free = free; kept = kept } ∷ ks) fs images
  kept_less k ks [] images free x kept e h = absurd h
  kept_less k ks (f ∷ fs) images free x kept e h =
      let o = h.0 in
      let above = o.kept.0.above in
      let below = o.kept.0.below in
      let room = o.room in
      (record { image = o.image; there = o.there; long = o.long; own = o.own; block = o.block; slots = o.slots; low = omega (arith, above, e); room = omega (arith, below, e, room); short = o.short; kept = subst (λ n. AllKept p base o.image (locals_end p k.start k.scope.locals) n kept) e o.kept.1 }, h.1)

  -- what is kept at two places, one behind the other, as one
  pub record Joined (k : Open) (ks : List Open) (fs : List Frame) (images : List (List ℕ)) (from : ℕ) (xs ys : List ℕ) (rest : List Kept) : Type 0 where
    pub bytes : List ℕ
    pub long : length bytes ≡ length xs + length ys
    pub front : (j n : ℕ) → j + n ≤ length xs → slice_range bytes j (j + n) ≡ slice_range xs j (j + n)
    pub back : slice_range bytes (length xs) (length xs + length ys) ≡ ys
    pub frames : FramesShown p base (record k { kept = record { from = from; bytes = bytes } ∷ rest } ∷ ks) fs images

  pub kept_joined : (k : Open) (ks : List Open) (fs : List Frame) (images : List (List ℕ)) (from : ℕ) (xs ys : List ℕ) (rest : List Kept) → FramesShown p base (record k { kept = record { from = from + length xs; bytes = ys } ∷ (record { from = from; bytes = xs } ∷ rest) } ∷ ks) fs images → Joined k ks fs images from xs ys rest
  kept_joined k ks [] images from xs ys rest h = absurd h
  kept_joined k ks (f ∷ fs) images from xs ys rest h =
      let o = h.0 in
      let a = o.kept.0 in
      let b = o.kept.1.0 in
      let n = length xs + length ys in
      let below = a.below in
      let room = o.room in
      let long = o.long in
      let bytes = slice_range o.image from (from + n) in
      let size_is : length bytes ≡ n = length-range o.image from n (omega (arith, below, room, long)) in
      record {
        bytes = bytes;
        long = size_is;
        front = λ j m l. range_of_range o.image from n j m (omega (arith, l)) ∙ (sym (range_of_range o.image from (length xs) j m l) ∙ ap (λ i. slice_range i j (j + m)) b.stands);
        back = range_of_range o.image from n (length xs) (length ys) (omega arith) ∙ a.stands;
        frames = (record { image = o.image; there = o.there; long = o.long; own = o.own; block = o.block; slots = o.slots; low = o.low; room = o.room; short = o.short; kept = (record { above = b.above; below = omega (arith, below, size_is); stands = ap (λ j. slice_range o.image from (from + j)) size_is }, o.kept.1.1) }, h.1);
      }

  -- the first bytes of what is kept, where the others are no longer of use
  pub record Cut (k : Open) (ks : List Open) (fs : List Frame) (images : List (List ℕ)) (from n : ℕ) (xs : List ℕ) (rest : List Kept) : Type 0 where
    pub bytes : List ℕ
    pub long : length bytes ≡ n
    pub front : (j m : ℕ) → j + m ≤ n → slice_range bytes j (j + m) ≡ slice_range xs j (j + m)
    pub frames : FramesShown p base (record k { free = from + n; kept = record { from = from; bytes = bytes } ∷ rest } ∷ ks) fs images

  pub kept_cut : (k : Open) (ks : List Open) (fs : List Frame) (images : List (List ℕ)) (from n : ℕ) (xs : List ℕ) (rest : List Kept) → n ≤ length xs → FramesShown p base (record k { kept = record { from = from; bytes = xs } ∷ rest } ∷ ks) fs images → Cut k ks fs images from n xs rest
  kept_cut k ks [] images from n xs rest l h = absurd h
  kept_cut k ks (f ∷ fs) images from n xs rest l h =
      let o = h.0 in
      let a = o.kept.0 in
      let above = a.above in
      let below = a.below in
      let room = o.room in
      let long = o.long in
      let bytes = slice_range o.image from (from + n) in
      let size_is : length bytes ≡ n = length-range o.image from n (omega (arith, below, room, long, l)) in
      record {
        bytes = bytes;
        long = size_is;
        front = λ j m i. range_of_range o.image from n j m i ∙ (sym (range_of_range o.image from (length xs) j m (omega (arith, i, l))) ∙ ap (λ i. slice_range i j (j + m)) a.stands);
        frames = (record { image = o.image; there = o.there; long = o.long; own = o.own; block = o.block; slots = o.slots; low = omega (arith, above); room = omega (arith, below, room, l); short = o.short; kept = (record { above = a.above; below = omega (arith, size_is); stands = ap (λ j. slice_range o.image from (from + j)) size_is }, o.kept.1) }, h.1);
      }

  -- ---- the locals of the innermost call, with the words of in-outs

  pub at_offset : (vs : List Variable) (i n : ℕ) (x : Place) → local_place p base i vs n ≡ Some x → x.offset ≡ local_offset p i vs n
  at_offset [] i n x e = cc
  at_offset (v ∷ vs) i (suc n) x e = at_offset vs (i + width p v) n x e
  at_offset (v ∷ vs) i zero x e = by (is_in_out v.sort) e
    where
      by : (b : Bool) → (if b then None else (shape_of p v.kind >>= λ sh. Some (record { offset = i; shape = sh }))) ≡ Some x → x.offset ≡ i
      by true e = cc
      by false e = let o = then_some (shape_of p v.kind) (λ sh. Some (record { offset = i; shape = sh })) x e in let is : record { offset = i; shape = o.0 } ≡ x = let c : Some _ ≡ Some x = o.2 in cc in sym (ap (λ (y : Place). y.offset) is)

  -- the slot of a variable, at its offset
  pub slot_at : (ls : List Layout) (vs : List Variable) (ss : List Slot) (image : List ℕ) (i n : ℕ) (v : Variable) → SlotsShown p base ls vs ss image i → slice_get vs n ≡ Some v → (s : Slot) × (slice_get ss n ≡ Some s) × SlotShown p base ls v s image (local_offset p i vs n) × (local_offset p i vs n + width p v ≤ locals_end p i vs)
  slot_at ls [] ss image i n v h e = cc
  slot_at ls (x ∷ vs) [] image i n v h e = absurd h
  slot_at ls (x ∷ vs) (s ∷ ss) image i (suc n) v h e = slot_at ls vs ss image (i + width p x) n v h.1 e
  slot_at ls (x ∷ vs) (s ∷ ss) image i zero v h e =
      let d : x ≡ v = cc in
      let last = end_above vs (i + width p x) in
      let wide : width p x ≡ width p v = ap (width p) d in
      (s, refl, subst (λ y. SlotShown p base ls y s image i) d h.0, omega (arith, wide, last))

  -- a place that calls behind know is known by one more call
  pub located_more : (k : Layout) (ls : List Layout) (spot : Spot) (l : Located) → located p base ls spot ≡ Some l → located p base (k ∷ ls) spot ≡ Some l
  located_more k ls (in_store q) l e = e
  located_more k ls (in_frame d n ss) l e =
      let a = then_some (in_layout p base (layout_at ls d) n) _ l e in
      ap (λ b. in_layout p base (if b then Some k else layout_at ls d) n >>= λ (x : Place). inner_place x.shape ss >>= λ (y : Place). Some (record { address = record { space = Locals; index = base + d; offset = x.offset + y.offset }; shape = y.shape })) (other ls d a.0 a.1) ∙ e
    where
      under : (ls : List Layout) (d : ℕ) (x : Place) → in_layout p base (layout_at ls d) n ≡ Some x → d < length ls
      under [] d x e = cc
      under (y ∷ ys) d x e = by (nat_eq d (length ys)) refl e (under ys d x)
        where
          by : (b : Bool) → nat_eq d (length ys) ≡ b → in_layout p base (if b then Some y else layout_at ys d) n ≡ Some x → (in_layout p base (layout_at ys d) n ≡ Some x → d < length ys) → d < suc (length ys)
          by true q e g = let r = eqb-true d (length ys) q in omega (arith, r)
          by false q e g = let r = g e in omega (arith, r)

      other : (ls : List Layout) (d : ℕ) (x : Place) → in_layout p base (layout_at ls d) n ≡ Some x → nat_eq d (length ls) ≡ false
      other ls d x e = let l = under ls d x e in ne_eqb d (length ls) (λ q. absurd (omega (arith, l, q)))
