-- The frame theorem, from the induction at the footprint of a task.
use Rattle.std.proofs.Common.{◌≡◌, ◌≤◌, ℕ, pos, Bool, true, false, List, [], ◌∷◌, Option, Some, None, refl, sym, ap, ap₂, ◌∙◌, subst, inl, inr}
use Rattle.std.specs.Prelude.{if◌then◌else◌, ◌&&◌, ◌+◌, ◌-◌, map}
use Rattle.std.specs.Int.{bit_at}
use Rattle.std.specs.List.{range_with_len}
use Rattle.std.proofs.lemmas.Nat.Bits.{bit_at-lt}
use Rattle.cycle_journal.specs.declared.entry.CycleReply.{CycleReply}
use Rattle.cycle_journal.specs.declared.entry.CycleReply.TheVariants as reply
use Rattle.plc_num.specs.Wrapping.{wrapped}
use Rattle.st_types.specs.declared.elem.Elem.TheVariants as elem
use Rattle.st_types.specs.Range.{Fits}
use Rattle.st_tree.specs.declared.address.Area.TheVariants as area
use Rattle.st_tree.specs.Address.{width_of, bit_of}
use Rattle.st_values.specs.Program.{Routine, Program}
use Rattle.st_rules.specs.Chains.{is_among}
use Rattle.st_values.specs.Value.{Path, Value, number, Store, member, with_member, names_of, value_at, value_with, at, put, ◌>>=◌ as ◌>>?◌}
use Rattle.st_values.specs.Shape.{Elementary, region_shape, path_shape}
use Rattle.st_meaning.specs.State.{in_store, State, Outcome, Done, Fault, go_on, there, set_region, write}
use Rattle.st_meaning.specs.Enter.{run_task, programs_of}
use Rattle.st_meaning.specs.ProcessImage.{Located, located_of, is_in, is_bit, input_byte, first_byte, input_number, size_of, input_value, or_same, latch, is_shown, share, number_or_zero, output_byte, covered, collect}
use Rattle.st_meaning.specs.Cycle.{all_ticks, begun, ended, cycle}
use Rattle.st_meaning.specs.st_frame.Use.{Use, names, follows, calls, changes, the_region, the_instances, routine_uses}
use Rattle.st_meaning.specs.st_frame.Footprint as footprint
use Rattle.st_meaning.specs.st_frame.Footprint.{Has, Enters, Reached, begins, called, Footprint, Writes, IsFootprint}
use Rattle.st_meaning.specs.st_frame.Good.{Fit, GoodAt, Good, GoodOn, AgreeOn}
use Rattle.st_meaning.specs.st_frame.Promise.Declarations.{RoutineIs}
use Rattle.st_meaning.specs.st_frame.Promise.Programs.{ProgramIs}
use Rattle.st_meaning.specs.st_frame.FrameLaws.{last_moment, FrameLaws}
use Rattle.st_meaning.proofs.st_frame.Footprints.{has_any, any_has, writes_read}
use Rattle.st_meaning.proofs.st_frame.OfTypes.{wraps_fit, bit_fits}
use Rattle.st_meaning.proofs.st_frame.Values.{put_on}
use Rattle.st_meaning.proofs.st_frame.Obeys.{Anything, Alike, Both, Obeys, write_obeys}
use Rattle.st_meaning.proofs.st_frame.Bodies.{All, Covered, entered_is}
use Rattle.st_meaning.proofs.st_frame.Entered.{program_is, programs_obey}
use Rattle.st_meaning.proofs.st_frame.Whole.{all_of, timely, call_keeps}

both : (a b : Bool) → (a && b) ≡ true → (a ≡ true) × (b ≡ true)
both true true e = (refl, refl)
both true false e = cc
both false b e = cc

-- a value of inputs fits the variable
input_fits : (input : List ℕ) (x : Located) → Fits x.elem (input_value input x)
input_fits input x = by (is_bit (width_of x.address))
  where
    by : (b : Bool) → Fits x.elem (if b then pos (bit_at (input_byte input (first_byte x.address)) (bit_of x.address)) else wrapped x.elem (pos (input_number input (first_byte x.address) (size_of x.address))))
    by true = bit_fits x.elem _ (bit_at-lt (input_byte input (first_byte x.address)) (bit_of x.address))
    by false = wraps_fit x.elem _

-- a put is a write, or nothing
abbrev left_by : Outcome (Unit {0}) → Store → Store
left_by (Done a s) t = s.store
left_by (Fault k line) t = t

put_writes : (s : Store) (q : Path) (v : Value) (now : ℕ) → or_same s (put s q v) ≡ left_by (write (in_store q) v 0 (begun s now)) s
put_writes s q v now = by (member s q.region)
  where
    inner : (o : Option Value) → or_same s (o >>? λ w. Some (with_member s q.region w)) ≡ left_by (go_on (there o 0 (begun s now)) (λ w. set_region q.region w 0)) s
    inner None = refl
    inner (Some w) = refl

    by : (o : Option Value) → or_same s (o >>? λ u. value_with u q.steps v >>? λ w. Some (with_member s q.region w))
        ≡ left_by (go_on (there o 0 (begun s now)) (λ u t. go_on (there (value_with u q.steps v) 0 t) (λ w. set_region q.region w 0))) s
    by None = refl
    by (Some u) = inner (value_with u q.steps v)

module _ (p : Program) (task : ℕ) (fine : ProgramIs p) where
  routine_is : (r : Routine) → Reached p task r → RoutineIs p r
  routine_is r (begins q h e) = let a = program_is p fine q r (fine.tasks task q h) e in fine.bodies a.0 r a.1
  routine_is r (called k m h e) = entered_is p fine k r e

  covered_use : (r : Routine) → Reached p task r → (u : Use) → Has (routine_uses p r) u → Covered p (Footprint p task) (Writes p task) (Reached p task) u
  covered_use r k (names g) h = footprint.touched r (names g) k h refl
  covered_use r k (follows t) h = λ q n. footprint.touched r (follows t) k h (q, refl, n)
  covered_use r k (calls c) h = λ x e. called c k h e
  covered_use r k (changes (the_region g)) h = footprint.altered r (changes (the_region g)) k h refl
  covered_use r k (changes (the_instances t)) h = λ q n. footprint.altered r (changes (the_instances t)) k h (q, refl, n)

  closed : (r : Routine) → Reached p task r → RoutineIs p r × All (Covered p (Footprint p task) (Writes p task) (Reached p task)) (routine_uses p r)
  closed r k = (routine_is r k, all_of _ (routine_uses p r) (covered_use r k))

  module _ (base base' : Store) where
    abbrev Same : Store → Store → ℕ → Type 0
    Same s t now = Alike p fine (Footprint p task) (Writes p task) base base' [] (begun s now) (begun t now)

    task_obeys : Obeys p fine (Footprint p task) (Writes p task) base base' [] (run_task p task) Anything
    task_obeys =
        programs_obey p fine (Footprint p task) (Writes p task) base base' (Reached p task) closed (programs_of p task)
        (λ r h. (fine.tasks task r h, footprint.Footprint.own_program h, footprint.Writes.own_program h, λ b e. begins r h e))

    -- states with the stores of others
    restarted : (s t : State) (now : ℕ) → Fits elem.Time (pos now) → Alike p fine (Footprint p task) (Writes p task) base base' [] s t → Same s.store t.store now
    restarted s t now h i =
        record { same_frames = refl; same_ticks = refl; same_now = refl; timely = h; frames = tt; good = i.good; agree = i.agree; stays = i.stays; stays' = i.stays'; long = i.long; long' = i.long' }

    both_left : (s t : Store) (now : ℕ) (a b : Outcome (Unit {0})) → Fits elem.Time (pos now) → Same s t now → Both p fine (Footprint p task) (Writes p task) base base' [] Anything a b → Same (left_by a s) (left_by b t) now
    both_left s t now (Done a x) (Done b y) f i h = restarted x y now f h.2
    both_left s t now (Fault k line) (Fault k' line') f i h = i
    both_left s t now (Done a x) (Fault k' line') f i h = absurd h
    both_left s t now (Fault k line) (Done b y) f i h = absurd h

    module _ (fs : List ℕ) (is : IsFootprint p task fs) (now : ℕ) (fits : Fits elem.Time (pos now)) where
      latch_same : (xs : List Located) (input : List ℕ) (s t : Store) → ((x : Located) → Has xs x → Has (located_of p) x) → Same s t now → Same (latch xs fs input s) (latch xs fs input t) now
      latch_same [] input s t h i = i
      latch_same (x ∷ xs) input s t h i = by (λ u w j. latch_same xs input u w (λ y k. h y (inr k)) j) (is_in area.Input x && is_among x.path.region fs) refl
        where
          v : Value
          v = number (input_value input x)

          by : ((u w : Store) → Same u w now → Same (latch xs fs input u) (latch xs fs input w) now) → (b : Bool) → (is_in area.Input x && is_among x.path.region fs) ≡ b
              → Same (latch xs fs input (if b then or_same s (put s x.path v) else s)) (latch xs fs input (if b then or_same t (put t x.path v) else t)) now
          by rest false e = rest s t i
          by rest true e =
              let c = both (is_in area.Input x) (is_among x.path.region fs) e in
              let has = h x (inl refl) in
              let f = is.sound x.path.region (any_has fs x.path.region c.1) in
              let w = (write_obeys p fine (Footprint p task) (Writes p task) base base' (in_store x.path) (Elementary x.elem) v (fine.located x has) f (footprint.latched x has c.0 refl f) (input_fits input x)).by 0 (begun s now) (begun t now) i in
              let l = both_left s t now _ _ fits i w in
              rest (or_same s (put s x.path v)) (or_same t (put t x.path v))
              (subst (λ u. Same u (or_same t (put t x.path v)) now) (sym (put_writes s x.path v now)) (subst (λ u. Same (left_by (write (in_store x.path) v 0 (begun s now)) s) u now) (sym (put_writes t x.path v now)) l))

      at_same : (q : Path) (s t : Store) → member s q.region ≡ member t q.region → at s q ≡ at t q
      at_same q s t e = ap (λ o. o >>? λ v. value_at v q.steps) e

      byte_same : (xs : List Located) (s t : Store) (b : ℕ) → AgreeOn (Footprint p task) s t → output_byte xs fs s b ≡ output_byte xs fs t b
      byte_same [] s t b h = refl
      byte_same (x ∷ xs) s t b h = ap₂ (λ m n. m + n) (by (is_shown fs x) refl) (byte_same xs s t b h)
        where
          by : (c : Bool) → is_shown fs x ≡ c → (if c then share x.address (number_or_zero (at s x.path)) b else 0) ≡ (if c then share x.address (number_or_zero (at t x.path)) b else 0)
          by false e = refl
          by true e =
              let k = both (is_in area.Output x) (is_among x.path.region fs) e in
              ap (λ o. share x.address (number_or_zero o) b) (at_same x.path s t (h x.path.region (is.sound x.path.region (any_has fs x.path.region k.1))))

      mapped_same : (xs : List Located) (s t : Store) (bs : List ℕ) → AgreeOn (Footprint p task) s t → map (output_byte xs fs s) bs ≡ map (output_byte xs fs t) bs
      mapped_same xs s t [] h = refl
      mapped_same xs s t (b ∷ bs) h = ap₂ (λ n ns. n ∷ ns) (byte_same xs s t b h) (mapped_same xs s t bs h)

      collect_same : (s t : Store) → AgreeOn (Footprint p task) s t → collect (located_of p) fs s ≡ collect (located_of p) fs t
      collect_same s t h = mapped_same (located_of p) s t (range_with_len 0 (covered (located_of p) fs)) h

-- ---- inputs

module _ (p : Program) (fine : ProgramIs p) (F : ℕ → Type 0) where
  put_same : (s : Store) (x : Located) (v : Value) (o : Option Store) → GoodOn p F s → path_shape p x.path ≡ Some (Elementary x.elem) → Fit p (Elementary x.elem) v → put s x.path v ≡ o → GoodOn p F (or_same s o)
  put_same s x v None g e k f = g
  put_same s x v (Some t) g e k f = put_on p F s t x.path (Elementary x.elem) v g e k f

  pub latch_good : (xs : List Located) (fs input : List ℕ) (s : Store) → ((x : Located) → Has xs x → Has (located_of p) x) → GoodOn p F s → GoodOn p F (latch xs fs input s)
  latch_good [] fs input s h g = g
  latch_good (x ∷ xs) fs input s h g = by (λ t i. latch_good xs fs input t (λ y k. h y (inr k)) i) (is_in area.Input x && is_among x.path.region fs)
    where
      v : Value
      v = number (input_value input x)

      by : ((t : Store) → GoodOn p F t → GoodOn p F (latch xs fs input t)) → (b : Bool) → GoodOn p F (latch xs fs input (if b then or_same s (put s x.path v) else s))
      by rest true = rest (or_same s (put s x.path v)) (put_same s x v (put s x.path v) g (fine.located x (h x (inl refl))) (input_fits input x) refl)
      by rest false = rest s g

-- ---- cycles

abbrev Cycled : Program → ℕ → Store → Store → CycleReply × Store → CycleReply × Store → Type 0
Cycled p task s t a b =
    (a.0 ≡ b.0) × AgreeOn (Footprint p task) a.1 b.1
    × (names_of a.1 ≡ names_of s) × ((r : ℕ) → (Writes p task r → ⊥) → member a.1 r ≡ member s r) × GoodOn p (Footprint p task) a.1

ends : (p : Program) (task : ℕ) (fine : ProgramIs p) (fs : List ℕ) (now : ℕ) (s t : Store) (a b : Outcome (Unit {0})) → IsFootprint p task fs → Fits elem.Time (pos now) → GoodOn p (Footprint p task) s → AgreeOn (Footprint p task) s t
    → Both p fine (Footprint p task) (Writes p task) s t [] Anything a b → Cycled p task s t (ended p fs s a) (ended p fs t b)
ends p task fine fs now s t (Done a x) (Done b y) is f g k h =
    (ap (λ n. reply.Done (all_ticks - n) (collect (located_of p) fs x.store)) h.2.same_ticks ∙ ap (reply.Done (all_ticks - y.ticks)) (collect_same p task fine s t fs is now f x.store y.store h.2.agree), h.2.agree, h.2.long, h.2.stays, h.2.good)
ends p task fine fs now s t (Fault c line) (Fault d line') is f g k h = (ap₂ (λ x y. reply.Fault (record { kind = x; line = y })) h.0 h.1, k, refl, λ r n. refl, g)
ends p task fine fs now s t (Done a x) (Fault d line') is f g k h = absurd h
ends p task fine fs now s t (Fault c line) (Done b y) is f g k h = absurd h

cycled : (p : Program) (fs : List ℕ) (task now : ℕ) (input : List ℕ) (s t : Store) → ProgramIs p → IsFootprint p task fs → now ≤ last_moment → GoodOn p (Footprint p task) s → AgreeOn (Footprint p task) s t
    → Cycled p task s t (cycle p fs task now input s) (cycle p fs task now input t)
cycled p fs task now input s t fine is n g k =
    let f = timely now n in
    let i = latch_same p task fine s t fs is now f (located_of p) input s t (λ x h. h)
    (record { same_frames = refl; same_ticks = refl; same_now = refl; timely = f; frames = tt; good = g; agree = k; stays = λ r m. refl; stays' = λ r m. refl; long = refl; long' = refl }) in
    ends p task fine fs now s t _ _ is f g k ((task_obeys p task fine s t).by 0 _ _ i)

whole_good : (p : Program) (fs : List ℕ) (task now : ℕ) (input : List ℕ) (s : Store) → ProgramIs p → IsFootprint p task fs → now ≤ last_moment → Good p s → Good p (cycle p fs task now input s).1
whole_good p fs task now input s fine is n g =
    let h = cycled p fs task now input s s fine is n (λ r f. g.each r) (λ r f. refl) in
    record { regions = h.2 ∙ g.regions; each = λ r. by r (is_among r fs) refl h }
  where
    by : (r : ℕ) (b : Bool) → is_among r fs ≡ b → Cycled p task s s (cycle p fs task now input s) (cycle p fs task now input s) → GoodAt p (region_shape p r) (member (cycle p fs task now input s).1 r)
    by r true e h = h.4 r (is.sound r (any_has fs r e))
    by r false e h = subst (GoodAt p (region_shape p r)) (sym (h.3 r (λ w. let x = has_any fs r (is.complete r (writes_read p task r w)) in let y : true ≡ false = sym x ∙ e in cc))) (g.each r)

pub frame_laws : FrameLaws
frame_laws = record {
  latched = λ p fs task input s fine g. latch_good p fine (Footprint p task) (located_of p) fs input s (λ x h. h) g;
  local = λ p fs task now input s t fine is n g k. let h = cycled p fs task now input s t fine is n g k in (h.0, h.1);
  elsewhere = λ p fs task now input s fine is n g. let h = cycled p fs task now input s s fine is n g (λ r f. refl) in (h.2, h.3);
  keeps = λ p fs task now input s fine is n g. let h = cycled p fs task now input s s fine is n g (λ r f. refl) in h.4;
  good = whole_good;
  calls = call_keeps;
}
