-- A loaded version keeps the laws of versions.
use Rattle.std.proofs.Common.{◌≡◌, ◌≤◌, ◌<◌, ℕ, zero, suc, ◌+◌, ℤ, pos, Bool, true, false, List, [], ◌∷◌, length, Option, Some, None, Ok, Err, refl, sym, ap, ◌∙◌, subst, inl, inr, ⊎_elim, arith}
use Rattle.std.specs.Prelude.{◌⊎◌, slice_get, slice_index_or, if◌then◌else◌}
use Rattle.std.proofs.lemmas.Slice.Eq.{bytes_eq-Decides}
use Rattle.plc_text.specs.Words.{same}
use Rattle.plc_text.specs.declared.fault.Fault.{Fault}
use Rattle.plc_text.specs.declared.refusal.Refusal.{Refusal}
use Rattle.cycle_journal.specs.declared.entry.CycleReply.{CycleReply}
use Rattle.cycle_journal.specs.declared.entry.CycleReply.TheVariants as reply
use Rattle.st_rules.specs.Chains.{is_among}
use Rattle.st_tree.specs.declared.program.TaskDecl.{TaskDecl}
use Rattle.st_values.specs.Program.{Program}
use Rattle.st_values.specs.Value.{Value, Store, member}
use Rattle.st_values.specs.Shape.{Shape, region_shape}
use Rattle.st_meaning.specs.Cycle.{cycle}
use Rattle.st_meaning.specs.Enter.{programs_of}
use Rattle.st_meaning.specs.st_frame.Footprint.{Footprint, Writes, own_program, IsFootprint}
use Rattle.st_meaning.specs.st_frame.Footprint as footprint
use Rattle.st_meaning.specs.st_frame.FrameLaws.{FrameLaws}
use Rattle.st_meaning.specs.st_frame.Good.{Fit, GoodAt, Good, GoodOn, AgreeOn}
use Rattle.st_meaning.proofs.st_frame.Footprints.{footprint_laws}
use Rattle.st_meaning.proofs.st_frame.Frame.{frame_laws}
use Rattle.st_change.specs.OneThread.{task_from, task_named}
use Rattle.st_change.proofs.Stores.{store_laws}
use Rattle.mem_layout.specs.store_bytes.Place.{size}
use Rattle.plant_rules.specs.Meaning as words
use Rattle.plant_rules.specs.Meaning.{Contents, bytes_at, Has, ChangesOnly, FitOn, Rising, Whole, Frames, last_moment}
use Rattle.mem_layout.specs.loaded_meaning.Version.{Version, plain, reads_of, writes_of, store_of, encoded, images_of, image_there, rewritten, FitAt, IsWritten, IsRight, cycle_of, left_after, meaning, LoadsNext, ChangesTo}
use Rattle.mem_layout.proofs.loaded_meaning.Stores.{has?, not_among, among, region_has, member_same, fit_member, fit_good, whole_good, length_images, image_at, length_rewritten, rewritten_in, rewritten_out, encoded_fits}

-- ---- the two words for 'has'

pub to_has : (rs : List ℕ) (r : ℕ) → footprint.Has rs r → Has rs r
to_has [] r h = absurd h
to_has (x ∷ xs) r (inl e) = inl e
to_has (x ∷ xs) r (inr h) = inr (to_has xs r h)

pub from_has : (rs : List ℕ) (r : ℕ) → Has rs r → footprint.Has rs r
from_has [] r h = absurd h
from_has (x ∷ xs) r (inl e) = inl e
from_has (x ∷ xs) r (inr h) = inr (from_has xs r h)

-- ---- tasks

task_below : (ds : List TaskDecl) (k : ℕ) (name : List ℕ) (t : ℕ) → task_from k ds name ≡ Some t → t < k + length ds
task_below [] k name t e = cc
task_below (d ∷ ds) k name t e = by (same d.name name) e (λ f. task_below ds (suc k) name t f)
  where
    by : (b : Bool) → (if b then Some k else task_from (suc k) ds name) ≡ Some t → (task_from (suc k) ds name ≡ Some t → t < suc k + length ds) → t < k + length (d ∷ ds)
    by true e rest = let i : k ≡ t = cc in omega arith
    by false e rest = let h = rest e in omega arith

task_above : (ds : List TaskDecl) (k : ℕ) (name : List ℕ) (t : ℕ) → task_from k ds name ≡ Some t → k ≤ t
task_above [] k name t e = cc
task_above (d ∷ ds) k name t e = by (same d.name name) e (λ f. task_above ds (suc k) name t f)
  where
    by : (b : Bool) → (if b then Some k else task_from (suc k) ds name) ≡ Some t → (task_from (suc k) ds name ≡ Some t → suc k ≤ t) → k ≤ t
    by true e rest = let i : k ≡ t = cc in omega arith
    by false e rest = let h = rest e in omega arith

one_task : (ds : List TaskDecl) (k : ℕ) (a b : List ℕ) (t : ℕ) → task_from k ds a ≡ Some t → task_from k ds b ≡ Some t → a ≡ b
one_task [] k a b t e f = cc
one_task (d ∷ ds) k a b t e f = by (same d.name a) (same d.name b) refl refl e f (λ g h. one_task ds (suc k) a b t g h)
  where
    by : (x y : Bool) → same d.name a ≡ x → same d.name b ≡ y → (if x then Some k else task_from (suc k) ds a) ≡ Some t → (if y then Some k else task_from (suc k) ds b) ≡ Some t
        → (task_from (suc k) ds a ≡ Some t → task_from (suc k) ds b ≡ Some t → a ≡ b) → a ≡ b
    by true true p q e f rest = sym ((bytes_eq-Decides d.name a).0 p) ∙ (bytes_eq-Decides d.name b).0 q
    by true false p q e f rest = let i : k ≡ t = cc in let h = task_above ds (suc k) b t f in absurd (omega arith)
    by false true p q e f rest = let i : k ≡ t = cc in let h = task_above ds (suc k) a t e in absurd (omega arith)
    by false false p q e f rest = rest e f

-- ---- cycles

module _ (v : Version) (right : IsRight v) (t : ℕ) (low : t < length (plain v).tasks) where
  written_read : (r : ℕ) → Has (writes_of v t) r → Has (reads_of v t) r
  written_read r h =
      let w = (right.written t low).sound r (from_has (writes_of v t) r h) in
      to_has (reads_of v t) r ((right.footprint t low).complete r (footprint_laws.writes_read (plain v) t r w))

  module _ (now : ℕ) (input : List ℕ) (timely : now ≤ last_moment) where
    good_on : (c : Contents) → FitOn (FitAt (plain v)) (reads_of v t) c → GoodOn (plain v) (Footprint (plain v) t) (store_of (plain v) c)
    good_on c f r h =
        let x = f r (to_has (reads_of v t) r ((right.footprint t low).complete r h)) in
        fit_good (plain v) right.sized.small c r x.0 x.1 x.2

    agree_on : (c d : Contents) → words.AgreeOn (reads_of v t) c d → AgreeOn (Footprint (plain v) t) (store_of (plain v) c) (store_of (plain v) d)
    agree_on c d e r h = member_same (plain v) c d r (e r (to_has (reads_of v t) r ((right.footprint t low).complete r h)))

    pub same_cycle : (c d : Contents) → FitOn (FitAt (plain v)) (reads_of v t) c → words.AgreeOn (reads_of v t) c d
        → ((cycle_of v t now input c).0 ≡ (cycle_of v t now input d).0) × AgreeOn (Footprint (plain v) t) (cycle_of v t now input c).1 (cycle_of v t now input d).1
    same_cycle c d f e =
        frame_laws.local (plain v) (reads_of v t) t now input (store_of (plain v) c) (store_of (plain v) d) right.promise (right.footprint t low) timely (good_on c f) (agree_on c d e)

    pub good_after : (c : Contents) → FitOn (FitAt (plain v)) (reads_of v t) c → GoodOn (plain v) (Footprint (plain v) t) (cycle_of v t now input c).1
    good_after c f = frame_laws.keeps (plain v) (reads_of v t) t now input (store_of (plain v) c) right.promise (right.footprint t low) timely (good_on c f)

    left_agrees : (c d : Contents) (r : ℕ) (a b : CycleReply) (s u : Store) → a ≡ b → Has (writes_of v t) r → bytes_at c r ≡ bytes_at d r → member s r ≡ member u r → bytes_at (left_after v t c a s) r ≡ bytes_at (left_after v t d b u) r
    left_agrees c d r (reply.Fault f) b s u e h i j = i ∙ ap (λ (x : CycleReply). bytes_at (left_after v t d x u) r) e
    left_agrees c d r (reply.Done ticks outputs) b s u e h i j =
        rewritten_in (plain v) (writes_of v t) c s r h
        ∙ (ap (λ o. image_there (plain v) r o (member s r)) i
        ∙ (ap (λ o. image_there (plain v) r (bytes_at d r) o) j
        ∙ (sym (rewritten_in (plain v) (writes_of v t) d u r h) ∙ ap (λ (x : CycleReply). bytes_at (left_after v t d x u) r) e)))

    pub local_left : (c d : Contents) → FitOn (FitAt (plain v)) (reads_of v t) c → words.AgreeOn (reads_of v t) c d
        → words.AgreeOn (writes_of v t) (left_after v t c (cycle_of v t now input c).0 (cycle_of v t now input c).1) (left_after v t d (cycle_of v t now input d).0 (cycle_of v t now input d).1)
    local_left c d f e r h =
        let same = same_cycle c d f e in
        let w = (right.written t low).sound r (from_has (writes_of v t) r h) in
        left_agrees c d r (cycle_of v t now input c).0 (cycle_of v t now input d).0 (cycle_of v t now input c).1 (cycle_of v t now input d).1 same.0 h (e r (written_read r h)) (same.1 r (footprint_laws.writes_read (plain v) t r w))

    left_fits : (c : Contents) (r : ℕ) (a : CycleReply) (s : Store) → FitOn (FitAt (plain v)) (reads_of v t) c → Has (reads_of v t) r → GoodAt (plain v) (region_shape (plain v) r) (member s r)
        → (bytes : List ℕ) × (bytes_at (left_after v t c a s) r ≡ Some bytes) × FitAt (plain v) r bytes
    left_fits c r (reply.Fault f) s fit h g = fit r h
    left_fits c r (reply.Done ticks outputs) s fit h g = by (has? (writes_of v t) r)
      where
        by : (Has (writes_of v t) r) ⊎ (is_among r (writes_of v t) ≡ false) → (bytes : List ℕ) × (bytes_at (rewritten (plain v) (writes_of v t) 0 c s) r ≡ Some bytes) × FitAt (plain v) r bytes
        by (inr n) = let x = fit r h in (x.0, rewritten_out (plain v) (writes_of v t) c s r n ∙ x.1, x.2)
        by (inl w) =
            let x = fit r h in
            let y = g.by x.2.shape x.2.is in (
              encoded (plain v) (region_shape (plain v) r) (member s r),
              rewritten_in (plain v) (writes_of v t) c s r w ∙ (ap (λ o. image_there (plain v) r o (member s r)) x.1 ∙ (ap (λ o. image_there (plain v) r (Some x.0) o) y.1 ∙ ap (λ o. Some (encoded (plain v) (region_shape (plain v) r) o)) (sym y.1))),
              encoded_fits (plain v) right.sized r x.2.shape (member s r) x.2.is g,
            )

    pub left_fit : (c : Contents) → FitOn (FitAt (plain v)) (reads_of v t) c → FitOn (FitAt (plain v)) (reads_of v t) (left_after v t c (cycle_of v t now input c).0 (cycle_of v t now input c).1)
    left_fit c f r h = left_fits c r (cycle_of v t now input c).0 (cycle_of v t now input c).1 f h (good_after c f r ((right.footprint t low).sound r (from_has (reads_of v t) r h)))

pub changes_only : (v : Version) (t : ℕ) (c : Contents) (a : CycleReply) (s : Store) → ChangesOnly (writes_of v t) c (left_after v t c a s)
changes_only v t c (reply.Done ticks outputs) s = (length_rewritten (plain v) (writes_of v t) 0 c s, λ r n. rewritten_out (plain v) (writes_of v t) c s r (not_among (writes_of v t) r n))
changes_only v t c (reply.Fault f) s = (refl, λ r n. refl)

pub stopped_leaves : (v : Version) (t : ℕ) (c : Contents) (a : CycleReply) (s : Store) (f : Fault) → a ≡ reply.Fault f → left_after v t c a s ≡ c
stopped_leaves v t c a s f e = ap (λ (x : CycleReply). left_after v t c x s) e

-- ---- images of whole stores

pub images_whole : (v : Version) → IsRight v → (s : Store) → Good (plain v) s → Whole (FitAt (plain v)) (length (plain v).regions) (images_of (plain v) s)
images_whole v right s good = (
  length_images (plain v) s,
  λ r low.
      let sh = region_has (plain v) right.promise r low in
      (encoded (plain v) (region_shape (plain v) r) (member s r), image_at (plain v) s r low, encoded_fits (plain v) right.sized r sh.0 (member s r) sh.1 (good.each r)),
)

module _ (Accepts : List ℕ → Program → Type 0) (Refuses : List ℕ → Refusal → Type 0) where
  pub loaded_frames : Frames (meaning Accepts Refuses)
  loaded_frames = record {
    named-below = λ v name t right e. let h = task_below (plain v).tasks 0 name t e in omega arith;
    named-one = λ v a b t right e f. one_task (plain v).tasks 0 a b t e f;
    writes-read = λ v t r right low h. written_read v right t low r h;
    reads-rising = λ v t right low. right.rising t low;
    writes-rising = λ v t right low. right.written_rising t low;
    owns-some = λ v t right low.
        let x = right.sized.busy t low in
        (x.0, to_has (writes_of v t) x.0 ((right.written t low).complete x.0 (own_program x.1)));
    reads-below = λ v t r right low h. right.below t low r (from_has (reads_of v t) r h);
    one-length = λ v r a b f g. let some : Some f.shape ≡ Some g.shape = sym f.is ∙ g.is in let same : f.shape ≡ g.shape = cc in f.long ∙ (ap size same ∙ sym g.long);
    elsewhere = λ v t now input c. changes_only v t c (cycle_of v t now input c).0 (cycle_of v t now input c).1;
    stopped = λ v t now input c f e. stopped_leaves v t c (cycle_of v t now input c).0 (cycle_of v t now input c).1 f e;
    local = λ v t now input c d right low timely f e. ((same_cycle v right t low now input timely c d f e).0, local_left v right t low now input timely c d f e);
    keeps = λ v t now input c right low timely f. left_fit v right t low now input timely c f;
    next-number = λ v w text c d h. h.number;
    next-right = λ v w text c d h. h.right;
    next-whole = λ v w text c d right whole h.
        let before = whole_good (plain v) right.sized.small c whole in
        let after = store_laws.change (plain v) (plain w) (store_of (plain v) c) h.store h.ticks right.promise h.right.promise right.hooks h.right.hooks before h.changes in
        subst (λ z. Whole (FitAt (plain w)) (length (plain w).regions) z) (sym h.images) (images_whole w h.right h.store after);
    prompt = λ v text c r h. inl h;
  }
