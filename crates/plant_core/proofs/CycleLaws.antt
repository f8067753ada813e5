-- The beginning and the end of a cycle keep what a core keeps.
use Rattle.std.proofs.Common.{◌≡◌, ℕ, ◌<◌, ◌≤◌, ◌+◌, List, [], ◌∷◌, ◌++◌, length, map, None, Some, Option, Bool, true, slice_set, slice_index_or, refl, sym, ap, ◌∙◌, subst, ⊎_elim, ◌⊎◌, inl, inr, arith, length-set, length-append, add-zero}
use Rattle.std.proofs.lemmas.List.{get_or-set_other, get_or-set_same}
use mathlib.Core.Logic.{dite}
use native.Mathlib.Decide.{ℕ_discrete}
use Rattle.cycle_journal.specs.declared.entry.CycleReply.{CycleReply}
use Rattle.cycle_journal.specs.declared.entry.Entry.{Entry}
use Rattle.plant_rules.specs.Meaning.{Contents, Meaning, Frames, bytes_at, Has, AgreeOn, FitOn, last_moment, ChangesOnly}
use Rattle.plant_rules.specs.Next.{Spare}
use Rattle.plant_rules.specs.One.{answer_of, held_after}
use Rattle.plant_rules.specs.History.{Past, Script, begun, finished, State, Stage, idle, open_by, done, Turn, free, wanted_by, under_way, stage_at, with_stage, at_play, now_of, input_of, task_of, is_cycle, entry, finish_of, cycle_left, cycle_reply, IsOpen, MayBegin, state_of, with_event}
use Rattle.plant_rules.proofs.plant_history.Running.{within, with_same, with_other, opened_after, still_open, done_open, idle_open, idle_done}
use Rattle.plant_core.specs.plant_moves.Moves.{Moved, MayMove, Taken, MayTake}
use Rattle.plant_core.proofs.plant_moves.Copies.{has?}
use Rattle.plant_core.specs.play_order.Progress.{marked}
use Rattle.plant_core.specs.declared.stage.Status.{Status}
use Rattle.plant_core.specs.declared.stage.Status.TheVariants.{Done}
use Rattle.plant_core.specs.Stage.{stage_of, Room}
use Rattle.plant_core.specs.Hub.{Sound}
use Rattle.plant_core.specs.Claim.{HasRun}
use Rattle.plant_core.specs.Private.Tasks.{AreHeld}
use Rattle.plant_core.specs.Private.Keeping.{Fields, AtHome, IsSpare, KitAt, Holds, Kept}
use Rattle.plant_core.proofs.Stages.{task_in, contents_in, open_still, map-set, set_behind, set_done, done_marked, done_open_too, room_to, turning_free, home_of, home_as, kept_event, state_more}

-- a state with other stages
abbrev pub staged : {W : Type 0} → State W → List Stage → State W
staged s gs = record s { stages = gs }

module _ {W : Type 0} (m : Meaning W) (frames : Frames m) (script : Script) where
  fits_store : (s : State W) (t : ℕ) → Sound m script s → t < m.tasks s.version → FitOn (m.fit s.version) (m.reads s.version t) s.store
  fits_store s t sound below r h = sound.whole.1 r (frames.reads-below s.version t r sound.right below h)

  abbrev opened : State W → ℕ → ℕ → ℕ → Contents → State W
  opened s p w t c = staged s (with_stage s.stages p (open_by w t c))

  -- ---- the beginning

  -- the claims after one more
  open_now : (s : State W) (p w t : ℕ) (c : Contents) → stage_at s.stages p ≡ idle → IsOpen m script (opened s p w t c) t
  open_now s p w t c is = let here = within s.stages p idle is idle_done in record { play = p; who = w; contents = c; is = with_same s.stages p (open_by w t c) here.0 here.1 }

  open_on : (s : State W) (p w t : ℕ) (c : Contents) → stage_at s.stages p ≡ idle → (t' : ℕ) → IsOpen m script s t' → IsOpen m script (opened s p w t c) t'
  open_on s p w t c is t' o = record { play = o.play; who = o.who; contents = o.contents; is = open_still s.stages p is (open_by w t c) o.play o.who t' o.contents o.is }

  open_was : (s : State W) (p w t : ℕ) (c : Contents) → stage_at s.stages p ≡ idle → (t' : ℕ) → IsOpen m script (opened s p w t c) t' → (t ≡ t') ⊎ IsOpen m script s t'
  open_was s p w t c is t' o =
      ⊎_elim (λ n. inl (ap task_in n.1)) (λ k. inr record { play = o.play; who = o.who; contents = o.contents; is = k.1 })
      (opened_after s.stages p o.play o.who t' o.contents (open_by w t c) (within s.stages p idle is idle_done) o.is)

  sound_begun : (s : State W) (w p t : ℕ) (c : Contents) → Sound m script s → MayBegin m script s p t → AgreeOn (m.reads s.version t) c s.store → Sound m script (opened s p w t c)
  sound_begun s w p t c sound may agree =
      let is = may.next.idle-is in
      let here = within s.stages p idle is idle_done in
      let low = frames.named-below s.version _ t sound.right may.task.named in
      let turning = turning_free m script (opened s p w t c) may.turn-free in
      record {
        right = sound.right;
        whole = sound.whole;
        below = λ t' o. ⊎_elim (λ i. subst (λ (z : ℕ). z < m.tasks s.version) i low) (λ k. sound.below t' k) (open_was s p w t c is t' o);
        cycles = λ q w' t' c' e. ⊎_elim (λ n. subst (λ (z : ℕ). is_cycle (at_play m script z) ≡ true) (sym n.0) may.task.cycle) (λ o. sound.cycles q w' t' c' o.1) (opened_after s.stages p q w' t' c' (open_by w t c) here e);
        agrees = λ q w' t' c' e. ⊎_elim (λ n. subst (λ (z : ℕ). AgreeOn (m.reads s.version z) c' s.store) (ap task_in n.1) (subst (λ (z : Contents). AgreeOn (m.reads s.version t) z s.store) (ap contents_in n.1) agree))
            (λ o. sound.agrees q w' t' c' o.1) (opened_after s.stages p q w' t' c' (open_by w t c) here e);
        apart = λ q w' t' c' q' w'' t'' c'' e f differ r h k.
            ⊎_elim
            (λ n. ⊎_elim (λ n'. differ (n.0 ∙ sym n'.0))
            (λ o'. may.unclaimed.writes-free r (subst (λ (z : ℕ). Has (m.writes s.version z) r) (sym (ap task_in n.1)) h) record { task = t''; by = record { play = q'; who = w''; contents = c''; is = o'.1 }; has = k })
            (opened_after s.stages p q' w'' t'' c'' (open_by w t c) here f))
            (λ o. ⊎_elim
            (λ n'. may.unclaimed.reads-free r (subst (λ (z : ℕ). Has (m.reads s.version z) r) (sym (ap task_in n'.1)) k) record { task = t'; by = record { play = q; who = w'; contents = c'; is = o.1 }; has = h })
            (λ o'. sound.apart q w' t' c' q' w'' t'' c'' o.1 o'.1 differ r h k)
            (opened_after s.stages p q' w'' t'' c'' (open_by w t c) here f))
            (opened_after s.stages p q w' t' c' (open_by w t c) here e);
        waits = turning.waits;
        changes = turning.changes;
      }

  home_begun : (s : State W) (w p t : ℕ) (c home carrier home' : Contents) → AtHome m script s home → stage_at s.stages p ≡ idle → Taken (m.reads s.version t) (m.writes s.version t) home carrier home' c
      → AtHome m script (opened s p w t c) home'
  home_begun s w p t c home carrier home' k is taken =
      record {
        total = taken.home-total ∙ k.total;
        here = λ r out.
            let apart : Has (m.writes s.version t) r → ⊥ = λ h. out record { task = t; by = open_now s p w t c is; has = h } in
            taken.rest r apart ∙ k.here r (λ x. out record { task = x.task; by = open_on s p w t c is x.task x.by; has = x.has });
        out = λ r x. ⊎_elim (λ h. taken.gone r h)
            (λ apart. taken.rest r apart ∙ k.out r record { task = x.task; by = ⊎_elim (λ i. absurd (apart (subst (λ (z : ℕ). Has (m.writes s.version z) r) (sym i) x.has))) (λ o. o) (open_was s p w t c is x.task x.by); has = x.has })
            (has? (m.writes s.version t) r);
      }

  -- the contents that a claim took are the store's, and fit
  pub agree_begun : (s : State W) (t : ℕ) (p : ℕ) (c home carrier home' : Contents) → AtHome m script s home → MayBegin m script s p t → Taken (m.reads s.version t) (m.writes s.version t) home carrier home' c → AgreeOn (m.reads s.version t) c s.store
  agree_begun s t p c home carrier home' k may taken r h = taken.here r h ∙ k.here r (λ x. may.unclaimed.reads-free r h x)

  pub fits_begun : (s : State W) (t : ℕ) (p : ℕ) (c home carrier home' : Contents) → Sound m script s → AtHome m script s home → MayBegin m script s p t → Taken (m.reads s.version t) (m.writes s.version t) home carrier home' c → FitOn (m.fit s.version) (m.reads s.version t) c
  fits_begun s t p c home carrier home' sound k may taken r h =
      let o = fits_store s t sound (frames.named-below s.version _ t sound.right may.task.named) r h in
      (o.0, agree_begun s t p c home carrier home' k may taken r h ∙ o.1, o.2)

  -- what is at home may be taken into a spare carrier
  pub may_take : (s : State W) (t : ℕ) (p : ℕ) (home carrier : Contents) → Sound m script s → AtHome m script s home → MayBegin m script s p t → Spare m s.version t carrier → MayTake (m.reads s.version t) (m.writes s.version t) home carrier
  may_take s t p home carrier sound k may spare =
      let low = frames.named-below s.version _ t sound.right may.task.named in
      let below = λ (r : ℕ) (h : Has (m.reads s.version t) r). frames.reads-below s.version t r sound.right low h in
      let at_home = λ (r : ℕ) (h : Has (m.reads s.version t) r). k.here r (λ x. may.unclaimed.reads-free r h x) in
      record {
        within = λ r h. frames.writes-read s.version t r sound.right low h;
        moves = λ r h. let b = below r (frames.writes-read s.version t r sound.right low h) in (subst (λ (n : ℕ). r < n) (sym k.total) b, subst (λ (n : ℕ). r < n) (sym spare.total) b, spare.written r h);
        copies = λ r h out. let b = below r h in let o = fits_store s t sound low r h in let i = spare.images r h out in
            (subst (λ (n : ℕ). r < n) (sym k.total) b, subst (λ (n : ℕ). r < n) (sym spare.total) b, record { source = o.0; target = i.0; from-is = at_home r h ∙ o.1; to-is = i.1; same = i.2 o.0 o.2 });
      }

  -- ---- the end

  -- of two stores that agree on a footprint a cycle leaves two that agree on it
  left_agree : (v : W) (t now : ℕ) (input : List ℕ) (c d : Contents) → m.right v → t < m.tasks v → now ≤ last_moment → FitOn (m.fit v) (m.reads v t) c → AgreeOn (m.reads v t) c d
      → AgreeOn (m.reads v t) (m.left_by v t now input c) (m.left_by v t now input d)
  left_agree v t now input c d right below timely fits agree r h =
      ⊎_elim (λ w. (frames.local v t now input c d right below timely fits agree).1 r w)
      (λ out. (frames.elsewhere v t now input c).1 r out ∙ (agree r h ∙ sym ((frames.elsewhere v t now input d).1 r out)))
      (has? (m.writes v t) r)

  -- the state after a cycle
  abbrev pub ended : State W → ℕ → ℕ → Contents → ℕ → CycleReply → State W
  ended s w t c p r = finish_of m script (open_by w t c) s p r

  open_before : (s : State W) (p w t : ℕ) (c : Contents) (r : CycleReply) → stage_at s.stages p ≡ open_by w t c → (t' : ℕ) → IsOpen m script (ended s w t c p r) t' → IsOpen m script s t'
  open_before s p w t c r e t' o = record { play = o.play; who = o.who; contents = o.contents; is = (still_open s.stages p (open_by w t c) e (λ z. done_open w t c (sym z)) o.play o.who t' o.contents o.is).1 }

  open_other : (s : State W) (p w t : ℕ) (c : Contents) (r : CycleReply) → stage_at s.stages p ≡ open_by w t c → (t' : ℕ) → (t' ≡ t → ⊥) → IsOpen m script s t' → IsOpen m script (ended s w t c p r) t'
  open_other s p w t c r e t' apart o = record { play = o.play; who = o.who; contents = o.contents; is = with_other s.stages p o.play done (λ i. apart (ap task_in (sym o.is ∙ (ap (λ z. stage_at s.stages z) i ∙ e)))) ∙ o.is }

  -- a task has one open claim at most
  not_again : (s : State W) (p w t : ℕ) (c : Contents) (r : CycleReply) → Sound m script s → stage_at s.stages p ≡ open_by w t c → IsOpen m script (ended s w t c p r) t → ⊥
  not_again s p w t c r sound e o =
      let k = still_open s.stages p (open_by w t c) e (λ z. done_open w t c (sym z)) o.play o.who t o.contents o.is in
      let low = sound.below t record { play = p; who = w; contents = c; is = e } in
      let own = frames.owns-some s.version t sound.right low in
      sound.apart o.play o.who t o.contents p w t c k.1 e k.0 own.0 own.1 (frames.writes-read s.version t own.0 sound.right low own.1)

  sound_ended : (s : State W) (w t p : ℕ) (c : Contents) (r : CycleReply) → Sound m script s → stage_at s.stages p ≡ open_by w t c → now_of (at_play m script p) ≤ last_moment → Sound m script (ended s w t c p r)
  sound_ended s w t p c r sound e timely =
      let low = sound.below t record { play = p; who = w; contents = c; is = e } in
      let fits = fits_store s t sound low in
      let now = now_of (at_play m script p) in
      let input = input_of (at_play m script p) in
      let rest = frames.elsewhere s.version t now input s.store in
      let keeps = frames.keeps s.version t now input s.store sound.right low timely fits in
      let was = still_open s.stages p (open_by w t c) e (λ z. done_open w t c (sym z)) in
      let other = λ (q : ℕ) (i : stage_at s.stages q ≡ idle). with_other s.stages p q done (λ j. idle_open w t c (sym i ∙ (ap (λ z. stage_at s.stages z) j ∙ e))) ∙ i in
      record {
        right = sound.right;
        whole = (rest.0 ∙ sound.whole.0, λ q h. ⊎_elim (λ k. keeps q (frames.writes-read s.version t q sound.right low k)) (λ out. let o = sound.whole.1 q h in (o.0, rest.1 q out ∙ o.1, o.2)) (has? (m.writes s.version t) q));
        below = λ t' o. sound.below t' (open_before s p w t c r e t' o);
        cycles = λ q w' t' c' f. sound.cycles q w' t' c' (was q w' t' c' f).1;
        agrees = λ q w' t' c' f x h. let o = was q w' t' c' f in
            sound.agrees q w' t' c' o.1 x h ∙ sym (rest.1 x (λ k. sound.apart p w t c q w' t' c' e o.1 (λ i. o.0 (sym i)) x k h));
        apart = λ q w' t' c' q' w'' t'' c'' f g. sound.apart q w' t' c' q' w'' t'' c'' (was q w' t' c' f).1 (was q' w'' t'' c'' g).1;
        waits = λ q w' u. let k = sound.waits q w' u in (other q k.0, k.1);
        changes = λ q w' d u. absurd ((sound.changes q w' d u).3 t record { play = p; who = w; contents = c; is = e });
      }

  timely_of : (s : State W) (w p t now : ℕ) (input : List ℕ) (of : W) (taken : Contents) (reply : CycleReply) (left : Contents) → HasRun m script s w p t now input of taken reply left → now_of (at_play m script p) ≤ last_moment
  timely_of s w p t now input of taken reply left ran = subst (λ (z : ℕ). z ≤ last_moment) ran.now-is ran.timely

  fits_ran : (s : State W) (w p t now : ℕ) (input : List ℕ) (of : W) (taken : Contents) (reply : CycleReply) (left : Contents) → HasRun m script s w p t now input of taken reply left → FitOn (m.fit s.version) (m.reads s.version t) taken
  fits_ran s w p t now input of taken reply left ran = subst (λ (z : W). FitOn (m.fit z) (m.reads z t) taken) ran.of-is ran.fits

  -- the reply is the one that One gives on the contents at this point
  reply_same : (s : State W) (w p t now : ℕ) (input : List ℕ) (of : W) (taken : Contents) (reply : CycleReply) (left : Contents) → Sound m script s
      → HasRun m script s w p t now input of taken reply left → reply ≡ cycle_reply m script s p t
  reply_same s w p t now input of taken reply left sound ran =
      let low = sound.below t record { play = p; who = w; contents = taken; is = ran.open-is } in
      ran.reply-is ∙ (ap (λ z. m.reply_of z t now input taken) ran.of-is ∙ (ap (λ n. m.reply_of s.version t n input taken) ran.now-is
      ∙ (ap (λ n. m.reply_of s.version t (now_of (at_play m script p)) n taken) ran.input-is
      ∙ (frames.local s.version t (now_of (at_play m script p)) (input_of (at_play m script p)) taken s.store sound.right low (timely_of s w p t now input of taken reply left ran) (fits_ran s w p t now input of taken reply left ran) (sound.agrees p w t taken ran.open-is)).0)))

  left_same : (s : State W) (w p t now : ℕ) (input : List ℕ) (of : W) (taken : Contents) (reply : CycleReply) (left : Contents) → Sound m script s
      → HasRun m script s w p t now input of taken reply left → AgreeOn (m.reads s.version t) left (cycle_left m script s p t)
  left_same s w p t now input of taken reply left sound ran r h =
      let low = sound.below t record { play = p; who = w; contents = taken; is = ran.open-is } in
      let is : left ≡ m.left_by s.version t (now_of (at_play m script p)) (input_of (at_play m script p)) taken =
      ran.left-is ∙ (ap (λ z. m.left_by z t now input taken) ran.of-is ∙ (ap (λ n. m.left_by s.version t n input taken) ran.now-is ∙ ap (λ n. m.left_by s.version t (now_of (at_play m script p)) n taken) ran.input-is)) in
      ap (λ c. bytes_at c r) is
      ∙ left_agree s.version t (now_of (at_play m script p)) (input_of (at_play m script p)) taken s.store sound.right low (timely_of s w p t now input of taken reply left ran) (fits_ran s w p t now input of taken reply left ran) (sound.agrees p w t taken ran.open-is) r h

  home_ended : (s : State W) (w p t now : ℕ) (input : List ℕ) (of : W) (taken : Contents) (reply : CycleReply) (left carrier' home home' : Contents) → Sound m script s → AtHome m script s home
      → HasRun m script s w p t now input of taken reply left → Moved (m.writes s.version t) left home carrier' home' → AtHome m script (ended s w t taken p reply) home'
  home_ended s w p t now input of taken reply left carrier' home home' sound k ran moved =
      let low = sound.below t record { play = p; who = w; contents = taken; is = ran.open-is } in
      let rest = frames.elsewhere s.version t (now_of (at_play m script p)) (input_of (at_play m script p)) s.store in
      record {
        total = moved.to-length ∙ k.total;
        here = λ r out. ⊎_elim (λ h. moved.here r h ∙ left_same s w p t now input of taken reply left sound ran r (frames.writes-read s.version t r sound.right low h))
            (λ apart. moved.to-rest r apart ∙ (k.here r (λ x. out record {
              task = x.task;
              by = open_other s p w t taken reply ran.open-is x.task (λ i. apart (subst (λ (z : ℕ). Has (m.writes s.version z) r) i x.has)) x.by;
              has = x.has;
            })
            ∙ sym (rest.1 r apart)))
            (has? (m.writes s.version t) r);
        out = λ r x.
            let o = still_open s.stages p (open_by w t taken) ran.open-is (λ z. done_open w t taken (sym z)) x.by.play x.by.who x.task x.by.contents x.by.is in
            moved.to-rest r (λ h. sound.apart x.by.play x.by.who x.task x.by.contents p w t taken o.1 ran.open-is o.0 r x.has (frames.writes-read s.version t r sound.right low h))
            ∙ k.out r record { task = x.task; by = open_before s p w t taken reply ran.open-is x.task x.by; has = x.has };
      }

  -- what a cycle leaves may come home
  pub may_return : (s : State W) (w p t now : ℕ) (input : List ℕ) (of : W) (taken : Contents) (reply : CycleReply) (left home : Contents) → Sound m script s → AtHome m script s home
      → HasRun m script s w p t now input of taken reply left → MayMove (m.writes of t) left home
  may_return s w p t now input of taken reply left home sound k ran r h =
      let low = ran.below in
      let right : m.right of = subst m.right (sym ran.of-is) sound.right in
      let b = frames.reads-below of t r right low (frames.writes-read of t r right low h) in
      let len : length left ≡ m.region_total of = ap length ran.left-is ∙ ((frames.elsewhere of t now input taken).0 ∙ ran.total) in
      let same : m.region_total of ≡ m.region_total s.version = ap m.region_total ran.of-is in (
        subst (λ (n : ℕ). r < n) (sym len) b,
        subst (λ (n : ℕ). r < n) (same ∙ sym k.total) b,
        k.out r record { task = t; by = record { play = p; who = w; contents = taken; is = ran.open-is }; has = subst (λ (z : W). Has (m.writes z t) r) ran.of-is h },
      )

  -- a carrier that gave back what was written is spare
  pub spare_again : (s : State W) (w p t now : ℕ) (input : List ℕ) (of : W) (taken : Contents) (reply : CycleReply) (left carrier' home home' : Contents) → m.right of → HasRun m script s w p t now input of taken reply left
      → Moved (m.writes of t) left home carrier' home' → Spare m of t carrier'
  spare_again s w p t now input of taken reply left carrier' home home' right ran moved =
      let rest = frames.elsewhere of t now input taken in
      let same = λ (r : ℕ) (apart : Has (m.writes of t) r → ⊥). moved.from-rest r apart ∙ (ap (λ c. bytes_at c r) ran.left-is ∙ rest.1 r apart) in
      record {
        total = moved.from-length ∙ (ap length ran.left-is ∙ (rest.0 ∙ ran.total));
        images = λ r h apart. let o = ran.fits r h in (o.0, same r apart ∙ o.1, λ other g. frames.one-length of r o.0 other o.2 g);
        written = moved.gone;
        others = λ r out. same r (λ h. out (frames.writes-read of t r right ran.below h)) ∙ ran.rest-out r out;
      }

  -- ---- kits

  module _ {K : Type 0} (good : W → ℕ → K → Type 0) where
    kit_begun : (s : State W) (w p t : ℕ) (c : Contents) (kits : List (Option K)) → stage_at s.stages p ≡ idle → t < length kits → (t' : ℕ) → KitAt m script kits good s t'
        → KitAt m script (slice_set kits t None) good (opened s p w t c) t'
    kit_begun s w p t c kits is low t' k =
        dite (ℕ_discrete t' t)
        (λ i. inl (subst (λ (z : ℕ). IsOpen m script (opened s p w t c) z) (sym i) (open_now s p w t c is), ap (λ z. slice_index_or (slice_set kits t None) z None) i ∙ get_or-set_same kits t None None low))
        (λ ne. let same = get_or-set_other kits t t' None None ne in
        ⊎_elim (λ o. inl (open_on s p w t c is t' o.0, same ∙ o.1)) (λ x. inr (x.0, same ∙ x.1, x.2, λ o. ⊎_elim (λ i. ne (sym i)) x.3 (open_was s p w t c is t' o))) k)

    kit_ended : (s : State W) (w p t : ℕ) (c : Contents) (r : CycleReply) (kits : List (Option K)) (kit : K) → Sound m script s → stage_at s.stages p ≡ open_by w t c → t < length kits → good s.version t kit → (t' : ℕ) → KitAt m script kits good s t'
        → KitAt m script (slice_set kits t (Some kit)) good (ended s w t c p r) t'
    kit_ended s w p t c r kits kit sound e low fine t' k =
        dite (ℕ_discrete t' t)
        (λ i. inr (
          kit,
          ap (λ z. slice_index_or (slice_set kits t (Some kit)) z None) i ∙ get_or-set_same kits t (Some kit) None low,
          subst (λ (z : ℕ). good s.version z kit) (sym i) fine,
          λ o. not_again s p w t c r sound e (subst (λ (z : ℕ). IsOpen m script (ended s w t c p r) z) i o),
        ))
        (λ ne. let same = get_or-set_other kits t t' (Some kit) None ne in
        ⊎_elim (λ o. inl (open_other s p w t c r e t' ne o.0, same ∙ o.1)) (λ x. inr (x.0, same ∙ x.1, x.2, λ o. x.3 (open_before s p w t c r e t' o))) k)

abbrev pub begun_fields : {W K : Type 0} → Fields W K → ℕ → ℕ → Status → Contents → Fields W K
begun_fields f p t snap home' = record f { kits = slice_set f.kits t None; home = home'; status = slice_set f.status p snap }

abbrev pub ended_fields : {W K : Type 0} → Fields W K → ℕ → ℕ → K → Contents → List Bool → Entry → Fields W K
ended_fields f p t kit home' held e = record f { kits = slice_set f.kits t (Some kit); home = home'; status = slice_set f.status p Done; progress = marked f.progress p; held = held; entries = f.entries ++ e ∷ [] }

pub free_not : (u : Turn) → u ≡ free → (p w : ℕ) (c : Contents) → u ≡ under_way p w c → ⊥
free_not u e p w c f = let k : free ≡ under_way p w c = sym e ∙ f in cc

pub status_to : (status : List Status) (gs : List Stage) (p : ℕ) (x : Status) (g : Stage) → 1 ≤ p → map stage_of status ≡ done ∷ gs → stage_of x ≡ g → map stage_of (slice_set status p x) ≡ done ∷ with_stage gs p g
status_to status gs p x g h e i = map-set stage_of status p x ∙ (ap (λ z. slice_set z p (stage_of x)) e ∙ (ap (λ z. slice_set (done ∷ gs) p z) i ∙ set_behind gs p g h))

pub status_done : (status : List Status) (gs : List Stage) (p : ℕ) → map stage_of status ≡ done ∷ gs → map stage_of (slice_set status p Done) ≡ done ∷ with_stage gs p done
status_done status gs p e = map-set stage_of status p Done ∙ (ap (λ z. slice_set z p done) e ∙ set_done gs p)

pub not_away : {W : Type 0} (m : Meaning W) (s : State W) (script : Script) (w p t : ℕ) (c : Contents) → Sound m script s → stage_at s.stages p ≡ open_by w t c → (q w' : ℕ) (d : Contents) → s.turn ≡ under_way q w' d → ⊥
not_away m s script w p t c sound e q w' d u = (sound.changes q w' d u).3 t record { play = p; who = w; contents = c; is = e }

module _ {W K : Type 0} (good : W → ℕ → K → Type 0) (m : Meaning W) (frames : Frames m) where
  pub kept_begun : (f : Fields W K) (v : Past W) (w p t : ℕ) (ver : W) (c x : Contents) (snap : Status) (carrier home' : Contents) → Kept f good m v → MayBegin m v.script (state_of m v) p t
      → ver ≡ (state_of m v).version → x ≡ c → stage_of snap ≡ open_by w t c → Taken (m.reads ver t) (m.writes ver t) f.home carrier home' c
      → Kept (begun_fields f p t snap home') good m (with_event v w p (begun t ver x))
  kept_begun f v w p t ver c x snap carrier home' k may same told is taken0 =
      let s = state_of m v in
      let h = k.holds in
      let taken : Taken (m.reads s.version t) (m.writes s.version t) f.home carrier home' c = subst (λ (z : W). Taken (m.reads z t) (m.writes z t) f.home carrier home' c) same taken0 in
      let idle-is = may.next.idle-is in
      let here = within s.stages p idle idle-is idle_done in
      let at-home = home_of m v.script s s.turn f.home (free_not s.turn may.turn-free) h.home-is in
      let agree = agree_begun m frames v.script s t p c f.home carrier home' at-home may taken in
      let low : t < length f.kits = subst (λ (n : ℕ). t < n) (sym h.kits-all) (frames.named-below s.version _ t h.sound.right may.task.named) in
      let next = staged s (with_stage s.stages p (open_by w t c)) in
      let holds : Holds m v.script (begun_fields f p t snap home') good next = record {
        sound = sound_begun m frames v.script s w p t c h.sound may agree;
        loaded-is = h.loaded-is;
        spare-is = subst (λ (u : Turn). IsSpare m v.script next u f.for_change f.nothing) (sym may.turn-free) (subst (λ (u : Turn). IsSpare m v.script s u f.for_change f.nothing) may.turn-free h.spare-is);
        home-is = home_as m v.script next s.turn home' (free_not s.turn may.turn-free) (home_begun m frames v.script s w p t c f.home carrier home' at-home idle-is taken);
        stages-are = status_to f.status s.stages p snap (open_by w t c) here.0 h.stages-are is;
        done-are = h.done-are ∙ ap (λ z. true ∷ z) (sym (done_open_too s.stages p w t c idle-is));
        turn-is = h.turn-is;
        held-are = h.held-are;
        since-are = h.since-are;
        entries-are = h.entries-are;
        kits-all = length-set f.kits t None ∙ h.kits-all;
        kits-are = λ t' b. kit_begun m frames v.script good s w p t c f.kits idle-is low t' (h.kits-are t' b);
      } in
      subst (λ (z : Contents). Kept (begun_fields f p t snap home') good m (with_event v w p (begun t ver z))) (sym told)
      (kept_event f (begun_fields f p t snap home') good m v w p (begun t ver c) k (may, same, agree) holds
      record { script-is = k.fixed.script-is; status-all = length-set f.status p snap ∙ k.fixed.status-all; inputs = k.fixed.inputs }
      (subst (λ (n : ℕ). Room (with_stage s.stages p (open_by w t c)) s.turn n f.entry_room (length v.history + 1) f.event_room) (add-zero _)
      (room_to s.stages s.turn s.turn p idle (open_by w t c) 0 (length f.entries) f.entry_room (length v.history) f.event_room idle-is idle_done (omega arith) (omega arith) k.room)))

  spare_as : (s s' : State W) (script : Script) (u : Turn) (o : Option W) (e : Option Contents) → s'.version ≡ s.version → IsSpare m script s u o e → IsSpare m script s' u o e
  spare_as s s' script free o e i k = (k.0 ∙ ap Some (sym i), k.1)
  spare_as s s' script (wanted_by p w) o e i k = (k.0 ∙ ap Some (sym i), k.1)
  spare_as s s' script (under_way p w c) o e i k = tt

  pub kept_ended : (f : Fields W K) (v : Past W) (w p t now n : ℕ) (input : List ℕ) (of : W) (taken : Contents) (reply : CycleReply) (left carrier' home' : Contents) (kit : K) (held : List Bool) → Kept f good m v
      → HasRun m v.script (state_of m v) w p t now input of taken reply left → n ≡ m.number (state_of m v).version → Moved (m.writes of t) left f.home carrier' home' → good of t kit
      → AreHeld f.progress.names held (held_after reply (task_of (at_play m v.script p)) (state_of m v).held)
      → Kept (ended_fields f p t kit home' held (entry n p (answer_of reply))) good m (with_event v w p (finished reply))
  kept_ended f v w p t now n input of taken reply left carrier' home' kit held k ran num moved0 fine held-is =
      let s = state_of m v in
      let h = k.holds in
      let e = ran.open-is in
      let moved : Moved (m.writes s.version t) left f.home carrier' home' = subst (λ (z : W). Moved (m.writes z t) left f.home carrier' home') ran.of-is moved0 in
      let fine' : good s.version t kit = subst (λ (z : W). good z t kit) ran.of-is fine in
      let away = not_away m s v.script w p t taken h.sound e in
      let at-home = home_of m v.script s s.turn f.home away h.home-is in
      let low : t < length f.kits = subst (λ (n : ℕ). t < n) (sym h.kits-all) (h.sound.below t record { play = p; who = w; contents = taken; is = e }) in
      let f' = ended_fields f p t kit home' held (entry n p (answer_of reply)) in
      let next = ended m frames v.script s w t taken p reply in
      let timely = timely_of m frames v.script s w p t now input of taken reply left ran in
      let holds : Holds m v.script f' good next = record {
        sound = sound_ended m frames v.script s w t p taken reply h.sound e timely;
        loaded-is = h.loaded-is;
        spare-is = spare_as s next v.script s.turn f.for_change f.nothing refl h.spare-is;
        home-is = home_as m v.script next s.turn home' away (home_ended m frames v.script s w p t now input of taken reply left carrier' f.home home' h.sound at-home ran moved);
        stages-are = status_done f.status s.stages p h.stages-are;
        done-are = done_marked s.stages p f.progress.done h.done-are;
        turn-is = h.turn-is;
        held-are = held-is;
        since-are = h.since-are;
        entries-are = ap (λ es. es ++ entry n p (answer_of reply) ∷ []) h.entries-are ∙ ap (λ z. s.entries ++ entry z p (answer_of reply) ∷ []) num;
        kits-all = length-set f.kits t (Some kit) ∙ h.kits-all;
        kits-are = λ t' b. kit_ended m frames v.script good s w p t taken reply f.kits kit h.sound e low fine' t' (h.kits-are t' b);
      } in
      let back = sym (ap (λ g. finish_of m v.script g s p reply) e) in
      let room : Room (with_stage s.stages p done) s.turn (length (f.entries ++ entry n p (answer_of reply) ∷ [])) f.entry_room (length v.history + 1) f.event_room =
      rw length-append (room_to s.stages s.turn s.turn p (open_by w t taken) done 1 (length f.entries) f.entry_room (length v.history) f.event_room e (λ z. done_open w t taken (sym z)) (omega arith) (omega arith) k.room) in
      kept_event f f' good m v w p (finished reply) k (t, taken, e, reply_same m frames v.script s w p t now input of taken reply left h.sound ran)
      (subst (λ (z : State W). Holds m v.script f' good z) back holds)
      record { script-is = k.fixed.script-is; status-all = length-set f.status p Done ∙ k.fixed.status-all; inputs = k.fixed.inputs }
      (subst (λ (z : State W). Room z.stages z.turn (length f'.entries) f'.entry_room (length v.history + 1) f'.event_room) back room)

-- the end of a cycle changes what its task writes and nothing else
pub finished_others : {W : Type 0} (m : Meaning W) (frames : Frames m) (v v' : Past W) (w p t : ℕ) (c : Contents) (r : CycleReply) → v' ≡ with_event v w p (finished r) → stage_at (state_of m v).stages p ≡ open_by w t c
    → ChangesOnly (m.writes (state_of m v).version t) (state_of m v).store (state_of m v').store
finished_others {W} m frames v v' w p t c r e is =
    let s = state_of m v in
    let only = λ (z : State W). ChangesOnly (m.writes s.version t) s.store z.store in
    subst (λ (z : Past W). only (state_of m z)) (sym e)
    (subst only (sym (state_more m v w p (finished r)))
    (subst (λ (g : Stage). only (finish_of m v.script g s p r)) (sym is) (frames.elsewhere s.version t (now_of (at_play m v.script p)) (input_of (at_play m v.script p)) s.store)))
