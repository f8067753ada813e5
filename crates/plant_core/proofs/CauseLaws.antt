-- What the calls need of what a core keeps.
use Rattle.std.proofs.Common.{◌≡◌, ℕ, zero, suc, ◌<◌, ◌≤◌, ◌+◌, List, [], ◌∷◌, length, map, None, Some, Option, Bool, true, false, slice_get, slice_index_or, refl, sym, ap, ◌∙◌, subst, ⊎_elim, ◌⊎◌, inl, inr, arith, nat_le, MatchOption, Ok, Err, IsSome, if◌then◌else◌}
use Rattle.std.specs.Option.{option_map}
use Rattle.std.proofs.lemmas.Bool.Decides.{nat_tests}
use Rattle.std.proofs.lemmas.List.{length-map}
use Rattle.std.proofs.lemmas.Option.{slice_get_within}
use mathlib.Core.Logic.{dite}
use native.Mathlib.Decide.{ℕ_discrete, dec_lt}
use Rattle.cycle_journal.specs.Play.{play_numbered}
use Rattle.plc_text.specs.declared.refusal.Refusal.{Refusal}
use Rattle.cycle_journal.specs.declared.entry.Answer.{Answer}
use Rattle.cycle_journal.specs.declared.entry.CycleReply.{CycleReply}
use Rattle.cycle_journal.specs.declared.play.Play.{Play}
use Rattle.cycle_journal.specs.declared.play.Play.TheVariants as play
use Rattle.plant_rules.specs.Meaning.{Contents, Meaning, Frames, Has, Rising, FitOn, last_moment}
use Rattle.plant_rules.specs.Next.{Spare}
use Rattle.plant_rules.specs.One.{held_after}
use Rattle.plant_rules.specs.History.{Past, Script, State, Stage, idle, open_by, done, Turn, wanted_by, under_way, Happening, stage_at, at_play, now_of, input_of, task_of, is_cycle, is_change, is_reset, IsOpen, Before, Waits, MayBegin, Unclaimed, ComesTo, Follows, resumed, changed, held_with, state_of, with_event}
use Rattle.plant_rules.proofs.plant_history.Running.{within, cycle_not_change, reset_not_change}
use Rattle.plant_core.specs.plant_moves.Moves.{MayMove, Moved, Taken, MayTake}
use Rattle.plant_core.specs.play_order.Progress.{Misses, MissesFirst, IsNamed}
use Rattle.plant_core.specs.declared.stage.Status.{Status}
use Rattle.plant_core.specs.Stage.{stage_of, done_of}
use Rattle.plant_core.specs.Hub.{Sound}
use Rattle.plant_core.specs.Claim.{HasClaimed, HasRun}
use Rattle.plant_core.specs.Answers.{Conflict, Holding, IsBusy, IsEarly}
use Rattle.plant_core.specs.Private.Meeting.{Meets, MeetsFirst}
use Rattle.plant_core.specs.Private.Causes.{MeetsWith, nearer_of, BestOf}
use Rattle.plant_core.specs.Private.Keeping.{Fields, IsHome, IsSpare, Kept}
use Rattle.plant_core.specs.Private.Tasks.{AreHeld, held_by, freed_by}
use Rattle.plant_core.proofs.TaskLaws.{held_fault, held_free}
use Rattle.plant_core.proofs.Stages.{room_left, home_of, at_behind}
use Rattle.plant_core.proofs.CycleLaws.{fits_begun, may_take, may_return, free_not, not_away}

Some_is : {A : Type 0} (a b : A) → Some a ≡ Some b → a ≡ b
Some_is a b e = cc

none_some : {A : Type 0} (a : A) → None ≡ Some a → ⊥
none_some a e = cc

true_false : true ≡ false → ⊥
true_false e = cc

pub at_default : {A : Type 0} (xs : List A) (i : ℕ) (d e : A) → i < length xs → slice_index_or xs i d ≡ slice_index_or xs i e
at_default [] i d e h = absurd (omega (arith, h))
at_default (x ∷ xs) zero d e h = refl
at_default (x ∷ xs) (suc i) d e h = at_default xs i d e (omega (arith, h))

pub at_once : {W K : Type 0} (f : Fields W K) (good : W → ℕ → K → Type 0) (m : Meaning W) (v v0 : Past W) → v ≡ v0 → Kept f good m v → Kept f good m v0
at_once f good m v v0 e k = subst (λ (z : Past _). Kept f good m z) e k

-- a play without an entry has room
pub room_of : {W K : Type 0} (f : Fields W K) (good : W → ℕ → K → Type 0) (m : Meaning W) (v v0 : Past W) (p : ℕ) (g : Stage) → v ≡ v0 → Kept f good m v
    → stage_at (state_of m v0).stages p ≡ g → (g ≡ done → ⊥) → (length f.entries < f.entry_room) × (length v.history < f.event_room)
room_of f good m v v0 p g e k is still =
    room_left (state_of m v).stages (state_of m v).turn p g (length f.entries) f.entry_room (length v.history) f.event_room (subst (λ (z : Past _). stage_at (state_of m z).stages p ≡ g) (sym e) is) still k.room

-- ---- plays and statuses

status_all : {W K : Type 0} (f : Fields W K) (good : W → ℕ → K → Type 0) (m : Meaning W) (v : Past W) → Kept f good m v → length f.status ≡ length (state_of m v).stages + 1
status_all f good m v k = let few : length (map stage_of f.status) ≡ length f.status = rw length-map refl in let same = ap length k.holds.stages-are in omega (arith, few, same)

pub stages_all : {W K : Type 0} (f : Fields W K) (good : W → ℕ → K → Type 0) (m : Meaning W) (v : Past W) → Kept f good m v → length (state_of m v).stages ≡ length v.script.plays
stages_all f good m v k = let a = status_all f good m v k in let b = k.fixed.status-all in omega (arith, a, b)

-- a play without an entry is one of the plays
pub play_within : {W K : Type 0} (f : Fields W K) (good : W → ℕ → K → Type 0) (m : Meaning W) (v : Past W) (p : ℕ) (g : Stage) → Kept f good m v
    → stage_at (state_of m v).stages p ≡ g → (g ≡ done → ⊥) → (1 ≤ p) × (p ≤ length v.script.plays)
play_within f good m v p g k is still = let low = within (state_of m v).stages p g is still in let few = stages_all f good m v k in let up = low.1 in (low.0, omega (arith, up, few))

pub status_low : {W K : Type 0} (f : Fields W K) (good : W → ℕ → K → Type 0) (m : Meaning W) (v : Past W) (p : ℕ) → Kept f good m v → p ≤ length v.script.plays → p < length f.status
status_low f good m v p k h = let a = k.fixed.status-all in omega (arith, a, h)

-- the play's place in the progress
pub progress_low : {W K : Type 0} (f : Fields W K) (good : W → ℕ → K → Type 0) (m : Meaning W) (v : Past W) (p : ℕ) → Kept f good m v → p ≤ length v.script.plays → p ≤ length f.progress.script.plays
progress_low f good m v p k h = subst (λ (z : Script). p ≤ length z.plays) (sym k.fixed.script-is) h

mapped_at : (status : List Status) (p : ℕ) (x : Status) → p < length status → slice_index_or (map stage_of status) p done ≡ stage_of (slice_index_or status p x)
mapped_at [] p x h = absurd (omega (arith, h))
mapped_at (s ∷ ss) zero x h = refl
mapped_at (s ∷ ss) (suc p) x h = mapped_at ss p x (omega (arith, h))

-- what the place of a play says is its stage
pub status_is : {W K : Type 0} (f : Fields W K) (good : W → ℕ → K → Type 0) (m : Meaning W) (v : Past W) (p : ℕ) (x : Status) → Kept f good m v → p ≤ length v.script.plays → x ≡ slice_index_or f.status p x → stage_of x ≡ stage_at (state_of m v).stages p
status_is f good m v p x k h there =
    ap stage_of there ∙ (sym (mapped_at f.status p x (status_low f good m v p k h)) ∙ (ap (λ z. slice_index_or z p done) k.holds.stages-are ∙ at_behind (state_of m v).stages p))

-- ---- order

done_at : (gs : List Stage) (p : ℕ) → slice_index_or (true ∷ map done_of gs) p true ≡ done_of (stage_at gs p)
done_at gs zero = refl
done_at gs (suc p) = by gs p
  where
    by : (gs : List Stage) (p : ℕ) → slice_index_or (map done_of gs) p true ≡ done_of (slice_index_or gs p done)
    by [] p = refl
    by (g ∷ gs) zero = refl
    by (g ∷ gs) (suc p) = by gs p

done_not : (g : Stage) → (g ≡ done → ⊥) → done_of g ≡ false
done_not idle still = refl
done_not (open_by w t c) still = refl
done_not done still = absurd (still refl)

pub waits_of : {W K : Type 0} (f : Fields W K) (good : W → ℕ → K → Type 0) (m : Meaning W) (v : Past W) (q p : ℕ) → Kept f good m v → Misses f.progress q p → Waits m v.script (state_of m v) q p
waits_of f good m v q p k misses =
    record {
      before = subst (λ (z : Script). Before z q p) k.fixed.script-is misses.before;
      still = λ e. true_false (sym (ap (λ z. slice_index_or z q true) k.holds.done-are ∙ (done_at (state_of m v).stages q ∙ ap done_of e)) ∙ misses.still);
    }

pub misses_of : {W K : Type 0} (f : Fields W K) (good : W → ℕ → K → Type 0) (m : Meaning W) (v : Past W) (q p : ℕ) → Kept f good m v → Waits m v.script (state_of m v) q p → Misses f.progress q p
misses_of f good m v q p k waits =
    record {
      before = subst (λ (z : Script). Before z q p) (sym k.fixed.script-is) waits.before;
      still = ap (λ z. slice_index_or z q true) k.holds.done-are ∙ (done_at (state_of m v).stages q ∙ done_not (stage_at (state_of m v).stages q) waits.still);
    }

pub early_of : {W K : Type 0} (f : Fields W K) (good : W → ℕ → K → Type 0) (m : Meaning W) (v : Past W) (p q : ℕ) → Kept f good m v → stage_at (state_of m v).stages p ≡ idle → MissesFirst f.progress p q → IsEarly m v.script (state_of m v) p q
early_of f good m v p q k is first = record { idle-is = is; waits = waits_of f good m v q p k first.misses; least = λ j low w. first.least j low (misses_of f good m v j p k w) }

idle_by : (g : Stage) → ((w t : ℕ) (c : Contents) → g ≡ open_by w t c → ⊥) → (g ≡ done → ⊥) → g ≡ idle
idle_by idle a b = refl
idle_by (open_by w t c) a b = absurd (a w t c refl)
idle_by done a b = absurd (b refl)

-- a change or a reset without an entry is idle
pub idle_of : {W K : Type 0} (f : Fields W K) (good : W → ℕ → K → Type 0) (m : Meaning W) (v : Past W) (p : ℕ) → Kept f good m v → is_cycle (at_play m v.script p) ≡ false
    → (stage_at (state_of m v).stages p ≡ done → ⊥) → stage_at (state_of m v).stages p ≡ idle
idle_of f good m v p k once still = idle_by (stage_at (state_of m v).stages p) (λ w t c e. true_false (sym (k.holds.sound.cycles p w t c e) ∙ once)) still

-- ---- plays of a sort

pub cycle_from : {W : Type 0} (m : Meaning W) (script : Script) (p : ℕ) → is_cycle (at_play m script p) ≡ true → 1 ≤ p
cycle_from m script zero e = absurd (true_false (sym e))
cycle_from m script (suc p) e = omega arith

pub change_from : {W : Type 0} (m : Meaning W) (script : Script) (p : ℕ) → is_change (at_play m script p) ≡ true → 1 ≤ p
change_from m script zero e = absurd (true_false (sym e))
change_from m script (suc p) e = omega arith

pub reset_from : {W : Type 0} (m : Meaning W) (script : Script) (p : ℕ) → is_reset (at_play m script p) ≡ true → 1 ≤ p
reset_from m script zero e = absurd (true_false (sym e))
reset_from m script (suc p) e = omega arith

not_true : (b : Bool) → (b ≡ true → ⊥) → b ≡ false
not_true true ne = absurd (ne refl)
not_true false ne = refl

pub cycle_no_change : (o : Option Play) → is_cycle o ≡ true → is_change o ≡ false
cycle_no_change o e = not_true (is_change o) (cycle_not_change o e)

pub reset_no_change : (o : Option Play) → is_reset o ≡ true → is_change o ≡ false
reset_no_change o e = not_true (is_change o) (reset_not_change o e)

pub change_no_cycle : (o : Option Play) → is_change o ≡ true → is_cycle o ≡ false
change_no_cycle o e = not_true (is_cycle o) (λ i. cycle_not_change o i e)

pub reset_no_cycle : (o : Option Play) → is_reset o ≡ true → is_cycle o ≡ false
reset_no_cycle None e = refl
reset_no_cycle (Some (play.Cycle n now input)) e = absurd (true_false (sym e))
reset_no_cycle (Some (play.Change n s)) e = refl
reset_no_cycle (Some (play.Reset n)) e = refl

pub version_is : {W K : Type 0} (f : Fields W K) (good : W → ℕ → K → Type 0) (m : Meaning W) (v : Past W) (d : W) → Kept f good m v → d ≡ f.loaded → d ≡ (state_of m v).version
version_is f good m v d k e = e ∙ k.holds.loaded-is

pub view_more : {W : Type 0} (v v0 : Past W) (w p : ℕ) (h h' : Happening W) → v ≡ v0 → h ≡ h' → with_event v w p h ≡ with_event v0 w p h'
view_more v v0 w p h h' e f = ap (λ z. with_event z w p h) e ∙ ap (λ z. with_event v0 w p z) f

-- ---- kits

module _ {W K : Type 0} (good : W → ℕ → K → Type 0) (m : Meaning W) (frames : Frames m) where
  pub task_low : (f : Fields W K) (v : Past W) (p t : ℕ) → Kept f good m v → MayBegin m v.script (state_of m v) p t → t < m.tasks (state_of m v).version
  task_low f v p t k may = frames.named-below (state_of m v).version _ t k.holds.sound.right may.task.named

  -- no cycle of the task is open
  not_open : (f : Fields W K) (v : Past W) (p t : ℕ) → Kept f good m v → MayBegin m v.script (state_of m v) p t → IsOpen m v.script (state_of m v) t → ⊥
  not_open f v p t k may o =
      let right = k.holds.sound.right in
      let low = task_low f v p t k may in
      let own = frames.owns-some (state_of m v).version t right low in
      may.unclaimed.writes-free own.0 own.1 record { task = t; by = o; has = frames.writes-read (state_of m v).version t own.0 right low own.1 }

  -- so its kit lies in the core
  pub kit_there : (f : Fields W K) (v : Past W) (p t : ℕ) → Kept f good m v → MayBegin m v.script (state_of m v) p t → IsSome (slice_index_or f.kits t None)
  kit_there f v p t k may = ⊎_elim (λ o. absurd (not_open f v p t k may o.0)) (λ x. rw x.1 refl) (k.holds.kits-are t (task_low f v p t k may))

  pub kit_good : (f : Fields W K) (v : Past W) (p t : ℕ) (kit : K) → Kept f good m v → MayBegin m v.script (state_of m v) p t → slice_index_or f.kits t None ≡ Some kit → good (state_of m v).version t kit
  kit_good f v p t kit k may e =
      ⊎_elim (λ o. absurd (none_some kit (sym o.1 ∙ e))) (λ x. subst (λ (z : K). good (state_of m v).version t z) (Some_is x.0 kit (sym x.1 ∙ e)) x.2) (k.holds.kits-are t (task_low f v p t k may))

  -- what a claim needs
  pub record Ready (home : Contents) (t : ℕ) (shared : W) (carrier : Contents) : Type 0 where
    pub below : t < m.tasks shared
    pub reads : Rising (m.reads shared t)
    pub writes : Rising (m.writes shared t)
    pub may : MayTake (m.reads shared t) (m.writes shared t) home carrier

  pub ready_of : (f : Fields W K) (v : Past W) (p t : ℕ) (shared : W) (carrier : Contents) → Kept f good m v → MayBegin m v.script (state_of m v) p t → shared ≡ (state_of m v).version → Spare m (state_of m v).version t carrier → Ready f.home t shared carrier
  ready_of f v p t shared carrier k may same spare =
      let s = state_of m v in
      let right = k.holds.sound.right in
      let low = task_low f v p t k may in
      let at-home = home_of m v.script s s.turn f.home (free_not s.turn may.turn-free) k.holds.home-is in
      subst (λ (z : W). Ready f.home t z carrier) (sym same)
      record { below = low; reads = frames.reads-rising s.version t right low; writes = frames.writes-rising s.version t right low; may = may_take m frames v.script s t p f.home carrier k.holds.sound at-home may spare }

  pub claimed_of : (f : Fields W K) (v : Past W) (p t now : ℕ) (input : List ℕ) (shared : W) (carrier home' c : Contents) → Kept f good m v → MayBegin m v.script (state_of m v) p t → shared ≡ (state_of m v).version → Spare m (state_of m v).version t carrier
      → Taken (m.reads shared t) (m.writes shared t) f.home carrier home' c → now ≡ now_of (at_play m v.script p) → input ≡ input_of (at_play m v.script p) → now ≤ last_moment → HasClaimed m v.script (state_of m v) p t p now input shared c
  claimed_of f v p t now input shared carrier home' c k may same spare taken0 now-is input-is timely =
      let s = state_of m v in
      let low = task_low f v p t k may in
      let taken : Taken (m.reads s.version t) (m.writes s.version t) f.home carrier home' c = subst (λ (z : W). Taken (m.reads z t) (m.writes z t) f.home carrier home' c) same taken0 in
      let at-home = home_of m v.script s s.turn f.home (free_not s.turn may.turn-free) k.holds.home-is in
      record {
        may = may;
        play-is = refl;
        now-is = now-is;
        input-is = input-is;
        timely = timely;
        of-is = same;
        below = subst (λ (z : W). t < m.tasks z) (sym same) low;
        fits = subst (λ (z : W). FitOn (m.fit z) (m.reads z t) c) (sym same) (fits_begun m frames v.script s t p c f.home carrier home' k.holds.sound at-home may taken);
        rest-out = λ r out. let o = subst (λ (z : W). Has (m.reads z t) r → ⊥) same out in taken.others r o ∙ spare.others r o;
        total = taken.total ∙ (spare.total ∙ ap m.region_total (sym same));
      }

  -- ---- the end of a cycle

  pub may_come : (f : Fields W K) (v : Past W) (w p t now : ℕ) (input : List ℕ) (of : W) (taken : Contents) (reply : CycleReply) (left : Contents) → Kept f good m v → HasRun m v.script (state_of m v) w p t now input of taken reply left
      → Rising (m.writes of t) × MayMove (m.writes of t) left f.home
  may_come f v w p t now input of taken reply left k ran =
      let s = state_of m v in (
        frames.writes-rising of t (subst m.right (sym ran.of-is) k.holds.sound.right) ran.below,
        may_return m frames v.script s w p t now input of taken reply left f.home k.holds.sound (home_of m v.script s s.turn f.home (not_away m s v.script w p t taken k.holds.sound ran.open-is) k.holds.home-is) ran,
      )

  pub task_there : (f : Fields W K) (v : Past W) (w p t : ℕ) (c : Contents) → Kept f good m v → stage_at (state_of m v).stages p ≡ open_by w t c → t < length f.kits
  task_there f v w p t c k e = let low = k.holds.sound.below t record { play = p; who = w; contents = c; is = e } in subst (λ (n : ℕ). t < n) (sym k.holds.kits-all) low

-- ---- what is in the way

module _ {W : Type 0} (m : Meaning W) (frames : Frames m) (script : Script) (s : State W) (sound : Sound m script s) where
  pub best_begun : (t : ℕ) → BestOf m script s t 0 None
  best_begun t = record { none = λ h low r w. omega (arith, low) }

  below_next : (k n : ℕ) → k < n + 1 → (k < n) ⊎ (k ≡ n)
  below_next k n h = dite (ℕ_discrete k n) (λ e. inr e) (λ ne. inl (omega (arith, h, ne)))

  -- the next one has nothing in the way
  pub best_same : (t n : ℕ) (o : Option (ℕ × ℕ)) → BestOf m script s t n o → ((r : ℕ) → MeetsWith m script s t n r → ⊥) → BestOf m script s t (n + 1) o
  best_same t n None k clear = record { none = λ h low r w. ⊎_elim (λ a. k.none h a r w) (λ e. clear r (subst (λ (z : ℕ). MeetsWith m script s t z r) e w)) (below_next h n low) }
  best_same t n (Some b) k clear =
      let low = k.below in
      record {
        below = omega (arith, low);
        meets = k.meets;
        least = λ j q up w. ⊎_elim (λ a. k.least j q a w) (λ e. absurd (clear q (subst (λ (z : ℕ). MeetsWith m script s t z q) e w))) (below_next j n up);
      }

  pub best_next : (t n r : ℕ) (o : Option (ℕ × ℕ)) → BestOf m script s t n o → MeetsWith m script s t n r → ((q : ℕ) → q < r → MeetsWith m script s t n q → ⊥) → BestOf m script s t (n + 1) (nearer_of o (Some r) n)
  best_next t n r None k meets first =
      record {
        below = omega arith;
        meets = meets;
        least = λ j q up w. ⊎_elim (λ a. absurd (k.none j a q w))
            (λ e. (dite (dec_lt q r) (λ a. absurd (first q a (subst (λ (z : ℕ). MeetsWith m script s t z q) e w))) (λ a. omega (arith, a)), λ i. omega (arith, e))) (below_next j n up);
      }
  best_next t n r (Some b) k meets first = by (nat_le b.0 r) refl
    where
      by : (z : Bool) → nat_le b.0 r ≡ z → BestOf m script s t (n + 1) (if z then Some b else Some (r, n))
      by true e =
          let up : b.0 ≤ r = grind (arith, nat_tests, e) in
          let low = k.below in
          record {
            below = omega (arith, low);
            meets = k.meets;
            least = λ j q far w. ⊎_elim (λ a. k.least j q a w)
                (λ i. (dite (dec_lt q r) (λ a. absurd (first q a (subst (λ (z : ℕ). MeetsWith m script s t z q) i w))) (λ a. omega (arith, a, up)), λ x. omega (arith, i, low))) (below_next j n far);
          }
      by false e =
          let up : r < b.0 = grind (arith, nat_tests, e) in
          record {
            below = omega arith;
            meets = meets;
            least = λ j q far w. ⊎_elim (λ a. let x = (k.least j q a w).0 in (omega (arith, x, up), λ i. absurd (omega (arith, i, x, up))))
                (λ i. (dite (dec_lt q r) (λ a. absurd (first q a (subst (λ (z : ℕ). MeetsWith m script s t z q) i w))) (λ a. omega (arith, a)), λ x. omega (arith, i))) (below_next j n far);
          }

  -- what the next one has in the way, if anything
  pub best_with : (t n : ℕ) (o : Option (ℕ × ℕ)) (x : Option ℕ) → BestOf m script s t n o
      → MatchOption x ((r : ℕ) → MeetsWith m script s t n r → ⊥) (λ r. MeetsWith m script s t n r × ((k : ℕ) → k < r → MeetsWith m script s t n k → ⊥)) → BestOf m script s t (n + 1) (nearer_of o x n)
  best_with t n o None k clear = best_same t n o k clear
  best_with t n o (Some r) k meets = best_next t n r o k meets.0 meets.1

  -- a conflict is with some open cycle
  conflict_with : (t r : ℕ) → Conflict m script s t r → (h : ℕ) × (h < m.tasks s.version) × MeetsWith m script s t h r
  conflict_with t r c =
      ⊎_elim (λ x. (x.1.task, sound.below x.1.task x.1.by, record { by = x.1.by; meets = inl (x.0, x.1.has) })) (λ x. (x.1.task, sound.below x.1.task x.1.by, record { by = x.1.by; meets = inr (x.0, x.1.has) })) c

  with_conflict : (t h r : ℕ) → MeetsWith m script s t h r → Conflict m script s t r
  with_conflict t h r w = ⊎_elim (λ x. inl (x.0, record { task = h; by = w.by; has = x.1 })) (λ x. inr (x.0, record { task = h; by = w.by; has = x.1 })) w.meets

  pub best_none : (t n : ℕ) → n ≡ m.tasks s.version → BestOf m script s t n None → Unclaimed m script s t
  best_none t n all k =
      let clear : (r : ℕ) → Conflict m script s t r → ⊥ = λ r c. let x = conflict_with t r c in let low = x.1 in k.none x.0 (omega (arith, low, all)) r x.2 in
      record { reads-free = λ r a w. clear r (inl (a, w)); writes-free = λ r a w. clear r (inr (a, w)) }

  same_play : (p w t : ℕ) (c : Contents) (q x u : ℕ) (d : Contents) → stage_at s.stages p ≡ open_by w t c → stage_at s.stages q ≡ open_by x u d → p ≡ q → t ≡ u
  same_play p w t c q x u d e f i = let k : open_by w t c ≡ open_by x u d = sym e ∙ (ap (stage_at s.stages) i ∙ f) in cc

  -- who has a region that this one writes is this one
  writer_alone : (r h k : ℕ) → IsOpen m script s h → Has (m.writes s.version h) r → Holding m script s r k → k ≡ h
  writer_alone r h k o has holding =
      let b = holding.by in
      dite (ℕ_discrete k h) (λ e. e) (λ ne. absurd (sound.apart o.play o.who h o.contents b.play b.who k b.contents o.is b.is (λ i. ne (sym (same_play o.play o.who h o.contents b.play b.who k b.contents o.is b.is i))) r has holding.has))

  pub best_some : (t n : ℕ) (b : ℕ × ℕ) → n ≡ m.tasks s.version → BestOf m script s t n (Some b) → IsBusy m script s t b.0 b.1
  best_some t n b all k =
      let r = b.0 in
      let h = b.1 in
      let low = k.below in
      let here : h < m.tasks s.version = omega (arith, low, all) in
      record {
        conflict = with_conflict t h r k.meets;
        least = λ q less c. let x = conflict_with t q c in let up = x.1 in let far = (k.least x.0 q (omega (arith, up, all)) x.2).0 in omega (arith, far, less);
        holding = record { by = k.meets.by; has = ⊎_elim (λ x. frames.writes-read s.version h r sound.right here x.1) (λ x. x.1) k.meets.meets };
        least-task = λ j less holding.
            ⊎_elim
            (λ x. let same = writer_alone r h j k.meets.by x.1 holding in omega (arith, same, less))
            (λ x.
            let up = sound.below j holding.by in
            let after = (k.least j r (omega (arith, up, all)) record { by = holding.by; meets = inr (x.0, holding.has) }).1 refl in
            omega (arith, after, less))
            k.meets.meets;
      }

  pub best_all : (t n : ℕ) (o : Option (ℕ × ℕ)) → n ≡ m.tasks s.version → BestOf m script s t n o → MatchOption o (Unclaimed m script s t) (λ b. IsBusy m script s t b.0 b.1)
  best_all t n None all k = best_none t n all k
  best_all t n (Some b) all k = best_some t n b all k

  meets_open : (t h r : ℕ) (reads writes other-reads other-writes : List ℕ) → IsOpen m script s h → reads ≡ m.reads s.version t → writes ≡ m.writes s.version t → other-reads ≡ m.reads s.version h → other-writes ≡ m.writes s.version h
      → MeetsFirst reads writes other-reads other-writes r → MeetsWith m script s t h r × ((k : ℕ) → k < r → MeetsWith m script s t h k → ⊥)
  meets_open t h r reads writes other-reads other-writes o a b c d first =
      let k = subst (λ z. MeetsFirst z (m.writes s.version t) (m.reads s.version h) (m.writes s.version h) r) a (subst (λ z. MeetsFirst reads z (m.reads s.version h) (m.writes s.version h) r) b (subst (λ z. MeetsFirst reads writes z (m.writes s.version h) r) c (subst (λ z. MeetsFirst reads writes other-reads z r) d first))) in
      (record { by = o; meets = k.meets }, λ q less w. k.least q less w.meets)

  meets_clear : (t h : ℕ) (reads writes other-reads other-writes : List ℕ) → reads ≡ m.reads s.version t → writes ≡ m.writes s.version t → other-reads ≡ m.reads s.version h → other-writes ≡ m.writes s.version h
      → ((r : ℕ) → Meets reads writes other-reads other-writes r → ⊥) → (r : ℕ) → MeetsWith m script s t h r → ⊥
  meets_clear t h reads writes other-reads other-writes a b c d none r w =
      none r (subst (λ z. Meets z writes other-reads other-writes r) (sym a) (subst (λ z. Meets (m.reads s.version t) z other-reads other-writes r) (sym b)
      (subst (λ z. Meets (m.reads s.version t) (m.writes s.version t) z other-writes r) (sym c) (subst (λ z. Meets (m.reads s.version t) (m.writes s.version t) (m.reads s.version h) z r) (sym d) w.meets))))

  pub meets_found : (t h : ℕ) (reads writes other-reads other-writes : List ℕ) (x : Option ℕ) → IsOpen m script s h → reads ≡ m.reads s.version t → writes ≡ m.writes s.version t → other-reads ≡ m.reads s.version h → other-writes ≡ m.writes s.version h
      → MatchOption x ((r : ℕ) → Meets reads writes other-reads other-writes r → ⊥) (λ r. MeetsFirst reads writes other-reads other-writes r)
      → MatchOption x ((r : ℕ) → MeetsWith m script s t h r → ⊥) (λ r. MeetsWith m script s t h r × ((k : ℕ) → k < r → MeetsWith m script s t h k → ⊥))
  meets_found t h reads writes other-reads other-writes None o a b c d k = meets_clear t h reads writes other-reads other-writes a b c d k
  meets_found t h reads writes other-reads other-writes (Some r) o a b c d k = meets_open t h r reads writes other-reads other-writes o a b c d k

-- ---- changes

pub spare_there : {W K : Type 0} (f : Fields W K) (good : W → ℕ → K → Type 0) (m : Meaning W) (v : Past W) (p w : ℕ) → Kept f good m v → (state_of m v).turn ≡ wanted_by p w → (f.for_change ≡ Some (state_of m v).version) × (f.nothing ≡ Some [])
spare_there f good m v p w k e = subst (λ (u : Turn). IsSpare m v.script (state_of m v) u f.for_change f.nothing) e k.holds.spare-is

pub home_empty : {W K : Type 0} (f : Fields W K) (good : W → ℕ → K → Type 0) (m : Meaning W) (v : Past W) (p w : ℕ) (c : Contents) → Kept f good m v → (state_of m v).turn ≡ under_way p w c → f.home ≡ []
home_empty f good m v p w c k e = subst (λ (u : Turn). IsHome m v.script (state_of m v) u f.home) e k.holds.home-is

pub some_of : {A B : Type 0} (f : A → B) (o : Option A) (b : B) → option_map f o ≡ Some b → IsSome o
some_of f None b e = absurd (none_some b e)
some_of f (Some a) b e = refl

pub is_some : {A : Type 0} (o : Option A) (a : A) → o ≡ Some a → IsSome o
is_some o a e = rw e refl

pub some_is : {A : Type 0} (o : Option A) (a b : A) → o ≡ Some a → o ≡ Some b → a ≡ b
some_is o a b e f = Some_is a b (sym e ∙ f)

pub of_some : {A B : Type 0} (f : A → B) (o : Option A) (a : A) (b : B) → option_map f o ≡ Some b → o ≡ Some a → f a ≡ b
of_some f o a b e i = Some_is (f a) b (sym (ap (λ z. option_map f z) i) ∙ e)

-- the play of the change under way is idle
pub changing_idle : {W K : Type 0} (f : Fields W K) (good : W → ℕ → K → Type 0) (m : Meaning W) (v : Past W) (play p w : ℕ) (c : Contents) → Kept f good m v → play ≡ p → (state_of m v).turn ≡ under_way p w c → stage_at (state_of m v).stages play ≡ idle
changing_idle f good m v play p w c k i e = ap (stage_at (state_of m v).stages) i ∙ (k.holds.sound.changes p w c e).0

-- ---- entries

-- the play that gets its entry
pub entry_play : {W K : Type 0} (f : Fields W K) (good : W → ℕ → K → Type 0) (m : Meaning W) (v v0 : Past W) (p : ℕ) (g : Stage) → v ≡ v0 → Kept f good m v → stage_at (state_of m v0).stages p ≡ g → (g ≡ done → ⊥)
    → (1 ≤ p) × (p ≤ length v.script.plays) × (p < length f.status)
entry_play f good m v v0 p g e k is still =
    let x = play_within f good m v p g k (subst (λ (z : Past _). stage_at (state_of m z).stages p ≡ g) (sym e) is) still in
    (x.0, x.1, status_low f good m v p k x.1)

-- the play of an open claim is no change
pub open_no_change : {W K : Type 0} (f : Fields W K) (good : W → ℕ → K → Type 0) (m : Meaning W) (v v0 : Past W) (w p t : ℕ) (c : Contents) → v ≡ v0 → Kept f good m v → stage_at (state_of m v0).stages p ≡ open_by w t c → is_change (at_play m v.script p) ≡ false
open_no_change f good m v v0 w p t c e k is = cycle_no_change (at_play m v.script p) (k.holds.sound.cycles p w t c (subst (λ (z : Past _). stage_at (state_of m z).stages p ≡ open_by w t c) (sym e) is))

pub place_low : {W K : Type 0} (f : Fields W K) (good : W → ℕ → K → Type 0) (m : Meaning W) (v : Past W) (p n : ℕ) → Kept f good m v → IsNamed f.progress p n → (n < length f.held) × (n < length f.since) × (n < length f.progress.names)
place_low f good m v p n k named =
    let low = slice_get_within f.progress.names n _ named.at in
    let a = k.holds.held-are.total in
    let b = k.holds.since-are.total in
    (omega (arith, low, a), omega (arith, low, b), low)

-- the name at the play's place is that of its task
pub name_is : {W K : Type 0} (f : Fields W K) (good : W → ℕ → K → Type 0) (m : Meaning W) (v : Past W) (p n : ℕ) → Kept f good m v → IsNamed f.progress p n → slice_get f.progress.names n ≡ Some (task_of (at_play m v.script p))
name_is f good m v p n k named = named.at ∙ ap (λ (z : Script). Some (task_of (play_numbered z.plays p))) k.fixed.script-is

pub held_ended : {W K : Type 0} (f : Fields W K) (good : W → ℕ → K → Type 0) (m : Meaning W) (v : Past W) (p n : ℕ) (r : CycleReply) (held' : List Bool) → Kept f good m v → IsNamed f.progress p n → held' ≡ held_by r n f.held
    → AreHeld f.progress.names held' (held_after r (task_of (at_play m v.script p)) (state_of m v).held)
held_ended f good m v p n r held' k named e =
    subst (λ z. AreHeld f.progress.names z (held_after r (task_of (at_play m v.script p)) (state_of m v).held)) (sym e)
    (held_fault f.progress.names named.distinct f.held (state_of m v).held r n (task_of (at_play m v.script p)) k.holds.held-are (name_is f good m v p n k named))

pub held_reset : {W K : Type 0} (f : Fields W K) (good : W → ℕ → K → Type 0) (m : Meaning W) (v : Past W) (p n : ℕ) (a : Answer) (held' : List Bool) → Kept f good m v → IsNamed f.progress p n → held' ≡ freed_by a n f.held
    → AreHeld f.progress.names held' (held_with m v.script a (task_of (at_play m v.script p)) (state_of m v).held)
held_reset f good m v p n a held' k named e =
    subst (λ z. AreHeld f.progress.names z (held_with m v.script a (task_of (at_play m v.script p)) (state_of m v).held)) (sym e)
    (held_free f.progress.names named.distinct m v.script f.held (state_of m v).held a n (task_of (at_play m v.script p)) k.holds.held-are (name_is f good m v p n k named))

-- ---- changes that end

pub follows_resumed : {W : Type 0} (m : Meaning W) (script : Script) (s : State W) (w p p' : ℕ) (r : Refusal) (c : Contents) → p' ≡ p → s.turn ≡ under_way p w c → ComesTo m script s p (Err r) → Follows m script s w p' (resumed r)
follows_resumed m script s w p p' r c i u comes = subst (λ (z : ℕ). Follows m script s w z (resumed r)) (sym i) (c, u, comes)

pub follows_changed : {W : Type 0} (m : Meaning W) (script : Script) (s : State W) (w p p' : ℕ) (q : W) (d c : Contents) → p' ≡ p → s.turn ≡ under_way p w c → ComesTo m script s p (Ok (q, d)) → Follows m script s w p' (changed q d)
follows_changed m script s w p p' q d c i u comes = subst (λ (z : ℕ). Follows m script s w z (changed q d)) (sym i) (c, u, comes)

pub take_by : (rs rs' ws ws' : List ℕ) (home carrier : Contents) → rs ≡ rs' → ws ≡ ws' → MayTake rs' ws' home carrier → MayTake rs ws home carrier
take_by rs rs' ws ws' home carrier e f k = subst (λ (z : List ℕ). MayTake z ws home carrier) (sym e) (subst (λ (z : List ℕ). MayTake rs' z home carrier) (sym f) k)

pub taken_by : (rs rs' ws ws' : List ℕ) (a b c d : Contents) → rs ≡ rs' → ws ≡ ws' → Taken rs ws a b c d → Taken rs' ws' a b c d
taken_by rs rs' ws ws' a b c d e f k = subst (λ (z : List ℕ). Taken z ws' a b c d) e (subst (λ (z : List ℕ). Taken rs z a b c d) f k)

pub moved_by : (ws ws' : List ℕ) (a b c d : Contents) → ws ≡ ws' → Moved ws a b c d → Moved ws' a b c d
moved_by ws ws' a b c d f k = subst (λ (z : List ℕ). Moved z a b c d) f k
