-- Stages of plays, and what a core keeps of them.
use Rattle.std.proofs.Common.{◌≡◌, ℕ, ◌<◌, ◌≤◌, ◌+◌, zero, suc, List, [], ◌∷◌, ◌++◌, length, map, Option, Bool, true, slice_set, slice_index_or, refl, sym, ap, ◌∙◌, subst, ⊎_elim, inl, inr, arith, length-append, fold}
use Rattle.std.proofs.lemmas.List.Sums.{fold-append}
use Rattle.cycle_journal.specs.declared.entry.Entry.{Entry}
use Rattle.plant_rules.specs.Meaning.{Contents, Meaning}
use Rattle.plant_rules.specs.History.{Past, Script, Step, Happening, State, Stage, idle, open_by, done, Turn, free, wanted_by, under_way, stage_at, with_stage, at_play, after, then_step, is_change, IsOpen, Writing, Follows, LegalFrom, Legal, state_of, opening, with_event}
use Rattle.plant_rules.proofs.plant_history.Running.{within, with_other, still_open, idle_open, idle_done}
use Rattle.plant_core.specs.Stage.{stage_of, turn_of, done_of, entries_left, events_left, events_made, total_of, Room}
use Rattle.plant_core.specs.Hub.{Sound}
use Rattle.plant_core.specs.Private.Tasks.{AreHeld, AreSince}
use Rattle.plant_core.specs.Private.Keeping.{Fields, AtHome, IsHome, IsSpare, KitAt, Holds, Fixed, Kept}

-- ---- histories

legal_more : {W : Type 0} (m : Meaning W) (script : Script) (s : State W) (es : List (Step W)) (e : Step W) → LegalFrom m script s es → Follows m script (fold (then_step m script) s es) e.who e.play e.what → LegalFrom m script s (es ++ e ∷ [])
legal_more m script s [] e l f = (f, tt)
legal_more m script s (x ∷ xs) e l f = (l.0, legal_more m script (then_step m script s x) xs e l.1 f)

pub state_more : {W : Type 0} (m : Meaning W) (v : Past W) (w p : ℕ) (h : Happening W) → state_of m (with_event v w p h) ≡ after m v.script (state_of m v) w p h
state_more m v w p h = fold-append (then_step m v.script) (opening v) v.history (record { who = w; play = p; what = h } ∷ [])

pub legal_event : {W : Type 0} (m : Meaning W) (v : Past W) (w p : ℕ) (h : Happening W) → Legal m v → Follows m v.script (state_of m v) w p h → Legal m (with_event v w p h)
legal_event m v w p h l f = legal_more m v.script (opening v) v.history (record { who = w; play = p; what = h }) l f

-- ---- stages

abbrev pub task_in : Stage → ℕ
task_in (open_by w t c) = t
task_in idle = 0
task_in done = 0

abbrev pub contents_in : Stage → Contents
contents_in (open_by w t c) = c
contents_in idle = []
contents_in done = []

pub open_still : (gs : List Stage) (p : ℕ) → stage_at gs p ≡ idle → (g : Stage) (q w t : ℕ) (c : Contents) → stage_at gs q ≡ open_by w t c → stage_at (with_stage gs p g) q ≡ open_by w t c
open_still gs p e g q w t c f = with_other gs p q g (λ i. idle_open w t c (sym e ∙ (ap (λ z. stage_at gs z) (sym i) ∙ f))) ∙ f

pub map-set : {A B : Type 0} (f : A → B) (l : List A) (i : ℕ) (a : A) → map f (slice_set l i a) ≡ slice_set (map f l) i (f a)
map-set f [] i a = refl
map-set f (x ∷ xs) zero a = refl
map-set f (x ∷ xs) (suc i) a = ap (λ l. f x ∷ l) (map-set f xs i a)

-- the places of the statuses are those of the stages, behind one that is done
pub set_behind : (gs : List Stage) (p : ℕ) (g : Stage) → 1 ≤ p → slice_set (done ∷ gs) p g ≡ done ∷ with_stage gs p g
set_behind gs zero g h = absurd (omega (arith, h))
set_behind gs (suc p) g h = refl

pub set_done : (gs : List Stage) (p : ℕ) → slice_set (done ∷ gs) p done ≡ done ∷ with_stage gs p done
set_done gs zero = refl
set_done gs (suc p) = refl

pub at_behind : (gs : List Stage) (p : ℕ) → slice_index_or (done ∷ gs) p done ≡ stage_at gs p
at_behind gs zero = refl
at_behind gs (suc p) = refl

pub done_marked : (gs : List Stage) (p : ℕ) (ds : List Bool) → ds ≡ true ∷ map done_of gs → slice_set ds p true ≡ true ∷ map done_of (with_stage gs p done)
done_marked gs zero ds e = ap (λ z. slice_set z 0 true) e
done_marked gs (suc p) ds e = ap (λ z. slice_set z (suc p) true) e ∙ ap (λ z. true ∷ z) (sym (map-set done_of gs p done))

pub done_open_too : (gs : List Stage) (p w t : ℕ) (c : Contents) → stage_at gs p ≡ idle → map done_of (with_stage gs p (open_by w t c)) ≡ map done_of gs
done_open_too gs zero w t c e = refl
done_open_too gs (suc p) w t c e = by gs p e
  where
    by : (gs : List Stage) (p : ℕ) → slice_index_or gs p done ≡ idle → map done_of (slice_set gs p (open_by w t c)) ≡ map done_of gs
    by [] p e = refl
    by (g ∷ gs) zero e = ap (λ z. z ∷ map done_of gs) (ap done_of (sym e))
    by (g ∷ gs) (suc p) e = ap (λ z. done_of g ∷ z) (by gs p e)

-- ---- room

sum_set : (f : Stage → ℕ) (gs : List Stage) (p : ℕ) (g : Stage) → p < length gs → total_of f (slice_set gs p g) + f (slice_index_or gs p done) ≡ total_of f gs + f g
sum_set f [] p g h = absurd (omega (arith, h))
sum_set f (x ∷ xs) zero g h = omega arith
sum_set f (x ∷ xs) (suc p) g h = let k = sum_set f xs p g (omega (arith, h)) in omega (arith, k)

sum_with : (f : Stage → ℕ) (gs : List Stage) (p : ℕ) (g : Stage) → (1 ≤ p) × (p ≤ length gs) → total_of f (with_stage gs p g) + f (stage_at gs p) ≡ total_of f gs + f g
sum_with f gs zero g h = absurd (let l = h.0 in omega (arith, l))
sum_with f gs (suc p) g h = sum_set f gs p g (let l = h.1 in omega (arith, l))

total_in : (f : Stage → ℕ) (gs : List Stage) (p : ℕ) → f done ≡ 0 → f (slice_index_or gs p done) ≤ total_of f gs
total_in f [] p z = omega (arith, z)
total_in f (x ∷ xs) zero z = omega arith
total_in f (x ∷ xs) (suc p) z = let k = total_in f xs p z in omega (arith, k)

total_at : (f : Stage → ℕ) (gs : List Stage) (p : ℕ) → f done ≡ 0 → f (stage_at gs p) ≤ total_of f gs
total_at f gs zero z = omega (arith, z)
total_at f gs (suc p) z = total_in f gs p z

made_few : (u : Turn) → events_made u ≤ 2
made_few free = omega arith
made_few (wanted_by p w) = omega arith
made_few (under_way p w c) = omega arith

some_left : (g : Stage) → (g ≡ done → ⊥) → (entries_left g ≡ 1) × (0 < events_left g)
some_left idle still = (refl, omega arith)
some_left (open_by w t c) still = (refl, omega arith)
some_left done still = absurd (still refl)

-- a play without an entry has room for it, and for an event
pub room_left : (gs : List Stage) (u : Turn) (p : ℕ) (g : Stage) (e er n vr : ℕ) → stage_at gs p ≡ g → (g ≡ done → ⊥) → Room gs u e er n vr → (e < er) × (n < vr)
room_left gs u p g e er n vr is still room =
    let some = some_left g still in
    let a : entries_left g ≤ total_of entries_left gs = subst (λ (z : Stage). entries_left z ≤ total_of entries_left gs) is (total_at entries_left gs p refl) in
    let b : events_left g ≤ total_of events_left gs = subst (λ (z : Stage). events_left z ≤ total_of events_left gs) is (total_at events_left gs p refl) in
    let x = room.for-entries in let y = room.for-events in let k = made_few u in let o = some.0 in let l = some.1 in
    (omega (arith, a, x, o), omega (arith, b, y, k, l))

pub room_to : (gs : List Stage) (u u' : Turn) (p : ℕ) (g g' : Stage) (x e er n vr : ℕ) → stage_at gs p ≡ g → (g ≡ done → ⊥)
    → x + entries_left g' ≤ entries_left g → 1 + events_left g' + events_made u ≤ events_left g + events_made u'
    → Room gs u e er n vr → Room (with_stage gs p g') u' (e + x) er (n + 1) vr
room_to gs u u' p g g' x e er n vr is still a b room =
    let here = within gs p g is still in
    let sum : total_of entries_left (with_stage gs p g') + entries_left g ≡ total_of entries_left gs + entries_left g' = subst (λ (k : Stage). total_of entries_left (with_stage gs p g') + entries_left k ≡ total_of entries_left gs + entries_left g') is (sum_with entries_left gs p g' here) in
    let sum' : total_of events_left (with_stage gs p g') + events_left g ≡ total_of events_left gs + events_left g' = subst (λ (k : Stage). total_of events_left (with_stage gs p g') + events_left k ≡ total_of events_left gs + events_left g') is (sum_with events_left gs p g' here) in
    let k = room.for-entries in let k' = room.for-events in
    record { for-entries = omega (arith, a, sum, k); for-events = omega (arith, b, sum', k') }

pub room_turn : (gs : List Stage) (u u' : Turn) (e er n vr : ℕ) → 1 + events_made u ≤ events_made u' → Room gs u e er n vr → Room gs u' e er (n + 1) vr
room_turn gs u u' e er n vr a room = let k' = room.for-events in record { for-entries = room.for-entries; for-events = omega (arith, a, k') }

-- ---- states with the same open claims

-- the open claims are the same
pub record SameOpen (gs gs' : List Stage) : Type 0 where
  pub forth : (p w t : ℕ) (c : Contents) → stage_at gs p ≡ open_by w t c → stage_at gs' p ≡ open_by w t c
  pub back : (p w t : ℕ) (c : Contents) → stage_at gs' p ≡ open_by w t c → stage_at gs p ≡ open_by w t c

pub same_done : (gs : List Stage) (p : ℕ) → stage_at gs p ≡ idle → SameOpen gs (with_stage gs p done)
same_done gs p e = record { forth = λ q w t c f. open_still gs p e done q w t c f; back = λ q w t c f. (still_open gs p idle e idle_done q w t c f).1 }

pub same_all : (gs : List Stage) → SameOpen gs gs
same_all gs = record { forth = λ q w t c f. f; back = λ q w t c f. f }

module _ {W : Type 0} (m : Meaning W) (script : Script) where
  -- a state with other stages, turn, held tasks and entries
  abbrev pub altered : State W → List Stage → Turn → (List ℕ → Bool) → List Entry → State W
  altered s gs u h es = record s { stages = gs; turn = u; held = h; entries = es }

  pub open_forth : (s : State W) (gs : List Stage) (u : Turn) (h : List ℕ → Bool) (es : List Entry) → SameOpen s.stages gs → (t : ℕ) → IsOpen m script s t → IsOpen m script (altered s gs u h es) t
  open_forth s gs u h es same t o = record { play = o.play; who = o.who; contents = o.contents; is = same.forth o.play o.who t o.contents o.is }

  pub open_back : (s : State W) (gs : List Stage) (u : Turn) (h : List ℕ → Bool) (es : List Entry) → SameOpen s.stages gs → (t : ℕ) → IsOpen m script (altered s gs u h es) t → IsOpen m script s t
  open_back s gs u h es same t o = record { play = o.play; who = o.who; contents = o.contents; is = same.back o.play o.who t o.contents o.is }

  -- what is said of the change that is wanted or under way
  pub record Turning (s : State W) : Type 0 where
    pub waits : (p w : ℕ) → s.turn ≡ wanted_by p w → (stage_at s.stages p ≡ idle) × (is_change (at_play m script p) ≡ true)
    pub changes : (p w : ℕ) (c : Contents) → s.turn ≡ under_way p w c → (stage_at s.stages p ≡ idle) × (is_change (at_play m script p) ≡ true) × (c ≡ s.store) × ((t : ℕ) → IsOpen m script s t → ⊥)

  pub turning_free : (s : State W) → s.turn ≡ free → Turning s
  turning_free s e = record { waits = λ p w f. absurd (let k : free ≡ wanted_by p w = sym e ∙ f in cc); changes = λ p w c f. absurd (let k : free ≡ under_way p w c = sym e ∙ f in cc) }

  pub sound_same : (s : State W) (gs : List Stage) (u : Turn) (h : List ℕ → Bool) (es : List Entry) → SameOpen s.stages gs → Turning (altered s gs u h es) → Sound m script s → Sound m script (altered s gs u h es)
  sound_same s gs u h es same turning sound =
      record {
        right = sound.right;
        whole = sound.whole;
        below = λ t o. sound.below t (open_back s gs u h es same t o);
        cycles = λ p w t c e. sound.cycles p w t c (same.back p w t c e);
        agrees = λ p w t c e. sound.agrees p w t c (same.back p w t c e);
        apart = λ p w t c q w' t' c' e f. sound.apart p w t c q w' t' c' (same.back p w t c e) (same.back q w' t' c' f);
        waits = turning.waits;
        changes = turning.changes;
      }

  pub writing_back : (s : State W) (gs : List Stage) (u : Turn) (h : List ℕ → Bool) (es : List Entry) → SameOpen s.stages gs → (r : ℕ) → Writing m script (altered s gs u h es) r → Writing m script s r
  writing_back s gs u h es same r x = record { task = x.task; by = open_back s gs u h es same x.task x.by; has = x.has }

  pub writing_forth : (s : State W) (gs : List Stage) (u : Turn) (h : List ℕ → Bool) (es : List Entry) → SameOpen s.stages gs → (r : ℕ) → Writing m script s r → Writing m script (altered s gs u h es) r
  writing_forth s gs u h es same r x = record { task = x.task; by = open_forth s gs u h es same x.task x.by; has = x.has }

  pub home_same : (s : State W) (gs : List Stage) (u : Turn) (h : List ℕ → Bool) (es : List Entry) (home : Contents) → SameOpen s.stages gs → AtHome m script s home → AtHome m script (altered s gs u h es) home
  home_same s gs u h es home same k =
      record {
        total = k.total;
        here = λ r out. k.here r (λ x. out (writing_forth s gs u h es same r x));
        out = λ r x. k.out r (writing_back s gs u h es same r x);
      }

  -- home, seen with or without a change that is wanted
  pub home_of : (s : State W) (u : Turn) (home : Contents) → ((p w : ℕ) (c : Contents) → u ≡ under_way p w c → ⊥) → IsHome m script s u home → AtHome m script s home
  home_of s free home not-away k = k
  home_of s (wanted_by p w) home not-away k = k
  home_of s (under_way p w c) home not-away k = absurd (not-away p w c refl)

  pub home_as : (s : State W) (u : Turn) (home : Contents) → ((p w : ℕ) (c : Contents) → u ≡ under_way p w c → ⊥) → AtHome m script s home → IsHome m script s u home
  home_as s free home not-away k = k
  home_as s (wanted_by p w) home not-away k = k
  home_as s (under_way p w c) home not-away k = absurd (not-away p w c refl)

  pub home_on : (s : State W) (gs : List Stage) (h : List ℕ → Bool) (es : List Entry) (u : Turn) (home : Contents) → SameOpen s.stages gs → IsHome m script s u home → IsHome m script (altered s gs u h es) u home
  home_on s gs h es free home same k = home_same s gs free h es home same k
  home_on s gs h es (wanted_by p w) home same k = home_same s gs (wanted_by p w) h es home same k
  home_on s gs h es (under_way p w c) home same k = k

  pub spare_on : (s : State W) (gs : List Stage) (h : List ℕ → Bool) (es : List Entry) (u : Turn) (o : Option W) (e : Option Contents) → IsSpare m script s u o e → IsSpare m script (altered s gs u h es) u o e
  spare_on s gs h es free o e k = k
  spare_on s gs h es (wanted_by p w) o e k = k
  spare_on s gs h es (under_way p w c) o e k = tt

  module _ {K : Type 0} (good : W → ℕ → K → Type 0) where
    pub kit_same : (s : State W) (gs : List Stage) (u : Turn) (h : List ℕ → Bool) (es : List Entry) (kits : List (Option K)) → SameOpen s.stages gs → (t : ℕ) → KitAt m script kits good s t → KitAt m script kits good (altered s gs u h es) t
    kit_same s gs u h es kits same t k =
        ⊎_elim (λ o. inl (open_forth s gs u h es same t o.0, o.1)) (λ x. inr (x.0, x.1, x.2, λ o. x.3 (open_back s gs u h es same t o))) k

    -- an event after which the open claims are the same, and the version and its contents
    pub holds_same : (s : State W) (gs : List Stage) (u : Turn) (h : List ℕ → Bool) (es : List Entry) (f f' : Fields W K) → SameOpen s.stages gs → Turning (altered s gs u h es) → Holds m script f good s
        → f'.kits ≡ f.kits → f'.loaded ≡ f.loaded → f'.since ≡ f.since → f'.progress.names ≡ f.progress.names
        → IsSpare m script (altered s gs u h es) u f'.for_change f'.nothing → IsHome m script (altered s gs u h es) u f'.home
        → map stage_of f'.status ≡ done ∷ gs → f'.progress.done ≡ true ∷ map done_of gs → turn_of f'.ongoing ≡ u → AreHeld f'.progress.names f'.held h → f'.entries ≡ es
        → Holds m script f' good (altered s gs u h es)
    holds_same s gs u h es f f' same turning k kits loaded since names spare home status finished ongoing held entries =
        record {
          sound = sound_same s gs u h es same turning k.sound;
          loaded-is = loaded ∙ k.loaded-is;
          spare-is = spare;
          home-is = home;
          stages-are = status;
          done-are = finished;
          turn-is = ongoing;
          held-are = held;
          since-are = subst (λ z. AreSince z f'.since s.since) (sym names) (subst (λ z. AreSince f.progress.names z s.since) (sym since) k.since-are);
          entries-are = entries;
          kits-all = ap length kits ∙ k.kits-all;
          kits-are = λ t below. subst (λ (z : List (Option K)). KitAt m script z good (altered s gs u h es) t) (sym kits) (kit_same s gs u h es f.kits same t (k.kits-are t below));
        }

-- the event may come, and the fields are those of the state after it
pub kept_event : {W K : Type 0} (f f' : Fields W K) (good : W → ℕ → K → Type 0) (m : Meaning W) (v : Past W) (w p : ℕ) (h : Happening W) → Kept f good m v
    → Follows m v.script (state_of m v) w p h → Holds m v.script f' good (after m v.script (state_of m v) w p h) → Fixed m v.script f'
    → Room (after m v.script (state_of m v) w p h).stages (after m v.script (state_of m v) w p h).turn (length f'.entries) f'.entry_room (length v.history + 1) f'.event_room
    → Kept f' good m (with_event v w p h)
kept_event f f' good m v w p h k follows holds fixed room =
    let more = state_more m v w p h in
    record {
      legal = legal_event m v w p h k.legal follows;
      holds = subst (λ (z : State _). Holds m v.script f' good z) (sym more) holds;
      fixed = fixed;
      room = subst (λ (z : State _). Room z.stages z.turn (length f'.entries) f'.entry_room (length (v.history ++ record { who = w; play = p; what = h } ∷ [])) f'.event_room) (sym more)
          (rw length-append room);
    }

-- what a core shows is its past
pub onward : {W K : Type 0} (f f' : Fields W K) (good : W → ℕ → K → Type 0) (m : Meaning W) (v v0 : Past W) (w p : ℕ) (h : Happening W) → v ≡ v0 → Kept f good m v
    → (Kept f good m v0 → Kept f' good m (with_event v0 w p h)) → Kept f' good m (with_event v w p h)
onward f f' good m v v0 w p h e k step = subst (λ (z : Past _). Kept f' good m (with_event z w p h)) (sym e) (step (subst (λ (z : Past _). Kept f good m z) e k))
