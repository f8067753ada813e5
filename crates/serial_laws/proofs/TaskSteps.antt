-- In a phase of cycles and resets each task's entries hang on its own plays alone.
use Rattle.std.proofs.Common.{◌≡◌, ◌≤◌, ◌<◌, ℕ, Bool, true, false, List, [], ◌∷◌, Some, refl, sym, ap, ◌∙◌, subst, inl, inr, ⊎_elim}
use Rattle.std.specs.Prelude.{◌⊎◌, ◌||◌, if◌then◌else◌, nat_eq}
use Rattle.std.specs.List.{filter}
use Rattle.std.proofs.lemmas.Bool.{eqb-true, eq-eqb}
use Rattle.plc_text.specs.Words.{same}
use Rattle.plc_text.specs.declared.refusal.Refusal.{Refusal}
use Rattle.cycle_journal.specs.Interleaving.{Phase, task_named as lane, is_in, in_lane}
use Rattle.cycle_journal.specs.Play.{play_numbered}
use Rattle.cycle_journal.specs.declared.entry.Answer.{Answer}
use Rattle.cycle_journal.specs.declared.entry.CycleReply.{CycleReply}
use Rattle.cycle_journal.specs.declared.entry.CycleReply.TheVariants as reply
use Rattle.cycle_journal.specs.declared.entry.Entry.{Entry}
use Rattle.cycle_journal.specs.declared.play.Play.{Play}
use Rattle.cycle_journal.specs.declared.play.Play.TheVariants as play
use Rattle.st_rules.specs.Chains.{is_among}
use Rattle.st_values.specs.Program.{Program}
use Rattle.st_values.specs.Value.{Store, member}
use Rattle.st_meaning.specs.Cycle.{cycle}
use Rattle.st_meaning.specs.st_frame.Footprint.{Footprint}
use Rattle.st_meaning.specs.st_frame.Footprint as footprint
use Rattle.st_meaning.specs.st_frame.Good.{Good, AgreeOn}
use Rattle.st_meaning.specs.st_frame.Promise.Programs.{ProgramIs}
use Rattle.st_meaning.proofs.st_frame.Footprints.{footprint_laws}
use Rattle.st_meaning.proofs.st_frame.Frame.{frame_laws}
use Rattle.st_change.specs.OneThread.{Controller, One, cycle_without_task, cycle_held, cycle_run, reset_without_task, reset_done, change_loaded, change_refused, change_stopped, change_without_memory, cycle_answer, held_after, is_held, released, task_named, Steps}
use Rattle.st_change.specs.StoreLaws.{Timely}
use Rattle.plant_rules.specs.History.{is_change}
use Rattle.serial_laws.specs.Disjoint.{Cycles, HasNoChange, entry_in}
use Rattle.serial_laws.specs.Threads.{AreApart}
use Rattle.serial_laws.proofs.PhaseRuns.{same_is, is_same, true_false, flipped}

differ : (a b : List ℕ) → same a b ≡ false → a ≡ b → ⊥
differ a b e i = true_false (same a b) (ap (same a) (sym i) ∙ is_same a) e

among_has : (rs : List ℕ) (r : ℕ) → is_among r rs ≡ true → footprint.Has rs r
among_has [] r e = cc
among_has (x ∷ xs) r e = by (nat_eq r x) refl e (λ k. among_has xs r k)
  where
    by : (b : Bool) → nat_eq r x ≡ b → (b || is_among r xs) ≡ true → (is_among r xs ≡ true → footprint.Has xs r) → (r ≡ x) ⊎ footprint.Has xs r
    by true q e rest = inl (eqb-true r x q)
    by false q e rest = inr (rest e)

has_among : (rs : List ℕ) (r : ℕ) → footprint.Has rs r → is_among r rs ≡ true
has_among [] r h = absurd h
has_among (x ∷ xs) r (inl e) = ap (λ b. b || is_among r xs) (eq-eqb r x e)
has_among (x ∷ xs) r (inr h) = by (nat_eq r x) (has_among xs r h)
  where
    by : (b : Bool) → is_among r xs ≡ true → (b || is_among r xs) ≡ true
    by true e = refl
    by false e = e

-- ---- held tasks

held_more : (r : CycleReply) (n : List ℕ) (h k : List (List ℕ)) → is_held h n ≡ is_held k n → is_held (held_after r n h) n ≡ is_held (held_after r n k) n
held_more (reply.Done ticks outputs) n h k e = e
held_more (reply.Fault f) n h k e = ap (λ z. if same n n then true else z) e

held_other : (r : CycleReply) (m n : List ℕ) (h : List (List ℕ)) → same m n ≡ false → is_held (held_after r m h) n ≡ is_held h n
held_other (reply.Done ticks outputs) m n h e = refl
held_other (reply.Fault f) m n h e = ap (λ z. if z then true else is_held h n) e

-- a task that is released is not held
released_own : (h : List (List ℕ)) (n : List ℕ) → is_held (released h n) n ≡ false
released_own [] n = refl
released_own (x ∷ xs) n = by (same x n) refl (released_own xs n)
  where
    by : (b : Bool) → same x n ≡ b → is_held (released xs n) n ≡ false → is_held (if b then released xs n else x ∷ released xs n) n ≡ false
    by true q e = e
    by false q e = ap (λ z. if z then true else is_held (released xs n) n) q ∙ e

released_other : (h : List (List ℕ)) (m n : List ℕ) → same m n ≡ false → is_held (released h m) n ≡ is_held h n
released_other [] m n e = refl
released_other (x ∷ xs) m n e = by (same x m) (same x n) refl refl (released_other xs m n e)
  where
    by : (a b : Bool) → same x m ≡ a → same x n ≡ b → is_held (released xs m) n ≡ is_held xs n → is_held (if a then released xs m else x ∷ released xs m) n ≡ (if b then true else is_held xs n)
    by true true p q r = absurd (differ m n e (sym (same_is x m p) ∙ same_is x n q))
    by true false p q r = r
    by false true p q r = ap (λ z. if z then true else is_held (released xs m) n) q
    by false false p q r = ap (λ z. if z then true else is_held (released xs m) n) q ∙ r

module _ (Accepts : List ℕ → Program → Type 0) (Refuses : List ℕ → Refusal → Type 0) (sources : List (List ℕ)) (plays : List Play) (timely : (n : ℕ) (x : Play) → play_numbered plays n ≡ Some x → Timely x) where
  abbrev One' : Controller → Play → Answer → Controller → Type 0
  One' = One Accepts Refuses sources

  module _ (version : ℕ) (p : Program) (gone : List (List ℕ × ℕ)) (fine : ProgramIs p) (phase : Phase) (apart : AreApart plays p phase) where
    -- the controller with a store and held tasks; the rest stays in the phase
    abbrev pub ctl : Store → List (List ℕ) → Controller
    ctl s h = record { version = version; program = p; store = s; held = h; gone = gone }

    -- the same for a task
    pub record Local (n : List ℕ) (s : Store) (h : List (List ℕ)) (s' : Store) (h' : List (List ℕ)) : Type 0 where
      pub held : is_held h n ≡ is_held h' n
      pub agree : Cycles plays phase n → (t : ℕ) → task_named p n ≡ Some t → AgreeOn (Footprint p t) s s'

    -- a step of the task's own, in both
    pub record Both (n : List ℕ) (x : Play) (a : Answer) (d : Controller) (s' : Store) (h' : List (List ℕ)) : Type 0 where
      pub store : Store
      pub held : List (List ℕ)
      pub is : d ≡ ctl store held
      pub good : Good p store
      pub store' : Store
      pub held' : List (List ℕ)
      pub one : One' (ctl s' h') x a (ctl store' held')
      pub local : Local n store held store' held'

    own : (n : List ℕ) (s : Store) (h : List (List ℕ)) (s' : Store) (h' : List (List ℕ)) (x : Play) (a : Answer) (d : Controller) → One' (ctl s h) x a d → is_in (lane n) (Some x) ≡ true → Timely x → Good p s
        → ((now : ℕ) (input : List ℕ) → x ≡ play.Cycle n now input → Cycles plays phase n) → Local n s h s' h' → Both n x a d s' h'
    own n s h s' h' x a d (cycle_without_task {name} {now} {input} e) i timely good c l =
        record { store = s; held = h; is = refl; good = good; store' = s'; held' = h'; one = cycle_without_task e; local = l }
    own n s h s' h' x a d (cycle_held {name} {now} {input} t e k) i timely good c l =
        let eq : n ≡ name = same_is n name i in
        record { store = s; held = h; is = refl; good = good; store' = s'; held' = h'; one = cycle_held t e (sym (ap (is_held h') eq) ∙ (sym l.held ∙ (ap (is_held h) eq ∙ k))); local = l }
    own n s h s' h' x a d (cycle_run {name} {now} {input} t fs e k f) i timely good c l =
        let eq : n ≡ name = same_is n name i in
        let cy : Cycles plays phase n = c now input (ap (λ z. play.Cycle z now input) (sym eq)) in
        let agree = l.agree cy t (ap (task_named p) eq ∙ e) in
        let loc = frame_laws.local p fs t now input s s' fine f timely (λ r m. good.each r) agree in
        let one : One' (ctl s' h') (play.Cycle name now input) (cycle_answer (cycle p fs t now input s').0) (ctl (cycle p fs t now input s').1 (held_after (cycle p fs t now input s').0 name h')) =
        cycle_run t fs e (sym (ap (is_held h') eq) ∙ (sym l.held ∙ (ap (is_held h) eq ∙ k))) f in
        record {
          store = (cycle p fs t now input s).1;
          held = held_after (cycle p fs t now input s).0 name h;
          is = refl;
          good = frame_laws.good p fs t now input s fine f timely good;
          store' = (cycle p fs t now input s').1;
          held' = held_after (cycle p fs t now input s').0 name h';
          one = subst (λ (z : CycleReply). One' (ctl s' h') (play.Cycle name now input) (cycle_answer z) (ctl (cycle p fs t now input s').1 (held_after (cycle p fs t now input s').0 name h'))) (sym loc.0) one;
          local = record {
            held =
                subst (λ z. is_held (held_after (cycle p fs t now input s).0 z h) n ≡ is_held (held_after (cycle p fs t now input s').0 z h') n) eq
                (held_more (cycle p fs t now input s).0 n h h' l.held ∙ ap (λ (z : CycleReply). is_held (held_after z n h') n) loc.0);
            agree = λ cy' u j. let some : Some t ≡ Some u = sym (ap (task_named p) eq ∙ e) ∙ j in let same_t : t ≡ u = cc in subst (λ z. AgreeOn (Footprint p z) (cycle p fs t now input s).1 (cycle p fs t now input s').1) same_t loc.1;
          };
        }
    own n s h s' h' x a d (reset_without_task {name} e) i timely good c l = record { store = s; held = h; is = refl; good = good; store' = s'; held' = h'; one = reset_without_task e; local = l }
    own n s h s' h' x a d (reset_done {name} t e) i timely good c l =
        let eq : n ≡ name = same_is n name i in
        record {
          store = s;
          held = released h name;
          is = refl;
          good = good;
          store' = s';
          held' = released h' name;
          one = reset_done t e;
          local = record { held = subst (λ z. is_held (released h z) n ≡ is_held (released h' z) n) eq (released_own h n ∙ sym (released_own h' n)); agree = l.agree };
        }
    own n s h s' h' x a d (change_loaded text q t k e f g) i timely good c l = cc
    own n s h s' h' x a d (change_refused text r e f) i timely good c l = cc
    own n s h s' h' x a d (change_stopped text q class kind line e f g) i timely good c l = cc
    own n s h s' h' x a d change_without_memory i timely good c l = cc

    -- a step of another task
    pub record Other (n : List ℕ) (s : Store) (h : List (List ℕ)) (d : Controller) : Type 0 where
      pub store : Store
      pub held : List (List ℕ)
      pub is : d ≡ ctl store held
      pub good : Good p store
      pub local : Local n store held s h

    pub same_local : (n : List ℕ) (s : Store) (h : List (List ℕ)) → Local n s h s h
    same_local n s h = record { held = refl; agree = λ c t e r m. refl }

    other : (n : List ℕ) (s : Store) (h : List (List ℕ)) (x : Play) (a : Answer) (d : Controller) → One' (ctl s h) x a d → is_change (Some x) ≡ false → is_in (lane n) (Some x) ≡ false → Timely x → Good p s
        → ((k : List ℕ) (now : ℕ) (input : List ℕ) → x ≡ play.Cycle k now input → Cycles plays phase k) → Other n s h d
    other n s h x a d (cycle_without_task e) calm i timely good c = record { store = s; held = h; is = refl; good = good; local = same_local n s h }
    other n s h x a d (cycle_held t e k) calm i timely good c = record { store = s; held = h; is = refl; good = good; local = same_local n s h }
    other n s h x a d (cycle_run {name} {now} {input} t fs e k f) calm i timely good c =
        let rest = frame_laws.elsewhere p fs t now input s fine f timely (λ r m. good.each r) in
        record {
          store = (cycle p fs t now input s).1;
          held = held_after (cycle p fs t now input s).0 name h;
          is = refl;
          good = frame_laws.good p fs t now input s fine f timely good;
          local = record {
            held = held_other (cycle p fs t now input s).0 name n h (flipped n name i);
            agree = λ cy u j r m. rest.1 r (λ w. apart name n t u r (c name now input refl) cy (λ q. differ n name i (sym q)) e j w m);
          };
        }
    other n s h x a d (reset_without_task e) calm i timely good c = record { store = s; held = h; is = refl; good = good; local = same_local n s h }
    other n s h x a d (reset_done {name} t e) calm i timely good c =
        record { store = s; held = released h name; is = refl; good = good; local = record { held = released_other h name n (flipped n name i); agree = λ cy u j r m. refl } }
    other n s h x a d (change_loaded text q t k e f g) calm i timely good c = cc
    other n s h x a d (change_refused text r e f) calm i timely good c = cc
    other n s h x a d (change_stopped text q class kind line e f g) calm i timely good c = cc
    other n s h x a d change_without_memory calm i timely good c = cc

    then_local : (n : List ℕ) (s : Store) (h : List (List ℕ)) (s' : Store) (h' : List (List ℕ)) (t : Store) (k : List (List ℕ)) → Local n s h s' h' → Local n s' h' t k → Local n s h t k
    then_local n s h s' h' t k l m = record { held = l.held ∙ m.held; agree = λ c u e r w. l.agree c u e r w ∙ m.agree c u e r w }

    -- ---- a whole phase

    abbrev pub InPhase : List Entry → Type 0
    InPhase [] = Unit {0}
    InPhase (e ∷ es) = (phase.0 ≤ e.play) × (e.play < phase.1) × InPhase es

    -- the task's entries from another beginning that is the same for it
    pub record LaneRuns (n : List ℕ) (es : List Entry) (d : Controller) (s' : Store) (h' : List (List ℕ)) : Type 0 where
      pub store : Store
      pub held : List (List ℕ)
      pub is : d ≡ ctl store held
      pub good : Good p store
      pub store' : Store
      pub held' : List (List ℕ)
      pub steps : Steps Accepts Refuses sources plays (ctl s' h') (filter (entry_in plays (lane n)) es) (ctl store' held')
      pub local : Local n store held store' held'

    pub lane_alone : (calm : HasNoChange plays phase) (n : List ℕ) (es : List Entry) (s : Store) (h : List (List ℕ)) (s' : Store) (h' : List (List ℕ)) (d : Controller) → Steps Accepts Refuses sources plays (ctl s h) es d → InPhase es → Good p s → Local n s h s' h' → LaneRuns n es d s' h'
    lane_alone calm n [] s h s' h' d steps inside good l = record { store = s; held = h; is = sym steps; good = good; store' = s'; held' = h'; steps = refl; local = l }
    lane_alone calm n (e ∷ es) s h s' h' d steps inside good l =
        by (in_lane plays (lane n) e.play) refl
        (λ t k u w g m st. lane_alone calm n es t k u w d st inside.2 g m)
      where
        is_cycle_of : (k : List ℕ) (now : ℕ) (input : List ℕ) → steps.0 ≡ play.Cycle k now input → Cycles plays phase k
        is_cycle_of k now input i = record { number = e.play; low = inside.0; high = inside.1; now = now; input = input; is = steps.2 ∙ ap Some i }

        no_change : is_change (Some steps.0) ≡ false
        no_change = ap is_change (sym steps.2) ∙ calm e.play inside.0 inside.1

        by : (b : Bool) → in_lane plays (lane n) e.play ≡ b
            → ((t : Store) (k : List (List ℕ)) (u : Store) (w : List (List ℕ)) → Good p t → Local n t k u w → Steps Accepts Refuses sources plays (ctl t k) es d → LaneRuns n es d u w) → LaneRuns n (e ∷ es) d s' h'
        by true q rest =
            let mine : is_in (lane n) (Some steps.0) ≡ true = ap (is_in (lane n)) (sym steps.2) ∙ q in
            let x = own n s h s' h' steps.0 e.answer steps.1 steps.4 mine (timely e.play steps.0 steps.2) good (λ now input i. is_cycle_of n now input i) l in
            let r = rest x.store x.held x.store' x.held' x.good x.local (subst (λ (z : Controller). Steps Accepts Refuses sources plays z es d) x.is steps.5) in
            record {
              store = r.store;
              held = r.held;
              is = r.is;
              good = r.good;
              store' = r.store';
              held' = r.held';
              steps =
                  subst (λ b. Steps Accepts Refuses sources plays (ctl s' h') (if b then e ∷ filter (entry_in plays (lane n)) es else filter (entry_in plays (lane n)) es) (ctl r.store' r.held')) (sym q)
                  (steps.0, ctl x.store' x.held', steps.2, steps.3, x.one, r.steps);
              local = r.local;
            }
        by false q rest =
            let mine : is_in (lane n) (Some steps.0) ≡ false = ap (is_in (lane n)) (sym steps.2) ∙ q in
            let x = other n s h steps.0 e.answer steps.1 steps.4 no_change mine (timely e.play steps.0 steps.2) good is_cycle_of in
            let r = rest x.store x.held s' h' x.good (then_local n x.store x.held s h s' h' x.local l) (subst (λ (z : Controller). Steps Accepts Refuses sources plays z es d) x.is steps.5) in
            record {
              store = r.store;
              held = r.held;
              is = r.is;
              good = r.good;
              store' = r.store';
              held' = r.held';
              steps = subst (λ b. Steps Accepts Refuses sources plays (ctl s' h') (if b then e ∷ filter (entry_in plays (lane n)) es else filter (entry_in plays (lane n)) es) (ctl r.store' r.held')) (sym q) r.steps;
              local = r.local;
            }

    -- ---- regions

    -- a cycle of the phase has the region in its footprint
    pub record IsTouched (r : ℕ) : Type 0 where
      pub name : List ℕ
      pub cycles : Cycles plays phase name
      pub task : ℕ
      pub named : task_named p name ≡ Some task
      pub touched : Footprint p task r

    pub one_stays : (s : Store) (h : List (List ℕ)) (x : Play) (a : Answer) (d : Controller) (r : ℕ) → One' (ctl s h) x a d → is_change (Some x) ≡ false → Timely x → Good p s → ((k : List ℕ) (now : ℕ) (input : List ℕ) → x ≡ play.Cycle k now input → Cycles plays phase k)
        → IsTouched r ⊎ (member d.store r ≡ member s r)
    one_stays s h x a d r (cycle_without_task e) calm timely good c = inr refl
    one_stays s h x a d r (cycle_held t e k) calm timely good c = inr refl
    one_stays s h x a d r (cycle_run {name} {now} {input} t fs e k f) calm timely good c = by (is_among r fs) refl
      where
        by : (b : Bool) → is_among r fs ≡ b → IsTouched r ⊎ (member (cycle p fs t now input s).1 r ≡ member s r)
        by true q = inl (record { name = name; cycles = c name now input refl; task = t; named = e; touched = f.sound r (among_has fs r q) })
        by false q = inr ((frame_laws.elsewhere p fs t now input s fine f timely (λ r m. good.each r)).1 r (λ w. none (f.complete r (footprint_laws.writes_read p t r w)) q))
          where
            none : footprint.Has fs r → is_among r fs ≡ false → ⊥
            none m q = true_false (is_among r fs) (has_among fs r m) q
    one_stays s h x a d r (reset_without_task e) calm timely good c = inr refl
    one_stays s h x a d r (reset_done t e) calm timely good c = inr refl
    one_stays s h x a d r (change_loaded text q t k e f g) calm timely good c = cc
    one_stays s h x a d r (change_refused text q e f) calm timely good c = cc
    one_stays s h x a d r (change_stopped text q class kind line e f g) calm timely good c = cc
    one_stays s h x a d r change_without_memory calm timely good c = cc

    -- a step stays within the phase
    pub record Inner (d : Controller) : Type 0 where
      pub store : Store
      pub held : List (List ℕ)
      pub is : d ≡ ctl store held
      pub good : Good p store

    pub inner : (s : Store) (h : List (List ℕ)) (x : Play) (a : Answer) (d : Controller) → One' (ctl s h) x a d → is_change (Some x) ≡ false → Timely x → Good p s → Inner d
    inner s h x a d (cycle_without_task e) calm timely good = record { store = s; held = h; is = refl; good = good }
    inner s h x a d (cycle_held t e k) calm timely good = record { store = s; held = h; is = refl; good = good }
    inner s h x a d (cycle_run {name} {now} {input} t fs e k f) calm timely good =
        record { store = (cycle p fs t now input s).1; held = held_after (cycle p fs t now input s).0 name h; is = refl; good = frame_laws.good p fs t now input s fine f timely good }
    inner s h x a d (reset_without_task e) calm timely good = record { store = s; held = h; is = refl; good = good }
    inner s h x a d (reset_done {name} t e) calm timely good = record { store = s; held = released h name; is = refl; good = good }
    inner s h x a d (change_loaded text q t k e f g) calm timely good = cc
    inner s h x a d (change_refused text q e f) calm timely good = cc
    inner s h x a d (change_stopped text q class kind line e f g) calm timely good = cc
    inner s h x a d change_without_memory calm timely good = cc

    -- what no footprint of a cycle has stays
    pub stays : (calm : HasNoChange plays phase) (es : List Entry) (s : Store) (h : List (List ℕ)) (d : Controller) (r : ℕ) → Steps Accepts Refuses sources plays (ctl s h) es d → InPhase es → Good p s → IsTouched r ⊎ (member d.store r ≡ member s r)
    stays calm [] s h d r steps inside good = inr (ap (λ (z : Controller). member z.store r) (sym steps))
    stays calm (e ∷ es) s h d r steps inside good =
        let none : is_change (Some steps.0) ≡ false = ap is_change (sym steps.2) ∙ calm e.play inside.0 inside.1 in
        let i = inner s h steps.0 e.answer steps.1 steps.4 none (timely e.play steps.0 steps.2) good in
        let rest = stays calm es i.store i.held d r (subst (λ (z : Controller). Steps Accepts Refuses sources plays z es d) i.is steps.5) inside.2 i.good in
        let first = one_stays s h steps.0 e.answer steps.1 r steps.4 none (timely e.play steps.0 steps.2) good (λ k now input q. record { number = e.play; low = inside.0; high = inside.1; now = now; input = input; is = steps.2 ∙ ap Some q }) in
        ⊎_elim (λ t. inl t) (λ f. ⊎_elim (λ t. inl t) (λ g. inr (g ∙ (sym (ap (λ (z : Controller). member z.store r) i.is) ∙ f))) rest) first
