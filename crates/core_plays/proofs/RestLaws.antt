-- One caller that takes the plays in order: no call answers Twice, Early, Paused or Busy, and the entries come in order.
use Rattle.std.proofs.Common.{◌≡◌, ◌≤◌, ◌<◌, ℕ, zero, suc, ◌+◌, ◌^◌, Bool, true, false, List, [], ◌∷◌, ◌++◌, length, map, Option, Some, None, refl, sym, ap, ◌∙◌, subst, inl, inr, ⊎_elim, arith}
use Rattle.std.specs.Prelude.{◌⊎◌, nat_lt, slice_index_or, replicate, fold, if◌then◌else◌}
use Rattle.std.specs.List.{range_with_len}
use Rattle.std.proofs.lemmas.Bool.Decides.{nat_tests}
use Rattle.std.proofs.lemmas.List.{map-append, get_or_past, length-map, length-replicate}
use Rattle.std.proofs.lemmas.Option.{slice_get_within}
use Rattle.std.specs.Map.{values_of}
use Rattle.cycle_journal.specs.declared.play.Play.{Play}
use Rattle.cycle_journal.specs.Interleaving.{Phase, numbers_of}
use Rattle.cycle_journal.specs.declared.entry.Answer.{Answer}
use Rattle.cycle_journal.specs.declared.entry.Answer.TheVariants as answer
use Rattle.cycle_journal.specs.declared.entry.CycleReply.{CycleReply}
use Rattle.cycle_journal.specs.declared.entry.Entry.{Entry}
use Rattle.plc_text.specs.declared.refusal.Refusal.{Refusal}
use Rattle.plc_text.specs.declared.denied.Denied.{Denied}
use Rattle.plc_text.specs.declared.denied.Denied.TheVariants as denial
use Rattle.cycle_journal.specs.Play.{play_numbered}
use Rattle.cycle_journal.specs.declared.play.Play.TheVariants as play
use Rattle.plant_rules.specs.Meaning.{Contents, Meaning, Frames}
use Rattle.plant_rules.specs.Denial.{OnRefused}
use Rattle.plant_rules.specs.One.{answer_of}
use Rattle.plant_rules.specs.History.{Script, Past, State, Stage, idle, open_by, done, Turn, free, wanted_by, under_way, stage_at, with_stage, entry, phase_of, Before, Waits, IsNext, IsOpen, Happening, answered, begun, finished, wanted, quieted, changed, resumed, denied, reset, after, noted, finish_of, state_of, opening, then_step, Step, with_event, Legal, Denies, source_of, at_play}
use Rattle.plant_rules.proofs.plant_history.Running.{idle_done, open_idle, open_done, done_open, idle_open, within, with_same, with_other, length-with, none_some, free_away, wanted_away}
use Rattle.plant_rules.specs.plant_history.Running.{HistoryLaws, IsTurnOf, changes_of}
use Rattle.plant_rules.proofs.plant_history.AllLaws.{history_laws}
use Rattle.plant_core.specs.Answers.{IsEarly, IsPaused, IsHindered, turn_play, play_of, denial_of}
use Rattle.plant_core.specs.Claim.{HasClaimed, HasRun}
use Rattle.plant_core.proofs.Stages.{state_more}
use Rattle.core_plays.specs.Playable.{SameCore, IsPlayable}
use Rattle.core_plays.specs.Private.Rest.{StandsAt, StandsWith, RestsAt}

dichotomy : (a b : ℕ) → (a < b) ⊎ (b ≤ a)
dichotomy zero zero = inr (omega arith)
dichotomy zero (suc b) = inl (omega arith)
dichotomy (suc a) zero = inr (omega arith)
dichotomy (suc a) (suc b) = ⊎_elim (λ h. inl (omega arith)) (λ h. inr (omega arith)) (dichotomy a b)

phases_rise : (phases : List Phase) (p q : ℕ) → p ≤ q → phase_of phases p ≤ phase_of phases q
phases_rise [] p q h = omega arith
phases_rise (x ∷ xs) p q h = by (dichotomy p x.1) (dichotomy q x.1) (phases_rise xs p q h)
  where
    low : (n : ℕ) → n < x.1 → phase_of (x ∷ xs) n ≡ 0
    low n l = let e : nat_lt n x.1 ≡ true = grind (arith, nat_tests) in ap (λ b. if b then 0 else suc (phase_of xs n)) e

    high : (n : ℕ) → x.1 ≤ n → phase_of (x ∷ xs) n ≡ suc (phase_of xs n)
    high n l = let e : nat_lt n x.1 ≡ false = grind (arith, nat_tests) in ap (λ b. if b then 0 else suc (phase_of xs n)) e

    by : (p < x.1) ⊎ (x.1 ≤ p) → (q < x.1) ⊎ (x.1 ≤ q) → phase_of xs p ≤ phase_of xs q → phase_of (x ∷ xs) p ≤ phase_of (x ∷ xs) q
    by (inl a) b r = let e = low p a in omega arith
    by (inr a) (inl b) r = absurd (omega arith)
    by (inr a) (inr b) r = let e = high p a in let f = high q b in omega arith

-- what comes before a play has a lower number
before_low : (script : Script) (q p : ℕ) → Before script q p → q < p
before_low script q p (inr h) = h.2
before_low script q p (inl h) = ⊎_elim (λ l. l) (λ l. let r = phases_rise script.phases p q l in absurd (omega arith)) (dichotomy q p)

past_done : (gs : List Stage) (p : ℕ) → length gs < p → stage_at gs p ≡ done
past_done gs zero h = absurd (omega arith)
past_done gs (suc p) h = get_or_past gs p done (omega arith)

range_more : (k a : ℕ) → range_with_len a k ++ (a + k) ∷ [] ≡ range_with_len a (suc k)
range_more zero a = let e : a + 0 ≡ a = omega arith in ap (λ z. z ∷ []) e
range_more (suc k) a = let e : a + suc k ≡ a + 1 + k = omega arith in ap (λ z. a ∷ (range_with_len (a + 1) k ++ z ∷ [])) e ∙ ap (λ z. a ∷ z) (range_more k (a + 1))

pub one_up : (k : ℕ) → k + 1 ≡ suc k
one_up k = omega arith

-- ---- what no call answers

module _ {W : Type 0} (m : Meaning W) (script : Script) (s : State W) (k : ℕ) (u : Turn) (rest : StandsAt script k u s.stages s.turn s.entries) where
  -- the next play comes next
  pub comes_next : k < length script.plays → IsNext m script s (suc k)
  comes_next low = record {
    idle-is = rest.idle-are (suc k) (omega arith) (omega arith);
    none-waits = λ q w. let l = before_low script q (suc k) w.before in w.still (rest.done-are q (omega arith));
  }

  pub none_open : (t : ℕ) → IsOpen m script s t → ⊥
  none_open t o = ⊎_elim (λ (h : k < o.play). ⊎_elim (λ (g : length script.plays < o.play). done_open o.who t o.contents (sym (past_done s.stages o.play (omega (arith, rest.size))) ∙ o.is)) (λ (g : o.play ≤ length script.plays). idle_open o.who t o.contents (sym (rest.idle-are o.play h g) ∙ o.is)) (dichotomy (length script.plays) o.play))
      (λ (h : o.play ≤ k). done_open o.who t o.contents (sym (rest.done-are o.play h) ∙ o.is)) (dichotomy k o.play)

  pub not_twice : k < length script.plays → (stage_at s.stages (suc k) ≡ idle → ⊥) → ⊥
  not_twice low n = n (comes_next low).idle-is

  pub not_done : k < length script.plays → stage_at s.stages (suc k) ≡ done → ⊥
  not_done low d = idle_done (sym (comes_next low).idle-is ∙ d)

  pub not_early : (q : ℕ) → k < length script.plays → IsEarly m script s (k + 1) q → ⊥
  not_early q low e = (comes_next low).none-waits q (subst (λ (p : ℕ). IsEarly m script s p q) (one_up k) e).waits

  pub not_paused : (c : ℕ) → u ≡ free → IsPaused m script s (suc k) c → ⊥
  not_paused c f e = none_some c (sym (ap turn_play (rest.turn-is ∙ f)) ∙ e.turn-is)

  pub not_busy : (r h : ℕ) → IsHindered m script s (suc k) r h → ⊥
  not_busy r h e = none_open h e.busy.holding.by

-- ---- what an event leaves

module _ {W : Type 0} (m : Meaning W) (script : Script) where
  -- after the play's entry the next one comes, in whatever way the play came to it
  one_more : (k n : ℕ) (u : Turn) (gs hs : List Stage) (es : List Entry) (t t' : Turn) (a : Answer) → StandsAt script k u gs t es → k < length script.plays → length hs ≡ length gs → stage_at hs (suc k) ≡ done
      → ((p : ℕ) → (p ≡ suc k → ⊥) → stage_at hs p ≡ stage_at gs p) → t' ≡ free → StandsAt script (suc k) free hs t' (es ++ entry n (suc k) a ∷ [])
  one_more k n u gs hs es t t' a rest low long here others turn = record {
    size = long ∙ rest.size;
    done-are = λ p h. ⊎_elim (λ (l : p < suc k). others p (λ e. let f : p ≡ suc k = e in omega arith) ∙ rest.done-are p (omega arith)) (λ (l : suc k ≤ p). let e : p ≡ suc k = omega arith in ap (stage_at hs) e ∙ here) (dichotomy p (suc k));
    idle-are = λ p h l. others p (λ e. let f : p ≡ suc k = e in omega arith) ∙ rest.idle-are p (omega arith) l;
    turn-is = turn;
    numbers =
        let e : 1 + k ≡ suc k = omega arith in
        let more : numbers_of (es ++ entry n (suc k) a ∷ []) ≡ numbers_of es ++ suc k ∷ [] = rw map-append refl in
        more ∙ (ap (λ z. z ++ suc k ∷ []) rest.numbers ∙ (ap (λ z. range_with_len 1 k ++ z ∷ []) (sym e) ∙ range_more k 1));
  }

  -- by one event
  by_entry : (k n : ℕ) (u : Turn) (gs : List Stage) (es : List Entry) (t t' : Turn) (a : Answer) → StandsAt script k u gs t es → k < length script.plays → t' ≡ free
      → StandsAt script (suc k) free (with_stage gs (suc k) done) t' (es ++ entry n (suc k) a ∷ [])
  by_entry k n u gs es t t' a rest low turn =
      one_more k n u gs (with_stage gs (suc k) done) es t t' a rest low (length-with gs (suc k) done) (with_same gs (suc k) done (omega arith) (omega (arith, rest.size))) (λ p e. with_other gs (suc k) p done e) turn

  -- by a claim that began and ended
  by_claim : (k n w x : ℕ) (c : Contents) (u : Turn) (gs : List Stage) (es : List Entry) (t t' : Turn) (a : Answer) → StandsAt script k u gs t es → k < length script.plays → t' ≡ free
      → StandsAt script (suc k) free (with_stage (with_stage gs (suc k) (open_by w x c)) (suc k) done) t' (es ++ entry n (suc k) a ∷ [])
  by_claim k n w x c u gs es t t' a rest low turn =
      let one = length-with gs (suc k) (open_by w x c) in
      one_more k n u gs (with_stage (with_stage gs (suc k) (open_by w x c)) (suc k) done) es t t' a rest low (length-with (with_stage gs (suc k) (open_by w x c)) (suc k) done ∙ one)
      (with_same (with_stage gs (suc k) (open_by w x c)) (suc k) done (omega arith) (omega (arith, rest.size, one)))
      (λ p e. with_other (with_stage gs (suc k) (open_by w x c)) (suc k) p done e ∙ with_other gs (suc k) p (open_by w x c) e) turn

abbrev pub StandsIn : {W : Type 0} → Script → ℕ → Turn → State W → Type 0
StandsIn script k u s = StandsAt script k u s.stages s.turn s.entries

module _ {W : Type 0} (m : Meaning W) where
  -- the state behind one more event
  next_state : (P : State W → Type 0) (v v' : Past W) (w p : ℕ) (h : Happening W) → v' ≡ with_event v w p h → P (after m v.script (state_of m v) w p h) → P (state_of m v')
  next_state P v v' w p h e x = subst P (sym (ap (λ (z : Past W). state_of m z) e ∙ state_more m v w p h)) x

  same_script : (v v' : Past W) (w p : ℕ) (h : Happening W) → v' ≡ with_event v w p h → v'.script ≡ v.script
  same_script v v' w p h e = ap (λ (z : Past W). z.script) e

  -- the event is of the next play
  pub at_next : (v v' : Past W) (w k : ℕ) (h : Happening W) → v' ≡ with_event v w (k + 1) h → v' ≡ with_event v w (suc k) h
  at_next v v' w k h e = subst (λ (p : ℕ). v' ≡ with_event v w p h) (one_up k) e

  pub same_core : (v v' : Past W) (w p : ℕ) (h : Happening W) → v' ≡ with_event v w p h → SameCore v v'
  same_core v v' w p h e = (ap (λ (z : Past W). z.first) e, ap (λ (z : Past W). z.contents) e, ap (λ (z : Past W). z.script) e)

  stands : (v v' : Past W) (w p k : ℕ) (u : Turn) (h : Happening W) → v' ≡ with_event v w p h → StandsIn v.script k u (after m v.script (state_of m v) w p h) → StandsWith m k u v'
  stands v v' w p k u h e x = subst (λ (z : Script). StandsIn z k u (state_of m v')) (sym (same_script v v' w p h e)) (next_state (StandsIn v.script k u) v v' w p h e x)

  -- an answer, a reset or a denial is the play's entry
  pub after_answer : (v v' : Past W) (w k : ℕ) (a : Answer) → v' ≡ with_event v w (suc k) (answered a) → k < length v.script.plays → RestsAt m k v → RestsAt m (suc k) v'
  after_answer v v' w k a e low rest = stands v v' w (suc k) (suc k) free (answered a) e (by_entry m v.script k (m.number (state_of m v).version) free (state_of m v).stages (state_of m v).entries (state_of m v).turn (state_of m v).turn a rest low rest.turn-is)

  pub after_reset : (v v' : Past W) (w k : ℕ) (a : Answer) → v' ≡ with_event v w (suc k) (reset a) → k < length v.script.plays → RestsAt m k v → RestsAt m (suc k) v'
  after_reset v v' w k a e low rest = stands v v' w (suc k) (suc k) free (reset a) e (by_entry m v.script k (m.number (state_of m v).version) free (state_of m v).stages (state_of m v).entries (state_of m v).turn (state_of m v).turn a rest low rest.turn-is)

  pub after_denial : (v v' : Past W) (w k : ℕ) (u : Turn) (a : Answer) → v' ≡ with_event v w (suc k) (denied a) → k < length v.script.plays → StandsWith m k u v → RestsAt m (suc k) v'
  after_denial v v' w k u a e low rest = stands v v' w (suc k) (suc k) free (denied a) e (by_entry m v.script k (m.number (state_of m v).version) u (state_of m v).stages (state_of m v).entries (state_of m v).turn free a rest low refl)

  pub after_resume : (v v' : Past W) (w k : ℕ) (u : Turn) (r : Refusal) → v' ≡ with_event v w (suc k) (resumed r) → k < length v.script.plays → StandsWith m k u v → RestsAt m (suc k) v'
  after_resume v v' w k u r e low rest = stands v v' w (suc k) (suc k) free (resumed r) e (by_entry m v.script k (m.number (state_of m v).version) u (state_of m v).stages (state_of m v).entries (state_of m v).turn free (answer.Refused r) rest low refl)

  pub after_change : (v v' : Past W) (w k : ℕ) (u : Turn) (q : W) (d : Contents) → v' ≡ with_event v w (suc k) (changed q d) → k < length v.script.plays → StandsWith m k u v → RestsAt m (suc k) v'
  after_change v v' w k u q d e low rest = stands v v' w (suc k) (suc k) free (changed q d) e (by_entry m v.script k (m.number (state_of m v).version) u (state_of m v).stages (state_of m v).entries (state_of m v).turn free (answer.Loaded (m.number q)) rest low refl)

  -- a wish, and a change under way, leave the plays as they were
  turned : (script : Script) (k : ℕ) (u u' t : Turn) (gs : List Stage) (es : List Entry) → StandsAt script k u gs t es → StandsAt script k u' gs u' es
  turned script k u u' t gs es rest = record { size = rest.size; done-are = rest.done-are; idle-are = rest.idle-are; turn-is = refl; numbers = rest.numbers }

  pub after_wish : (v v' : Past W) (w k : ℕ) (x : W) → v' ≡ with_event v w (suc k) (wanted x) → RestsAt m k v → StandsWith m k (wanted_by (suc k) w) v'
  after_wish v v' w k x e rest = stands v v' w (suc k) k (wanted_by (suc k) w) (wanted x) e (turned v.script k free (wanted_by (suc k) w) (state_of m v).turn (state_of m v).stages (state_of m v).entries rest)

  pub after_quiet : (v v' : Past W) (w k : ℕ) (u : Turn) (c : Contents) → v' ≡ with_event v w (suc k) (quieted c) → StandsWith m k u v → StandsWith m k (under_way (suc k) w c) v'
  after_quiet v v' w k u c e rest = stands v v' w (suc k) k (under_way (suc k) w c) (quieted c) e (turned v.script k u (under_way (suc k) w c) (state_of m v).turn (state_of m v).stages (state_of m v).entries rest)

  -- ---- a cycle that began and ended

  -- the claim is open, and the core takes it back once it has run
  pub opened : (v v' : Past W) (w p t play now : ℕ) (input : List ℕ) (of : W) (c : Contents) → v' ≡ with_event v w p (begun t of c) → HasClaimed m v.script (state_of m v) p t play now input of c
      → HasRun m v'.script (state_of m v') w play t now input of c (m.reply_of of t now input c) (m.left_by of t now input c)
  opened v v' w p t play now input of c e h =
      let here = within (state_of m v).stages p idle h.may.next.idle-is idle_done in
      subst (λ (z : ℕ). HasRun m v'.script (state_of m v') w z t now input of c (m.reply_of of t now input c) (m.left_by of t now input c)) (sym h.play-is)
      (subst (λ (z : Past W). HasRun m z.script (state_of m z) w p t now input of c (m.reply_of of t now input c) (m.left_by of t now input c)) (sym e)
      record {
        open-is = ap (λ (s : State W). stage_at s.stages p) (state_more m v w p (begun t of c)) ∙ with_same (state_of m v).stages p (open_by w t c) here.0 here.1;
        of-is = h.of-is ∙ sym (ap (λ (s : State W). s.version) (state_more m v w p (begun t of c)));
        below = h.below;
        now-is = h.now-is;
        input-is = h.input-is;
        timely = h.timely;
        reply-is = refl;
        left-is = refl;
        fits = h.fits;
        rest-out = h.rest-out;
        total = h.total;
      })

  after_open : (k w t : ℕ) (script : Script) (s s' : State W) (c : Contents) (r : CycleReply) → k < length script.plays → StandsIn script k free s → s' ≡ record s { stages = with_stage s.stages (suc k) (open_by w t c) }
      → StandsIn script (suc k) free (finish_of m script (stage_at s'.stages (suc k)) s' (suc k) r)
  after_open k w t script s s' c r low rest e =
      let here : stage_at (with_stage s.stages (suc k) (open_by w t c)) (suc k) ≡ open_by w t c = with_same s.stages (suc k) (open_by w t c) (omega arith) (omega (arith, rest.size)) in
      subst (λ (z : State W). StandsIn script (suc k) free (finish_of m script (stage_at z.stages (suc k)) z (suc k) r)) (sym e)
      (subst (λ (g : Stage). StandsIn script (suc k) free (finish_of m script g (record s { stages = with_stage s.stages (suc k) (open_by w t c) }) (suc k) r)) (sym here)
      (by_claim m script k (m.number s.version) w t c free s.stages s.entries s.turn s.turn (answer_of r) rest low rest.turn-is))

  pub after_cycle : (v v1 v' : Past W) (w k t : ℕ) (of : W) (c : Contents) (r : CycleReply) → v1 ≡ with_event v w (suc k) (begun t of c) → v' ≡ with_event v1 w (suc k) (finished r)
      → k < length v.script.plays → RestsAt m k v → RestsAt m (suc k) v'
  after_cycle v v1 v' w k t of c r e f low rest =
      let script = same_script v v1 w (suc k) (begun t of c) e in
      let state : state_of m v1 ≡ record (state_of m v) { stages = with_stage (state_of m v).stages (suc k) (open_by w t c) } = ap (λ (z : Past W). state_of m z) e ∙ state_more m v w (suc k) (begun t of c) in
      stands v1 v' w (suc k) (suc k) free (finished r) f
      (subst (λ (z : Script). StandsIn z (suc k) free (finish_of m z (stage_at (state_of m v1).stages (suc k)) (state_of m v1) (suc k) r)) (sym script)
      (after_open k w t v.script (state_of m v) (state_of m v1) c r low rest state))

  -- the core takes back a claim that has run
  pub has_run : (v : Past W) (w play t now : ℕ) (input : List ℕ) (of : W) (c : Contents) (p' t' now' : ℕ) (input' : List ℕ) (of' : W) (taken : Contents) (reply : CycleReply) (left : Contents)
      → HasRun m v.script (state_of m v) w play t now input of c (m.reply_of of t now input c) (m.left_by of t now input c)
      → p' ≡ play → t' ≡ t → now' ≡ now → input' ≡ input → of' ≡ of → taken ≡ c → reply ≡ m.reply_of of t now input c → left ≡ m.left_by of t now input c → HasRun m v.script (state_of m v) w p' t' now' input' of' taken reply left
  has_run v w play t now input of c p' t' now' input' of' taken reply left h e1 e2 e3 e4 e5 e6 e7 e8 = rw (e1, e2, e3, e4, e5, e6, e7, e8) h

  pub finished_at : (v v' : Past W) (w p q : ℕ) (r : CycleReply) → q ≡ p → v' ≡ with_event v w q (finished r) → v' ≡ with_event v w p (finished r)
  finished_at v v' w p q r same e = subst (λ (z : ℕ). v' ≡ with_event v w z (finished r)) same e

  -- ---- changes

  pub changed_at : (v v' : Past W) (w k x : ℕ) (c : Contents) (q : W) (d : Contents) → StandsWith m k (under_way (suc k) x c) v → v' ≡ with_event v w (play_of (state_of m v).turn) (changed q d) → v' ≡ with_event v w (suc k) (changed q d)
  changed_at v v' w k x c q d rest e = subst (λ (z : ℕ). v' ≡ with_event v w z (changed q d)) (ap play_of rest.turn-is) e

  pub resumed_at : (v v' : Past W) (w k x : ℕ) (c : Contents) (r : Refusal) → StandsWith m k (under_way (suc k) x c) v → v' ≡ with_event v w (play_of (state_of m v).turn) (resumed r) → v' ≡ with_event v w (suc k) (resumed r)
  resumed_at v v' w k x c r rest e = subst (λ (z : ℕ). v' ≡ with_event v w z (resumed r)) (ap play_of rest.turn-is) e

  pub same_version : (v v' : Past W) (w p : ℕ) (x : W) → v' ≡ with_event v w p (wanted x) → (state_of m v').version ≡ (state_of m v).version
  same_version v v' w p x e = ap (λ (s : State W). s.version) (ap (λ (z : Past W). state_of m z) e ∙ state_more m v w p (wanted x))

  -- a text that the loaded version denies denies the play of its source
  pub denied_by : (why : Denied) (x : W) (text : List ℕ) (script : Script) (s : State W) (p : ℕ) → OnRefused why (m.denied x text) → x ≡ s.version → source_of script.sources (at_play m script p) ≡ Some text → Denies m script s p (denial_of why)
  denied_by (denial.Refused r) x text script s p h e t = inl (text, r, t, subst (λ (z : W). m.denied z text r) e h, refl)
  denied_by denial.NoMemory x text script s p h e t = inr refl

  pub denied_at : (why : Denied) (x : W) (text : List ℕ) (v0 v : Past W) (k p : ℕ) → OnRefused why (m.denied x text) → x ≡ (state_of m v).version → SameCore v0 v → source_of v0.script.sources (at_play m v0.script (suc k)) ≡ Some text → p ≡ suc k
      → Denies m v.script (state_of m v) p (denial_of why)
  denied_at why x text v0 v k p h e same t is =
      subst (λ (q : ℕ). Denies m v.script (state_of m v) q (denial_of why)) (sym is)
      (denied_by why x text v.script (state_of m v) (suc k) h e (subst (λ (z : Script). source_of z.sources (at_play m z (suc k)) ≡ Some text) (sym same.2) t))

  -- there is room for one more version
  pub one_more_version : (frames : Frames m) (v v0 : Past W) (w k : ℕ) → IsPlayable m v0 → SameCore v0 v → Legal m v → StandsWith m k (wanted_by (suc k) w) v → m.number (state_of m v).version + 1 < 2 ^ 32
  one_more_version frames v v0 w k may same legal stands =
      let right : m.right v.first = subst m.right (sym same.0) may.right in
      let few : m.number v.first + changes_of v.script.plays < 2 ^ 32 = subst (λ (x : W). m.number x + changes_of v.script.plays < 2 ^ 32) (sym same.0) (subst (λ (z : Script). m.number v0.first + changes_of z.plays < 2 ^ 32) (sym same.2) may.few-changes) in
      let turn : IsTurnOf w (suc k) (state_of m v).turn = subst (IsTurnOf w (suc k)) (sym stands.turn-is) (refl, refl) in
      let more = HistoryLaws.one-more (history_laws m frames) v w (suc k) right legal turn in
      omega (arith, few, more)

-- ---- the same core

module _ {W : Type 0} where
  pub same_itself : (v : Past W) → SameCore v v
  same_itself v = (refl, refl, refl)

  pub same_then : (a b c : Past W) → SameCore a b → SameCore b c → SameCore a c
  same_then a b c e f = (f.0 ∙ e.0, f.1 ∙ e.1, f.2 ∙ e.2)

  pub same_equal : (a b c : Past W) → SameCore a b → c ≡ b → SameCore a c
  same_equal a b c e f = subst (SameCore a) (sym f) e

  pub still_playable : (m : Meaning W) (v v' : Past W) → SameCore v v' → IsPlayable m v → IsPlayable m v'
  still_playable m v v' same may = record {
    right = subst m.right (sym same.0) may.right;
    few-plays = subst (λ (z : Script). length z.plays ≤ 65536) (sym same.2) may.few-plays;
    few-changes = subst (λ (x : W). m.number x + changes_of v'.script.plays < 2 ^ 32) (sym same.0) (subst (λ (z : Script). m.number v.first + changes_of z.plays < 2 ^ 32) (sym same.2) may.few-changes);
    sources = subst (λ (z : Script). (p n : ℕ) (name : List ℕ) → play_numbered z.plays p ≡ Some (play.Change name n) → n < length z.sources) (sym same.2) may.sources;
  }

-- ---- the next play

module _ {W : Type 0} (m : Meaning W) (v : Past W) (k : ℕ) (x : Play) (may : IsPlayable m v) (here : play_numbered v.script.plays (suc k) ≡ Some x) where
  pub is_there : k < length v.script.plays
  is_there = slice_get_within v.script.plays k x here

  pub few_done : k < 65536
  few_done = omega (arith, is_there, may.few-plays)

  pub has_source : (name : List ℕ) (n : ℕ) (sources : List (List ℕ × List ℕ)) → x ≡ play.Change name n → values_of sources ≡ v.script.sources → n < length sources
  has_source name n sources e same =
      let low = may.sources (suc k) n name (here ∙ ap Some e) in
      subst (λ (z : ℕ). n < z) (ap length (sym same) ∙ length-map sources (λ x. x.1)) low

-- ---- a new core

idle_stages : (n p : ℕ) → p < n → slice_index_or (replicate n idle) p done ≡ idle
idle_stages zero p h = absurd (omega arith)
idle_stages (suc n) zero h = refl
idle_stages (suc n) (suc p) h = idle_stages n p (omega arith)

idle_at : (n p : ℕ) → 0 < p → p ≤ n → stage_at (replicate n idle) p ≡ idle
idle_at n zero h l = absurd (omega arith)
idle_at n (suc p) h l = idle_stages n p (omega arith)

first_done : (gs : List Stage) (p : ℕ) → p ≤ 0 → stage_at gs p ≡ done
first_done gs zero h = refl
first_done gs (suc p) h = absurd (omega arith)

pub rests_first : {W : Type 0} (m : Meaning W) (v : Past W) → v.history ≡ [] → RestsAt m 0 v
rests_first m v e =
    let state : state_of m v ≡ opening v = ap (λ (es : List (Step _)). fold (then_step m v.script) (opening v) es) e in
    subst (λ (s : State _). StandsIn v.script 0 free s) (sym state)
    (record {
      size = length-replicate (length v.script.plays) idle;
      done-are = λ p h. first_done (replicate (length v.script.plays) idle) p h;
      idle-are = λ p l h. idle_at (length v.script.plays) p l h;
      turn-is = refl;
      numbers = refl;
    })
