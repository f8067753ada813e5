-- Every legal history is a run of One, and its entries keep the order of phases and lists.
use Rattle.std.proofs.Common.{◌≡◌, ◌≤◌, ◌<◌, ◌+◌, ℕ, zero, suc, List, [], ◌∷◌, ◌++◌, Option, Some, None, Result, Ok, Err, Bool, true, false, ◌||◌, ◌&&◌, not, fold, refl, sym, ap, ◌∙◌, subst, ⊎_elim, ◌⊎◌, inl, inr, slice_set, arith, replicate, length, length-set, map}
use Rattle.std.specs.Prelude.{slice_index_or, slice_get}
use Rattle.std.proofs.lemmas.List.{get_or-set_other, get_or-set_same, map-append, length-replicate}
use Rattle.std.proofs.lemmas.Slice.Eq.{bytes_eq-Decides}
use mathlib.Core.Logic.{dite}
use native.Mathlib.Decide.{ℕ_discrete}
use Rattle.plc_text.specs.Words.{same}
use Rattle.plc_text.specs.declared.refusal.Refusal.{Refusal}
use Rattle.cycle_journal.specs.Interleaving.{numbers_of}
use Rattle.cycle_journal.specs.Play.{play_numbered}
use Rattle.cycle_journal.specs.declared.entry.Answer.{Answer}
use Rattle.cycle_journal.specs.declared.entry.Answer.TheVariants as answer
use Rattle.cycle_journal.specs.declared.entry.CycleReply.{CycleReply}
use Rattle.cycle_journal.specs.declared.entry.CycleReply.TheVariants as reply
use Rattle.cycle_journal.specs.declared.entry.Entry.{Entry}
use Rattle.cycle_journal.specs.declared.play.Play.{Play}
use Rattle.cycle_journal.specs.declared.play.Play.TheVariants as play
use Rattle.plant_rules.specs.Meaning.{Contents, Meaning, Frames, Has}
use Rattle.plant_rules.specs.One.{OneState, answer_of, held_after, held_without, loads, One, cycle_without_task, cycle_held, cycle_run, reset_without_task, reset_done, change_loaded, change_refused, change_without_memory, Runs, begins}
use Rattle.plant_rules.specs.History.{Past, Script, Step, Happening, answered, begun, finished, wanted, quieted, changed, resumed, denied, reset, Stage, idle, open_by, done, Turn, free, wanted_by, under_way, State, one_of, stage_at, with_stage, entry, now_of, input_of, task_of, is_cycle, is_change, is_reset, source_of, at_play, cycle_left, cycle_reply, noted, finish_of, loaded_by, held_with, after, then_step, Before, Waits, IsNext, IsOpen, Writing, Claimed, HasTask, Unclaimed, MayBegin, Unable, Resets, Denies, ComesTo, Follows, LegalFrom, opening, state_of, Legal}
use Rattle.plant_rules.specs.plant_history.Running.{InTurn}

-- ---- stages

pub done_open : (w t : ℕ) (c : Contents) → done ≡ open_by w t c → ⊥
done_open w t c e = cc

pub idle_open : (w t : ℕ) (c : Contents) → idle ≡ open_by w t c → ⊥
idle_open w t c e = cc

pub open_idle : (w t : ℕ) (c : Contents) → open_by w t c ≡ idle → ⊥
open_idle w t c e = cc

pub open_done : (w t : ℕ) (c : Contents) → open_by w t c ≡ done → ⊥
open_done w t c e = cc

pub idle_done : idle ≡ done → ⊥
idle_done e = cc

pub within : (gs : List Stage) (p : ℕ) (g : Stage) → stage_at gs p ≡ g → (g ≡ done → ⊥) → (1 ≤ p) × (p ≤ length gs)
within gs zero g e still = absurd (still (sym e))
within [] (suc p) g e still = absurd (still (sym e))
within (x ∷ xs) (suc zero) g e still = (omega arith, omega arith)
within (x ∷ xs) (suc (suc p)) g e still = let h = within xs (suc p) g e still in (omega arith, omega (arith, h.1))

pub with_same : (gs : List Stage) (p : ℕ) (g : Stage) → 1 ≤ p → p ≤ length gs → stage_at (with_stage gs p g) p ≡ g
with_same gs zero g l h = absurd (omega arith)
with_same gs (suc p) g l h = get_or-set_same gs p g done (omega arith)

pub with_other : (gs : List Stage) (p q : ℕ) (g : Stage) → (q ≡ p → ⊥) → stage_at (with_stage gs p g) q ≡ stage_at gs q
with_other gs zero q g n = refl
with_other gs (suc p) zero g n = refl
with_other gs (suc p) (suc q) g n = get_or-set_other gs p q g done (λ e. n (ap suc e))

pub length-with : (gs : List Stage) (p : ℕ) (g : Stage) → length (with_stage gs p g) ≡ length gs
length-with gs zero g = refl
length-with gs (suc p) g = length-set gs p g

pub opened_after : (gs : List Stage) (p q w t : ℕ) (c : Contents) (g : Stage) → (1 ≤ p) × (p ≤ length gs) → stage_at (with_stage gs p g) q ≡ open_by w t c
    → ((q ≡ p) × (g ≡ open_by w t c)) ⊎ ((q ≡ p → ⊥) × (stage_at gs q ≡ open_by w t c))
opened_after gs p q w t c g h e =
    dite (ℕ_discrete q p)
    (λ i. inl (i, sym (with_same gs p g h.0 h.1) ∙ (ap (λ k. stage_at (with_stage gs p g) k) (sym i) ∙ e)))
    (λ ne. inr (ne, sym (with_other gs p q g ne) ∙ e))

pub was_open : (gs : List Stage) (p q w t : ℕ) (c : Contents) → stage_at (with_stage gs p done) q ≡ open_by w t c → stage_at gs q ≡ open_by w t c
was_open gs zero q w t c e = e
was_open gs (suc p) zero w t c e = e
was_open [] (suc p) (suc q) w t c e = e
was_open (x ∷ xs) (suc zero) (suc zero) w t c e = absurd (done_open w t c e)
was_open (x ∷ xs) (suc zero) (suc (suc q)) w t c e = e
was_open (x ∷ xs) (suc (suc p)) (suc zero) w t c e = e
was_open (x ∷ xs) (suc (suc p)) (suc (suc q)) w t c e = was_open xs (suc p) (suc q) w t c e

pub still_open : (gs : List Stage) (p : ℕ) (g : Stage) → stage_at gs p ≡ g → (g ≡ done → ⊥) → (q w t : ℕ) (c : Contents) → stage_at (with_stage gs p done) q ≡ open_by w t c → (q ≡ p → ⊥) × (stage_at gs q ≡ open_by w t c)
still_open gs p g e still q w t c f = ⊎_elim (λ n. absurd (done_open w t c n.1)) (λ o. o) (opened_after gs p q w t c done (within gs p g e still) f)

pub none_open : (n p w t : ℕ) (c : Contents) → stage_at (replicate n idle) p ≡ open_by w t c → ⊥
none_open n zero w t c e = done_open w t c e
none_open zero (suc p) w t c e = done_open w t c e
none_open (suc n) (suc zero) w t c e = idle_open w t c e
none_open (suc n) (suc (suc p)) w t c e = none_open n (suc p) w t c e

task_in : Stage → ℕ
task_in (open_by w t c) = t
task_in idle = 0
task_in done = 0

pub same_task : (w t w' t' : ℕ) (c c' : Contents) → open_by w t c ≡ open_by w' t' c' → t ≡ t'
same_task w t w' t' c c' e = cc

-- the play of the change that is wanted or under way
abbrev pub turn_play : Turn → Option ℕ
turn_play free = None
turn_play (wanted_by p w) = Some p
turn_play (under_way p w c) = Some p

pub none_some : (p : ℕ) → None ≡ Some p → ⊥
none_some p e = cc

pub some_same : {A : Type 0} (p q : A) → Some p ≡ Some q → p ≡ q
some_same p q e = cc

pub free_away : (q w : ℕ) (d : Contents) → free ≡ under_way q w d → ⊥
free_away q w d e = cc

pub wanted_away : (p w q w' : ℕ) (d : Contents) → wanted_by p w ≡ under_way q w' d → ⊥
wanted_away p w q w' d e = cc

true_not : true ≡ false → ⊥
true_not e = cc

-- ---- plays

pub cycle_not_change : (o : Option Play) → is_cycle o ≡ true → is_change o ≡ true → ⊥
cycle_not_change None e f = cc
cycle_not_change (Some (play.Cycle n now input)) e f = cc
cycle_not_change (Some (play.Change n s)) e f = cc
cycle_not_change (Some (play.Reset n)) e f = cc

pub reset_not_change : (o : Option Play) → is_reset o ≡ true → is_change o ≡ true → ⊥
reset_not_change None e f = cc
reset_not_change (Some (play.Cycle n now input)) e f = cc
reset_not_change (Some (play.Change n s)) e f = cc
reset_not_change (Some (play.Reset n)) e f = cc

calm_after : (r : CycleReply) (n x : List ℕ) (h : List ℕ → Bool) → (n ≡ x → ⊥) → h x ≡ false → held_after r n h x ≡ false
calm_after (reply.Done ticks outputs) n x h ne e = e
calm_after (reply.Fault f) n x h ne e = by (same n x) refl
  where
    by : (b : Bool) → same n x ≡ b → (b || h x) ≡ false
    by true i = absurd (ne ((bytes_eq-Decides n x).0 i))
    by false i = e

calm_without : (n x : List ℕ) (h : List ℕ → Bool) → h x ≡ false → held_without n h x ≡ false
calm_without n x h e = by (not (same n x))
  where
    by : (b : Bool) → (b && h x) ≡ false
    by true = e
    by false = refl

module _ {W : Type 0} (m : Meaning W) (frames : Frames m) (script : Script) where
  held_calm : (a : Answer) (n x : List ℕ) (h : List ℕ → Bool) → h x ≡ false → held_with m script a n h x ≡ false
  held_calm answer.Released n x h e = calm_without n x h e
  held_calm answer.Held n x h e = e
  held_calm (answer.NoTask k) n x h e = e
  held_calm (answer.Done t o) n x h e = e
  held_calm (answer.Fault f) n x h e = e
  held_calm (answer.Loaded k) n x h e = e
  held_calm (answer.Refused k) n x h e = e
  held_calm answer.RefusedMemory n x h e = e

  -- what every legal history keeps of its open claims and of its change
  pub record Sane (s : State W) : Type 0 where
    pub right : m.right s.version
    pub cycles : (p w t : ℕ) (c : Contents) → stage_at s.stages p ≡ open_by w t c → HasTask m script s p t
    pub calm : (p w t : ℕ) (c : Contents) → stage_at s.stages p ≡ open_by w t c → s.held (task_of (at_play m script p)) ≡ false
    pub alone : (p w t : ℕ) (c : Contents) (q w' : ℕ) (c' : Contents) → stage_at s.stages p ≡ open_by w t c → stage_at s.stages q ≡ open_by w' t c' → q ≡ p
    pub changes : (p : ℕ) → turn_play s.turn ≡ Some p → is_change (at_play m script p) ≡ true
    pub away : (p w : ℕ) (d : Contents) → s.turn ≡ under_way p w d → (q w' t : ℕ) (c : Contents) → stage_at s.stages q ≡ open_by w' t c → ⊥

  not_again : (s : State W) (p t : ℕ) → m.right s.version → MayBegin m script s p t → IsOpen m script s t → ⊥
  not_again s p t right may o =
      let low = frames.named-below s.version _ t right may.task.named in
      let own = frames.owns-some s.version t right low in
      may.unclaimed.writes-free own.0 own.1 record { task = t; by = o; has = frames.writes-read s.version t own.0 right low own.1 }

  -- ---- one step is a step of One

  pub record Stepped (s : State W) (p : ℕ) (s' : State W) : Type 0 where
    pub play : Play
    pub answer : Answer
    pub is : at_play m script p ≡ Some play
    pub one : One m script.sources (one_of s) play answer (one_of s')
    pub entries : s'.entries ≡ s.entries ++ entry (m.number s.version) p answer ∷ []

  -- what a play is answered, and the state then
  pub record Ones (s : State W) (o : Option Play) (a : Answer) (b : OneState W) : Type 0 where
    pub play : Play
    pub is : o ≡ Some play
    pub one : One m script.sources (one_of s) play a b

  answered_one : (s : State W) (o : Option Play) (a : Answer) → is_cycle o ≡ true
      → ((m.named s.version (task_of o) ≡ None) × (a ≡ answer.NoTask (s.since (task_of o)))) ⊎ ((t : ℕ) × (m.named s.version (task_of o) ≡ Some t) × (s.held (task_of o) ≡ true) × (a ≡ answer.Held)) → Ones s o a (one_of s)
  answered_one s None a e u = cc
  answered_one s (Some (play.Change n source)) a e u = cc
  answered_one s (Some (play.Reset n)) a e u = cc
  answered_one s (Some (play.Cycle n now input)) a e (inl u) =
      record { play = play.Cycle n now input; is = refl; one = subst (λ z. One m script.sources (one_of s) (play.Cycle n now input) z (one_of s)) (sym u.1) (cycle_without_task u.0) }
  answered_one s (Some (play.Cycle n now input)) a e (inr u) =
      record { play = play.Cycle n now input; is = refl; one = subst (λ z. One m script.sources (one_of s) (play.Cycle n now input) z (one_of s)) (sym u.3) (cycle_held u.0 u.1 u.2) }

  finished_one : (s : State W) (o : Option Play) (t : ℕ) (r : CycleReply) → is_cycle o ≡ true → m.named s.version (task_of o) ≡ Some t → s.held (task_of o) ≡ false → r ≡ m.reply_of s.version t (now_of o) (input_of o) s.store
      → Ones s o (answer_of r) (record (one_of s) { store = m.left_by s.version t (now_of o) (input_of o) s.store; held = held_after r (task_of o) s.held })
  finished_one s None t r e n h i = cc
  finished_one s (Some (play.Change n source)) t r e k h i = cc
  finished_one s (Some (play.Reset n)) t r e k h i = cc
  finished_one s (Some (play.Cycle n now input)) t r e k h i = record {
    play = play.Cycle n now input;
    is = refl;
    one =
        subst (λ z. One m script.sources (one_of s) (play.Cycle n now input) (answer_of z) (record (one_of s) { store = m.left_by s.version t now input s.store; held = held_after z n s.held })) (sym i) (cycle_run t k h);
  }

  reset_one : (s : State W) (o : Option Play) (a : Answer) → is_reset o ≡ true
      → ((m.named s.version (task_of o) ≡ None) × (a ≡ answer.NoTask (s.since (task_of o)))) ⊎ ((t : ℕ) × (m.named s.version (task_of o) ≡ Some t) × (a ≡ answer.Released))
      → Ones s o a (record (one_of s) { held = held_with m script a (task_of o) s.held })
  reset_one s None a e u = cc
  reset_one s (Some (play.Change n source)) a e u = cc
  reset_one s (Some (play.Cycle n now input)) a e u = cc
  reset_one s (Some (play.Reset n)) a e (inl u) =
      record { play = play.Reset n; is = refl; one = subst (λ z. One m script.sources (one_of s) (play.Reset n) z (record (one_of s) { held = held_with m script z n s.held })) (sym u.1) (reset_without_task u.0) }
  reset_one s (Some (play.Reset n)) a e (inr u) =
      record { play = play.Reset n; is = refl; one = subst (λ z. One m script.sources (one_of s) (play.Reset n) z (record (one_of s) { held = held_with m script z n s.held })) (sym u.2) (reset_done u.0 u.1) }

  loaded_one : (s : State W) (o : Option Play) (q : W) (d : Contents) (text : List ℕ) → source_of script.sources o ≡ Some text → m.changed s.version text s.store (Ok (q, d)) → Ones s o (answer.Loaded (m.number q)) (loads m (one_of s) q d)
  loaded_one s None q d text e h = cc
  loaded_one s (Some (play.Cycle n now input)) q d text e h = cc
  loaded_one s (Some (play.Reset n)) q d text e h = cc
  loaded_one s (Some (play.Change n source)) q d text e h = record { play = play.Change n source; is = refl; one = change_loaded text q d e h }

  refused_one : (s : State W) (o : Option Play) (r : Refusal) (text : List ℕ) → source_of script.sources o ≡ Some text → m.changed s.version text s.store (Err r) → Ones s o (answer.Refused r) (one_of s)
  refused_one s None r text e h = cc
  refused_one s (Some (play.Cycle n now input)) r text e h = cc
  refused_one s (Some (play.Reset n)) r text e h = cc
  refused_one s (Some (play.Change n source)) r text e h = record { play = play.Change n source; is = refl; one = change_refused text r e h }

  memory_one : (s : State W) (o : Option Play) → is_change o ≡ true → Ones s o answer.RefusedMemory (one_of s)
  memory_one s None e = cc
  memory_one s (Some (play.Cycle n now input)) e = cc
  memory_one s (Some (play.Reset n)) e = cc
  memory_one s (Some (play.Change n source)) e = record { play = play.Change n source; is = refl; one = change_without_memory }

  runs_more : (a : OneState W) (es : List Entry) (b x : OneState W) (n p : ℕ) (y : Play) (c : Answer) → Runs m script.sources script.plays a es b → n ≡ m.number b.version → at_play m script p ≡ Some y → One m script.sources b y c x
      → Runs m script.sources script.plays a (es ++ entry n p c ∷ []) x
  runs_more a [] b x n p y c r i e one = (y, x, e, i ∙ ap (λ (z : OneState W). m.number z.version) (sym r), subst (λ (z : OneState W). One m script.sources z y c x) (sym r) one, refl)
  runs_more a (f ∷ fs) b x n p y c r i e one = (r.0, r.1, r.2, r.3, r.4, runs_more r.1 fs b x n p y c r.5 i e one)

  -- a step with the entry of a play
  runs_noted : (start : OneState W) (s s' : State W) (p : ℕ) (a : Answer) → Runs m script.sources script.plays start s.entries (one_of s) → Ones s (at_play m script p) a (one_of s') → s'.entries ≡ s.entries ++ entry (m.number s.version) p a ∷ []
      → Runs m script.sources script.plays start s'.entries (one_of s')
  runs_noted start s s' p a r k e =
      subst (λ (z : List Entry). Runs m script.sources script.plays start z (one_of s')) (sym e) (runs_more start s.entries (one_of s) (one_of s') (m.number s.version) p k.play a r refl k.is k.one)

  pub run_step : (start : OneState W) (s : State W) (w p : ℕ) (h : Happening W) → Sane s → Follows m script s w p h → Runs m script.sources script.plays start s.entries (one_of s)
      → Runs m script.sources script.plays start (after m script s w p h).entries (one_of (after m script s w p h))
  run_step start s w p (answered a) sane f r = runs_noted start s (after m script s w p (answered a)) p a r (answered_one s (at_play m script p) a f.2 f.3) refl
  run_step start s w p (begun t v c) sane f r = r
  run_step start s w p (finished q) sane f r =
      subst (λ (g : Stage). Runs m script.sources script.plays start (finish_of m script g s p q).entries (one_of (finish_of m script g s p q))) (sym f.2)
      (let task = sane.cycles p w f.0 f.1 f.2 in
      runs_noted start s (finish_of m script (open_by w f.0 f.1) s p q) p (answer_of q) r (finished_one s (at_play m script p) f.0 q task.cycle task.named (sane.calm p w f.0 f.1 f.2) f.3) refl)
  run_step start s w p (wanted v) sane f r = r
  run_step start s w p (quieted c) sane f r = r
  run_step start s w p (changed q d) sane f r =
      runs_noted start s (after m script s w p (changed q d)) p (answer.Loaded (m.number q)) r (loaded_one s (at_play m script p) q d f.2.0 f.2.1 f.2.2) refl
  run_step start s w p (resumed e) sane f r = runs_noted start s (after m script s w p (resumed e)) p (answer.Refused e) r (refused_one s (at_play m script p) e f.2.0 f.2.1 f.2.2) refl
  run_step start s w p (denied a) sane f r =
      ⊎_elim
      (λ x. runs_noted start s (after m script s w p (denied a)) p a r (subst (λ z. Ones s (at_play m script p) z (one_of s)) (sym x.4) (refused_one s (at_play m script p) x.1 x.0 x.2 (frames.prompt s.version x.0 s.store x.1 x.3))) refl)
      (λ x. runs_noted start s (after m script s w p (denied a)) p a r (subst (λ z. Ones s (at_play m script p) z (one_of s)) (sym x) (memory_one s (at_play m script p) (sane.changes p (ap turn_play f.0)))) refl)
      f.1
  run_step start s w p (reset a) sane f r = runs_noted start s (after m script s w p (reset a)) p a r (reset_one s (at_play m script p) a f.1 f.2) refl

  -- ---- sane states stay sane

  -- a play that is not open gets its entry
  sane_noted : (s : State W) (p : ℕ) (u : Turn) (h : List ℕ → Bool) (es : List Entry) → Sane s → ((n : List ℕ) → s.held n ≡ false → h n ≡ false) → ((q : ℕ) → turn_play u ≡ Some q → is_change (at_play m script q) ≡ true)
      → ((q w : ℕ) (d : Contents) → u ≡ under_way q w d → s.turn ≡ u) → Sane (record s { stages = with_stage s.stages p done; turn = u; held = h; entries = es })
  sane_noted s p u h es k calm turns away = record {
    right = k.right;
    cycles = λ q w t c e. let o = k.cycles q w t c (was_open s.stages p q w t c e) in record { cycle = o.cycle; named = o.named };
    calm = λ q w t c e. calm _ (k.calm q w t c (was_open s.stages p q w t c e));
    alone = λ q w t c q' w' c' e f. k.alone q w t c q' w' c' (was_open s.stages p q w t c e) (was_open s.stages p q' w' t c' f);
    changes = turns;
    away = λ q w d i q' w' t c e. k.away q w d (away q w d i ∙ i) q' w' t c (was_open s.stages p q' w' t c e);
  }

  pub sane_step : (s : State W) (w p : ℕ) (h : Happening W) → Sane s → Follows m script s w p h → Sane (after m script s w p h)
  sane_step s w p (answered a) k f = sane_noted s p s.turn s.held (s.entries ++ entry (m.number s.version) p a ∷ []) k (λ n e. e) k.changes (λ q w' d e. refl)
  sane_step s w p (begun t v c) k f =
      let may = f.0 in
      let here = within s.stages p idle may.next.idle-is idle_done in
      let none = λ (q w' : ℕ) (c' : Contents) (e : stage_at s.stages q ≡ open_by w' t c'). not_again s p t k.right may record { play = q; who = w'; contents = c'; is = e } in
      record {
        right = k.right;
        cycles = λ q w' t' c' e. ⊎_elim
            (λ n. record { cycle = ap (λ z. is_cycle (at_play m script z)) n.0 ∙ may.task.cycle; named = ap (λ z. m.named s.version (task_of (at_play m script z))) n.0 ∙ (may.task.named ∙ ap Some (same_task w t w' t' c c' n.1)) })
            (λ o. let x = k.cycles q w' t' c' o.1 in record { cycle = x.cycle; named = x.named })
            (opened_after s.stages p q w' t' c' (open_by w t c) here e);
        calm = λ q w' t' c' e. ⊎_elim (λ n. ap (λ z. s.held (task_of (at_play m script z))) n.0 ∙ may.not-held) (λ o. k.calm q w' t' c' o.1) (opened_after s.stages p q w' t' c' (open_by w t c) here e);
        alone = λ q w' t' c' q' w'' c'' e g.
            ⊎_elim
            (λ n. ⊎_elim (λ n'. n'.0 ∙ sym n.0) (λ o'. absurd (none q' w'' c'' (o'.1 ∙ ap (λ z. open_by w'' z c'') (sym (same_task w t w' t' c c' n.1))))) (opened_after s.stages p q' w'' t' c'' (open_by w t c) here g))
            (λ o. ⊎_elim (λ n'. absurd (none q w' c' (o.1 ∙ ap (λ z. open_by w' z c') (sym (same_task w t w'' t' c c'' n'.1))))) (λ o'. k.alone q w' t' c' q' w'' c'' o.1 o'.1) (opened_after s.stages p q' w'' t' c'' (open_by w t c) here g))
            (opened_after s.stages p q w' t' c' (open_by w t c) here e);
        changes = k.changes;
        away = λ q w' d e. absurd (free_away q w' d (sym may.turn-free ∙ e));
      }
  sane_step s w p (finished r) k f =
      subst (λ (g : Stage). Sane (finish_of m script g s p r)) (sym f.2)
      (let task = k.cycles p w f.0 f.1 f.2 in
      let was = still_open s.stages p (open_by w f.0 f.1) f.2 (λ z. done_open w f.0 f.1 (sym z)) in
      record {
        right = k.right;
        cycles = λ q w' t c e. let o = k.cycles q w' t c (was q w' t c e).1 in record { cycle = o.cycle; named = o.named };
        calm = λ q w' t c e. let o = was q w' t c e in
            calm_after r (task_of (at_play m script p)) (task_of (at_play m script q)) s.held
            (λ i. o.0 (let same : Some f.0 ≡ Some t = sym task.named ∙ (ap (λ z. m.named s.version z) i ∙ (k.cycles q w' t c o.1).named) in
            k.alone p w f.0 f.1 q w' c f.2 (o.1 ∙ ap (λ z. open_by w' z c) (sym (some_same f.0 t same)))))
            (k.calm q w' t c o.1);
        alone = λ q w' t c q' w'' c' e g. k.alone q w' t c q' w'' c' (was q w' t c e).1 (was q' w'' t c' g).1;
        changes = k.changes;
        away = λ q w' d i q' w'' t c e. k.away q w' d i q' w'' t c (was q' w'' t c e).1;
      })
  sane_step s w p (wanted v) k f = record {
    right = k.right;
    cycles = λ q w' t c e. let o = k.cycles q w' t c e in record { cycle = o.cycle; named = o.named };
    calm = k.calm;
    alone = k.alone;
    changes = λ q e. subst (λ (z : ℕ). is_change (at_play m script z) ≡ true) (some_same p q e) f.2;
    away = λ q w' d e. absurd (wanted_away p w q w' d e);
  }
  sane_step s w p (quieted c) k f = record {
    right = k.right;
    cycles = λ q w' t c' e. let o = k.cycles q w' t c' e in record { cycle = o.cycle; named = o.named };
    calm = k.calm;
    alone = k.alone;
    changes = λ q e. subst (λ (z : ℕ). is_change (at_play m script z) ≡ true) (some_same p q e) (k.changes p (ap turn_play f.0));
    away = λ q w' d e q' w'' t c' i. f.1 t record { play = q'; who = w''; contents = c'; is = i };
  }
  sane_step s w p (changed q d) k f =
      let none = λ (q' w' t : ℕ) (c : Contents) (e : stage_at (with_stage s.stages p done) q' ≡ open_by w' t c). k.away p w f.0 f.1 q' w' t c (was_open s.stages p q' w' t c e) in
      record {
        right = frames.next-right s.version q f.2.0 s.store d f.2.2;
        cycles = λ q' w' t c e. absurd (none q' w' t c e);
        calm = λ q' w' t c e. absurd (none q' w' t c e);
        alone = λ q' w' t c q'' w'' c' e. absurd (none q' w' t c e);
        changes = λ q' e. absurd (none_some q' e);
        away = λ q' w' d' e. absurd (free_away q' w' d' e);
      }
  sane_step s w p (resumed e) k f = sane_noted s p free s.held (s.entries ++ entry (m.number s.version) p (answer.Refused e) ∷ []) k (λ n i. i) (λ q i. absurd (none_some q i)) (λ q w' d i. absurd (free_away q w' d i))
  sane_step s w p (denied a) k f = sane_noted s p free s.held (s.entries ++ entry (m.number s.version) p a ∷ []) k (λ n i. i) (λ q i. absurd (none_some q i)) (λ q w' d i. absurd (free_away q w' d i))
  sane_step s w p (reset a) k f =
      sane_noted s p s.turn (held_with m script a (task_of (at_play m script p)) s.held) (s.entries ++ entry (m.number s.version) p a ∷ []) k (λ n e. held_calm a (task_of (at_play m script p)) n s.held e) k.changes (λ q w' d e. refl)

  pub runs_from : (start : OneState W) (s : State W) (es : List (Step W)) → Sane s → LegalFrom m script s es → Runs m script.sources script.plays start s.entries (one_of s)
      → Runs m script.sources script.plays start (fold (then_step m script) s es).entries (one_of (fold (then_step m script) s es))
  runs_from start s [] sane l r = r
  runs_from start s (e ∷ es) sane l r = runs_from start (then_step m script s e) es (sane_step s e.who e.play e.what sane l.0) l.1 (run_step start s e.who e.play e.what sane l.0 r)

  pub sane_opening : (v : Past W) → m.right v.first → Sane (opening v)
  sane_opening v right = record {
    right = right;
    cycles = λ p w t c i. absurd (none_open _ p w t c i);
    calm = λ p w t c i. refl;
    alone = λ p w t c q w' c' i. absurd (none_open _ p w t c i);
    changes = λ p i. absurd (none_some p i);
    away = λ p w d i. absurd (free_away p w d i);
  }

-- ---- the order of the entries

pub seen : List ℕ → List ℕ → List ℕ
seen d [] = d
seen d (p ∷ ps) = seen (p ∷ d) ps

seen_more : (d ps : List ℕ) (w : ℕ) → seen d (ps ++ w ∷ []) ≡ w ∷ seen d ps
unfolding seen
seen_more d [] w = refl
seen_more d (p ∷ ps) w = seen_more (p ∷ d) ps w

pub seen_has : (d ps : List ℕ) (q : ℕ) → Has (seen d ps) q → (Has d q) ⊎ (Has ps q)
unfolding seen
seen_has d [] q h = inl h
seen_has d (p ∷ ps) q h = ⊎_elim (λ k. ⊎_elim (λ (e : q ≡ p). inr (inl e)) (λ k'. inl k') k) (λ k. inr (inr k)) (seen_has (p ∷ d) ps q h)

seen_old : (d ps : List ℕ) (q : ℕ) → Has d q → Has (seen d ps) q
unfolding seen
seen_old d [] q h = h
seen_old d (p ∷ ps) q h = seen_old (p ∷ d) ps q (inr h)

pub has_seen : (d ps : List ℕ) (q : ℕ) → Has ps q → Has (seen d ps) q
unfolding seen
has_seen d [] q h = absurd h
has_seen d (p ∷ ps) q h = ⊎_elim (λ i. seen_old (p ∷ d) ps q (inl i)) (λ k. has_seen (p ∷ d) ps q k) h

in_turn_more : (script : Script) (d ps : List ℕ) (w : ℕ) → InTurn script d ps → (Has (seen d ps) w → ⊥) → ((q : ℕ) → 1 ≤ q → q ≤ length script.plays → Before script q w → Has (seen d ps) q) → 1 ≤ w → w ≤ length script.plays → InTurn script d (ps ++ w ∷ [])
unfolding seen
in_turn_more script d [] w k out before low high = (out, before, low, high, tt)
in_turn_more script d (p ∷ ps) w k out before low high = (k.0, k.1, k.2, k.3, in_turn_more script (p ∷ d) ps w k.4 out before low high)

done? : (g : Stage) → (g ≡ done) ⊎ (g ≡ done → ⊥)
done? idle = inr (λ e. cc)
done? (open_by w t c) = inr (λ e. cc)
done? done = inl refl

module _ (script : Script) where
  -- what every legal history keeps of its entries
  pub record Marked (gs : List Stage) (u : Turn) (es : List Entry) : Type 0 where
    pub size : length gs ≡ length script.plays
    pub marks : (q : ℕ) → 1 ≤ q → q ≤ length script.plays → stage_at gs q ≡ done → Has (seen [] (numbers_of es)) q
    pub back : (q : ℕ) → Has (seen [] (numbers_of es)) q → stage_at gs q ≡ done
    pub opens : (p w t : ℕ) (c : Contents) → stage_at gs p ≡ open_by w t c → (q : ℕ) → Before script q p → (stage_at gs q ≡ done → ⊥) → ⊥
    pub turns : (p : ℕ) → turn_play u ≡ Some p → (stage_at gs p ≡ idle) × ((q : ℕ) → Before script q p → (stage_at gs q ≡ done → ⊥) → ⊥)
    pub in-turn : InTurn script [] (numbers_of es)

  done_on : (gs : List Stage) (p q : ℕ) → (1 ≤ p) × (p ≤ length gs) → stage_at gs q ≡ done → stage_at (with_stage gs p done) q ≡ done
  done_on gs p q h e = dite (ℕ_discrete q p) (λ i. ap (λ z. stage_at (with_stage gs p done) z) i ∙ with_same gs p done h.0 h.1) (λ ne. with_other gs p q done ne ∙ e)

  marked_noted : (gs : List Stage) (u u' : Turn) (es : List Entry) (p n : ℕ) (a : Answer) → Marked gs u es → (stage_at gs p ≡ done → ⊥) → ((q : ℕ) → Before script q p → (stage_at gs q ≡ done → ⊥) → ⊥)
      → ((q : ℕ) → turn_play u' ≡ Some q → (turn_play u ≡ Some q) × (q ≡ p → ⊥)) → Marked (with_stage gs p done) u' (es ++ entry n p a ∷ [])
  marked_noted gs u u' es p n a k still none turns =
      let here = within gs p (stage_at gs p) refl still in
      let plays : numbers_of (es ++ entry n p a ∷ []) ≡ numbers_of es ++ p ∷ [] = rw map-append refl in
      let more : seen [] (numbers_of (es ++ entry n p a ∷ [])) ≡ p ∷ seen [] (numbers_of es) = ap (λ z. seen [] z) plays ∙ seen_more [] (numbers_of es) p in
      record {
        size = length-with gs p done ∙ k.size;
        marks = λ q low high e. subst (λ (z : List ℕ). Has z q) (sym more) (dite (ℕ_discrete q p) (λ i. inl i) (λ ne. inr (k.marks q low high (sym (with_other gs p q done ne) ∙ e))));
        back = λ q h. ⊎_elim (λ i. ap (λ z. stage_at (with_stage gs p done) z) i ∙ with_same gs p done here.0 here.1) (λ w. done_on gs p q here (k.back q w)) (subst (λ (z : List ℕ). Has z q) more h);
        opens = λ q w t c e r b s. k.opens q w t c (was_open gs p q w t c e) r b (λ d. s (done_on gs p r here d));
        turns = λ q e. let o = turns q e in let x = k.turns q o.0 in (with_other gs p q done o.1 ∙ x.0, λ r b s. x.1 r b (λ d. s (done_on gs p r here d)));
        in-turn = subst (λ (z : List ℕ). InTurn script [] z) (sym plays)
            (in_turn_more script [] (numbers_of es) p k.in-turn (λ h. still (k.back p h)) (λ q low high b. ⊎_elim (λ d. k.marks q low high d) (λ s. absurd (none q b s)) (done? (stage_at gs q))) here.0 (subst (λ (z : ℕ). p ≤ z) k.size here.1));
      }

module _ {W : Type 0} (m : Meaning W) (frames : Frames m) (script : Script) where
  none_before : (s : State W) (p : ℕ) → IsNext m script s p → (q : ℕ) → Before script q p → (stage_at s.stages q ≡ done → ⊥) → ⊥
  none_before s p next q b still = next.none-waits q record { before = b; still = still }

  some_free : (u : Turn) (q : ℕ) → u ≡ free → turn_play u ≡ Some q → ⊥
  some_free u q e f = none_some q (sym (ap turn_play e) ∙ f)

  pub marked_step : (s : State W) (w p : ℕ) (h : Happening W) → Sane m frames script s → Marked script s.stages s.turn s.entries → Follows m script s w p h
      → Marked script (after m script s w p h).stages (after m script s w p h).turn (after m script s w p h).entries
  marked_step s w p (answered a) sane k f =
      marked_noted script s.stages s.turn s.turn s.entries p (m.number s.version) a k (λ d. idle_done (sym f.0.idle-is ∙ d)) (none_before s p f.0) (λ q e. absurd (some_free s.turn q f.1 e))
  marked_step s w p (begun t v c) sane k f =
      let is = f.0.next.idle-is in
      let here = within s.stages p idle is idle_done in
      let other = λ (q : ℕ) (d : stage_at s.stages q ≡ done). with_other s.stages p q (open_by w t c) (λ i. idle_done (sym is ∙ (ap (λ z. stage_at s.stages z) (sym i) ∙ d))) ∙ d in
      record {
        size = length-with s.stages p (open_by w t c) ∙ k.size;
        marks = λ q low high e. dite (ℕ_discrete q p)
            (λ i. absurd (open_done w t c (sym (with_same s.stages p (open_by w t c) here.0 here.1) ∙ (ap (λ z. stage_at (with_stage s.stages p (open_by w t c)) z) (sym i) ∙ e))))
            (λ ne. k.marks q low high (sym (with_other s.stages p q (open_by w t c) ne) ∙ e));
        back = λ q x. other q (k.back q x);
        opens = λ q w' t' c' e r b still. ⊎_elim
            (λ n. none_before s p f.0.next r (subst (λ (z : ℕ). Before script r z) n.0 b) (λ d. still (other r d)))
            (λ o. k.opens q w' t' c' o.1 r b (λ d. still (other r d)))
            (opened_after s.stages p q w' t' c' (open_by w t c) here e);
        turns = λ q e. absurd (some_free s.turn q f.0.turn-free e);
        in-turn = k.in-turn;
      }
  marked_step s w p (finished r) sane k f =
      subst (λ (g : Stage). Marked script (finish_of m script g s p r).stages (finish_of m script g s p r).turn (finish_of m script g s p r).entries) (sym f.2)
      (marked_noted script s.stages s.turn s.turn s.entries p (m.number s.version) (answer_of r) k (λ d. open_done w f.0 f.1 (sym f.2 ∙ d)) (k.opens p w f.0 f.1 f.2)
      (λ q e. (e, λ i. open_idle w f.0 f.1 (sym f.2 ∙ (ap (λ z. stage_at s.stages z) (sym i) ∙ (k.turns q e).0)))))
  marked_step s w p (wanted v) sane k f = record {
    size = k.size;
    marks = k.marks;
    back = k.back;
    opens = k.opens;
    turns = λ q e. let i : p ≡ q = some_same p q e in (ap (λ z. stage_at s.stages z) (sym i) ∙ f.0.idle-is, λ r b still. none_before s p f.0 r (subst (λ (z : ℕ). Before script r z) (sym i) b) still);
    in-turn = k.in-turn;
  }
  marked_step s w p (quieted c) sane k f = record { size = k.size; marks = k.marks; back = k.back; opens = k.opens; turns = λ q e. k.turns q (ap turn_play f.0 ∙ e); in-turn = k.in-turn }
  marked_step s w p (changed v d) sane k f =
      let x = k.turns p (ap turn_play f.1) in
      marked_noted script s.stages s.turn free s.entries p (m.number s.version) (answer.Loaded (m.number v)) k (λ e. idle_done (sym x.0 ∙ e)) x.1 (λ q e. absurd (some_free free q refl e))
  marked_step s w p (resumed y) sane k f =
      let x = k.turns p (ap turn_play f.1) in
      marked_noted script s.stages s.turn free s.entries p (m.number s.version) (answer.Refused y) k (λ e. idle_done (sym x.0 ∙ e)) x.1 (λ q e. absurd (some_free free q refl e))
  marked_step s w p (denied a) sane k f =
      let x = k.turns p (ap turn_play f.0) in
      marked_noted script s.stages s.turn free s.entries p (m.number s.version) a k (λ e. idle_done (sym x.0 ∙ e)) x.1 (λ q e. absurd (some_free free q refl e))
  marked_step s w p (reset a) sane k f =
      marked_noted script s.stages s.turn s.turn s.entries p (m.number s.version) a k (λ d. idle_done (sym f.0.idle-is ∙ d)) (none_before s p f.0)
      (λ q e. (e, λ i. reset_not_change (at_play m script p) f.1 (ap (λ z. is_change (at_play m script z)) (sym i) ∙ sane.changes q e)))

  pub marked_fold : (s : State W) (es : List (Step W)) → Sane m frames script s → LegalFrom m script s es → Marked script s.stages s.turn s.entries
      → Marked script (fold (then_step m script) s es).stages (fold (then_step m script) s es).turn (fold (then_step m script) s es).entries
  marked_fold s [] sane l k = k
  marked_fold s (e ∷ es) sane l k = marked_fold (then_step m script s e) es (sane_step m frames script s e.who e.play e.what sane l.0) l.1 (marked_step s e.who e.play e.what sane k l.0)

idle_at : (n q : ℕ) → 1 ≤ q → q ≤ n → stage_at (replicate n idle) q ≡ idle
idle_at n zero l h = absurd (omega arith)
idle_at zero (suc q) l h = absurd (omega arith)
idle_at (suc n) (suc zero) l h = refl
idle_at (suc n) (suc (suc q)) l h = idle_at n (suc q) (omega arith) (omega arith)

none_seen : (q : ℕ) → Has (seen [] []) q → ⊥
unfolding seen
none_seen q h = h

module _ {W : Type 0} (m : Meaning W) (frames : Frames m) where
  pub marked_opening : (v : Past W) → Marked v.script (opening v).stages (opening v).turn (opening v).entries
  marked_opening v = record {
    size = length-replicate (length v.script.plays) idle;
    marks = λ q low high e. absurd (idle_done (sym (idle_at (length v.script.plays) q low high) ∙ e));
    back = λ q h. absurd (none_seen q h);
    opens = λ p w t c e. absurd (none_open _ p w t c e);
    turns = λ p e. absurd (none_some p e);
    in-turn = tt;
  }

  pub marked_history : (v : Past W) → m.right v.first → Legal m v → Marked v.script (state_of m v).stages (state_of m v).turn (state_of m v).entries
  marked_history v right legal = marked_fold m frames v.script (opening v) v.history (sane_opening m frames v.script v right) legal (marked_opening v)
