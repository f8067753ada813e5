-- What is done, open or wanted stays so while others go on, and what is open at once is apart.
use Rattle.std.proofs.Common.{◌≡◌, ℕ, zero, suc, List, [], ◌∷◌, ◌++◌, Option, Some, None, fold, refl, sym, ap, ◌∙◌, subst, ⊎_elim, ◌⊎◌, inl, inr}
use Rattle.std.proofs.lemmas.List.Sums.{fold-append}
use mathlib.Core.Logic.{dite}
use native.Mathlib.Decide.{ℕ_discrete}
use Rattle.cycle_journal.specs.declared.entry.CycleReply.{CycleReply}
use Rattle.plant_rules.specs.Meaning.{Contents, Meaning, Frames, Has}
use Rattle.plant_rules.specs.History.{Past, Script, Step, Happening, answered, begun, finished, wanted, quieted, changed, resumed, denied, reset, Stage, idle, open_by, done, Turn, free, wanted_by, under_way, State, stage_at, with_stage, is_change, at_play, finish_of, after, then_step, IsNext, IsOpen, Writing, Claimed, Follows, LegalFrom, opening, state_of, Legal}
use Rattle.plant_rules.specs.plant_history.Running.{longer, IsTurnOf, NoFinish, NoEvent}
use Rattle.plant_rules.proofs.plant_history.Running.{done_open, idle_open, open_idle, open_done, idle_done, within, with_other, opened_after, was_open, still_open, none_open, same_task, turn_play, cycle_not_change, Sane, sane_step, sane_opening}

set_done : (gs : List Stage) (p q : ℕ) → stage_at gs q ≡ done → stage_at (with_stage gs p done) q ≡ done
set_done gs zero q e = e
set_done gs (suc p) zero e = refl
set_done [] (suc p) (suc q) e = e
set_done (x ∷ xs) (suc zero) (suc zero) e = refl
set_done (x ∷ xs) (suc zero) (suc (suc q)) e = e
set_done (x ∷ xs) (suc (suc p)) (suc zero) e = e
set_done (x ∷ xs) (suc (suc p)) (suc (suc q)) e = set_done xs (suc p) (suc q) e

set_open : (gs : List Stage) (p q : ℕ) (g : Stage) → stage_at gs p ≡ idle → stage_at gs q ≡ done → stage_at (with_stage gs p g) q ≡ done
set_open gs p q g i e = with_other gs p q g (λ j. idle_done (sym i ∙ (ap (λ z. stage_at gs z) (sym j) ∙ e))) ∙ e

stays_open : (gs : List Stage) (p : ℕ) (g : Stage) (q w t : ℕ) (c : Contents) → stage_at gs p ≡ idle → stage_at gs q ≡ open_by w t c → stage_at (with_stage gs p g) q ≡ open_by w t c
stays_open gs p g q w t c i e = with_other gs p q g (λ j. idle_open w t c (sym i ∙ (ap (λ z. stage_at gs z) (sym j) ∙ e))) ∙ e

who_in : (w t w' t' : ℕ) (c c' : Contents) → open_by w t c ≡ open_by w' t' c' → w ≡ w'
who_in w t w' t' c c' e = cc

module _ {W : Type 0} (m : Meaning W) (script : Script) where
  -- ---- entries

  finish_done : (g : Stage) (s : State W) (p : ℕ) (r : CycleReply) (q : ℕ) → stage_at s.stages q ≡ done → stage_at (finish_of m script g s p r).stages q ≡ done
  finish_done idle s p r q e = e
  finish_done (open_by w t c) s p r q e = set_done s.stages p q e
  finish_done done s p r q e = e

  done_step : (s : State W) (w p : ℕ) (h : Happening W) → Follows m script s w p h → (q : ℕ) → stage_at s.stages q ≡ done → stage_at (after m script s w p h).stages q ≡ done
  done_step s w p (answered a) f q e = set_done s.stages p q e
  done_step s w p (begun t v c) f q e = set_open s.stages p q (open_by w t c) f.0.next.idle-is e
  done_step s w p (finished r) f q e = finish_done (stage_at s.stages p) s p r q e
  done_step s w p (wanted v) f q e = e
  done_step s w p (quieted c) f q e = e
  done_step s w p (changed v d) f q e = set_done s.stages p q e
  done_step s w p (resumed x) f q e = set_done s.stages p q e
  done_step s w p (denied a) f q e = set_done s.stages p q e
  done_step s w p (reset a) f q e = set_done s.stages p q e

  pub done_fold : (s : State W) (es : List (Step W)) → LegalFrom m script s es → (q : ℕ) → stage_at s.stages q ≡ done → stage_at (fold (then_step m script) s es).stages q ≡ done
  done_fold s [] l q e = e
  done_fold s (x ∷ xs) l q e = done_fold (then_step m script s x) xs l.1 q (done_step s x.who x.play x.what l.0 q e)

  pub legal_cut : (s : State W) (a b : List (Step W)) → LegalFrom m script s (a ++ b) → LegalFrom m script s a × LegalFrom m script (fold (then_step m script) s a) b
  legal_cut s [] b l = (tt, l)
  legal_cut s (x ∷ xs) b l = let r = legal_cut (then_step m script s x) xs b l.1 in ((l.0, r.0), r.1)

  -- ---- changes

  not_free : (u : Turn) (w p : ℕ) → IsTurnOf w p u → u ≡ free → ⊥
  not_free u w p is e = subst (λ (z : Turn). IsTurnOf w p z) e is

  whose_wanted : (u : Turn) (w p w' p' : ℕ) → IsTurnOf w p u → u ≡ wanted_by p' w' → (w' ≡ w → p' ≡ p → ⊥) → ⊥
  whose_wanted u w p w' p' is e out = let k : IsTurnOf w p (wanted_by p' w') = subst (λ (z : Turn). IsTurnOf w p z) e is in out k.1 k.0

  whose_away : (u : Turn) (w p w' p' : ℕ) (c : Contents) → IsTurnOf w p u → u ≡ under_way p' w' c → (w' ≡ w → p' ≡ p → ⊥) → ⊥
  whose_away u w p w' p' c is e out = let k : IsTurnOf w p (under_way p' w' c) = subst (λ (z : Turn). IsTurnOf w p z) e is in out k.1 k.0

  -- one state has the change and the version of another
  pub record SameTurn (s s' : State W) : Type 0 where
    pub turn-is : s'.turn ≡ s.turn
    pub version-is : s'.version ≡ s.version

  same_turn : (s : State W) → SameTurn s s
  same_turn s = record { turn-is = refl; version-is = refl }

  finish_turn : (g : Stage) (s : State W) (p : ℕ) (r : CycleReply) → SameTurn s (finish_of m script g s p r)
  finish_turn idle s p r = same_turn s
  finish_turn (open_by w t c) s p r = record { turn-is = refl; version-is = refl }
  finish_turn done s p r = same_turn s

  turn_step : (s : State W) (w' p' : ℕ) (h : Happening W) (w p : ℕ) → Follows m script s w' p' h → IsTurnOf w p s.turn → (w' ≡ w → p' ≡ p → ⊥) → SameTurn s (after m script s w' p' h)
  turn_step s w' p' (answered a) w p f is out = record { turn-is = refl; version-is = refl }
  turn_step s w' p' (begun t v c) w p f is out = record { turn-is = refl; version-is = refl }
  turn_step s w' p' (finished r) w p f is out = finish_turn (stage_at s.stages p') s p' r
  turn_step s w' p' (wanted v) w p f is out = absurd (not_free s.turn w p is f.1)
  turn_step s w' p' (quieted c) w p f is out = absurd (whose_wanted s.turn w p w' p' is f.0 out)
  turn_step s w' p' (changed q d) w p f is out = absurd (whose_away s.turn w p w' p' f.0 is f.1 out)
  turn_step s w' p' (resumed e) w p f is out = absurd (whose_away s.turn w p w' p' f.0 is f.1 out)
  turn_step s w' p' (denied a) w p f is out = absurd (whose_wanted s.turn w p w' p' is f.0 out)
  turn_step s w' p' (reset a) w p f is out = record { turn-is = refl; version-is = refl }

  pub turn_fold : (s : State W) (es : List (Step W)) (w p : ℕ) → LegalFrom m script s es → IsTurnOf w p s.turn → NoEvent w p es → SameTurn s (fold (then_step m script) s es)
  turn_fold s [] w p l is out = same_turn s
  turn_fold s (e ∷ es) w p l is out =
      let one = turn_step s e.who e.play e.what w p l.0 is out.0 in
      let rest = turn_fold (then_step m script s e) es w p l.1 (subst (λ (z : Turn). IsTurnOf w p z) (sym one.turn-is) is) out.1 in
      record { turn-is = rest.turn-is ∙ one.turn-is; version-is = rest.version-is ∙ one.version-is }

  pub turn_in : (u : Turn) (w p : ℕ) → IsTurnOf w p u → turn_play u ≡ Some p
  turn_in free w p is = absurd is
  turn_in (wanted_by q x) w p is = ap Some is.0
  turn_in (under_way q x c) w p is = ap Some is.0

module _ {W : Type 0} (m : Meaning W) (frames : Frames m) (script : Script) where
  -- ---- claims

  open_step : (s : State W) (w p : ℕ) (h : Happening W) → Sane m frames script s → Follows m script s w p h → (q w' t : ℕ) (c : Contents) → stage_at s.stages q ≡ open_by w' t c → ((r : CycleReply) → w ≡ w' → p ≡ q → h ≡ finished r → ⊥)
      → stage_at (after m script s w p h).stages q ≡ open_by w' t c
  open_step s w p (answered a) k f q w' t c e keep = stays_open s.stages p done q w' t c f.0.idle-is e
  open_step s w p (begun t' v d) k f q w' t c e keep = stays_open s.stages p (open_by w t' d) q w' t c f.0.next.idle-is e
  open_step s w p (finished r) k f q w' t c e keep =
      subst (λ (g : Stage). stage_at (finish_of m script g s p r).stages q ≡ open_by w' t c) (sym f.2)
      (dite (ℕ_discrete q p)
      (λ i. absurd (keep r (who_in w f.0 w' t f.1 c (sym f.2 ∙ (ap (λ z. stage_at s.stages z) (sym i) ∙ e))) (sym i) refl))
      (λ ne. with_other s.stages p q done ne ∙ e))
  open_step s w p (wanted v) k f q w' t c e keep = e
  open_step s w p (quieted d) k f q w' t c e keep = e
  open_step s w p (changed v d) k f q w' t c e keep = absurd (k.away p w f.0 f.1 q w' t c e)
  open_step s w p (resumed x) k f q w' t c e keep = absurd (k.away p w f.0 f.1 q w' t c e)
  open_step s w p (denied a) k f q w' t c e keep =
      with_other s.stages p q done (λ i. cycle_not_change (at_play m script q) (k.cycles q w' t c e).cycle (ap (λ z. is_change (at_play m script z)) i ∙ k.changes p (ap turn_play f.0))) ∙ e
  open_step s w p (reset a) k f q w' t c e keep = stays_open s.stages p done q w' t c f.0.idle-is e

  finish_version : (g : Stage) (s : State W) (p : ℕ) (r : CycleReply) → (finish_of m script g s p r).version ≡ s.version
  finish_version idle s p r = refl
  finish_version (open_by w t c) s p r = refl
  finish_version done s p r = refl

  version_step : (s : State W) (w p : ℕ) (h : Happening W) → Sane m frames script s → Follows m script s w p h → (q w' t : ℕ) (c : Contents) → stage_at s.stages q ≡ open_by w' t c → (after m script s w p h).version ≡ s.version
  version_step s w p (answered a) k f q w' t c e = refl
  version_step s w p (begun t' v d) k f q w' t c e = refl
  version_step s w p (finished r) k f q w' t c e = finish_version (stage_at s.stages p) s p r
  version_step s w p (wanted v) k f q w' t c e = refl
  version_step s w p (quieted d) k f q w' t c e = refl
  version_step s w p (changed v d) k f q w' t c e = absurd (k.away p w f.0 f.1 q w' t c e)
  version_step s w p (resumed x) k f q w' t c e = refl
  version_step s w p (denied a) k f q w' t c e = refl
  version_step s w p (reset a) k f q w' t c e = refl

  pub open_fold : (s : State W) (es : List (Step W)) → Sane m frames script s → LegalFrom m script s es → (w p t : ℕ) (c : Contents) → stage_at s.stages p ≡ open_by w t c → NoFinish w p es
      → (stage_at (fold (then_step m script) s es).stages p ≡ open_by w t c) × ((fold (then_step m script) s es).version ≡ s.version)
  open_fold s [] k l w p t c e keep = (e, refl)
  open_fold s (x ∷ xs) k l w p t c e keep =
      let rest = open_fold (then_step m script s x) xs (sane_step m frames script s x.who x.play x.what k l.0) l.1 w p t c (open_step s x.who x.play x.what k l.0 p w t c e keep.0) keep.1 in
      (rest.0, rest.1 ∙ version_step s x.who x.play x.what k l.0 p w t c e)

  pub sane_fold : (s : State W) (es : List (Step W)) → Sane m frames script s → LegalFrom m script s es → Sane m frames script (fold (then_step m script) s es)
  sane_fold s [] k l = k
  sane_fold s (x ∷ xs) k l = sane_fold (then_step m script s x) xs (sane_step m frames script s x.who x.play x.what k l.0) l.1

  -- ---- claims that are open at once

  -- what one writes no other one has
  pub record Apart (s : State W) : Type 0 where
    pub meets : (p w t : ℕ) (c : Contents) (q x u : ℕ) (d : Contents) → stage_at s.stages p ≡ open_by w t c → stage_at s.stages q ≡ open_by x u d → (q ≡ p → ⊥) → (r : ℕ) → Has (m.writes s.version t) r → Has (m.reads s.version u) r → ⊥

  fewer_apart : (s : State W) (p : ℕ) → Apart s → (p' w t : ℕ) (c : Contents) (q x u : ℕ) (d : Contents) → stage_at (with_stage s.stages p done) p' ≡ open_by w t c → stage_at (with_stage s.stages p done) q ≡ open_by x u d
      → (q ≡ p' → ⊥) → (r : ℕ) → Has (m.writes s.version t) r → Has (m.reads s.version u) r → ⊥
  fewer_apart s p k p' w t c q x u d e f = k.meets p' w t c q x u d (was_open s.stages p p' w t c e) (was_open s.stages p q x u d f)

  apart_step : (s : State W) (w p : ℕ) (h : Happening W) → Sane m frames script s → Apart s → Follows m script s w p h → Apart (after m script s w p h)
  apart_step s w p (answered a) sane k f = record { meets = fewer_apart s p k }
  apart_step s w p (begun t v c) sane k f =
      let may = f.0 in
      let here = within s.stages p idle may.next.idle-is idle_done in
      record {
        meets = λ p' w' t' c' q x u d e g ne r a b.
            ⊎_elim
            (λ n. ⊎_elim
            (λ n'. ne (n'.0 ∙ sym n.0))
            (λ o'. may.unclaimed.writes-free r (subst (λ (z : ℕ). Has (m.writes s.version z) r) (sym (same_task w t w' t' c c' n.1)) a) record { task = u; by = record { play = q; who = x; contents = d; is = o'.1 }; has = b })
            (opened_after s.stages p q x u d (open_by w t c) here g))
            (λ o. ⊎_elim
            (λ n'. may.unclaimed.reads-free r (subst (λ (z : ℕ). Has (m.reads s.version z) r) (sym (same_task w t x u c d n'.1)) b) record { task = t'; by = record { play = p'; who = w'; contents = c'; is = o.1 }; has = a })
            (λ o'. k.meets p' w' t' c' q x u d o.1 o'.1 ne r a b)
            (opened_after s.stages p q x u d (open_by w t c) here g))
            (opened_after s.stages p p' w' t' c' (open_by w t c) here e);
      }
  apart_step s w p (finished r) sane k f = subst (λ (g : Stage). Apart (finish_of m script g s p r)) (sym f.2) (record { meets = fewer_apart s p k })
  apart_step s w p (wanted v) sane k f = record { meets = k.meets }
  apart_step s w p (quieted c) sane k f = record { meets = k.meets }
  apart_step s w p (changed v d) sane k f = record { meets = λ p' w' t c q x u d' e g ne r a b. sane.away p w f.0 f.1 p' w' t c (was_open s.stages p p' w' t c e) }
  apart_step s w p (resumed x) sane k f = record { meets = fewer_apart s p k }
  apart_step s w p (denied a) sane k f = record { meets = fewer_apart s p k }
  apart_step s w p (reset a) sane k f = record { meets = fewer_apart s p k }

  pub apart_fold : (s : State W) (es : List (Step W)) → Sane m frames script s → LegalFrom m script s es → Apart s → Apart (fold (then_step m script) s es)
  apart_fold s [] sane l k = k
  apart_fold s (x ∷ xs) sane l k = apart_fold (then_step m script s x) xs (sane_step m frames script s x.who x.play x.what sane l.0) l.1 (apart_step s x.who x.play x.what sane k l.0)

  pub apart_opening : (v : Past W) → Apart (opening v)
  apart_opening v = record { meets = λ p w t c q x u d e f ne r a b. none_open _ p w t c e }

-- the state of a longer history, from that of its beginning
pub longer_state : {W : Type 0} (m : Meaning W) (v : Past W) (es : List (Step W)) → state_of m (longer v es) ≡ fold (then_step m v.script) (state_of m v) es
longer_state m v es = fold-append (then_step m v.script) (opening v) v.history es

pub legal_parts : {W : Type 0} (m : Meaning W) (v : Past W) (es : List (Step W)) → Legal m (longer v es) → Legal m v × LegalFrom m v.script (state_of m v) es
legal_parts m v es legal = legal_cut m v.script (opening v) v.history es legal
