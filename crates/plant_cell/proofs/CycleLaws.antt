-- A cycle that a pass begins and ends.
use Rattle.std.proofs.Common.{◌≡◌, ℕ, zero, suc, List, [], ◌∷◌, ◌++◌, slice_set, slice_index_or, refl, sym, ap, ◌∙◌, subst, append-nil, inl, inr, Bool, true, false}
use Rattle.std.proofs.lemmas.Bool.{false≢true}
use Rattle.cycle_journal.specs.declared.entry.Answer.{Answer}
use Rattle.cycle_journal.specs.declared.entry.CycleReply.{CycleReply}
use Rattle.plant_rules.specs.Meaning.{Contents, Meaning, Frames, Has}
use Rattle.plant_rules.specs.History.{Past, Script, Step, Happening, answered, begun, finished, Stage, idle, open_by, done, State, stage_at, with_stage, finish_of, Legal, state_of, with_event}
use Rattle.plant_rules.specs.plant_history.Running.{HistoryLaws, NoFinish, longer}
use Rattle.plant_rules.proofs.plant_history.AllLaws.{history_laws}
use Rattle.plant_rules.proofs.plant_history.Running.{idle_done, within, with_same}
use Rattle.plant_core.specs.Claim.{HasClaimed, HasRun}
use Rattle.plant_core.proofs.Stages.{state_more}
use Rattle.plant_cell.specs.Known.{past_at, AllBy}
use Rattle.plant_cell.specs.Plant.{Grown, Found, KeepsOpen, KeepsDone, KeepsTurn}
use Rattle.plant_cell.specs.Cycles.{KeepsEntries, KeepsOthersOpen, HasOpened, GrowsBy, IsWaiting, TriedAdds, EndAdds, TurnAdds}
use Rattle.plant_cell.specs.declared.cycles.Tried.{Tried}
use Rattle.plant_cell.specs.declared.cycles.Tried.TheVariants as tried

-- ---- what a call on the core adds

abbrev event : {W : Type 0} → ℕ → ℕ → Happening W → Step W
event w p h = record { who = w; play = p; what = h }

pub grows_same : {W : Type 0} (who : ℕ) (v v' : Past W) → v' ≡ v → GrowsBy who v v'
grows_same who v v' e = record { added = []; is = e ∙ ap (λ (l : List (Step _)). past_at v l) (sym (append-nil v.history)); own = tt }

pub grows_one : {W : Type 0} (who p : ℕ) (h : Happening W) (v v' : Past W) → v' ≡ with_event v who p h → GrowsBy who v v'
grows_one who p h v v' e = record { added = event who p h ∷ []; is = e; own = (refl, tt) }

done_in : (gs : List Stage) (p : ℕ) → slice_index_or (slice_set gs p done) p done ≡ done
done_in [] p = refl
done_in (x ∷ xs) zero = refl
done_in (x ∷ xs) (suc p) = done_in xs p

pub done_at : (gs : List Stage) (p : ℕ) → stage_at (with_stage gs p done) p ≡ done
done_at gs zero = refl
done_at gs (suc p) = done_in gs p

module _ {W : Type 0} (m : Meaning W) where
  pub opened : (v v' : Past W) (w p t play now : ℕ) (input : List ℕ) (of : W) (c : Contents) → v' ≡ with_event v w p (begun t of c) → HasClaimed m v.script (state_of m v) p t play now input of c
      → HasOpened m v' w p play t now input of c
  opened v v' w p t play now input of c e h =
      let here = within (state_of m v).stages p idle h.may.next.idle-is idle_done in
      subst (λ (z : Past W). HasOpened m z w p play t now input of c) (sym e)
      record {
        play-is = h.play-is;
        run = record {
          open-is = ap (λ (s : State W). stage_at s.stages p) (state_more m v w p (begun t of c)) ∙ with_same (state_of m v).stages p (open_by w t c) here.0 here.1;
          of-is = h.of-is ∙ sym (ap (λ (s : State W). s.version) (state_more m v w p (begun t of c)));
          below = h.below;
          now-is = h.now-is;
          input-is = h.input-is;
          timely = h.timely;
          reply-is = refl;
          left-is = refl;
          fits = h.fits;
          rest-out = h.rest-out;
          total = h.total;
        };
      }

  pub answered_done : (v v' : Past W) (w p : ℕ) (a : Answer) → v' ≡ with_event v w p (answered a) → stage_at (state_of m v').stages p ≡ done
  answered_done v v' w p a e = ap (λ (s : State W). stage_at s.stages p) (ap (λ (z : Past W). state_of m z) e ∙ state_more m v w p (answered a)) ∙ done_at (state_of m v).stages p

  pub finished_done : (v v' : Past W) (w p t now : ℕ) (input : List ℕ) (of : W) (taken : Contents) (reply : CycleReply) (left : Contents) → v' ≡ with_event v w p (finished reply)
      → HasRun m v.script (state_of m v) w p t now input of taken reply left → stage_at (state_of m v').stages p ≡ done
  finished_done v v' w p t now input of taken reply left e h =
      let s = state_of m v in
      ap (λ (s : State W). stage_at s.stages p) (ap (λ (z : Past W). state_of m z) e ∙ state_more m v w p (finished reply))
      ∙ subst (λ (g : Stage). stage_at (finish_of m v.script g s p reply).stages p ≡ done) (sym h.open-is) (done_at s.stages p)

  -- what cannot begin cannot begin in a history that is the same
  pub still_waiting : (v v' : Past W) (p : ℕ) → v' ≡ v → IsWaiting m v p → IsWaiting m v' p
  still_waiting v v' p e = subst (λ (z : Past W). IsWaiting m z p) (sym e)

  -- ---- claims

  -- a claim that is still open is one that the core takes back
  pub run_still : (st core : Past W) (ns : List ℕ) (seen : List (Step W)) (w w' p t now : ℕ) (input : List ℕ) (of : W) (taken : Contents) (reply : CycleReply) (left : Contents) → Has ns w → core ≡ past_at st core.history
      → KeepsOpen m st ns seen core → w' ≡ w → HasRun m st.script (state_of m (past_at st seen)) w p t now input of taken reply left → HasRun m core.script (state_of m core) w' p t now input of taken reply left
  run_still st core ns seen w w' p t now input of taken reply left own is keep same h =
      let k = keep w p t taken own h.open-is in
      let script : core.script ≡ st.script = ap (λ (z : Past W). z.script) is in
      subst (λ (z : ℕ). HasRun m core.script (state_of m core) z p t now input of taken reply left) (sym same)
      (subst (λ (z : Script). HasRun m z (state_of m core) w p t now input of taken reply left) (sym script)
      record {
        open-is = k.0;
        of-is = h.of-is ∙ sym k.1;
        below = h.below;
        now-is = h.now-is;
        input-is = h.input-is;
        timely = h.timely;
        reply-is = h.reply-is;
        left-is = h.left-is;
        fits = h.fits;
        rest-out = h.rest-out;
        total = h.total;
      })

  -- a claim that has run is one that the core takes back
  pub has_run : (v : Past W) (who who' p play t now : ℕ) (input : List ℕ) (of : W) (c : Contents) (p' t' now' : ℕ) (input' : List ℕ) (of' : W) (taken : Contents) (reply : CycleReply) (left : Contents) → who' ≡ who → HasOpened m v who p play t now input of c
      → p' ≡ play → t' ≡ t → now' ≡ now → input' ≡ input → of' ≡ of → taken ≡ c → reply ≡ m.reply_of of t now input c → left ≡ m.left_by of t now input c → HasRun m v.script (state_of m v) who' p' t' now' input' of' taken reply left
  has_run v who who' p play t now input of c p' t' now' input' of' taken reply left same h e1 e2 e3 e4 e5 e6 e7 e8 = rw (same, e1, e2, e3, e4, e5, e6, e7, e8, h.play-is) h.run

-- ---- turns

module _ {W : Type 0} where
  pub grown_by : (st core core' : Past W) (who first : ℕ) (found : List (Step W)) → core ≡ past_at st core.history → found ≡ core.history → who ≡ first → GrowsBy who core core' → Grown st first found core'
  grown_by st core core' who first found is now same g = record {
    added = g.added;
    is = g.is ∙ (ap (λ (z : Past W). past_at z (core.history ++ g.added)) is ∙ ap (λ (l : List (Step W)). past_at st (l ++ g.added)) (sym now));
    own = subst (λ (n : ℕ). AllBy n g.added) same g.own;
  }

  -- what the pass has seen behind the turn is the history of the core
  pub seen_after : (st core core' : Past W) (who : ℕ) (seen : List (Step W)) → core ≡ past_at st core.history → GrowsBy who core core' → seen ≡ core'.history → past_at st seen ≡ core'
  seen_after st core core' who seen is0 g out =
      let is : core' ≡ past_at st (core.history ++ g.added) = g.is ∙ ap (λ (z : Past W). past_at z (core.history ++ g.added)) is0 in
      ap (λ (l : List (Step W)). past_at st l) out ∙ (ap (λ (z : Past W). past_at st z.history) is ∙ sym is)

  -- what the turn found, and what it made of it
  turn_adds : (st core core' : Past W) (ns : List ℕ) (seen seen' : List (Step W)) (adds : Past W → Past W → Type 0) → Found st ns seen core → past_at st seen' ≡ core' → adds core core' → TurnAdds st ns seen seen' adds
  turn_adds st core core' ns seen seen' adds f at h = record {
    found = core.history;
    since = f.since;
    is = subst (λ (z : Past W). adds (past_at st core.history) z) (sym at) (subst (λ (z : Past W). adds z core') f.is h);
  }

  pub tried_adds : {C : Type 0} (st core core' : Past W) (ns : List ℕ) (seen seen' : List (Step W)) (r : Tried C) (who first play : ℕ) (begins : C → Happening W) → Found st ns seen core → past_at st seen' ≡ core' → who ≡ first → TriedAdds r who play begins core core'
      → TurnAdds st ns seen seen' (TriedAdds r first play begins)
  tried_adds st core core' ns seen seen' r who first play begins f at same h =
      turn_adds st core core' ns seen seen' (TriedAdds r first play begins) f at (subst (λ (n : ℕ). TriedAdds r n play begins core core') same h)

  pub end_adds : (st core core' : Past W) (ns : List ℕ) (seen seen' : List (Step W)) (who first play : ℕ) (reply : CycleReply) → Found st ns seen core → past_at st seen' ≡ core' → who ≡ first → core' ≡ with_event core who play (finished reply)
      → TurnAdds st ns seen seen' (EndAdds first play reply)
  end_adds st core core' ns seen seen' who first play reply f at same h =
      turn_adds st core core' ns seen seen' (EndAdds first play reply) f at (subst (λ (n : ℕ). EndAdds n play reply core core') same h)

  abbrev is_finished : Happening W → Bool
  is_finished (finished r) = true
  is_finished _ = false

  not_finished : (h : Happening W) (r : CycleReply) → h ≡ finished r → is_finished h ≡ false → ⊥
  not_finished h r e k = false≢true (sym k ∙ ap is_finished e)

module _ {W : Type 0} (m : Meaning W) where
  -- ---- a change that the pass wants

  turn_on : (st core core' : Past W) (ns : List ℕ) (seen seen' : List (Step W)) → past_at st seen' ≡ core' → (state_of m core').turn ≡ (state_of m core).turn → (state_of m core').version ≡ (state_of m core).version → KeepsTurn m st ns seen core
      → KeepsTurn m st ns seen (past_at st seen')
  turn_on st core core' ns seen seen' at t v keep w p own is =
      let k = keep w p own is in
      (ap (λ (z : Past W). (state_of m z).turn) at ∙ (t ∙ k.0), ap (λ (z : Past W). (state_of m z).version) at ∙ (v ∙ k.1))

  pub tried_turn : {C : Type 0} (st core core' : Past W) (ns : List ℕ) (seen seen' : List (Step W)) (r : Tried C) (who play : ℕ) (task : C → ℕ) (of : C → W) (taken : C → Contents) → past_at st seen' ≡ core' → TriedAdds r who play (λ c. begun (task c) (of c) (taken c)) core core'
      → KeepsTurn m st ns seen core → KeepsTurn m st ns seen (past_at st seen')
  tried_turn st core core' ns seen seen' (tried.Claim x) who play task of taken at h keep =
      let more = ap (λ (z : Past W). state_of m z) h ∙ state_more m core who play (begun (task x) (of x) (taken x)) in
      turn_on st core core' ns seen seen' at (ap (λ (s : State W). s.turn) more) (ap (λ (s : State W). s.version) more) keep
  tried_turn st core core' ns seen seen' tried.Done who play task of taken at (inl e) keep = subst (λ (z : Past W). KeepsTurn m st ns seen z) (sym (at ∙ e)) keep
  tried_turn st core core' ns seen seen' tried.Done who play task of taken at (inr h) keep =
      let more = ap (λ (z : Past W). state_of m z) h.1 ∙ state_more m core who play (answered h.0) in
      turn_on st core core' ns seen seen' at (ap (λ (s : State W). s.turn) more) (ap (λ (s : State W). s.version) more) keep
  tried_turn st core core' ns seen seen' tried.Again who play task of taken at h keep = subst (λ (z : Past W). KeepsTurn m st ns seen z) (sym (at ∙ h)) keep

  finish_turn : (script : Script) (g : Stage) (s : State W) (p : ℕ) (r : CycleReply) → ((finish_of m script g s p r).turn ≡ s.turn) × ((finish_of m script g s p r).version ≡ s.version)
  finish_turn script idle s p r = (refl, refl)
  finish_turn script (open_by w t c) s p r = (refl, refl)
  finish_turn script done s p r = (refl, refl)

  pub end_turn : (st core core' : Past W) (ns : List ℕ) (seen seen' : List (Step W)) (who play : ℕ) (reply : CycleReply) → past_at st seen' ≡ core' → core' ≡ with_event core who play (finished reply) → KeepsTurn m st ns seen core → KeepsTurn m st ns seen (past_at st seen')
  end_turn st core core' ns seen seen' who play reply at h keep =
      let more = ap (λ (z : Past W). state_of m z) h ∙ state_more m core who play (finished reply) in
      let same = finish_turn core.script (stage_at (state_of m core).stages play) (state_of m core) play reply in
      turn_on st core core' ns seen seen' at (ap (λ (s : State W). s.turn) more ∙ same.0) (ap (λ (s : State W). s.version) more ∙ same.1) keep

module _ {W : Type 0} (m : Meaning W) (frames : Frames m) where
  done_grown : (who p : ℕ) (core core' : Past W) → GrowsBy who core core' → Legal m core' → stage_at (state_of m core).stages p ≡ done → stage_at (state_of m core').stages p ≡ done
  done_grown who p core core' g legal d =
      let laws : HistoryLaws m = history_laws m frames in
      ap (λ (z : Past W). stage_at (state_of m z).stages p) g.is ∙ laws.stays-done core g.added p (subst (λ (z : Past W). Legal m z) g.is legal) d

  pub entries_kept : (st core core' : Past W) (who : ℕ) (seen seen' : List (Step W)) → core ≡ past_at st core.history → GrowsBy who core core' → seen' ≡ core'.history → KeepsDone m st seen core → Legal m core' → KeepsEntries m st seen seen'
  entries_kept st core core' who seen seen' is g out keep legal p d =
      ap (λ (z : Past W). stage_at (state_of m z).stages p) (seen_after st core core' who seen' is g out) ∙ done_grown who p core core' g legal (keep p d)

  -- what is open stays so where the events behind do not finish it
  open_on : (st core core' : Past W) (ns : List ℕ) (seen seen' es : List (Step W)) (w p t : ℕ) (c : Contents) → m.right st.first → core ≡ past_at st core.history → past_at st seen' ≡ core' → core' ≡ longer core es → Legal m core' → KeepsOpen m st ns seen core
      → NoFinish w p es → Has ns w → stage_at (state_of m (past_at st seen)).stages p ≡ open_by w t c
      → (stage_at (state_of m (past_at st seen')).stages p ≡ open_by w t c) × ((state_of m (past_at st seen')).version ≡ (state_of m (past_at st seen)).version)
  open_on st core core' ns seen seen' es w p t c right is at more legal keep none own o =
      let laws : HistoryLaws m = history_laws m frames in
      let k = keep w p t c own o in
      let first : core.first ≡ st.first = ap (λ (z : Past W). z.first) is in
      let q = at ∙ more in
      let s = laws.stays-open core es w p t c (subst m.right (sym first) right) (subst (λ (z : Past W). Legal m z) more legal) k.0 none in
      (ap (λ (z : Past W). stage_at (state_of m z).stages p) q ∙ s.0, ap (λ (z : Past W). (state_of m z).version) q ∙ (s.1 ∙ k.1))

  pub tried_open : {C : Type 0} (st core core' : Past W) (ns : List ℕ) (seen seen' : List (Step W)) (r : Tried C) (who play : ℕ) (task : C → ℕ) (of : C → W) (taken : C → Contents) → m.right st.first → core ≡ past_at st core.history → past_at st seen' ≡ core'
      → TriedAdds r who play (λ c. begun (task c) (of c) (taken c)) core core' → Legal m core' → KeepsOpen m st ns seen core → KeepsOpen m st ns seen (past_at st seen')
  tried_open st core core' ns seen seen' (tried.Claim x) who play task of taken right is at h legal keep =
      λ w p t c own o. open_on st core core' ns seen seen' (event who play (begun (task x) (of x) (taken x)) ∷ []) w p t c right is at h legal keep ((λ r i j k. not_finished _ r k refl), tt) own o
  tried_open st core core' ns seen seen' tried.Done who play task of taken right is at (inl e) legal keep = subst (λ (z : Past W). KeepsOpen m st ns seen z) (sym (at ∙ e)) keep
  tried_open st core core' ns seen seen' tried.Done who play task of taken right is at (inr h) legal keep =
      λ w p t c own o. open_on st core core' ns seen seen' (event who play (answered h.0) ∷ []) w p t c right is at h.1 legal keep ((λ r i j k. not_finished _ r k refl), tt) own o
  tried_open st core core' ns seen seen' tried.Again who play task of taken right is at h legal keep = subst (λ (z : Past W). KeepsOpen m st ns seen z) (sym (at ∙ h)) keep

  pub end_open : (st core core' : Past W) (ns : List ℕ) (seen seen' : List (Step W)) (who play : ℕ) (reply : CycleReply) → m.right st.first → core ≡ past_at st core.history → past_at st seen' ≡ core' → core' ≡ with_event core who play (finished reply)
      → Legal m core' → KeepsOpen m st ns seen core → KeepsOthersOpen m play st ns seen (past_at st seen')
  end_open st core core' ns seen seen' who play reply right is at h legal keep w p t c out own o =
      open_on st core core' ns seen seen' (event who play (finished reply) ∷ []) w p t c right is at h legal keep ((λ r i j k. out (sym j)), tt) own o
