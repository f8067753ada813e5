-- What a pass may rely on from one turn to the next.
use Rattle.std.proofs.Common.{◌≡◌, ℕ, ◌<◌, List, [], ◌∷◌, ◌++◌, length, Option, refl, sym, ap, ◌∙◌, subst, inl, inr, arith, false, ne_eqb, append-nil}
use Rattle.std.proofs.lemmas.List.Elements.{filter-append}
use Rattle.atomic_table.specs.Table.{Me}
use Rattle.plant_rules.specs.Meaning.{Meaning, Frames, Has}
use Rattle.plant_rules.specs.History.{Past, Step, Legal, state_of, stage_at}
use Rattle.plant_rules.specs.plant_history.Running.{HistoryLaws, NoFinish, NoEvent, longer}
use Rattle.plant_rules.proofs.plant_history.AllLaws.{history_laws}
use Rattle.plant_cell.specs.Known.{Known, NoneOf, Since, is_among, by_numbers, past_at, counted, out_of_turn, first_of, newcomer}
use Rattle.plant_cell.specs.Plant.{IsPass, AtRest, InTurn, Found, KeepsOpen, KeepsDone, KeepsTurn}
use Rattle.plant_cell.proofs.TurnSteps.{Began}

pub first_there : (ns : List ℕ) → 0 < length ns → (rest : List ℕ) × (ns ≡ first_of ns ∷ rest)
first_there [] h = absurd (omega (arith, h))
first_there (n ∷ ns) h = (ns, refl)

pub own_first : (ns : List ℕ) → 0 < length ns → Has ns (first_of ns)
own_first [] h = absurd (omega (arith, h))
own_first (n ∷ ns) h = inl refl

not_among : (ns : List ℕ) (n : ℕ) → (Has ns n → ⊥) → is_among ns n ≡ false
not_among [] n h = refl
not_among (x ∷ xs) n h = rw (ne_eqb n x (λ e. h (inl e))) (not_among xs n (λ t. h (inr t)))

module _ {W : Type 0} where
  none_by_numbers : (ns : List ℕ) (es : List (Step W)) → NoneOf ns es → by_numbers ns es ≡ []
  none_by_numbers ns [] k = refl
  none_by_numbers ns (e ∷ es) k = rw (not_among ns e.who k.0) (none_by_numbers ns es k.1)

  no_finish : (ns : List ℕ) (w p : ℕ) (es : List (Step W)) → Has ns w → NoneOf ns es → NoFinish w p es
  no_finish ns w p [] h k = tt
  no_finish ns w p (e ∷ es) h k = ((λ r i j q. k.0 (subst (λ (z : ℕ). Has ns z) (sym i) h)), no_finish ns w p es h k.1)

  no_event : (ns : List ℕ) (w p : ℕ) (es : List (Step W)) → Has ns w → NoneOf ns es → NoEvent w p es
  no_event ns w p [] h k = tt
  no_event ns w p (e ∷ es) h k = ((λ i j. k.0 (subst (λ (z : ℕ). Has ns z) (sym i) h)), no_event ns w p es h k.1)

  -- the core's history, as one that goes on behind what was seen
  goes_on : (st : Past W) (ns : List ℕ) (seen : List (Step W)) (core : Past W) (f : Found st ns seen core) → core ≡ longer (past_at st seen) f.since.more
  goes_on st ns seen core f = f.is ∙ ap (λ (l : List (Step W)). past_at st l) f.since.is

  pub found_mine : (st : Past W) (ns : List ℕ) (seen : List (Step W)) (core : Past W) → Found st ns seen core → by_numbers ns core.history ≡ by_numbers ns seen
  found_mine st ns seen core f =
      ap (λ (l : List (Step W)). by_numbers ns l) f.since.is
      ∙ (filter-append (λ (x : Step W). is_among ns x.who) seen f.since.more
      ∙ (ap (λ (l : List (Step W)). by_numbers ns seen ++ l) (none_by_numbers ns f.since.more f.since.others) ∙ append-nil _))

module _ {W : Type 0} (m : Meaning W) (frames : Frames m) where
  pub keeps_open : (st : Past W) (ns : List ℕ) (seen : List (Step W)) (core : Past W) → m.right st.first → Found st ns seen core → Legal m core → KeepsOpen m st ns seen core
  keeps_open st ns seen core right f legal w p t c own o =
      let laws : HistoryLaws m = history_laws m frames in
      let is = goes_on st ns seen core f in
      let k = laws.stays-open (past_at st seen) f.since.more w p t c right (subst (λ (z : Past W). Legal m z) is legal) o (no_finish ns w p f.since.more own f.since.others) in
      (ap (λ (z : Past W). stage_at (state_of m z).stages p) is ∙ k.0, ap (λ (z : Past W). (state_of m z).version) is ∙ k.1)

  pub keeps_turn : (st : Past W) (ns : List ℕ) (seen : List (Step W)) (core : Past W) → Found st ns seen core → Legal m core → KeepsTurn m st ns seen core
  keeps_turn st ns seen core f legal w p own turn =
      let laws : HistoryLaws m = history_laws m frames in
      let is = goes_on st ns seen core f in
      let k = laws.stays-wanted (past_at st seen) f.since.more w p (subst (λ (z : Past W). Legal m z) is legal) turn (no_event ns w p f.since.more own f.since.others) in
      (ap (λ (z : Past W). (state_of m z).turn) is ∙ k.0, ap (λ (z : Past W). (state_of m z).version) is ∙ k.1)

  pub keeps_done : (st : Past W) (ns : List ℕ) (seen : List (Step W)) (core : Past W) → Found st ns seen core → Legal m core → KeepsDone m st seen core
  keeps_done st ns seen core f legal p d =
      let laws : HistoryLaws m = history_laws m frames in
      let is = goes_on st ns seen core f in
      ap (λ (z : Past W). stage_at (state_of m z).stages p) is ∙ laws.stays-done (past_at st seen) f.since.more p (subst (λ (z : Past W). Legal m z) is legal) d

module _ {W : Type 0} (m : Meaning W) where
  pub own_number : (st : Past W) (limit : ℕ) (ns : List ℕ) (v : Known W) → IsPass m st limit ns v → Has v.numbers (first_of ns)
  own_number st limit ns v a =
      let f = first_there ns a.some-number in
      subst (λ (z : List ℕ). Has z (first_of ns)) (sym (a.numbers-are ∙ f.1)) (inl refl)

  -- the pass of a plant that was made
  pub rest_first : (st : Past W) (limit : ℕ) (ns : List ℕ) (me : Me (Option (Past W)) (Known W)) → m.right st.first → ns ≡ 0 ∷ [] → me ≡ (newcomer st limit, []) → AtRest m st limit ns me
  rest_first st limit ns me right e now =
      subst (λ (z : List ℕ). AtRest m st limit z me) (sym e)
      (subst (λ (z : Me (Option (Past W)) (Known W)). AtRest m st limit (0 ∷ []) z) (sym now)
      record {
        pass = record { start-is = refl; limit-is = refl; numbers-are = refl; some-number = omega arith; right = right };
        slots = refl;
        no-turn = refl;
      })

  pub turn_entered : (st : Past W) (limit : ℕ) (ns : List ℕ) (v w : Me (Option (Past W)) (Known W)) (core : Past W) → AtRest m st limit ns v → Began st v w core → InTurn m st limit ns w
  turn_entered st limit ns v w core a b =
      subst (λ (z : Me (Option (Past W)) (Known W)). InTurn m st limit ns z) (sym b.now)
      record {
        pass = record { start-is = a.pass.start-is; limit-is = a.pass.limit-is; numbers-are = a.pass.numbers-are; some-number = a.pass.some-number; right = a.pass.right };
        slots = refl;
        turn = refl;
      }

  pub turn_found : (st : Past W) (limit : ℕ) (ns : List ℕ) (v w : Me (Option (Past W)) (Known W)) (core : Past W) → AtRest m st limit ns v → Began st v w core → Found st ns v.0.seen core
  turn_found st limit ns v w core a b = record { is = b.is; since = subst (λ (z : List ℕ). Since z v.0.seen core.history) a.pass.numbers-are b.since }

  pub rest_behind : (st : Past W) (limit : ℕ) (ns : List ℕ) (v w : Me (Option (Past W)) (Known W)) (log : List (Step W)) → InTurn m st limit ns v → w ≡ (out_of_turn (counted v.0 log), []) → AtRest m st limit ns w
  rest_behind st limit ns v w log a now =
      subst (λ (z : Me (Option (Past W)) (Known W)). AtRest m st limit ns z) (sym now)
      record {
        pass = record { start-is = a.pass.start-is; limit-is = a.pass.limit-is; numbers-are = a.pass.numbers-are; some-number = a.pass.some-number; right = a.pass.right };
        slots = refl;
        no-turn = refl;
      }

  -- the version that a core without events began with
  pub right_first : (core : Past W) → core.history ≡ [] → m.right (state_of m core).version → m.right core.first
  right_first core bare right = subst (λ (z : Past W). m.right (state_of m z).version) (ap (λ (l : List (Step W)). past_at core l) bare) right
