-- The laws of every legal history.
use Rattle.std.proofs.Common.{◌≡◌, ◌≤◌, ℕ, List, [], ◌∷◌, length, refl, sym, ap, ◌∙◌, subst, ⊎_elim, arith}
use Rattle.cycle_journal.specs.Interleaving.{numbers_of}
use Rattle.plant_rules.specs.Meaning.{Contents, Meaning, Frames, Has}
use Rattle.plant_rules.specs.One.{begins}
use Rattle.plant_rules.specs.History.{Past, Step, stage_at, open_by, done, State, opening, state_of, Legal}
use Rattle.plant_rules.specs.plant_history.Running.{HistoryLaws, longer, IsTurnOf, NoFinish, NoEvent, changes_done}
use Rattle.plant_rules.proofs.plant_history.Running.{turn_play, seen_has, has_seen, Sane, sane_opening, runs_from, marked_opening, marked_history}
use Rattle.plant_rules.proofs.plant_history.Order.{interleaved}
use Rattle.plant_rules.proofs.plant_history.Lasting.{sane_fold, done_fold, open_fold, turn_fold, turn_in, apart_fold, apart_opening, longer_state, legal_parts}
use Rattle.plant_rules.proofs.plant_history.Counting.{Counted, counted_fold, counted_few, counted_left, counted_opening}

module _ {W : Type 0} (m : Meaning W) (frames : Frames m) where
  sane_history : (v : Past W) → m.right v.first → Legal m v → Sane m frames v.script (state_of m v)
  sane_history v right legal = sane_fold m frames v.script (opening v) v.history (sane_opening m frames v.script v right) legal

  counted_history : (v : Past W) → m.right v.first → Legal m v → Counted m v.script (state_of m v) (m.number v.first) (changes_done v.history)
  counted_history v right legal = counted_fold m frames v.script (opening v) v.history (m.number v.first) 0 (changes_done v.history) (sane_opening m frames v.script v right) (marked_opening m frames v) legal (omega arith) (counted_opening m frames v.script v)

  still_done : (v : Past W) (es : List (Step W)) (p : ℕ) → Legal m (longer v es) → stage_at (state_of m v).stages p ≡ done → stage_at (state_of m (longer v es)).stages p ≡ done
  still_done v es p legal e = ap (λ (s : State W). stage_at s.stages p) (longer_state m v es) ∙ done_fold m v.script (state_of m v) es (legal_parts m v es legal).1 p e

  still_open : (v : Past W) (es : List (Step W)) (w p t : ℕ) (c : Contents) → m.right v.first → Legal m (longer v es) → stage_at (state_of m v).stages p ≡ open_by w t c → NoFinish w p es
      → (stage_at (state_of m (longer v es)).stages p ≡ open_by w t c) × ((state_of m (longer v es)).version ≡ (state_of m v).version)
  still_open v es w p t c right legal e keep =
      let parts = legal_parts m v es legal in
      let rest = open_fold m frames v.script (state_of m v) es (sane_history v right parts.0) parts.1 w p t c e keep in
      (ap (λ (s : State W). stage_at s.stages p) (longer_state m v es) ∙ rest.0, ap (λ (s : State W). s.version) (longer_state m v es) ∙ rest.1)

  still_wanted : (v : Past W) (es : List (Step W)) (w p : ℕ) → Legal m (longer v es) → IsTurnOf w p (state_of m v).turn → NoEvent w p es
      → ((state_of m (longer v es)).turn ≡ (state_of m v).turn) × ((state_of m (longer v es)).version ≡ (state_of m v).version)
  still_wanted v es w p legal is out =
      let rest = turn_fold m v.script (state_of m v) es w p (legal_parts m v es legal).1 is out in
      (ap (λ (s : State W). s.turn) (longer_state m v es) ∙ rest.turn-is, ap (λ (s : State W). s.version) (longer_state m v es) ∙ rest.version-is)

  has_entry : (v : Past W) → m.right v.first → Legal m v → (p : ℕ) → 1 ≤ p → p ≤ length v.script.plays → stage_at (state_of m v).stages p ≡ done → Has (numbers_of (state_of m v).entries) p
  has_entry v right legal p low high e = ⊎_elim (λ h. absurd h) (λ h. h) (seen_has [] (numbers_of (state_of m v).entries) p ((marked_history m frames v right legal).marks p low high e))

  pub history_laws : HistoryLaws m
  history_laws = record {
    runs = λ v right legal. runs_from m frames v.script (begins v.first v.contents) (opening v) v.history (sane_opening m frames v.script v right) legal refl;
    order = λ v right legal. (marked_history m frames v right legal).in-turn;
    marks = has_entry;
    entered = λ v right legal p h. (marked_history m frames v right legal).back p (has_seen [] (numbers_of (state_of m v).entries) p h);
    interleaves = λ v right legal follow all. interleaved v.script (numbers_of (state_of m v).entries) follow (marked_history m frames v right legal).in-turn (λ p low high. has_entry v right legal p low high (all p low high));
    earlier = λ v es legal. (legal_parts m v es legal).0;
    stays-done = still_done;
    stays-open = still_open;
    stays-wanted = still_wanted;
    apart = λ v right legal p w t c q x u d e f. (apart_fold m frames v.script (opening v) v.history (sane_opening m frames v.script v right) legal (apart_opening m frames v.script v)).meets p w t c q x u d e f;
    alone = λ v right legal p w c e q x u d f. (sane_history v right legal).away p w c e q x u d f;
    numbered = λ v right legal. (counted_history v right legal).is;
    few = λ v right legal. counted_few m v.script (state_of m v) (m.number v.first) (changes_done v.history) (counted_history v right legal);
    one-more = λ v w p right legal is.
        let turn = turn_in m v.script (state_of m v).turn w p is in
        counted_left m v.script (state_of m v) (m.number v.first) (changes_done v.history) p (counted_history v right legal) ((sane_history v right legal).changes p turn) ((marked_history m frames v right legal).turns p turn).0;
  }
