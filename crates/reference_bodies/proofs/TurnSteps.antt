-- A loop that does from here what it did from the beginning, after one more turn.
use Rattle.std.proofs.Common.{◌≡◌, ℕ, ◌<◌, Bool, true, false, Option, Some, None, refl, Result, Ok, Err, sym, ap, ◌∙◌, option_map}
use Rattle.std.specs.Prelude.{is_some}
use Rattle.st_meaning.specs.State.{State, Outcome, Done, Run}
use Rattle.st_meaning.specs.Loop.{Flow, loop, loop_until}
use Rattle.st_meaning.specs.Laws.{Falls}
use Rattle.run_state.specs.declared.state.Stop.{Stop}
use Rattle.run_state.specs.declared.state.Stop.TheVariants as stop
use Rattle.run_state.specs.State.{Shows}
use Rattle.reference_bodies.specs.declared.flow.Flow.{Flow as CodeFlow}
use Rattle.reference_bodies.specs.Flow.{flow_of}
use Rattle.reference_bodies.specs.Private.Turns.{ended, one_turn, one_turn_until}
use Rattle.reference_bodies.proofs.LoopLaws.{turn_again, turn_fewer, turn_ends, turn_faults, until_again, until_fewer, until_ends, until_faults}

found_none : (x : Option Flow) → is_some x ≡ false → x ≡ None
found_none None e = refl
found_none (Some flow) e = absurd cc

found_some : (x : Option Flow) → is_some x ≡ true → x ≡ Some (ended x)
found_some None e = absurd cc
found_some (Some flow) e = refl

-- WHILE and FOR
module _ (test : Run Bool) (body : Run Flow) (ft : Falls test) (fb : Falls body) (line : ℕ) (s : State) where
  abbrev turned : Outcome (Option Flow)
  turned = one_turn test body line s

  nothing : (x : Option Flow) (t : State) → turned ≡ Done x t → is_some x ≡ false → turned ≡ Done None t
  nothing x t e none = e ∙ ap (λ y. Done y t) (found_none x none)

  pub goes_round : (w : Outcome Flow) (x : Option Flow) (t : State) → loop test body line s ≡ w → turned ≡ Done x t → is_some x ≡ false → loop test body line t ≡ w
  goes_round w x t inv e none = turn_again test body ft fb line s t (nothing x t e none) ∙ inv

  pub fewer_round : (x : Option Flow) (t : State) → turned ≡ Done x t → is_some x ≡ false → t.ticks < s.ticks
  fewer_round x t e none = turn_fewer test body ft fb line s t (nothing x t e none)

  pub ends_round : (w : Outcome Flow) (x : Option Flow) (t : State) → loop test body line s ≡ w → turned ≡ Done x t → is_some x ≡ true → w ≡ Done (ended x) t
  ends_round w x t inv e some = sym inv ∙ turn_ends test body ft fb line s t (ended x) (e ∙ ap (λ y. Done y t) (found_some x some))

  pub stops_round : (w : Outcome Flow) (x : Stop) (t : State) → loop test body line s ≡ w → Shows {C = Option CodeFlow} (option_map flow_of) (Err x) turned t → Shows {C = CodeFlow} flow_of (Err x) w t
  stops_round w (stop.Fault f) t inv e = sym inv ∙ turn_faults test body ft fb line s f.kind f.line e
  stops_round w stop.NoMemory t inv e = tt

-- REPEAT
module _ (body : Run Flow) (test : Run Bool) (fb : Falls body) (ft : Falls test) (line : ℕ) (s : State) where
  abbrev asked : Outcome (Option Flow)
  asked = one_turn_until body test line s

  unasked : (x : Option Flow) (t : State) → asked ≡ Done x t → is_some x ≡ false → asked ≡ Done None t
  unasked x t e none = e ∙ ap (λ y. Done y t) (found_none x none)

  pub goes_until : (w : Outcome Flow) (x : Option Flow) (t : State) → loop_until body test line s ≡ w → asked ≡ Done x t → is_some x ≡ false → loop_until body test line t ≡ w
  goes_until w x t inv e none = until_again body test fb ft line s t (unasked x t e none) ∙ inv

  pub fewer_until : (x : Option Flow) (t : State) → asked ≡ Done x t → is_some x ≡ false → t.ticks < s.ticks
  fewer_until x t e none = until_fewer body test fb ft line s t (unasked x t e none)

  pub ends_until : (w : Outcome Flow) (x : Option Flow) (t : State) → loop_until body test line s ≡ w → asked ≡ Done x t → is_some x ≡ true → w ≡ Done (ended x) t
  ends_until w x t inv e some = sym inv ∙ until_ends body test fb ft line s t (ended x) (e ∙ ap (λ y. Done y t) (found_some x some))

  pub stops_until : (w : Outcome Flow) (x : Stop) (t : State) → loop_until body test line s ≡ w → Shows {C = Option CodeFlow} (option_map flow_of) (Err x) asked t → Shows {C = CodeFlow} flow_of (Err x) w t
  stops_until w (stop.Fault f) t inv e = sym inv ∙ until_faults body test fb ft line s f.kind f.line e
  stops_until w stop.NoMemory t inv e = tt
