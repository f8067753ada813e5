-- A loop is a turn and then the loop, and a turn after which it goes on leaves fewer ticks.
use Rattle.std.proofs.Common.{◌≡◌, ◌≤◌, ◌<◌, ℕ, zero, suc, Bool, true, false, Option, Some, None, refl, sym, ap, ◌∙◌, subst, arith}
use Rattle.std.specs.Prelude.{if◌then◌else◌}
use Rattle.plc_text.specs.declared.fault.FaultKind.{FaultKind}
use Rattle.st_meaning.specs.State.{State, Outcome, Done, Fault, Run, ◌>>=◌, ◌>>◌, go_on, gives, spend, spend_from}
use Rattle.st_meaning.specs.Loop.{Flow, goes_on, exits, continues, returns, after_turn, turn, turn_until, loop, loop_until}
use Rattle.st_meaning.specs.Laws.{NoMore, Falls}
use Rattle.st_meaning.proofs.Ticks.{then_falls, gives_falls, loops_unroll}
use Rattle.reference_bodies.specs.Private.Turns.{end_of, one_turn, tested, one_turn_until}

-- ---- one step after another

pub one_by_one : {A B C : Type 0} (o : Outcome A) (f : A → State → Outcome B) (g : B → State → Outcome C) → go_on (go_on o f) g ≡ go_on o (λ a s. go_on (f a s) g)
one_by_one (Done a s) f g = refl
one_by_one (Fault k l) f g = refl

pub go_on_as : {A B : Type 0} (o : Outcome A) (f g : A → State → Outcome B) → ((a : A) (s : State) → f a s ≡ g a s) → go_on o f ≡ go_on o g
go_on_as (Done a s) f g h = h a s
go_on_as (Fault k l) f g h = refl

-- the loop again, or its end
abbrev pub again_or : Option Flow → Run Flow → Run Flow
again_or None again = again
again_or (Some flow) again = gives flow

after_is : (flow : Flow) (again : Run Flow) (line : ℕ) (s : State) → after_turn flow again line s ≡ again_or (end_of flow) again line s
after_is goes_on again line s = refl
after_is continues again line s = refl
after_is exits again line s = refl
after_is returns again line s = refl

-- fewer ticks are left where a loop goes on
abbrev Fewer : ℕ → Outcome (Option Flow) → Type 0
Fewer n (Done None t) = t.ticks < n
Fewer n (Done (Some flow) t) = Unit {0}
Fewer n (Fault k l) = Unit {0}

fewer_of : (n m : ℕ) (o : Outcome (Option Flow)) → m < n → NoMore m o → Fewer n o
fewer_of n m (Done None t) l h = omega arith
fewer_of n m (Done (Some flow) t) l h = tt
fewer_of n m (Fault k line) l h = tt

fewer_still : (n m : ℕ) (o : Outcome (Option Flow)) → m ≤ n → Fewer m o → Fewer n o
fewer_still n m (Done None t) l h = omega arith
fewer_still n m (Done (Some flow) t) l h = tt
fewer_still n m (Fault k line) l h = tt

-- a tick, and then what makes none
after_tick : (rest : Run (Option Flow)) → Falls rest → (line : ℕ) (s : State) → Fewer s.ticks ((spend >> rest) line s)
after_tick rest h line s = of s.ticks refl
  where
    of : (n : ℕ) → n ≡ s.ticks → Fewer s.ticks (go_on (spend_from n line s) (λ _. rest line))
    of zero e = tt
    of (suc n) e = let l : n < s.ticks = omega arith in fewer_of s.ticks n (rest line (record s { ticks = n })) l (h.by line (record s { ticks = n }))

-- ---- WHILE and FOR

module _ (test : Run Bool) (body : Run Flow) (ft : Falls test) (fb : Falls body) (line : ℕ) where
  abbrev behind : Bool → Run (Option Flow)
  behind b = if b then (do flow ← body; gives (end_of flow)) else gives (Some goes_on)

  turn_is : (again : Run Flow) (s : State) → turn test body again line s ≡ go_on (one_turn test body line s) (λ o. again_or o again line)
  turn_is again s =
      go_on_as (spend line s) _ _ (λ u t.
      go_on_as (test line t) (λ b v. (if b then (do flow ← body; after_turn flow again) else gives goes_on) line v) (λ b v. go_on (behind b line v) (λ o. again_or o again line)) of
      ∙ sym (one_by_one (test line t) (λ b. behind b line) (λ o. again_or o again line)))
      ∙ sym (one_by_one (spend line s) (λ u t. go_on (test line t) (λ b. behind b line)) (λ o. again_or o again line))
    where
      of : (b : Bool) (v : State) → (if b then (do flow ← body; after_turn flow again) else gives goes_on) line v ≡ go_on (behind b line v) (λ o. again_or o again line)
      of true v =
          go_on_as (body line v) (λ flow w. after_turn flow again line w) (λ flow w. go_on (Done (end_of flow) w) (λ o. again_or o again line)) (λ flow w. after_is flow again line w)
          ∙ sym (one_by_one (body line v) (λ flow w. Done (end_of flow) w) (λ o. again_or o again line))
      of false v = refl

  unrolled : (s : State) → loop test body line s ≡ go_on (one_turn test body line s) (λ o. again_or o (loop test body) line)
  unrolled s = loops_unroll.first test body ft fb line s ∙ turn_is (loop test body) s

  behind_falls : (b : Bool) → Falls (behind b)
  behind_falls true = then_falls body _ fb (λ flow. gives_falls (end_of flow))
  behind_falls false = gives_falls (Some goes_on)

  pub turn_again : (s t : State) → one_turn test body line s ≡ Done None t → loop test body line t ≡ loop test body line s
  turn_again s t e = sym (unrolled s ∙ ap (λ o. go_on o (λ x. again_or x (loop test body) line)) e)

  pub turn_fewer : (s t : State) → one_turn test body line s ≡ Done None t → t.ticks < s.ticks
  turn_fewer s t e = subst (Fewer s.ticks) e (after_tick (test >>= behind) (then_falls test behind ft behind_falls) line s)

  pub turn_ends : (s t : State) (flow : Flow) → one_turn test body line s ≡ Done (Some flow) t → loop test body line s ≡ Done flow t
  turn_ends s t flow e = unrolled s ∙ ap (λ o. go_on o (λ x. again_or x (loop test body) line)) e

  pub turn_faults : (s : State) (k : FaultKind) (l : ℕ) → one_turn test body line s ≡ Fault k l → loop test body line s ≡ Fault k l
  turn_faults s k l e = unrolled s ∙ ap (λ o. go_on o (λ x. again_or x (loop test body) line)) e

-- ---- REPEAT

module _ (body : Run Flow) (test : Run Bool) (fb : Falls body) (ft : Falls test) (line : ℕ) where
  abbrev asked : Run (Option Flow)
  asked = do
    holds ← test
    gives (if holds then Some goes_on else None)

  until_is : (again : Run Flow) (s : State) → turn_until body test again line s ≡ go_on (one_turn_until body test line s) (λ o. again_or o again line)
  until_is again s = go_on_as (body line s) _ _ of ∙ sym (one_by_one (body line s) (λ flow. tested test (end_of flow) line) (λ o. again_or o again line))
    where
      choose : (b : Bool) (v : State) → (if b then gives goes_on else again) line v ≡ again_or (if b then Some goes_on else None) again line v
      choose true v = refl
      choose false v = refl

      asks : (t : State) → (do spend; holds ← test; if holds then gives goes_on else again) line t ≡ go_on (tested test None line t) (λ o. again_or o again line)
      asks t =
          go_on_as (spend line t) _ _ (λ u v.
          go_on_as (test line v) (λ b w. (if b then gives goes_on else again) line w) (λ b w. go_on (Done (if b then Some goes_on else None) w) (λ o. again_or o again line)) choose
          ∙ sym (one_by_one (test line v) (λ b w. Done (if b then Some goes_on else None) w) (λ o. again_or o again line)))
          ∙ sym (one_by_one (spend line t) (λ u. asked line) (λ o. again_or o again line))

      of : (flow : Flow) (t : State) → after_turn flow (do spend; holds ← test; if holds then gives goes_on else again) line t ≡ go_on (tested test (end_of flow) line t) (λ o. again_or o again line)
      of goes_on t = asks t
      of continues t = asks t
      of exits t = refl
      of returns t = refl

  unrolled_until : (s : State) → loop_until body test line s ≡ go_on (one_turn_until body test line s) (λ o. again_or o (loop_until body test) line)
  unrolled_until s = loops_unroll.last body test fb ft line s ∙ until_is (loop_until body test) s

  pub until_again : (s t : State) → one_turn_until body test line s ≡ Done None t → loop_until body test line t ≡ loop_until body test line s
  until_again s t e = sym (unrolled_until s ∙ ap (λ o. go_on o (λ x. again_or x (loop_until body test) line)) e)

  fewer_asked : (o : Option Flow) (t : State) → Fewer t.ticks (tested test o line t)
  fewer_asked None t = after_tick asked (then_falls test _ ft (λ b. gives_falls (if b then Some goes_on else None))) line t
  fewer_asked (Some flow) t = tt

  pub until_fewer : (s t : State) → one_turn_until body test line s ≡ Done None t → t.ticks < s.ticks
  until_fewer s t e = subst (Fewer s.ticks) e (of (body line s) (fb.by line s))
    where
      of : (o : Outcome Flow) → NoMore s.ticks o → Fewer s.ticks (go_on o (λ flow. tested test (end_of flow) line))
      of (Done flow v) h = fewer_still s.ticks v.ticks (tested test (end_of flow) line v) h (fewer_asked (end_of flow) v)
      of (Fault k l) h = tt

  pub until_ends : (s t : State) (flow : Flow) → one_turn_until body test line s ≡ Done (Some flow) t → loop_until body test line s ≡ Done flow t
  until_ends s t flow e = unrolled_until s ∙ ap (λ o. go_on o (λ x. again_or x (loop_until body test) line)) e

  pub until_faults : (s : State) (k : FaultKind) (l : ℕ) → one_turn_until body test line s ≡ Fault k l → loop_until body test line s ≡ Fault k l
  until_faults s k l e = unrolled_until s ∙ ap (λ o. go_on o (λ x. again_or x (loop_until body test) line)) e
