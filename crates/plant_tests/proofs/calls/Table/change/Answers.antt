use Rattle.std.proofs.Common.{refl, sym}
use Rattle.plant_tests.proofs.CallLaws.{quiet_began, rewished, restored, no_draft, no_wish}
use Rattle.plant_tests.proofs.calls.Table.change.Goals as goal

pub invariant_of-self-in_default-take : goal.invariant_of-self-in_default-take
invariant_of-self-in_default-take g c = rw (c.take-2.ensures.after, c.take.ensures.after) (no_wish g.P.Controlled.meaning g.met.P.Controlled.frames _ _ _ _ _ (no_draft g.P.Controlled.meaning g.met.P.Controlled.frames _ _ _ _ _ c.self.invariant))

pub invariant_of-self-then-wish-draft : goal.invariant_of-self-then-wish-draft
invariant_of-self-then-wish-draft g c = rw c.take.ensures.after (rewished g.P.Controlled.meaning g.met.P.Controlled.frames _ _ _ _ _ _ _ refl c.in-Some-take.ensures.value c.self.invariant)

pub begin_change-requires-clause-wish : goal.begin_change-requires-clause-wish
begin_change-requires-clause-wish g c = c.self.invariant.wish-is c.in-Some-take.wish (sym c.in-Some-take.ensures.value)

pub begin_change-requires-clause-base : goal.begin_change-requires-clause-base
begin_change-requires-clause-base g c = (c.self.invariant.draft-is c.in-Some.draft (sym c.in-Some.ensures.value)).0.same

pub invariant_of-self-in-Ok : goal.invariant_of-self-in-Ok
invariant_of-self-in-Ok g c =
    rw (c.take-2.ensures.after, c.take.ensures.after)
    (quiet_began g.P.Controlled.meaning g.met.P.Controlled.frames g.P.Controlled.base_of g.P.Controlled.text_of g.P.Controlled.fresh _ _ c.in-Some-take.wish.play _ _ _ c.in-Ok.quiet _ _ _ _ c.in-Ok.ensures.ok.0 c.is_lawful.ensures.legal c.in-Ok.ensures.ok.2 c.in-Ok.ensures.ok.3 c.in-Ok.ensures.ok.4 refl refl (λ h. h) c.if-wish-draft.false (c.self.invariant.draft-is c.in-Some.draft (sym c.in-Some.ensures.value)) c.in-Ok.ensures.whole c.self.invariant)

pub invariant_of-self-in-Older : goal.invariant_of-self-in-Older
invariant_of-self-in-Older g c =
    let h = rw c.in-Older.is at c.in-Err.ensures.err in
    rw (c.take.ensures.after, h.1.3) (rewished g.P.Controlled.meaning g.met.P.Controlled.frames _ _ _ _ _ _ _ h.0 c.in-Some-take.ensures.value c.self.invariant)

pub invariant_of-self-in-Busy : goal.invariant_of-self-in-Busy
invariant_of-self-in-Busy g c =
    let h = rw c.in-Busy.is at c.in-Err.ensures.err in
    rw (h.1.3, h.1.4) (restored g.P.Controlled.meaning g.met.P.Controlled.frames _ _ _ _ _ _ _ _ h.0 c.in-Some-take.ensures.value c.in-Some.ensures.value c.self.invariant)
