use Rattle.std.proofs.Common.{refl, sym}
use Rattle.plant_tests.proofs.CallLaws.{denied_now, denies_in, wish_kept}
use Rattle.plant_tests.proofs.calls.Table.refuse.Goals as goal

pub invariant_of-self-then-wish-play : goal.invariant_of-self-then-wish-play
invariant_of-self-then-wish-play g c = wish_kept g.P.Controlled.meaning g.met.P.Controlled.frames _ _ _ _ _ _ _ refl c.in-Some.ensures.value c.self.invariant

pub refuse-refused-requires-clause-wish : goal.refuse-refused-requires-clause-wish
refuse-refused-requires-clause-wish g c = c.self.invariant.wish-is c.in-Some.wish (sym c.in-Some.ensures.value)

pub refuse-refused-requires-clause-why : goal.refuse-refused-requires-clause-why
refuse-refused-requires-clause-why g c =
    denies_in g.P.Controlled.meaning _ _ _ _ _ _ c.self.view_is c.if-wish-play.false c.requires

pub invariant_of-self-in-Ok : goal.invariant_of-self-in-Ok
invariant_of-self-in-Ok g c =
    rw c.take.ensures.after (denied_now g.P.Controlled.meaning g.met.P.Controlled.frames _ _ _ _ _ _ _ _ c.in-Ok.ensures.ok.1 c.is_lawful.ensures.legal (c.self.invariant.wish-is c.in-Some.wish (sym c.in-Some.ensures.value)) c.self.invariant)
