use Rattle.std.proofs.Common.{refl}
use Rattle.plant_tests.proofs.CallLaws.{calm, began, is_there, slot_low, no_answered}
use Rattle.plant_tests.proofs.calls.Table.begin.Goals as goal

pub invariant_of-self-in-Answered : goal.invariant_of-self-in-Answered
invariant_of-self-in-Answered g c =
    calm g.P.Controlled.meaning g.met.P.Controlled.frames _ _ _ _ _ _ _ _ c.in-Answered.ensures.2 c.is_lawful.ensures.legal refl refl (no_answered _) c.self.invariant

pub invariant_of-self-in-Claim : goal.invariant_of-self-in-Claim
invariant_of-self-in-Claim g c =
    began g.P.Controlled.meaning g.met.P.Controlled.frames _ _ _ _ _ _ _ _ c.in-Claim.ensures.0 c.is_lawful.ensures.legal (slot_low g.P.Controlled.meaning g.met.P.Controlled.frames _ _ _ _ _ _ (is_there _ _ _ c.self.view_is c.requires.there) c.self.invariant) c.in-Claim.ensures.1 c.in-Claim.ensures.2 c.self.invariant
