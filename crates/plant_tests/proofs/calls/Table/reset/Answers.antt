use Rattle.plant_tests.proofs.CallLaws.{after_reset}
use Rattle.plant_tests.proofs.calls.Table.reset.Goals as goal

pub invariant_of-self : goal.invariant_of-self
invariant_of-self g c =
    after_reset g.P.Controlled.meaning g.met.P.Controlled.frames _ _ _ _ _ _ _ _ c.reset-done.ensures c.is_lawful.ensures.legal c.self.invariant
