use Rattle.plant_tests.proofs.CallLaws.{wished}
use Rattle.plant_tests.proofs.calls.Table.want.Goals as goal

pub invariant_of-self-in-Wish : goal.invariant_of-self-in-Wish
invariant_of-self-in-Wish g c =
    wished g.P.Controlled.meaning g.met.P.Controlled.frames _ _ _ _ _ _ _ _ _ c.in-Wish.ensures.3 c.is_lawful.ensures.legal c.in-Wish.ensures.2 c.in-Wish.ensures.1 c.self.invariant
