use Rattle.plant_core.proofs.hub.Core.begin.Goals as goal

pub busy-requires : goal.busy-requires
busy-requires g c =
    c.in-Task.ensures.below
