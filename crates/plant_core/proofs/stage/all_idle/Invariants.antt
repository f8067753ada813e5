use Rattle.std.proofs.Common.{◌≡◌, ◌∷◌, replicate}
use Rattle.plant_core.specs.declared.stage.Status.TheVariants.{Idle, Done}
use Rattle.plant_core.proofs.stage.all_idle.Given as goal

abbrev pub invariant-loop : goal.invariant-loop
invariant-loop l = l.status.items ≡ Done ∷ replicate l.counter Idle
