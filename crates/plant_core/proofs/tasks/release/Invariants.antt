use Rattle.plant_core.specs.Private.Tasks.{AreFree}
use Rattle.plant_core.proofs.tasks.release.Given as goal

abbrev pub invariant-loop-n : goal.invariant-loop-n
invariant-loop-n l = AreFree l.initial.held.items l.held.items l.n
