use Rattle.plant_core.specs.Private.Tasks.{AreRenewed}
use Rattle.plant_core.proofs.tasks.renew.Given as goal

abbrev pub invariant-loop-n : goal.invariant-loop-n
invariant-loop-n g l = AreRenewed g.P.Controlled.meaning l.progress.names l.old l.new l.number l.initial.since.items l.since.items l.n
