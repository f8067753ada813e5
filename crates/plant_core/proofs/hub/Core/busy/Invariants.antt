use Rattle.plant_rules.specs.History.{state_of}
use Rattle.plant_core.specs.Private.Causes.{BestOf}
use Rattle.plant_core.proofs.hub.Core.busy.Given as goal

abbrev pub invariant-loop-other : goal.invariant-loop-other
invariant-loop-other g l = BestOf g.P.Controlled.meaning l.self.script (state_of g.P.Controlled.meaning l.self) l.task l.other l.best
