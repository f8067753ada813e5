use Rattle.std.proofs.Common.{◌<◌, ℕ}
use Rattle.plant_rules.specs.History.{state_of, IsOpen}
use Rattle.plant_core.proofs.hub.Core.open_task.Given as goal

abbrev pub invariant-loop-task : goal.invariant-loop-task
invariant-loop-task g l = (k : ℕ) → k < l.task → IsOpen g.P.Controlled.meaning l.self.script (state_of g.P.Controlled.meaning l.self) k → ⊥
