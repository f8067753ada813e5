use Rattle.std.proofs.Common.{ℕ, ◌+◌, Option, sym, subst}
use Rattle.plc_text.specs.declared.code.Code.{Code}
use Rattle.st_unit_rules.specs.ConfigurationRules.{task_faults}
use Rattle.check_configurations.proofs.config_rules.ConfigLaws.{NumberedTo, numbered_next}
use Rattle.check_configurations.proofs.config_rules.tasks.tasks_fault.Goals as goal

pub loop-i-preserved : goal.loop-i-preserved
loop-i-preserved c =
    subst (λ (f : Option (Code × ℕ)). NumberedTo (task_faults c.args.instances.now) c.args.tasks.now f (c.loop-i.i + 1)) (sym c.earlier-found.ensures)
    (numbered_next (task_faults c.args.instances.now) c.args.tasks.now c.loop-i.found c.in_ok-task_fault.field-0 c.loop-i.i c.index-tasks-i.result c.loop-i-test.true c.index-tasks-i.is c.in_ok-task_fault.ensures c.loop-i.invariant)
