use Rattle.std.proofs.Common.{◌∙◌}
use Rattle.check_configurations.specs.config_rules.Private.Names.{tasks_run}
use Rattle.check_configurations.proofs.config_rules.ConfigLaws.{runs}
use Rattle.check_configurations.proofs.config_rules.tasks.is_run.Goals as goal

pub returns : goal.returns
returns c = c.has.ensures (tasks_run c.args.instances.now) c.requires ∙ runs c.args.task.now.name.text c.args.instances.now
