use Rattle.check_configurations.proofs.configuration_rules.InstanceLaws.{added}
use Rattle.check_configurations.proofs.configuration_rules.instances.add_instance.Goals as goal

pub returns : goal.returns
returns c =
    added c.args.tables.now.decls c.args.programs.now c.args.taken.now c.check_instance.new.taken c.args.found.now _ c.args.instance.now c.in_ok-checked.checked.least c.in_ok-checked.checked.region
    c.in_ok-checked.ensures.fault c.in_ok-checked.ensures.taken c.in_ok-checked.ensures.region c.earlier-first.ensures c.in_ok-push.ensures.ok
