use Rattle.check_configurations.proofs.configuration_rules.InstanceLaws.{instances_begun, instances_next, instances_ended}
use Rattle.check_configurations.proofs.configuration_rules.instances.check_each.Goals as goal

pub loop-instance-init : goal.loop-instance-init
loop-instance-init c = instances_begun c.args.tables.now.decls c.args.programs.now c.args.taken.now c.args.instances.now c.no_instances-found.result c.no_instances-found.ensures.least c.no_instances-found.ensures.regions

pub loop-instance-preserved : goal.loop-instance-preserved
loop-instance-preserved c =
    instances_next c.args.tables.now.decls c.args.programs.now c.args.taken.now c.args.instances.now c.loop-instance.instance-index c.loop-instance.taken c.add_instance.new.taken c.loop-instance.found c.add_instance.new.found
    c.instance-item.result c.loop-instance-test.true c.instance-item.is c.in_ok-add_instance.ensures c.loop-instance.invariant

pub returns : goal.returns
returns c =
    instances_ended c.args.tables.now.decls c.args.programs.now c.args.taken.now c.args.instances.now c.loop-instance.instance-index c.loop-instance.taken c.loop-instance.found c.loop-instance-test.false c.loop-instance.invariant
