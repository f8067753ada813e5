use Rattle.check_names.proofs.name_rules.ConfigurationLaws.{instances_next, instances_ended}
use Rattle.check_names.proofs.name_rules.configurations.instances_fault.Goals as goal

pub loop-instance-preserved : goal.loop-instance-preserved
loop-instance-preserved c =
    instances_next c.args.before.now c.args.own c.args.instances.now c.loop-instance.own c.instance_fault.new.own c.loop-instance.found c.in_ok-found.found c.loop-instance.instance-index c.instance-item.result
    c.loop-instance-test.true c.instance-item.is (record { step = λ names mine rest h k. c.in_ok-found.ensures names mine rest h k }) c.loop-instance.invariant

pub returns : goal.returns
returns c = λ names mine h k.
    instances_ended c.args.before.now c.args.own c.args.instances.now c.loop-instance.own c.loop-instance.found c.loop-instance.instance-index c.loop-instance-test.false c.loop-instance.invariant names mine h k
