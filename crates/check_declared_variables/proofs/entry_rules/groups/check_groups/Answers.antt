use Rattle.check_declared_variables.proofs.entry_rules.GroupLaws.{groups_begun, groups_next, groups_ended}
use Rattle.check_declared_variables.proofs.entry_rules.groups.check_groups.Goals as goal

pub loop-group-init : goal.loop-group-init
loop-group-init c = groups_begun c.args.s.now c.args.groups.now _ c.no_groups-so_far.ensures

pub loop-group-preserved : goal.loop-group-preserved
loop-group-preserved c = groups_next c.args.s.now c.args.groups.now _ _ _ _ _ c.loop-group-test.true c.group-item.is c.in_ok-one.ensures c.in_ok-so_far.ensures c.loop-group.invariant

pub returns : goal.returns
returns c = groups_ended c.args.s.now c.args.groups.now _ _ c.loop-group-test.false c.loop-group.invariant
