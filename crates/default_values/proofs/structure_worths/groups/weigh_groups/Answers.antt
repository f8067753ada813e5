use Rattle.std.proofs.Common.{refl}
use Rattle.default_values.proofs.structure_worths.GroupLaws.{groups_next}
use Rattle.default_values.proofs.structure_worths.groups.weigh_groups.Goals as goal

pub loop-group-preserved : goal.loop-group-preserved
loop-group-preserved g c =
    groups_next _ _ _ _ _ _ c.args.groups.now c.loop-group.group-index c.group-item.result c.loop-group.list.items c.push.new.self.items _ c.in_ok-worth.worth c.loop-group-test.true c.group-item.is c.loop-group.invariant c.in_ok-worth.ensures
    c.in_ok-push.ensures.items refl c.in_ok-kind.ensures refl
