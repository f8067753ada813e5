use Rattle.std.proofs.Common.{map}
use Rattle.resolution_order.specs.telling_groups.Groups.{group_of}
use Rattle.resolution_order.proofs.telling_groups.ListLaws.{members_next, members_ended}
use Rattle.resolution_order.proofs.telling_groups.groups.add_members.Goals as goal

pub loop-name-preserved : goal.loop-name-preserved
loop-name-preserved c =
    members_next c.args.names.now c.args.class (map group_of c.args.list.now.items) (map group_of c.loop-name.list.items) _ c.loop-name.index c.in_ok-index.index c.loop-name.name-index c.name-item.result
    c.loop-name-test.true c.name-item.is c.in_ok-index.ensures c.in_ok-add_member.ensures c.loop-name.invariant

pub returns : goal.returns
returns c = members_ended c.args.names.now c.args.class (map group_of c.args.list.now.items) (map group_of c.loop-name.list.items) c.loop-name.index c.loop-name.name-index c.loop-name-test.false c.loop-name.invariant
