use Rattle.std.proofs.Common.{map}
use Rattle.resolution_order.specs.telling_list.Jobs.{first_numbers}
use Rattle.resolution_order.specs.telling_groups.Groups.{group_of}
use Rattle.resolution_order.specs.telling_groups.Private.Listed.{numbers_of}
use Rattle.resolution_order.proofs.telling_groups.ListLaws.{groups_next, groups_ended}
use Rattle.resolution_order.proofs.telling_groups.groups.groups_of.Goals as goal

pub loop-one-preserved : goal.loop-one-preserved
loop-one-preserved c =
    groups_next c.args.declared.now first_numbers (map group_of c.loop-one.list.items) _ (numbers_of c.loop-one.next) _ c.loop-one.one-index c.one-item.result c.loop-one-test.true c.one-item.is
    c.in_ok-next.ensures c.in_ok-add_groups.ensures c.loop-one.invariant

pub returns : goal.returns
returns c = groups_ended c.args.declared.now first_numbers (map group_of c.loop-one.list.items) (numbers_of c.loop-one.next) c.loop-one.one-index c.loop-one-test.false c.loop-one.invariant
