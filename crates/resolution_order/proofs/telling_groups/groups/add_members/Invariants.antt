use Rattle.std.proofs.Common.{map}
use Rattle.resolution_order.specs.telling_groups.Groups.{group_of}
use Rattle.resolution_order.proofs.telling_groups.ListLaws.{MembersTo}
use Rattle.resolution_order.proofs.telling_groups.groups.add_members.Given as goal

abbrev pub invariant-loop-name : goal.invariant-loop-name
invariant-loop-name l = MembersTo l.names l.class (map group_of l.fn.list.items) (map group_of l.list.items) l.index l.name-index
