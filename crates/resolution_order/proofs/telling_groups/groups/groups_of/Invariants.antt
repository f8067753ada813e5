use Rattle.std.proofs.Common.{map}
use Rattle.resolution_order.specs.telling_list.Jobs.{first_numbers}
use Rattle.resolution_order.specs.telling_groups.Groups.{group_of}
use Rattle.resolution_order.specs.telling_groups.Private.Listed.{numbers_of}
use Rattle.resolution_order.proofs.telling_groups.ListLaws.{GroupsTo}
use Rattle.resolution_order.proofs.telling_groups.groups.groups_of.Given as goal

abbrev pub invariant-loop-one : goal.invariant-loop-one
invariant-loop-one l = GroupsTo l.declared first_numbers (map group_of l.list.items) (numbers_of l.next) l.one-index
