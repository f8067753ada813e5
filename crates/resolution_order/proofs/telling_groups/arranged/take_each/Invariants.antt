use Rattle.std.proofs.Common.{map}
use Rattle.resolution_order.specs.telling_groups.Groups.{group_of}
use Rattle.resolution_order.specs.telling_groups.Private.Taken.{Taken}
use Rattle.resolution_order.proofs.telling_groups.arranged.take_each.Given as goal

abbrev pub invariant-loop-place : goal.invariant-loop-place
invariant-loop-place l = Taken (map group_of l.groups) (map group_of l.list.items) l.marks
