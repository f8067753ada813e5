use Rattle.std.proofs.Common.{map, length}
use Rattle.resolution_order.specs.telling_groups.Groups.{group_of}
use Rattle.type_resolution.specs.told_names.Private.State.{IsLeft}
use Rattle.type_resolution.proofs.told_names.told.tell_groups.Given as goal

abbrev pub invariant-rounds : goal.invariant-rounds
invariant-rounds l = IsLeft l.classes.decls l.tables (map group_of l.groups.items)

abbrev pub decreases-rounds : goal.decreases-rounds
decreases-rounds l = length l.groups.items
