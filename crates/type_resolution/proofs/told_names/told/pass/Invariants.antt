use Rattle.std.proofs.Common.{map}
use Rattle.resolution_order.specs.telling_groups.Groups.{group_of}
use Rattle.type_resolution.specs.told_names.Private.State.{Passes}
use Rattle.type_resolution.proofs.told_names.told.pass.Given as goal

abbrev pub invariant-loop-group : goal.invariant-loop-group
invariant-loop-group l = Passes l.classes.decls (map group_of l.groups) l.fn.tables l.tables (map group_of l.left.items) l.group-index
