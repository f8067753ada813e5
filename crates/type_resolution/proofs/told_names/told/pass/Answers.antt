use Rattle.std.proofs.Common.{map}
use Rattle.resolution_order.specs.telling_groups.Groups.{group_of}
use Rattle.type_resolution.proofs.told_names.RoundLaws.{passes_next, item-at, item-of}
use Rattle.type_resolution.proofs.told_names.told.pass.Goals as goal

pub visit_or_keep-requires-clause-group : goal.visit_or_keep-requires-clause-group
visit_or_keep-requires-clause-group c = item-of c.args.classes.now.decls c.args.groups.now c.loop-group.group-index c.group-item.result c.requires.groups c.loop-group-test.true c.group-item.is

pub loop-group-preserved : goal.loop-group-preserved
loop-group-preserved c =
    passes_next c.args.classes.now.decls (map group_of c.args.groups.now) c.args.tables.now c.loop-group.tables c.visit_or_keep.new.tables (map group_of c.loop-group.left.items) (map group_of c.visit_or_keep.new.left.items) c.loop-group.group-index
    (group_of c.group-item.result) (item-at c.args.groups.now c.loop-group.group-index c.group-item.result c.loop-group-test.true c.group-item.is) c.in_ok-visit_or_keep.ensures c.loop-group.invariant
