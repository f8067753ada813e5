use Rattle.std.proofs.Common.{take}
use Rattle.default_values.specs.structure_worths.Private.Groups.{WeighsGroups}
use Rattle.default_values.proofs.structure_worths.groups.weigh_groups.Given as goal

abbrev pub invariant-loop-group : goal.invariant-loop-group
invariant-loop-group g l = WeighsGroups l.initial.table l.table l.structures (g.S.ConstantValues.scope l.values) l.steps (take l.group-index l.groups) l.list.items
