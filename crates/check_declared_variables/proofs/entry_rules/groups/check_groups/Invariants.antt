use Rattle.check_declared_variables.proofs.entry_rules.GroupLaws.{GroupsTo}
use Rattle.check_declared_variables.proofs.entry_rules.groups.check_groups.Given as goal

abbrev pub invariant-loop-group : goal.invariant-loop-group
invariant-loop-group l = GroupsTo l.so_far l.s l.groups l.group-index
