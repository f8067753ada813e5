use Rattle.std.specs.Map.{keys_of}
use Rattle.check_configurations.proofs.checked_tasks.ListLaws.{GroupsTo}
use Rattle.check_configurations.proofs.checked_tasks.groups.TaskRegions.build.Given as goal

abbrev pub invariant-loop-region : goal.invariant-loop-region
invariant-loop-region l = GroupsTo (keys_of l.groups.tasks) l.groups.numbers.items l.regions l.number l.region-index
