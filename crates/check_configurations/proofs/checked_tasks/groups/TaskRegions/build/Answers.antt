use Rattle.std.specs.Map.{keys_of}
use Rattle.check_configurations.proofs.checked_tasks.ListLaws.{groups_next, groups_ended}
use Rattle.check_configurations.proofs.checked_tasks.groups.TaskRegions.build.Goals as goal

pub add_region-requires : goal.add_region-requires
add_region-requires c = c.loop-region.invariant.long

pub loop-region-preserved : goal.loop-region-preserved
loop-region-preserved c =
    groups_next (keys_of c.loop-region.groups.tasks) c.loop-region.groups.numbers.items (keys_of c.add_region.new.self.tasks) c.add_region.new.self.numbers.items c.args.regions.now c.loop-region.number c.in_ok-number.number
    c.loop-region.region-index c.region-item.result c.loop-region-test.true c.region-item.is c.in_ok-add_region.ensures c.in_ok-number.ensures c.loop-region.invariant

pub returns : goal.returns
returns c = record {
  long = c.loop-region.invariant.long;
  is = groups_ended (keys_of c.loop-region.groups.tasks) c.loop-region.groups.numbers.items c.args.regions.now c.loop-region.number c.loop-region.region-index c.loop-region-test.false c.loop-region.invariant;
}
