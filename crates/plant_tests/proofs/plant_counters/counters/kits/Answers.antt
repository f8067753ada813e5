use Rattle.std.proofs.Common.{refl, arith}
use Rattle.plant_tests.specs.plant_counters.CountingLaws.{spare_by}
use Rattle.plant_tests.proofs.plant_counters.KitLists.{all_more}
use Rattle.plant_tests.proofs.plant_counters.counters.kits.Goals as goal

pub loop-task-preserved : goal.loop-task-preserved
loop-task-preserved c = record {
  all = rw c.push_reserved.ensures.items (all_more _ _ _ _ c.loop-task.invariant.all (record { same = c.in_ok-one.ensures.0; works = tt; spare = spare_by _ _ _ _ refl c.in_ok-one.ensures.1 }));
  room = rw c.push_reserved.ensures.capacity c.loop-task.invariant.room;
}
