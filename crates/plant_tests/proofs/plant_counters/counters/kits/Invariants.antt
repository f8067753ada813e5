use Rattle.std.proofs.Common.{◌≡◌, ◌≤◌, vec_capacity}
use Rattle.std.specs.Arc.{arc_value}
use Rattle.plant_rules.specs.Next.{AllKits, IsKit}
use Rattle.plant_tests.specs.plant_counters.Counting.{counters}
use Rattle.plant_tests.proofs.plant_counters.counters.kits.Given as goal

abbrev pub invariant-loop-task : goal.invariant-loop-task
invariant-loop-task l = record { all : AllKits l.kits.items l.task (λ t k. IsKit counters (λ _ _ _. Unit {0}) (arc_value l.shared) t (arc_value k.shared) k.work k.carrier); room : l.total ≤ vec_capacity l.kits }
