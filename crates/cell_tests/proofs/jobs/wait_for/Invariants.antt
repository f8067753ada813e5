use Rattle.std.proofs.Common.{◌≡◌}
use Rattle.plant_cell.specs.Plant.{AtRest}
use Rattle.cell_tests.proofs.jobs.wait_for.Given as goal

abbrev pub invariant-loop : goal.invariant-loop
invariant-loop g l =
    (goal.iterator-loop g).can_next l.iterator' × (goal.iterator-loop g).is_finite l.iterator'
    × (l.pass.seat.table_id ≡ l.plant.table.shared.table_id) × AtRest g.P.Controlled.meaning l.plant.table.shared.key.0.value l.plant.passes l.pass.numbers.items l.pass.seat.me
