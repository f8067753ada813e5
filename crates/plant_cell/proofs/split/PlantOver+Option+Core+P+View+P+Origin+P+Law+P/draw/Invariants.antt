use Rattle.std.proofs.Common.{◌-◌, ◌≡◌}
use Rattle.plant_cell.specs.Rule.{Looked}
use Rattle.plant_cell.proofs.split.PlantOver+Option+Core+P+View+P+Origin+P+Law+P.draw.Given as goal

abbrev pub invariant-loop-known : goal.invariant-loop-known
invariant-loop-known g l =
    (l.seat.table_id ≡ l.fn.seat.table_id) × (l.seat.id ≡ l.fn.seat.id) × (l.passes ≡ l.self.passes) × Looked l.fn.seat.me l.known l.seat.me

abbrev pub decreases-loop-known : goal.decreases-loop-known
decreases-loop-known g l = l.passes - l.known
