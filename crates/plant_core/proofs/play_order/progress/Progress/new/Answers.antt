use Rattle.std.proofs.Common.{◌≡◌, ◌+◌, ◌∙◌, ap, length, replicate, false, rules, arith}
use Rattle.plant_core.proofs.play_order.Orders.{ordered_made}
use Rattle.plant_core.proofs.play_order.progress.Progress.new.Goals as goal

pub invariant_of-result : goal.invariant_of-result
invariant_of-result c =
    let none : c.in_ok-done.done.items ≡ replicate (c.len-count.result + 1) false = search rules in
    let few = c.if-count.false in
    ordered_made _ c.lane_numbers.new.names c.in_ok-done.done.items c.in_ok-lanes.lanes.items c.in_ok-numbers.numbers.items c.in_ok-tables.tables.0.items c.in_ok-tables.tables.1.items c.len-count.result c.len.result _ _ _
    (c.len-count.ensures ∙ ap length c.deref.ensures) (omega (arith, few)) none c.len.ensures.distinct (c.as_slice.ensures ∙ c.deref-2.ensures) c.in_ok-lanes.ensures (c.as_slice-2.ensures ∙ c.deref-3.ensures) c.in_ok-numbers.ensures
    c.len.ensures.len c.as_slice-3.ensures.value c.in_ok-tables.ensures
