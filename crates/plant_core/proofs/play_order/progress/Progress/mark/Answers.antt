use Rattle.std.proofs.Common.{◌<◌, ◌≤◌, ℕ, length, sym, subst}
use Rattle.plant_core.proofs.play_order.Orders.{lane_there, mark_ordered}
use Rattle.plant_core.proofs.play_order.progress.Progress.mark.Goals as goal

pub index_mut-requires-2 : goal.index_mut-requires-2
index_mut-requires-2 c =
    let to = subst (λ z. c.args.play ≤ length z.script.plays) (sym c.self.view_is) c.requires.to in
    let l = c.self.inside.next.ok in
    subst (λ (n : ℕ). c.index.result.now < n) (sym l.0) (lane_there _ _ _ _ _ _ c.self.invariant c.args.play _ to c.index.ensures)

pub invariant_of-self : goal.invariant_of-self
invariant_of-self c =
    let to = subst (λ z. c.args.play ≤ length z.script.plays) (sym c.self.view_is) c.requires.to in
    mark_ordered _ _ _ _ _ _ c.self.invariant c.args.play _ _ c.next_left-next.result c.first_left-self-inside.result c.as_slice-done.result.now c.as_slice.result.now to c.index.ensures c.index-2.ensures c.as_slice-done.ensures.value c.as_slice.ensures.value
    c.next_left-next.ensures.left c.next_left-next.ensures.still c.first_left-self-inside.ensures.left c.first_left-self-inside.ensures.still
