use Rattle.std.proofs.Common.{ℕ, List, sym, subst}
use Rattle.plant_core.specs.play_order.Private.Tables.{IsEarlier}
use Rattle.plant_core.proofs.play_order.Orders.{ordered_at, early_first, early_by_list, none_by_list}
use Rattle.plant_core.proofs.play_order.progress.Progress.early.Goals as goal

pub returns-then-is_earlier : goal.returns-then-is_earlier
returns-then-is_earlier c =
    early_first _ _ _ _ _ _ (ordered_at _ _ _ _ _ _ _ c.self.view_is c.self.invariant) c.args.play c.requires.to (subst (λ (z : List ℕ). IsEarlier z c.self.inside.first c.args.play) c.as_slice.ensures.value c.if-is_earlier.ensures)

pub returns-then-next-play : goal.returns-then-next-play
returns-then-next-play c =
    early_by_list _ _ _ _ _ _ (ordered_at _ _ _ _ _ _ _ c.self.view_is c.self.invariant) c.args.play _ _ c.requires.from c.requires.to
    (λ e. c.if-is_earlier.ensures (subst (λ (z : List ℕ). IsEarlier z c.self.inside.first c.args.play) (sym c.as_slice.ensures.value) e)) c.index.ensures c.index-next.ensures c.if-next-play.true

pub returns : goal.returns
returns c =
    none_by_list _ _ _ _ _ _ (ordered_at _ _ _ _ _ _ _ c.self.view_is c.self.invariant) c.args.play _ _ c.requires.from c.requires.to
    (λ e. c.if-is_earlier.ensures (subst (λ (z : List ℕ). IsEarlier z c.self.inside.first c.args.play) (sym c.as_slice.ensures.value) e)) c.index.ensures c.index-next.ensures c.if-next-play.false
