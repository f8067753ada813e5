use Rattle.std.proofs.Common.{List, ap, subst, ◌∙◌}
use Rattle.st_rules.specs.declared.names.DeclaredVariable.{DeclaredVariable}
use Rattle.resolution_order.specs.told_laws.ToldLaws.{Each}
use Rattle.resolution_order.specs.told_laws.TellingLaws.{NoValueLeft}
use Rattle.type_resolution.specs.told_locals.Around.{declared_in}
use Rattle.type_resolution.specs.told_locals.Private.Telling.{scope_with}
use Rattle.type_resolution.proofs.told_locals.TellingLaws.{settle_next, settle_ended}
use Rattle.type_resolution.proofs.told_locals.rounds.settle.Goals as goal

pub returns-then-nothing_left : goal.returns-then-nothing_left
returns-then-nothing_left c =
    let d = c.args.of.now in
    let a = c.args.around.now in
    settle_ended a d c.loop-round.known c.in_ok-next.next c.loop-round.invariant
    (c.in_ok-next.ensures ∙ ap (λ vs. declared_in d (scope_with a vs)) c.as_slice.ensures)
    (subst (λ (ws : List DeclaredVariable). Each NoValueLeft c.loop-round.known ws) c.as_slice-in-loop-round-2.ensures
    (subst (λ (vs : List DeclaredVariable). Each NoValueLeft vs c.as_slice-in-loop-round-2.result.now) c.as_slice-in-loop-round.ensures (c.nothing_left.ensures c.if-nothing_left.true)))

pub loop-round-preserved : goal.loop-round-preserved
loop-round-preserved c =
    let d = c.args.of.now in
    let a = c.args.around.now in
    settle_next a d c.loop-round.known c.in_ok-next.next c.loop-round.invariant (c.in_ok-next.ensures ∙ ap (λ vs. declared_in d (scope_with a vs)) c.as_slice.ensures)
