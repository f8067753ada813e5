use Rattle.std.proofs.Common.{◌+◌, drop, map, option_map, refl, sym, ap, ◌∙◌}
use Rattle.std.proofs.lemmas.Result.{err_from_is_err_and}
use Rattle.st_tree.specs.Expression.{expression_of, expression_of-Int, expression_of-Typed, expression_of-Time, expression_of-True, expression_of-False, expression_of-Null, expression_of-Place, expression_of-Call, expression_of-Enumerator, expression_of-Ref, expression_of-Now, expression_of-Paren, expression_of-Not, expression_of-Negate, expression_of-Chain, expressions_of, selectors_of}
use Rattle.st_meaning.specs.Enter.{enter}
use Rattle.st_meaning.specs.Expression.{along, indexed}
use Rattle.st_values.specs.View.{program_of}
use Rattle.call_frames.specs.Opening.{given_of}
use Rattle.call_steps.specs.Callee.{callee_seen}
use Rattle.routine_tables.specs.Parameters.{parameters_of}
use Rattle.run_state.specs.State.{frame_of, spot_of, state_of}
use Rattle.value_trees.specs.Value.{value_of}
use Rattle.reference_values.specs.Private.Parts.{called_of}
use Rattle.reference_values.proofs.ArmLaws.{leaf, paren_shows, not_ends, not_stops, negate_ends, negate_stops, chain_shows, chain_stops, ref_ends, ref_stops, unplaced, output_agrees}
use Rattle.reference_values.proofs.CallSteps.{value_unsought, value_unrun, value_left}
use Rattle.reference_values.proofs.LoopSteps.{next, stopped, halted, arguments_go, arguments_stop, arguments_end, outputs_at, along_at, chained_at, indexed_at, value_seen}
use Rattle.reference_values.proofs.walk.Walk.+values.Goals as goal

pub value-returns-in-Place-clause-run : goal.value-returns-in-Place-clause-run
value-returns-in-Place-clause-run g t c =
    value_seen (program_of c.args.self.now.tables.now) (enter (program_of c.args.self.now.tables.now) c.args.self.now.room) c.args.line (state_of c.args.m.now) (state_of c.name_value.new.m) c.name_value.result _ _ (ap expression_of c.in-Place.is ∙ expression_of-Place _ _) c.name_value.ensures.run

pub along-loop-selector-preserved : goal.along-loop-selector-preserved
along-loop-selector-preserved g t c = (
  ap (λ n. along (program_of c.args.self.now.tables.now) (enter (program_of c.args.self.now.tables.now) c.args.self.now.room) (selectors_of (drop (c.loop-selector.selector-index + 1) c.args.selectors.now)) n.kind (spot_of c.in-Ok.next) c.args.line (state_of c.selected.new.m)) c.selector_note.ensures
      ∙ next _ _ _ _ _ _ (along_at (program_of c.args.self.now.tables.now) (enter (program_of c.args.self.now.tables.now) c.args.self.now.room) c.args.line (state_of c.loop-selector.m) c.loop-selector.selector-index c.args.selectors.now c.selector-item.result c.loop-selector.kind.now (spot_of c.loop-selector.spot) c.loop-selector-test.true c.selector-item.is) c.in-Ok.ensures.run c.loop-selector.invariant.0,
  c.in-Ok.ensures.base ∙ c.loop-selector.invariant.1,
)

pub along-returns-in-Err-clause-run : goal.along-returns-in-Err-clause-run
along-returns-in-Err-clause-run g t c =
    stopped spot_of spot_of c.in-Err.stop _ _ _ _ (state_of c.selected.new.m)
    (along_at (program_of c.args.self.now.tables.now) (enter (program_of c.args.self.now.tables.now) c.args.self.now.room) c.args.line (state_of c.loop-selector.m) c.loop-selector.selector-index c.args.selectors.now c.selector-item.result c.loop-selector.kind.now (spot_of c.loop-selector.spot) c.loop-selector-test.true c.selector-item.is) c.loop-selector.invariant.0 c.in-Err.ensures.run

pub chained-loop-tail-preserved : goal.chained-loop-tail-preserved
chained-loop-tail-preserved g t c = (
  next _ _ _ _ _ _ (chained_at (program_of c.args.self.now.tables.now) (enter (program_of c.args.self.now.tables.now) c.args.self.now.room) c.args.line (state_of c.loop-tail.m) c.loop-tail.tail-index c.args.tails.now c.tail-item.result (value_of c.loop-tail.so_far) c.loop-tail-test.true c.tail-item.is) c.in-Ok.ensures.run c.loop-tail.invariant.0,
  c.in-Ok.ensures.base ∙ c.loop-tail.invariant.1,
)

pub chained-returns-in-Err-clause-run : goal.chained-returns-in-Err-clause-run
chained-returns-in-Err-clause-run g t c =
    stopped value_of value_of c.in-Err.stop _ _ _ _ (state_of c.operated.new.m)
    (chained_at (program_of c.args.self.now.tables.now) (enter (program_of c.args.self.now.tables.now) c.args.self.now.room) c.args.line (state_of c.loop-tail.m) c.loop-tail.tail-index c.args.tails.now c.tail-item.result (value_of c.loop-tail.so_far) c.loop-tail-test.true c.tail-item.is) c.loop-tail.invariant.0 c.in-Err.ensures.run

pub indexed-loop-index-preserved : goal.indexed-loop-index-preserved
indexed-loop-index-preserved g t c = (
  ap (λ n. indexed (program_of c.args.self.now.tables.now) (enter (program_of c.args.self.now.tables.now) c.args.self.now.room) (expressions_of (drop (c.loop-index.index-index + 1) c.args.indices.now)) n (spot_of c.in-Ok.next) c.args.line (state_of c.element.new.m)) c.element_kind-kind.ensures
      ∙ next _ _ _ _ _ _ (indexed_at (program_of c.args.self.now.tables.now) (enter (program_of c.args.self.now.tables.now) c.args.self.now.room) c.args.line (state_of c.loop-index.m) c.loop-index.index-index c.args.indices.now c.index-item.result c.loop-index.kind.now (spot_of c.loop-index.spot) c.loop-index-test.true c.index-item.is) c.in-Ok.ensures.run c.loop-index.invariant.0,
  c.in-Ok.ensures.base ∙ c.loop-index.invariant.1,
)

pub indexed-returns-in-Err-clause-run : goal.indexed-returns-in-Err-clause-run
indexed-returns-in-Err-clause-run g t c =
    stopped spot_of spot_of c.in-Err.stop _ _ _ _ (state_of c.element.new.m)
    (indexed_at (program_of c.args.self.now.tables.now) (enter (program_of c.args.self.now.tables.now) c.args.self.now.room) c.args.line (state_of c.loop-index.m) c.loop-index.index-index c.args.indices.now c.index-item.result c.loop-index.kind.now (spot_of c.loop-index.spot) c.loop-index-test.true c.index-item.is) c.loop-index.invariant.0 c.in-Err.ensures.run

pub arguments-loop-argument-preserved : goal.arguments-loop-argument-preserved
arguments-loop-argument-preserved g t c = (
  arguments_go (program_of c.args.self.now.tables.now) (enter (program_of c.args.self.now.tables.now) c.args.self.now.room) c.args.line (state_of c.loop-argument.m) c.loop-argument.argument-index c.args.arguments.now (parameters_of c.args.parameters.now) (parameters_of c.loop-argument.left.now) (map given_of c.loop-argument.given) _ c.loop-argument.invariant.0
      c.argument-item.result (parameters_of c.left_behind-left.result.now) (map given_of c.push_given.new.given) (option_map given_of c.in-Ok.one) (state_of c.argument.new.m) c.loop-argument-test.true c.argument-item.is c.in-Ok.ensures.run c.in-Ok-push_given.ensures c.left_behind-left.ensures,
  c.in-Ok.ensures.base ∙ c.loop-argument.invariant.1,
)

pub arguments-returns-in-Err-clause-run : goal.arguments-returns-in-Err-clause-run
arguments-returns-in-Err-clause-run g t c =
    arguments_stop (program_of c.args.self.now.tables.now) (enter (program_of c.args.self.now.tables.now) c.args.self.now.room) c.args.line (state_of c.loop-argument.m) c.loop-argument.argument-index c.args.arguments.now (parameters_of c.args.parameters.now) (parameters_of c.loop-argument.left.now) (map given_of c.loop-argument.given) _ c.loop-argument.invariant.0
    c.argument-item.result c.in-Err.stop (state_of c.argument.new.m) c.loop-argument-test.true c.argument-item.is c.in-Err.ensures.run

pub arguments-returns-clause-run : goal.arguments-returns-clause-run
arguments-returns-clause-run g t c =
    arguments_end (program_of c.args.self.now.tables.now) (enter (program_of c.args.self.now.tables.now) c.args.self.now.room) c.args.line (state_of c.loop-argument.m) c.loop-argument.argument-index c.args.arguments.now (parameters_of c.args.parameters.now) (parameters_of c.loop-argument.left.now) (map given_of c.loop-argument.given) _ c.loop-argument.invariant.0 c.loop-argument-test.false

pub outputs-loop-argument-preserved : goal.outputs-loop-argument-preserved
outputs-loop-argument-preserved g t c = (
  next _ _ _ _ _ _ (outputs_at (program_of c.args.self.now.tables.now) (enter (program_of c.args.self.now.tables.now) c.args.self.now.room) c.args.line (state_of c.loop-argument.m) c.loop-argument.argument-index c.args.arguments.now c.argument-item.result (parameters_of c.args.parameters.now) (option_map (λ q. q.now) c.args.own) (frame_of c.args.frame.now) c.loop-argument-test.true c.argument-item.is) c.in-Ok.ensures.run c.loop-argument.invariant.0,
  c.in-Ok.ensures.base ∙ c.loop-argument.invariant.1,
)

pub outputs-returns-in-Err-clause-run : goal.outputs-returns-in-Err-clause-run
outputs-returns-in-Err-clause-run g t c =
    halted c.in-Err.stop _ _ _ _ (state_of c.output.new.m)
    (outputs_at (program_of c.args.self.now.tables.now) (enter (program_of c.args.self.now.tables.now) c.args.self.now.room) c.args.line (state_of c.loop-argument.m) c.loop-argument.argument-index c.args.arguments.now c.argument-item.result (parameters_of c.args.parameters.now) (option_map (λ q. q.now) c.args.own) (frame_of c.args.frame.now) c.loop-argument-test.true c.argument-item.is) c.loop-argument.invariant.0 c.in-Err.ensures.run

pub output-returns-in_ok-v-in-Output-clause-run : goal.output-returns-in_ok-v-in-Output-clause-run
output-returns-in_ok-v-in-Output-clause-run g t c =
    output_agrees (program_of c.args.self.now.tables.now) (enter (program_of c.args.self.now.tables.now) c.args.self.now.room) c.args.line (state_of c.args.m.now) (parameters_of c.args.parameters.now) (option_map (λ q. q.now) c.args.own) (frame_of c.args.frame.now) c.args.argument.now
    c.in-Output.a c.in-Output.field-2 c.in-Output.field-1 c.in-Output.place _ (value_of c.in_ok-v-in-Output.v) c.write.result (state_of c.write.new.m) c.in-Output.is c.parameter_named-parameter.ensures c.in_ok-v-in-Output.ensures c.write.ensures.run

pub value-returns-in_err-called-in-Call-clause-run : goal.value-returns-in_err-called-in-Call-clause-run
value-returns-in_err-called-in-Call-clause-run g t c =
    let p = err_from_is_err_and c.from_residual-in_err-called-in-Call.result c.from_residual-in_err-called-in-Call.ensures.1 in
    rw (p.1, p.2) (value_unsought (program_of c.args.self.now.tables.now) (enter (program_of c.args.self.now.tables.now) c.args.self.now.room) c.args.line (state_of c.args.m.now) c.in-Call.place c.as_slice.result.now c.in-Call.arguments c.as_slice-arguments.result.now (callee_seen c.callee_of-callee.result) c.as_slice.ensures c.as_slice-arguments.ensures c.callee_of-callee.ensures (sym c.is_conversion.ensures ∙ c.if-is_conversion.false)
    (called_of c.args.self.now.tables.now) c.args.e.now c.in-Call.a c.in_err-called-in-Call.field-0.0 (state_of c.sought.new.m) c.in-Call.is c.in_err-called-in-Call.ensures.run)

pub value-returns-in_err-frame-in-Call-clause-run : goal.value-returns-in_err-frame-in-Call-clause-run
value-returns-in_err-frame-in-Call-clause-run g t c =
    let p = err_from_is_err_and c.from_residual-in_err-frame-in-Call.result c.from_residual-in_err-frame-in-Call.ensures.1 in
    rw (p.1, p.2) (value_unrun (program_of c.args.self.now.tables.now) (enter (program_of c.args.self.now.tables.now) c.args.self.now.room) c.args.line (state_of c.args.m.now) c.in-Call.place c.as_slice.result.now c.in-Call.arguments c.as_slice-arguments.result.now (callee_seen c.callee_of-callee.result) c.as_slice.ensures c.as_slice-arguments.ensures c.callee_of-callee.ensures (sym c.is_conversion.ensures ∙ c.if-is_conversion.false)
    c.args.e.now c.in-Call.a (called_of c.args.self.now.tables.now c.in_ok-called-in-Call.called) (state_of c.sought.new.m) c.in_err-frame-in-Call.field-0.0 (state_of c.run_called.new.m) c.in-Call.is c.in_ok-called-in-Call.ensures.run c.in_err-frame-in-Call.ensures.run)

pub value-returns-in_ok-frame-in-Call-clause-run : goal.value-returns-in_ok-frame-in-Call-clause-run
value-returns-in_ok-frame-in-Call-clause-run g t c =
    value_left (program_of c.args.self.now.tables.now) (enter (program_of c.args.self.now.tables.now) c.args.self.now.room) c.args.line (state_of c.args.m.now) c.in-Call.place c.as_slice.result.now c.in-Call.arguments c.as_slice-arguments.result.now (callee_seen c.callee_of-callee.result) c.as_slice.ensures c.as_slice-arguments.ensures c.callee_of-callee.ensures (sym c.is_conversion.ensures ∙ c.if-is_conversion.false)
    c.args.e.now c.in-Call.a (called_of c.args.self.now.tables.now c.in_ok-called-in-Call.called) (state_of c.sought.new.m) (frame_of c.in_ok-frame-in-Call.frame) (state_of c.run_called.new.m) c.left_in_local.result (state_of c.run_called.new.m) c.in-Call.is c.in_ok-called-in-Call.ensures.run c.in_ok-frame-in-Call.ensures.run c.left_in_local.ensures

pub value-returns-in-True-clause-run : goal.value-returns-in-True-clause-run
value-returns-in-True-clause-run g t c = leaf (program_of c.args.self.now.tables.now) (enter (program_of c.args.self.now.tables.now) c.args.self.now.room) c.args.line (state_of c.args.m.now) c.args.e.now _ _ _ c.natural.result c.in-True.is (expression_of-True _) refl c.natural.ensures

pub value-returns-in-False-clause-run : goal.value-returns-in-False-clause-run
value-returns-in-False-clause-run g t c = leaf (program_of c.args.self.now.tables.now) (enter (program_of c.args.self.now.tables.now) c.args.self.now.room) c.args.line (state_of c.args.m.now) c.args.e.now _ _ _ c.natural-in-False.result c.in-False.is (expression_of-False _) refl c.natural-in-False.ensures

pub value-returns-in-Null-clause-run : goal.value-returns-in-Null-clause-run
value-returns-in-Null-clause-run g t c = leaf (program_of c.args.self.now.tables.now) (enter (program_of c.args.self.now.tables.now) c.args.self.now.room) c.args.line (state_of c.args.m.now) c.args.e.now _ _ _ c.null.result c.in-Null.is (expression_of-Null _) refl c.null.ensures

pub value-returns-in-Enumerator-clause-run : goal.value-returns-in-Enumerator-clause-run
value-returns-in-Enumerator-clause-run g t c = leaf (program_of c.args.self.now.tables.now) (enter (program_of c.args.self.now.tables.now) c.args.self.now.room) c.args.line (state_of c.args.m.now) c.args.e.now _ _ _ c.constant_value.result c.in-Enumerator.is (expression_of-Enumerator _ _ _ _) refl c.constant_value.ensures

pub value-returns-in-Now-clause-run : goal.value-returns-in-Now-clause-run
value-returns-in-Now-clause-run g t c = leaf (program_of c.args.self.now.tables.now) (enter (program_of c.args.self.now.tables.now) c.args.self.now.room) c.args.line (state_of c.args.m.now) c.args.e.now _ _ _ c.natural-in-Now.result c.in-Now.is (expression_of-Now _) refl c.natural-in-Now.ensures

pub value-returns-in-Paren-clause-run : goal.value-returns-in-Paren-clause-run
value-returns-in-Paren-clause-run g t c =
    paren_shows (program_of c.args.self.now.tables.now) (enter (program_of c.args.self.now.tables.now) c.args.self.now.room) c.args.line (state_of c.args.m.now) c.args.e.now c.in-Paren.inner c.get.result.now c.in-Paren.field-0 c.value.result (state_of c.value.new.m) c.in-Paren.is c.get.ensures c.value.ensures.run

pub value-returns-in_ok-v-in-Not-clause-run : goal.value-returns-in_ok-v-in-Not-clause-run
value-returns-in_ok-v-in-Not-clause-run g t c =
    not_ends (program_of c.args.self.now.tables.now) (enter (program_of c.args.self.now.tables.now) c.args.self.now.room) c.args.line (state_of c.args.m.now) c.args.e.now c.in-Not.inner c.get-in-Not.result.now c.in-Not.a c.get-in-Not.ensures c.in_ok-v-in-Not.v c.complemented.result (state_of c.value-in-Not.new.m) c.in-Not.is c.in_ok-v-in-Not.ensures.run c.complemented.ensures

pub value-returns-in_err-v-in-Not-clause-run : goal.value-returns-in_err-v-in-Not-clause-run
value-returns-in_err-v-in-Not-clause-run g t c =
    let p = err_from_is_err_and c.from_residual-in_err-v-in-Not.result c.from_residual-in_err-v-in-Not.ensures.1 in
    rw (p.1, p.2) (not_stops (program_of c.args.self.now.tables.now) (enter (program_of c.args.self.now.tables.now) c.args.self.now.room) c.args.line (state_of c.args.m.now) c.args.e.now c.in-Not.inner c.get-in-Not.result.now c.in-Not.a c.get-in-Not.ensures c.in_err-v-in-Not.field-0.0 (state_of c.value-in-Not.new.m) c.in-Not.is c.in_err-v-in-Not.ensures.run)

pub value-returns-in_ok-v-in-Negate-clause-run : goal.value-returns-in_ok-v-in-Negate-clause-run
value-returns-in_ok-v-in-Negate-clause-run g t c =
    negate_ends (program_of c.args.self.now.tables.now) (enter (program_of c.args.self.now.tables.now) c.args.self.now.room) c.args.line (state_of c.args.m.now) c.args.e.now c.in-Negate.inner c.get-in-Negate.result.now c.in-Negate.a c.get-in-Negate.ensures c.in_ok-v-in-Negate.v c.negated.result (state_of c.value-in-Negate.new.m) c.in-Negate.is c.in_ok-v-in-Negate.ensures.run c.negated.ensures

pub value-returns-in_err-v-in-Negate-clause-run : goal.value-returns-in_err-v-in-Negate-clause-run
value-returns-in_err-v-in-Negate-clause-run g t c =
    let p = err_from_is_err_and c.from_residual-in_err-v-in-Negate.result c.from_residual-in_err-v-in-Negate.ensures.1 in
    rw (p.1, p.2) (negate_stops (program_of c.args.self.now.tables.now) (enter (program_of c.args.self.now.tables.now) c.args.self.now.room) c.args.line (state_of c.args.m.now) c.args.e.now c.in-Negate.inner c.get-in-Negate.result.now c.in-Negate.a c.get-in-Negate.ensures c.in_err-v-in-Negate.field-0.0 (state_of c.value-in-Negate.new.m) c.in-Negate.is c.in_err-v-in-Negate.ensures.run)

pub value-returns-in_ok-v-in-Chain-clause-run : goal.value-returns-in_ok-v-in-Chain-clause-run
value-returns-in_ok-v-in-Chain-clause-run g t c =
    chain_shows (program_of c.args.self.now.tables.now) (enter (program_of c.args.self.now.tables.now) c.args.self.now.room) c.args.line (state_of c.args.m.now) c.args.e.now c.in-Chain.first c.get-in-Chain.result.now c.in-Chain.field-0 c.get-in-Chain.ensures c.in-Chain.tails c.as_slice-in-Chain.result.now c.as_slice-in-Chain.ensures c.in_ok-v-in-Chain.v (state_of c.value-in-Chain.new.m) c.chained.result (state_of c.chained.new.m) c.in-Chain.is
    c.in_ok-v-in-Chain.ensures.run c.chained.ensures.run

pub value-returns-in_err-v-in-Chain-clause-run : goal.value-returns-in_err-v-in-Chain-clause-run
value-returns-in_err-v-in-Chain-clause-run g t c =
    let p = err_from_is_err_and c.from_residual-in_err-v-in-Chain.result c.from_residual-in_err-v-in-Chain.ensures.1 in
    rw (p.1, p.2) (chain_stops (program_of c.args.self.now.tables.now) (enter (program_of c.args.self.now.tables.now) c.args.self.now.room) c.args.line (state_of c.args.m.now) c.args.e.now c.in-Chain.first c.get-in-Chain.result.now c.in-Chain.field-0 c.get-in-Chain.ensures c.in-Chain.tails c.in-Chain.tails refl c.in_err-v-in-Chain.field-0.0 (state_of c.value-in-Chain.new.m) c.in-Chain.is c.in_err-v-in-Chain.ensures.run)

pub value-returns-in_ok-spot-in-Ref-clause-run : goal.value-returns-in_ok-spot-in-Ref-clause-run
value-returns-in_ok-spot-in-Ref-clause-run g t c =
    ref_ends (program_of c.args.self.now.tables.now) (enter (program_of c.args.self.now.tables.now) c.args.self.now.room) c.args.line (state_of c.args.m.now) c.args.e.now c.in-Ref.field-0 c.in-Ref.place c.in-Ref.is c.in_ok-spot-in-Ref.spot c.reference.result (state_of c.place.new.m) c.in_ok-spot-in-Ref.ensures.run c.reference.ensures

pub value-returns-in_err-spot-in-Ref-clause-run : goal.value-returns-in_err-spot-in-Ref-clause-run
value-returns-in_err-spot-in-Ref-clause-run g t c =
    let p = err_from_is_err_and c.from_residual.result c.from_residual.ensures.1 in
    rw (p.1, p.2) (ref_stops (program_of c.args.self.now.tables.now) (enter (program_of c.args.self.now.tables.now) c.args.self.now.room) c.args.line (state_of c.args.m.now) c.args.e.now c.in-Ref.field-0 c.in-Ref.place c.in-Ref.is c.in_err-spot-in-Ref.field-0.0 (state_of c.place.new.m) c.in_err-spot-in-Ref.ensures.run)

pub bound_place-returns-in-Int-clause-run : goal.bound_place-returns-in-Int-clause-run
bound_place-returns-in-Int-clause-run g t c = unplaced (program_of c.args.self.now.tables.now) (enter (program_of c.args.self.now.tables.now) c.args.self.now.room) c.args.line (state_of c.args.m.now) c.args.e.now _ _ c.fault.result (state_of c.args.m.now) c.in-Int.is (expression_of-Int _ _) refl c.fault.ensures

pub bound_place-returns-in-Typed-clause-run : goal.bound_place-returns-in-Typed-clause-run
bound_place-returns-in-Typed-clause-run g t c = unplaced (program_of c.args.self.now.tables.now) (enter (program_of c.args.self.now.tables.now) c.args.self.now.room) c.args.line (state_of c.args.m.now) c.args.e.now _ _ c.fault-in-Typed.result (state_of c.args.m.now) c.in-Typed.is (expression_of-Typed _ _ _) refl c.fault-in-Typed.ensures

pub bound_place-returns-in-Time-clause-run : goal.bound_place-returns-in-Time-clause-run
bound_place-returns-in-Time-clause-run g t c = unplaced (program_of c.args.self.now.tables.now) (enter (program_of c.args.self.now.tables.now) c.args.self.now.room) c.args.line (state_of c.args.m.now) c.args.e.now _ _ c.fault-in-Time.result (state_of c.args.m.now) c.in-Time.is (expression_of-Time _ _) refl c.fault-in-Time.ensures

pub bound_place-returns-in-True-clause-run : goal.bound_place-returns-in-True-clause-run
bound_place-returns-in-True-clause-run g t c = unplaced (program_of c.args.self.now.tables.now) (enter (program_of c.args.self.now.tables.now) c.args.self.now.room) c.args.line (state_of c.args.m.now) c.args.e.now _ _ c.fault-in-True.result (state_of c.args.m.now) c.in-True.is (expression_of-True _) refl c.fault-in-True.ensures

pub bound_place-returns-in-False-clause-run : goal.bound_place-returns-in-False-clause-run
bound_place-returns-in-False-clause-run g t c = unplaced (program_of c.args.self.now.tables.now) (enter (program_of c.args.self.now.tables.now) c.args.self.now.room) c.args.line (state_of c.args.m.now) c.args.e.now _ _ c.fault-in-False.result (state_of c.args.m.now) c.in-False.is (expression_of-False _) refl c.fault-in-False.ensures

pub bound_place-returns-in-Null-clause-run : goal.bound_place-returns-in-Null-clause-run
bound_place-returns-in-Null-clause-run g t c = unplaced (program_of c.args.self.now.tables.now) (enter (program_of c.args.self.now.tables.now) c.args.self.now.room) c.args.line (state_of c.args.m.now) c.args.e.now _ _ c.fault-in-Null.result (state_of c.args.m.now) c.in-Null.is (expression_of-Null _) refl c.fault-in-Null.ensures

pub bound_place-returns-in-Call-clause-run : goal.bound_place-returns-in-Call-clause-run
bound_place-returns-in-Call-clause-run g t c = unplaced (program_of c.args.self.now.tables.now) (enter (program_of c.args.self.now.tables.now) c.args.self.now.room) c.args.line (state_of c.args.m.now) c.args.e.now _ _ c.fault-in-Call.result (state_of c.args.m.now) c.in-Call.is (expression_of-Call _ _ _) refl c.fault-in-Call.ensures

pub bound_place-returns-in-Enumerator-clause-run : goal.bound_place-returns-in-Enumerator-clause-run
bound_place-returns-in-Enumerator-clause-run g t c = unplaced (program_of c.args.self.now.tables.now) (enter (program_of c.args.self.now.tables.now) c.args.self.now.room) c.args.line (state_of c.args.m.now) c.args.e.now _ _ c.fault-in-Enumerator.result (state_of c.args.m.now) c.in-Enumerator.is (expression_of-Enumerator _ _ _ _) refl c.fault-in-Enumerator.ensures

pub bound_place-returns-in-Ref-clause-run : goal.bound_place-returns-in-Ref-clause-run
bound_place-returns-in-Ref-clause-run g t c = unplaced (program_of c.args.self.now.tables.now) (enter (program_of c.args.self.now.tables.now) c.args.self.now.room) c.args.line (state_of c.args.m.now) c.args.e.now _ _ c.fault-in-Ref.result (state_of c.args.m.now) c.in-Ref.is (expression_of-Ref _ _) refl c.fault-in-Ref.ensures

pub bound_place-returns-in-Now-clause-run : goal.bound_place-returns-in-Now-clause-run
bound_place-returns-in-Now-clause-run g t c = unplaced (program_of c.args.self.now.tables.now) (enter (program_of c.args.self.now.tables.now) c.args.self.now.room) c.args.line (state_of c.args.m.now) c.args.e.now _ _ c.fault-in-Now.result (state_of c.args.m.now) c.in-Now.is (expression_of-Now _) refl c.fault-in-Now.ensures

pub bound_place-returns-in-Paren-clause-run : goal.bound_place-returns-in-Paren-clause-run
bound_place-returns-in-Paren-clause-run g t c = unplaced (program_of c.args.self.now.tables.now) (enter (program_of c.args.self.now.tables.now) c.args.self.now.room) c.args.line (state_of c.args.m.now) c.args.e.now _ _ c.fault-in-Paren.result (state_of c.args.m.now) c.in-Paren.is (expression_of-Paren _ _) refl c.fault-in-Paren.ensures

pub bound_place-returns-in-Not-clause-run : goal.bound_place-returns-in-Not-clause-run
bound_place-returns-in-Not-clause-run g t c = unplaced (program_of c.args.self.now.tables.now) (enter (program_of c.args.self.now.tables.now) c.args.self.now.room) c.args.line (state_of c.args.m.now) c.args.e.now _ _ c.fault-in-Not.result (state_of c.args.m.now) c.in-Not.is (expression_of-Not _ _) refl c.fault-in-Not.ensures

pub bound_place-returns-in-Negate-clause-run : goal.bound_place-returns-in-Negate-clause-run
bound_place-returns-in-Negate-clause-run g t c = unplaced (program_of c.args.self.now.tables.now) (enter (program_of c.args.self.now.tables.now) c.args.self.now.room) c.args.line (state_of c.args.m.now) c.args.e.now _ _ c.fault-in-Negate.result (state_of c.args.m.now) c.in-Negate.is (expression_of-Negate _ _) refl c.fault-in-Negate.ensures

pub bound_place-returns-in-Chain-clause-run : goal.bound_place-returns-in-Chain-clause-run
bound_place-returns-in-Chain-clause-run g t c = unplaced (program_of c.args.self.now.tables.now) (enter (program_of c.args.self.now.tables.now) c.args.self.now.room) c.args.line (state_of c.args.m.now) c.args.e.now _ _ c.fault-in-Chain.result (state_of c.args.m.now) c.in-Chain.is (expression_of-Chain _ _ _) refl c.fault-in-Chain.ensures
