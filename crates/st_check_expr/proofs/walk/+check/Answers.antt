use Rattle.std.proofs.Common.{drop, refl, sym, ap, ◌∙◌}
use Rattle.st_tree.specs.Expression.{expression_of, expression_of-Int, expression_of-Typed, expression_of-Time, expression_of-True, expression_of-False, expression_of-Null, expression_of-Enumerator, expression_of-Now}
use Rattle.check_nodes.specs.Slots.{slots}
use Rattle.st_check_expr.specs.Private.Rows.{row_rest}
use Rattle.st_check_expr.specs.Private.Along.{along_rest}
use Rattle.st_check_expr.specs.Private.Lists.{index_rest, argument_rest}
use Rattle.st_check_expr.proofs.ArmLaws.{int_arm, paren_arm, not_arm, sign_arm, chain_arm, place_arm, ref_arm, call_arm, steps_on, steps_to, end_arm, parts_arm, field_arm, index_arm, target_arm, positional_arm, input_arm, output_arm}
use Rattle.st_check_expr.proofs.NodeLaws.{seen}
use Rattle.st_check_expr.proofs.OkLaws.{when_ok, all_seen}
use Rattle.st_check_expr.proofs.AlongSteps.{started_so, along_found, along_goes}
use Rattle.st_check_expr.proofs.AheadSteps.{looks_nowhere}
use Rattle.st_check_expr.proofs.LoopSteps.{ahead_goes, looks_here, keeps_next, row_next, along_next, index_next, argument_next, tails_end, selectors_end, expressions_end, arguments_end}
use Rattle.st_check_expr.proofs.ListSteps.{no_index_so, indices_found, no_argument_so, arguments_found}
use Rattle.st_check_expr.proofs.StepLaws.{minus_checks, step_ends_typed, step_goes_on, step_ends_nowhere, untyped_step, kept_step, fresh_step}
use Rattle.st_check_expr.proofs.walk.+check.Goals as goal

-- ---- expressions

pub check-returns-in-Int : goal.check-returns-in-Int
check-returns-in-Int t c = all_seen _ _ _ _ _ (ap expression_of c.in-Int.is ∙ expression_of-Int _ _) c.int.ensures

pub check-returns-in-Typed : goal.check-returns-in-Typed
check-returns-in-Typed t c = all_seen _ _ _ _ _ (ap expression_of c.in-Typed.is ∙ expression_of-Typed _ _ _) c.typed_literal.ensures

pub check-returns-in-Time : goal.check-returns-in-Time
check-returns-in-Time t c = all_seen _ _ _ _ _ (ap expression_of c.in-Time.is ∙ expression_of-Time _ _) c.duration.ensures

pub check-returns-in-True : goal.check-returns-in-True
check-returns-in-True t c = seen _ _ _ _ _ (ap expression_of c.in-True.is ∙ expression_of-True _) c.truth.ensures

pub check-returns-in-False : goal.check-returns-in-False
check-returns-in-False t c = seen _ _ _ _ _ (ap expression_of c.in-False.is ∙ expression_of-False _) c.falsehood.ensures

pub check-returns-in-Now : goal.check-returns-in-Now
check-returns-in-Now t c = seen _ _ _ _ _ (ap expression_of c.in-Now.is ∙ expression_of-Now _) c.now.ensures

pub check-returns-in-Null : goal.check-returns-in-Null
check-returns-in-Null t c = all_seen _ _ _ _ _ (ap expression_of c.in-Null.is ∙ expression_of-Null _) c.null.ensures

pub check-returns-in-Enumerator : goal.check-returns-in-Enumerator
check-returns-in-Enumerator t c = all_seen _ _ _ _ _ (ap expression_of c.in-Enumerator.is ∙ expression_of-Enumerator _ _ _ _) c.enumerator.ensures

pub check-returns-in_ok-x-in-Place : goal.check-returns-in_ok-x-in-Place
check-returns-in_ok-x-in-Place t c = when_ok c.whole.result c.whole.ensures (λ x w. place_arm _ _ _ _ _ _ _ c.as_slice-selectors.ensures _ c.in-Place.is w c.in_ok-x-in-Place.ensures)

pub check-returns-in_ok-x-in-Ref : goal.check-returns-in_ok-x-in-Ref
check-returns-in_ok-x-in-Ref t c = when_ok c.reference.result c.reference.ensures (λ x w. ref_arm _ _ _ _ _ _ _ c.as_slice-selectors-in-Ref.ensures _ c.in-Ref.is w c.in_ok-x-in-Ref.ensures)

pub check-returns-in_ok-xs-in-Call : goal.check-returns-in_ok-xs-in-Call
check-returns-in_ok-xs-in-Call t c =
    when_ok c.finish.result c.finish.ensures (λ x w.
    call_arm _ _ _ _ _ _ _ c.as_slice-selectors-in-Call.ensures _ _ _ _ _ _ c.in-Call.is c.as_slice-arguments.ensures c.in_ok-call-in-Call.ensures c.in_ok-x-in-Call.ensures c.deref.ensures.value c.in_ok-xs-in-Call.ensures w)

pub check-returns-in_ok-x-in-Paren : goal.check-returns-in_ok-x-in-Paren
check-returns-in_ok-x-in-Paren t c = when_ok c.enclosed.result c.enclosed.ensures (λ x w. paren_arm _ _ _ _ _ _ _ _ c.get.ensures c.in-Paren.is w c.in_ok-x-in-Paren.ensures)

pub check-returns-in_ok-x-in-Not : goal.check-returns-in_ok-x-in-Not
check-returns-in_ok-x-in-Not t c = when_ok c.denied.result c.denied.ensures (λ x w. not_arm _ _ _ _ _ _ _ _ c.get-inner.ensures _ c.in-Not.is w c.line_of.ensures c.in_ok-x-in-Not.ensures)

pub check-returns-in-Negate : goal.check-returns-in-Negate
check-returns-in-Negate t c = when_ok c.check_negate.result c.check_negate.ensures (λ x w. sign_arm x x _ _ _ _ _ _ c.get-in-Negate.ensures c.in-Negate.is w)

pub check-returns-in_ok-row-in-Chain : goal.check-returns-in_ok-row-in-Chain
check-returns-in_ok-row-in-Chain t c =
    let wanted = ap (λ parts. parts.0) c.into_parts-wanted.ensures ∙ c.in_ok-ahead-in-Chain.ensures.wanted in
    when_ok c.closed.result c.closed.ensures (λ x w.
    chain_arm _ _ _ _ _ _ _ _ _ _ _ _ _ _ c.in-Chain.is c.get-first.ensures c.as_slice-tails.ensures c.is_untyped-untyped.ensures wanted c.began-row.ensures c.in_ok-x-in-Chain.ensures c.in_ok-row-in-Chain.ensures w)

-- ---- signs

pub check_negate-returns-in-Some : goal.check_negate-returns-in-Some
check_negate-returns-in-Some t c = when_ok c.negative.result c.negative.ensures (λ x w. int_arm x _ _ _ _ _ _ c.in-Some.ensures w)

pub check_negate-returns-in_ok-x-in-None : goal.check_negate-returns-in_ok-x-in-None
check_negate-returns-in_ok-x-in-None t c =
    when_ok c.negated.result c.negated.ensures (λ x w.
    minus_checks _ _ _ _ _ _ _ _ _ _ c.in-None.ensures c.is_untyped.ensures c.number_asked.ensures c.front_asked-wanted.ensures c.in_ok-x-in-None.ensures c.line_of.ensures w)

-- ---- the look ahead

pub look_ahead-returns-then-not-untyped : goal.look_ahead-returns-then-not-untyped
look_ahead-returns-then-not-untyped t c = looks_nowhere _ _ _ _ _ c.if-not-untyped.true c.asked_nothing.ensures.asked c.asked_nothing.ensures.kept

pub look_ahead-returns-in-Some : goal.look_ahead-returns-in-Some
look_ahead-returns-in-Some t c =
    looks_here _ _ _ _ _ c.loop-tail-test.true c.tail-item.is _ _ _ _ _ c.if-not-untyped.false c.behind.ensures (steps_to _ _ _ _ c.in_ok-step.ensures c.in-Some.is) c.loop-tail.invariant

pub look_ahead-loop-tail-preserved : goal.look_ahead-loop-tail-preserved
look_ahead-loop-tail-preserved t c =
    ahead_goes _ _ _ _ _ c.loop-tail-test.true c.tail-item.is _ _ (steps_on _ _ _ c.in_ok-step.ensures c.in-None.is) c.loop-tail.invariant

pub look_ahead-returns : goal.look_ahead-returns
look_ahead-returns t c = when_ok c.to_the_end.result c.to_the_end.ensures (λ x w. end_arm _ _ _ _ _ _ _ c.if-not-untyped.false c.loop-tail-test.false c.loop-tail.invariant w)

pub ahead_step-returns-then-not-is_untyped : goal.ahead_step-returns-then-not-is_untyped
ahead_step-returns-then-not-is_untyped t c = step_ends_typed c.args.tail.now _ _ _ _ c.is_untyped.ensures c.if-not-is_untyped.true c.in_ok-ahead.ensures c.in_ok-x.ensures

pub ahead_step-returns-then-is_arithmetic : goal.ahead_step-returns-then-is_arithmetic
ahead_step-returns-then-is_arithmetic t c = step_goes_on c.args.tail.now _ _ _ c.is_untyped.ensures c.if-not-is_untyped.false c.is_arithmetic.ensures c.if-is_arithmetic.true

pub ahead_step-returns-else-is_arithmetic : goal.ahead_step-returns-else-is_arithmetic
ahead_step-returns-else-is_arithmetic t c =
    step_ends_nowhere c.args.tail.now _ _ _ _ c.is_untyped.ensures c.if-not-is_untyped.false c.is_arithmetic.ensures c.if-is_arithmetic.false c.asked_nothing.ensures.asked c.asked_nothing.ensures.kept

-- ---- rows

pub check_tails-loop-tail-init : goal.check_tails-loop-tail-init
check_tails-loop-tail-init t c = record { keeps = c.requires; whole = refl }

pub check_tails-loop-tail-preserved : goal.check_tails-loop-tail-preserved
check_tails-loop-tail-preserved t c = record {
  keeps = keeps_next _ _ _ _ _ c.loop-tail-test.true c.tail-item.is _ _ c.in_ok-so_far.ensures c.loop-tail.invariant.keeps;
  whole = row_next _ _ _ _ _ c.loop-tail-test.true c.tail-item.is _ _ _ c.in_ok-so_far.ensures c.loop-tail.invariant.keeps c.loop-tail.invariant.whole;
}

pub check_tails-returns : goal.check_tails-returns
check_tails-returns t c = sym (ap (row_rest c.args.s.now c.args.asked.now c.loop-tail.so_far.row) (tails_end _ _ c.loop-tail-test.false)) ∙ c.loop-tail.invariant.whole

pub row_step-returns-then-is_untyped : goal.row_step-returns-then-is_untyped
row_step-returns-then-is_untyped t c = untyped_step c.args.tail.now _ _ _ _ _ _ c.line_of-own.ensures _ c.is_untyped.ensures c.if-is_untyped.true c.in_ok-row.ensures refl _ c.in_ok-wanted.ensures c.in_ok-x.ensures

pub row_step-returns-in_ok-row-in-Some : goal.row_step-returns-in_ok-row-in-Some
row_step-returns-in_ok-row-in-Some t c = kept_step c.args.tail.now _ _ _ _ _ _ c.line_of-own.ensures _ c.is_untyped.ensures c.if-is_untyped.false c.in_ok-row-in-Some.ensures refl c.in-Some.is

pub row_step-returns-in_ok-row-in-None : goal.row_step-returns-in_ok-row-in-None
row_step-returns-in_ok-row-in-None t c = fresh_step c.args.tail.now _ _ _ _ _ _ c.line_of-own.ensures _ c.is_untyped.ensures c.if-is_untyped.false c.in_ok-row-in-None.ensures refl c.in_ok-x-in-None.ensures

-- ---- places

pub check_place-returns : goal.check_place-returns
check_place-returns t c = parts_arm _ _ _ _ _ _ _ _ _ _ c.as_slice-selectors.ensures c.at_root.ensures c.place_root_fault-of_root.ensures c.in_ok-root.ensures c.root_line.ensures c.root_standing-b.ensures c.in_ok-along.ensures

pub check_along-loop-number-init : goal.check_along-loop-number-init
check_along-loop-number-init t c = started_so _ _ _ _ _ _ c.started-so_far.ensures

pub check_along-loop-number-preserved : goal.check_along-loop-number-preserved
check_along-loop-number-preserved t c = along_next _ _ _ _ _ _ _ _ _ _ c.loop-number-test.true c.index-selectors-number.is c.in_ok-so_far.ensures c.is_called_at-here.ensures c.loop-number.invariant

pub check_along-returns : goal.check_along-returns
check_along-returns t c = along_found _ _ _ _ _ _ (sym (ap (along_rest c.args.s.now c.args.line c.args.called c.loop-number.so_far) (selectors_end _ _ c.loop-number-test.false)) ∙ c.loop-number.invariant)

pub along_step-returns : goal.along_step-returns
along_step-returns t c = when_ok c.extended.result c.extended.ensures (λ x w. along_goes _ _ _ _ _ _ _ _ w c.selected-next.ensures c.in_ok-one.ensures)

pub check_selector-returns-in-Field : goal.check_selector-returns-in-Field
check_selector-returns-in-Field t c = when_ok c.noted_field.result c.noted_field.ensures (λ x w. field_arm _ _ _ _ _ _ _ _ c.requires c.selector_fault-own.ensures _ _ c.in-Field.is w)

pub check_selector-returns-in_ok-found-in-Index : goal.check_selector-returns-in_ok-found-in-Index
check_selector-returns-in_ok-found-in-Index t c =
    when_ok c.noted_index.result (c.noted_index.ensures c.args.s.now) (λ x w.
    index_arm _ _ _ _ _ _ _ _ c.requires c.selector_fault-own.ensures _ _ _ _ c.in-Index.is c.as_slice.ensures w c.in_ok-found-in-Index.ensures)

pub check_selector-returns-in-Target : goal.check_selector-returns-in-Target
check_selector-returns-in-Target t c = when_ok c.noted_target.result (c.noted_target.ensures c.args.s.now) (λ x w. target_arm _ _ _ _ _ _ _ _ c.requires c.selector_fault-own.ensures _ c.in-Target.is w)

-- ---- indices and arguments

pub check_indices-loop-index-init : goal.check_indices-loop-index-init
check_indices-loop-index-init t c = no_index_so _ _ _ c.no_index-so_far.ensures

pub check_indices-loop-index-preserved : goal.check_indices-loop-index-preserved
check_indices-loop-index-preserved t c = index_next _ _ _ _ _ _ _ _ _ c.loop-index-test.true c.index-item.is c.in_ok-so_far.ensures c.line_of.ensures c.in_ok-x.ensures c.loop-index.invariant

pub check_indices-returns : goal.check_indices-returns
check_indices-returns t c = indices_found _ _ _ (sym (ap (index_rest c.args.s.now c.loop-index.so_far) (expressions_end _ _ c.loop-index-test.false)) ∙ c.loop-index.invariant)

pub check_arguments-loop-number-init : goal.check_arguments-loop-number-init
check_arguments-loop-number-init t c = no_argument_so _ _ _ _ c.no_argument-so_far.ensures

pub check_arguments-loop-number-preserved : goal.check_arguments-loop-number-preserved
check_arguments-loop-number-preserved t c = argument_next _ _ _ _ _ _ _ _ _ _ c.loop-number-test.true c.index-arguments-number.is c.in_ok-so_far.ensures c.in_ok-x.ensures c.slot_at-m.ensures c.loop-number.invariant

pub check_arguments-returns : goal.check_arguments-returns
check_arguments-returns t c = arguments_found _ _ _ _ _ (sym (ap (argument_rest c.args.s.now c.loop-number.so_far (drop c.loop-number.number (slots c.args.slots.now))) (arguments_end _ _ c.loop-number-test.false)) ∙ c.loop-number.invariant)

pub check_argument-returns-in_ok-x-in-Positional : goal.check_argument-returns-in_ok-x-in-Positional
check_argument-returns-in_ok-x-in-Positional t c = positional_arm _ _ _ _ _ _ _ c.in-Positional.is c.in_ok-asked-in-Positional.ensures c.in_ok-x-in-Positional.ensures c.positional.ensures

pub check_argument-returns-in_ok-x-in-Input : goal.check_argument-returns-in_ok-x-in-Input
check_argument-returns-in_ok-x-in-Input t c = when_ok c.input.result c.input.ensures (λ x w. input_arm _ _ _ _ _ _ _ _ _ c.in-Input.is c.in_ok-asked-in-Input.ensures c.in_ok-x-in-Input.ensures w)

pub check_argument-returns-in_ok-x-in-Output : goal.check_argument-returns-in_ok-x-in-Output
check_argument-returns-in_ok-x-in-Output t c = when_ok c.output.result c.output.ensures (λ x w. output_arm _ _ _ _ _ _ _ _ _ _ c.in-Output.is c.as_slice-selectors.ensures c.in_ok-x-in-Output.ensures w)
