use Rattle.std.proofs.Common.{◌+◌, drop, refl, sym, ap, ◌∙◌}
use Rattle.st_tree.specs.Expression.{expression_of, expression_of-Int, expression_of-Typed, expression_of-Time, expression_of-True, expression_of-False, expression_of-Null, expression_of-Enumerator, expression_of-Now, expression_of-Paren, expression_of-Not, expressions_of, tails_of, tail_of, arguments_of, selector_of, selector_of-Field, selector_of-Index, selector_of-Target, selectors_of, argument_of, argument_of-Positional, argument_of-Input, tail_of-operand}
use Rattle.st_rules.specs.Expressions.{tail_operators, index_operators, selector_operators, argument_operators}
use Rattle.check_nodes.specs.Private.Count.{selector_count, argument_count}
use Rattle.check_nodes.proofs.ViewLaws.{output_is}
use Rattle.check_nodes.proofs.RoomLaws.{count, nothing_taken, room_next, room_over, room_ended, tail_first, selector_first, argument_first, same_count, both_left, one_left, tail_left, first_over, one_over, place_count, ref_count, call_count, chain_count, literal_count, negate_count}
use Rattle.check_nodes.proofs.count.+count.Goals as goal

-- ---- expressions

pub expression_left-returns-in-Int : goal.expression_left-returns-in-Int
expression_left-returns-in-Int t c = nothing_taken _ _ (ap count (ap expression_of c.in-Int.is ∙ expression_of-Int _ _))

pub expression_left-returns-in-Typed : goal.expression_left-returns-in-Typed
expression_left-returns-in-Typed t c = nothing_taken _ _ (ap count (ap expression_of c.in-Typed.is ∙ expression_of-Typed _ _ _))

pub expression_left-returns-in-Time : goal.expression_left-returns-in-Time
expression_left-returns-in-Time t c = nothing_taken _ _ (ap count (ap expression_of c.in-Time.is ∙ expression_of-Time _ _))

pub expression_left-returns-in-True : goal.expression_left-returns-in-True
expression_left-returns-in-True t c = nothing_taken _ _ (ap count (ap expression_of c.in-True.is ∙ expression_of-True _))

pub expression_left-returns-in-False : goal.expression_left-returns-in-False
expression_left-returns-in-False t c = nothing_taken _ _ (ap count (ap expression_of c.in-False.is ∙ expression_of-False _))

pub expression_left-returns-in-Null : goal.expression_left-returns-in-Null
expression_left-returns-in-Null t c = nothing_taken _ _ (ap count (ap expression_of c.in-Null.is ∙ expression_of-Null _))

pub expression_left-returns-in-Enumerator : goal.expression_left-returns-in-Enumerator
expression_left-returns-in-Enumerator t c = nothing_taken _ _ (ap count (ap expression_of c.in-Enumerator.is ∙ expression_of-Enumerator _ _ _ _))

pub expression_left-returns-in-Now : goal.expression_left-returns-in-Now
expression_left-returns-in-Now t c = nothing_taken _ _ (ap count (ap expression_of c.in-Now.is ∙ expression_of-Now _))

pub expression_left-returns-in-Place : goal.expression_left-returns-in-Place
expression_left-returns-in-Place t c = same_count _ _ _ _ (place_count _ _ _ _ c.in-Place.is c.as_slice.ensures) c.selectors_left.ensures

pub expression_left-returns-in-Ref : goal.expression_left-returns-in-Ref
expression_left-returns-in-Ref t c = same_count _ _ _ _ (ref_count _ _ _ _ c.in-Ref.is c.as_slice-in-Ref.ensures) c.selectors_left-in-Ref.ensures

pub expression_left-returns-in_err-left-in-Call : goal.expression_left-returns-in_err-left-in-Call
expression_left-returns-in_err-left-in-Call t c =
    rw c.from_residual.ensures (first_over _ _ _ _ (call_count _ _ _ _ _ _ c.in-Call.is c.as_slice-in-Call.ensures refl) c.in_err-left-in-Call.ensures)

pub expression_left-returns-in_ok-left-in-Call : goal.expression_left-returns-in_ok-left-in-Call
expression_left-returns-in_ok-left-in-Call t c =
    both_left _ _ _ _ _ _ (call_count _ _ _ _ _ _ c.in-Call.is c.as_slice-in-Call.ensures c.as_slice-in-Call-2.ensures) c.in_ok-left-in-Call.ensures c.arguments_left.ensures

pub expression_left-returns-in-Paren : goal.expression_left-returns-in-Paren
expression_left-returns-in-Paren t c = same_count _ _ _ _ (ap count (ap expression_of c.in-Paren.is ∙ expression_of-Paren _ _) ∙ ap (λ x. count (expression_of x)) (sym c.get.ensures)) c.expression_left.ensures

pub expression_left-returns-in_err-left-in-Not : goal.expression_left-returns-in_err-left-in-Not
expression_left-returns-in_err-left-in-Not t c = rw c.from_residual-in_err-left-in-Not.ensures (one_over _ _ _ (ap count (ap expression_of c.in-Not.is ∙ expression_of-Not _ _)) c.in_err-left-in-Not.ensures)

pub expression_left-returns-in_ok-left-in-Not : goal.expression_left-returns-in_ok-left-in-Not
expression_left-returns-in_ok-left-in-Not t c =
    let same = ap (λ x. count (expression_of x)) c.get-in-Not.ensures in
    one_left _ _ _ _ _ (ap count (ap expression_of c.in-Not.is ∙ expression_of-Not _ _)) c.in_ok-left-in-Not.ensures (same_count _ _ _ _ (sym same) c.expression_left-in-Not.ensures)

pub expression_left-returns-then-is_int : goal.expression_left-returns-then-is_int
expression_left-returns-then-is_int t c = nothing_taken _ _ (literal_count _ _ _ _ c.in-Negate.is c.get-in-Negate.ensures _ c.is_int.ensures c.if-is_int.true)

pub expression_left-returns-in_err-left-in-Negate : goal.expression_left-returns-in_err-left-in-Negate
expression_left-returns-in_err-left-in-Negate t c =
    rw c.from_residual-in_err-left-in-Negate.ensures (one_over _ _ _ (negate_count _ _ _ _ c.in-Negate.is c.get-in-Negate.ensures _ c.is_int.ensures c.in-Negate.inner refl c.if-is_int.false) c.in_err-left-in-Negate.ensures)

pub expression_left-returns-in_ok-left-in-Negate : goal.expression_left-returns-in_ok-left-in-Negate
expression_left-returns-in_ok-left-in-Negate t c =
    one_left _ _ _ _ _ (negate_count _ _ _ _ c.in-Negate.is c.get-in-Negate.ensures _ c.is_int.ensures _ c.get-else-is_int.ensures c.if-is_int.false) c.in_ok-left-in-Negate.ensures c.expression_left-else-is_int.ensures

pub expression_left-returns-in_err-left-in-Chain : goal.expression_left-returns-in_err-left-in-Chain
expression_left-returns-in_err-left-in-Chain t c =
    rw c.from_residual-in_err-left-in-Chain.ensures (first_over _ _ _ _ (chain_count _ _ _ _ _ _ c.in-Chain.is c.get-in-Chain.ensures refl) c.in_err-left-in-Chain.ensures)

pub expression_left-returns-in_ok-left-in-Chain : goal.expression_left-returns-in_ok-left-in-Chain
expression_left-returns-in_ok-left-in-Chain t c =
    both_left _ _ _ _ _ _ (chain_count _ _ _ _ _ _ c.in-Chain.is c.get-in-Chain.ensures c.as_slice-in-Chain.ensures) c.in_ok-left-in-Chain.ensures c.tails_left.ensures

-- ---- what stands in them

pub tail_left-returns : goal.tail_left-returns
tail_left-returns t c = tail_left _ _ _ _ _ (ap count (tail_of-operand _)) c.in_ok-left.ensures c.expression_left.ensures

pub selector_left-returns-in-Index : goal.selector_left-returns-in-Index
selector_left-returns-in-Index t c =
    same_count _ _ _ _ (ap selector_count (ap selector_of c.in-Index.is ∙ selector_of-Index _ _) ∙ ap (λ es. index_operators (expressions_of es)) (sym c.as_slice.ensures)) c.indices_left.ensures

pub selector_left-returns-in-Field : goal.selector_left-returns-in-Field
selector_left-returns-in-Field t c = nothing_taken _ _ (ap selector_count (ap selector_of c.in-Field.is ∙ selector_of-Field _ _))

pub selector_left-returns-in-Target : goal.selector_left-returns-in-Target
selector_left-returns-in-Target t c = nothing_taken _ _ (ap selector_count (ap selector_of c.in-Target.is ∙ selector_of-Target _))

pub argument_left-returns-in-Positional : goal.argument_left-returns-in-Positional
argument_left-returns-in-Positional t c = same_count _ _ _ _ (ap argument_count (ap argument_of c.in-Positional.is ∙ argument_of-Positional _)) c.expression_left.ensures

pub argument_left-returns-in-Input : goal.argument_left-returns-in-Input
argument_left-returns-in-Input t c = same_count _ _ _ _ (ap argument_count (ap argument_of c.in-Input.is ∙ argument_of-Input _ _ _)) c.expression_left-in-Input.ensures

pub argument_left-returns-in-Output : goal.argument_left-returns-in-Output
argument_left-returns-in-Output t c =
    same_count _ _ _ _ (ap argument_count (ap argument_of c.in-Output.is ∙ output_is _ _ _ _) ∙ ap (λ ss. selector_operators (selectors_of ss)) (sym c.as_slice.ensures)) c.selectors_left.ensures

-- ---- lists of them

pub tails_left-loop-tail-preserved : goal.tails_left-loop-tail-preserved
tails_left-loop-tail-preserved t c =
    room_next (λ ts. tail_operators (tails_of ts)) c.args.tails.now c.args.room c.loop-tail.left c.loop-tail.tail-index c.tail-item.result (count (tail_of c.tail-item.result).2 + 1) _ c.loop-tail-test.true c.tail-item.is (tail_first (count (tail_of c.tail-item.result).2) (tail_operators (tails_of (drop (c.loop-tail.tail-index + 1) c.args.tails.now)))) c.in_ok-left.ensures c.loop-tail.invariant

pub tails_left-returns-in_err-left : goal.tails_left-returns-in_err-left
tails_left-returns-in_err-left t c =
    rw c.from_residual.ensures (room_over (λ ts. tail_operators (tails_of ts)) c.args.tails.now c.args.room c.loop-tail.left c.loop-tail.tail-index c.tail-item.result (count (tail_of c.tail-item.result).2 + 1) c.loop-tail-test.true c.tail-item.is (tail_first (count (tail_of c.tail-item.result).2) (tail_operators (tails_of (drop (c.loop-tail.tail-index + 1) c.args.tails.now)))) c.in_err-left.ensures c.loop-tail.invariant)

pub tails_left-returns : goal.tails_left-returns
tails_left-returns t c = room_ended (λ ts. tail_operators (tails_of ts)) c.args.tails.now c.args.room c.loop-tail.left c.loop-tail.tail-index refl c.loop-tail-test.false c.loop-tail.invariant

pub indices_left-loop-index-preserved : goal.indices_left-loop-index-preserved
indices_left-loop-index-preserved t c =
    room_next (λ es. index_operators (expressions_of es)) c.args.indices.now c.args.room c.loop-index.left c.loop-index.index-index c.index-item.result (count (expression_of c.index-item.result)) _ c.loop-index-test.true c.index-item.is refl c.in_ok-left.ensures c.loop-index.invariant

pub indices_left-returns-in_err-left : goal.indices_left-returns-in_err-left
indices_left-returns-in_err-left t c =
    rw c.from_residual.ensures (room_over (λ es. index_operators (expressions_of es)) c.args.indices.now c.args.room c.loop-index.left c.loop-index.index-index c.index-item.result (count (expression_of c.index-item.result)) c.loop-index-test.true c.index-item.is refl c.in_err-left.ensures c.loop-index.invariant)

pub indices_left-returns : goal.indices_left-returns
indices_left-returns t c = room_ended (λ es. index_operators (expressions_of es)) c.args.indices.now c.args.room c.loop-index.left c.loop-index.index-index refl c.loop-index-test.false c.loop-index.invariant

pub selectors_left-loop-selector-preserved : goal.selectors_left-loop-selector-preserved
selectors_left-loop-selector-preserved t c =
    room_next (λ ss. selector_operators (selectors_of ss)) c.args.selectors.now c.args.room c.loop-selector.left c.loop-selector.selector-index c.selector-item.result (selector_count (selector_of c.selector-item.result)) _ c.loop-selector-test.true c.selector-item.is (selector_first (selector_of c.selector-item.result) (selectors_of (drop (c.loop-selector.selector-index + 1) c.args.selectors.now))) c.in_ok-left.ensures c.loop-selector.invariant

pub selectors_left-returns-in_err-left : goal.selectors_left-returns-in_err-left
selectors_left-returns-in_err-left t c =
    rw c.from_residual.ensures (room_over (λ ss. selector_operators (selectors_of ss)) c.args.selectors.now c.args.room c.loop-selector.left c.loop-selector.selector-index c.selector-item.result (selector_count (selector_of c.selector-item.result)) c.loop-selector-test.true c.selector-item.is (selector_first (selector_of c.selector-item.result) (selectors_of (drop (c.loop-selector.selector-index + 1) c.args.selectors.now))) c.in_err-left.ensures c.loop-selector.invariant)

pub selectors_left-returns : goal.selectors_left-returns
selectors_left-returns t c = room_ended (λ ss. selector_operators (selectors_of ss)) c.args.selectors.now c.args.room c.loop-selector.left c.loop-selector.selector-index refl c.loop-selector-test.false c.loop-selector.invariant

pub arguments_left-loop-argument-preserved : goal.arguments_left-loop-argument-preserved
arguments_left-loop-argument-preserved t c =
    room_next (λ xs. argument_operators (arguments_of xs)) c.args.arguments.now c.args.room c.loop-argument.left c.loop-argument.argument-index c.argument-item.result (argument_count (argument_of c.argument-item.result)) _ c.loop-argument-test.true c.argument-item.is (argument_first (argument_of c.argument-item.result) (arguments_of (drop (c.loop-argument.argument-index + 1) c.args.arguments.now))) c.in_ok-left.ensures c.loop-argument.invariant

pub arguments_left-returns-in_err-left : goal.arguments_left-returns-in_err-left
arguments_left-returns-in_err-left t c =
    rw c.from_residual.ensures (room_over (λ xs. argument_operators (arguments_of xs)) c.args.arguments.now c.args.room c.loop-argument.left c.loop-argument.argument-index c.argument-item.result (argument_count (argument_of c.argument-item.result)) c.loop-argument-test.true c.argument-item.is (argument_first (argument_of c.argument-item.result) (arguments_of (drop (c.loop-argument.argument-index + 1) c.args.arguments.now))) c.in_err-left.ensures c.loop-argument.invariant)

pub arguments_left-returns : goal.arguments_left-returns
arguments_left-returns t c = room_ended (λ xs. argument_operators (arguments_of xs)) c.args.arguments.now c.args.room c.loop-argument.left c.loop-argument.argument-index refl c.loop-argument-test.false c.loop-argument.invariant
