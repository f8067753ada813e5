use Rattle.std.proofs.Common.{◌≡◌, drop, false}
use Rattle.st_tree.specs.Expression.{tails_of, selectors_of, expressions_of, arguments_of}
use Rattle.st_rules.specs.Faults.{least}
use Rattle.st_rules.specs.Expressions.{along_faults, typed_along, index_faults, typed_indices, argument_faults, typed_arguments}
use Rattle.check_places.specs.Standing.{standing}
use Rattle.check_nodes.specs.Slots.{slots}
use Rattle.st_check_expr.specs.Private.Rows.{Keeps, ahead_rest, row_rest}
use Rattle.st_check_expr.specs.Private.Along.{along_rest}
use Rattle.st_check_expr.specs.Private.Lists.{index_rest, argument_rest}
use Rattle.st_check_expr.proofs.walk.+check.Given as goal

-- what is left is looked at as all is
abbrev pub invariant-look_ahead-loop-tail : goal.invariant-look_ahead-loop-tail
invariant-look_ahead-loop-tail l = ahead_rest l.s l.passed l.asked (tails_of (drop l.tail-index l.tails)) ≡ ahead_rest l.s false l.asked (tails_of l.tails)

-- the row so far, with what is left, is the whole
abbrev pub invariant-check_tails-loop-tail : goal.invariant-check_tails-loop-tail
invariant-check_tails-loop-tail l = record {
  keeps : Keeps l.so_far.kept l.s (tails_of (drop l.tail-index l.tails));
  whole : row_rest l.s l.asked l.so_far.row (tails_of (drop l.tail-index l.tails)) ≡ row_rest l.s l.asked l.fn.front.row (tails_of l.tails);
}

abbrev pub invariant-check_along-loop-number : goal.invariant-check_along-loop-number
invariant-check_along-loop-number l = along_rest l.s l.line l.called l.so_far (selectors_of (drop l.number l.selectors)) ≡ ((least (along_faults l.s l.line l.called (standing l.b) (selectors_of l.selectors))), (typed_along l.s l.called (standing l.b) (selectors_of l.selectors)))

abbrev pub invariant-check_indices-loop-index : goal.invariant-check_indices-loop-index
invariant-check_indices-loop-index l = index_rest l.s l.so_far (expressions_of (drop l.index-index l.indices)) ≡ ((least (index_faults l.s (expressions_of l.indices))), (typed_indices l.s (expressions_of l.indices)))

abbrev pub invariant-check_arguments-loop-number : goal.invariant-check_arguments-loop-number
invariant-check_arguments-loop-number l = argument_rest l.s l.so_far (drop l.number (slots l.slots)) (arguments_of (drop l.number l.arguments)) ≡ ((least (argument_faults l.s (slots l.slots) (arguments_of l.arguments))), (typed_arguments l.s (slots l.slots) (arguments_of l.arguments)))
