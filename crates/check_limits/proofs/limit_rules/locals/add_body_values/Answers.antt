use Rattle.std.proofs.Common.{sym, ◌∙◌}
use Rattle.st_rules.specs.Scope.{is_of_body}
use Rattle.check_limits.proofs.limit_rules.SumLaws.{sums_added, sums_passed, sums_ended}
use Rattle.check_limits.proofs.limit_rules.locals.add_body_values.Goals as goal
use Rattle.check_limits.proofs.limit_rules.locals.add_body_values.Goals.{then-is_of_body, else-is_of_body}

pub loop-variable-preserved : goal.loop-variable-preserved
loop-variable-preserved c = elim c.if-is_of_body.branch [
  | then-is_of_body w ↦
      sums_added c.args.sizes.now is_of_body c.args.before c.args.variables.now c.loop-variable.sum c.loop-variable.variable-index c.variable-item.result c.loop-variable-test.true c.variable-item.is c.loop-variable.invariant
      c.if-is_of_body.sum w.variable_values.result (sym c.is_of_body.ensures ∙ w.if-is_of_body.true) w.variable_values.ensures (w.sum-is ∙ w.saturating_add-sum.ensures)
  | else-is_of_body w ↦
      sums_passed c.args.sizes.now is_of_body c.args.before c.args.variables.now c.loop-variable.sum c.loop-variable.variable-index c.variable-item.result c.loop-variable-test.true c.variable-item.is c.loop-variable.invariant
      c.if-is_of_body.sum (sym c.is_of_body.ensures ∙ w.if-is_of_body.false) w.sum-is
]

pub returns : goal.returns
returns c = sums_ended c.args.sizes.now is_of_body c.args.before c.args.variables.now c.loop-variable.sum c.loop-variable.variable-index c.loop-variable-test.false c.loop-variable.invariant
