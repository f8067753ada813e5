use Rattle.std.proofs.Common.{sym, ◌∙◌}
use Rattle.check_regions.proofs.region_rules.SumLaws.{sums_added, sums_passed, sums_ended}
use Rattle.check_regions.proofs.region_rules.programs.program_values.Goals as goal
use Rattle.check_regions.proofs.region_rules.programs.program_values.Goals.{then-is_of_instance, else-is_of_instance}

pub loop-variable-preserved : goal.loop-variable-preserved
loop-variable-preserved c = elim c.if-is_of_instance.branch [
  | then-is_of_instance w ↦
      sums_added c.args.sizes.now c.args.locals.now c.loop-variable.sum c.loop-variable.variable-index c.variable-item.result c.loop-variable-test.true c.variable-item.is c.loop-variable.invariant
      c.if-is_of_instance.sum w.values_of.result (sym c.is_of_instance.ensures ∙ w.if-is_of_instance.true) w.values_of.ensures (w.sum-is ∙ w.saturating_add-sum.ensures)
  | else-is_of_instance w ↦
      sums_passed c.args.sizes.now c.args.locals.now c.loop-variable.sum c.loop-variable.variable-index c.variable-item.result c.loop-variable-test.true c.variable-item.is c.loop-variable.invariant
      c.if-is_of_instance.sum (sym c.is_of_instance.ensures ∙ w.if-is_of_instance.false) w.sum-is
]

pub returns : goal.returns
returns c = sums_ended c.args.sizes.now c.args.locals.now c.loop-variable.sum c.loop-variable.variable-index c.loop-variable-test.false c.loop-variable.invariant
