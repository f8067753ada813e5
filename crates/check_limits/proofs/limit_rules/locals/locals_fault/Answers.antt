use Rattle.std.proofs.Common.{◌≡◌, ◌+◌, refl, ap, arith, sym, ◌∙◌}
use Rattle.std.specs.Prelude.{filter}
use Rattle.st_unit_rules.specs.DeclarationRules.{is_local}
use Rattle.st_unit_rules.specs.Limits.{all_values}
use Rattle.check_limits.specs.type_sizes.Size.{capped}
use Rattle.check_limits.proofs.limit_rules.SumLaws.{sums_added, sums_passed, sums_ended}
use Rattle.check_limits.proofs.limit_rules.locals.locals_fault.Goals as goal
use Rattle.check_limits.proofs.limit_rules.locals.locals_fault.Goals.{then-is_local, else-is_local}

pub loop-variable-preserved : goal.loop-variable-preserved
loop-variable-preserved c = elim c.if-is_local.branch [
  | then-is_local w ↦
      sums_added c.args.sizes.now is_local 0 c.args.locals.now c.loop-variable.sum c.loop-variable.variable-index c.variable-item.result c.loop-variable-test.true c.variable-item.is c.loop-variable.invariant
      c.if-is_local.sum w.variable_values.result (sym c.is_local.ensures ∙ w.if-is_local.true) w.variable_values.ensures (w.sum-is ∙ w.saturating_add-sum.ensures)
  | else-is_local w ↦
      sums_passed c.args.sizes.now is_local 0 c.args.locals.now c.loop-variable.sum c.loop-variable.variable-index c.variable-item.result c.loop-variable-test.true c.variable-item.is c.loop-variable.invariant
      c.if-is_local.sum (sym c.is_local.ensures ∙ w.if-is_local.false) w.sum-is
]

pub returns : goal.returns
returns c = λ s m.
    let n : 0 + all_values s (filter is_local c.args.locals.now) ≡ all_values s (filter is_local c.args.locals.now) = omega arith in
    c.too_many_locals.ensures _ (sums_ended c.args.sizes.now is_local 0 c.args.locals.now c.loop-variable.sum c.loop-variable.variable-index c.loop-variable-test.false c.loop-variable.invariant s m 0 refl ∙ ap capped n)
