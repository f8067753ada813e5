use Rattle.std.proofs.Common.{ap, ◌∙◌}
use Rattle.st_tree.specs.Expression.{expression_of}
use Rattle.constant_folding.specs.constant_values.Noted.{noted_value}
use Rattle.constant_folding.proofs.constant_values.ValueLaws.{value-laws}
use Rattle.st_check_expr.proofs.ConstantLaws.{constant_found}
use Rattle.st_check_expr.proofs.constants.check_constant.Goals as goal

pub returns : goal.returns
returns c =
    constant_found c.args.s.now c.args.asked.now (expression_of c.args.e.now) _ _ _ _ _ _ _ _ _ c.in_ok-x.ensures.told c.in_ok-x.ensures.least c.in_ok-x.ensures.tree c.line_of.ensures c.value_fault-of_value.ensures c.constant_part_fault-of_parts.ensures c.operators_fault.ensures
    (c.noted_value-value.ensures ∙ ap noted_value c.in_ok-x.ensures.tree ∙ value-laws.value c.args.s.now c.args.asked.now (expression_of c.args.e.now))
    c.constant_by.ensures.told c.constant_by.ensures.least c.constant_by.ensures.tree c.constant_by.ensures.value c.constant_by.ensures.number
