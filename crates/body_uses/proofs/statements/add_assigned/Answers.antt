use Rattle.st_tree.specs.Expression.{expression_of}
use Rattle.st_values.specs.View.{program_of}
use Rattle.body_uses.proofs.StatementLaws.{assigned_goes}
use Rattle.body_uses.proofs.statements.add_assigned.Goals as goal

pub returns : goal.returns
returns c =
    assigned_goes (program_of c.args.c.tables.now) c.args.place.now c.as_slice.result.now (expression_of c.args.value.now) _ _ _ _ c.as_slice.ensures c.in_ok-add_changed.ensures c.in_ok-add_place.ensures c.in_ok-add_expression.ensures
