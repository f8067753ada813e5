use Rattle.st_tree.specs.Expression.{expression_of}
use Rattle.st_values.specs.View.{program_of}
use Rattle.body_uses.proofs.StatementLaws.{attempt_goes}
use Rattle.body_uses.proofs.statements.add_attempt.Goals as goal

pub returns : goal.returns
returns c =
    attempt_goes (program_of c.args.c.tables.now) c.expression_note.result.now (expression_of c.args.value.now) _ _ _ _ c.expression_note.ensures (c.in_ok-add_tried.ensures (program_of c.args.c.tables.now)) c.in_ok-add_assigned.ensures
