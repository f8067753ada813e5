use Rattle.st_tree.specs.Expression.{arguments_of}
use Rattle.st_values.specs.View.{program_of}
use Rattle.body_uses.proofs.UseLaws.{call_goes}
use Rattle.body_uses.proofs.expressions.add_whole_call.Goals as goal

pub returns : goal.returns
returns c =
    call_goes (program_of c.args.c.tables.now) c.args.place.now c.as_slice.result.now _ _ (arguments_of c.args.arguments.now) _ _ _ _ c.as_slice.ensures c.called-called.ensures c.called_parameters-parameters.ensures
    c.in_ok-add_head.ensures c.in_ok-add_place.ensures c.in_ok-add_arguments.ensures
