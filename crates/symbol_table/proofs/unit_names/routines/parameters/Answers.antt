use Rattle.std.proofs.Common.{refl}
use Rattle.std.specs.Prelude.{filter}
use Rattle.st_rules.specs.Calls.{is_parameter}
use Rattle.symbol_table.proofs.unit_names.KnownLaws.{split_next, split_ended, parameters_split}
use Rattle.symbol_table.proofs.unit_names.routines.parameters.Goals as goal

pub loop-variable-preserved : goal.loop-variable-preserved
loop-variable-preserved c =
    split_next (filter is_parameter) parameters_split c.args.locals.now c.loop-variable.variable-index c.variable-item.result c.loop-variable.list _ c.loop-variable-test.true c.variable-item.is c.in_ok-add_parameter.ensures c.loop-variable.invariant

pub returns : goal.returns
returns c = split_ended (filter is_parameter) refl c.args.locals.now c.loop-variable.variable-index c.loop-variable.list c.loop-variable-test.false c.loop-variable.invariant
