use Rattle.std.proofs.Common.{◌∙◌}
use Rattle.symbol_table.proofs.unit_names.KnownLaws.{routine_is}
use Rattle.symbol_table.proofs.unit_names.routines.declared_routine.Goals as goal

pub returns : goal.returns
returns c =
    routine_is c.args.around.now c.args.name.now.text c.args.of.now c.args.sections.now c.as_slice-locals.result.now (c.as_slice-locals.ensures ∙ c.in_ok-list.ensures) c.args.modifiers.now _ (c.in_ok-text.ensures ∙ c.as_str.ensures) c.method_access.ensures
    c.is_abstract.ensures c.in_ok-outcome.ensures c.in_ok-parameters.ensures
