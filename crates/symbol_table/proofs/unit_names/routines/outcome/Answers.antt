use Rattle.std.proofs.Common.{sym, ap, ◌∙◌}
use Rattle.st_rules.specs.declared.signature.ResultType.TheVariants as outcome
use Rattle.st_unit_rules.specs.declared_names.WrittenTypes.{type_written}
use Rattle.st_unit_rules.specs.declared_names.UnitNames.{result_written}
use Rattle.symbol_table.specs.unit_names.Private.Known.{within}
use Rattle.symbol_table.proofs.unit_names.routines.outcome.Goals as goal

pub returns-in_ok-kind-in-Some : goal.returns-in_ok-kind-in-Some
returns-in_ok-kind-in-Some c =
    let a = c.args.around.now in
    let vs = c.args.locals.now in
    ap outcome.Written (c.in_ok-kind-in-Some.ensures ∙ ap (λ t. type_written t c.in-Some.spec) c.in_ok-s-in-Some.ensures)
    ∙ ap (result_written (within a vs)) (sym c.in-Some.is)
