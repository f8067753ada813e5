use Rattle.std.proofs.Common.{ap, ◌∙◌}
use Rattle.st_unit_rules.specs.declared_names.UnitNames.{names_told}
use Rattle.declared_symbols.proofs.unit_untold.ClassLaws.{all_untold}
use Rattle.declared_symbols.proofs.unit_untold.names.unit_untold.Goals as goal

pub returns : goal.returns
returns c =
    all_untold c.as_slice-decls.result.now _ c.in_ok-types.ensures c.in_ok-parts.ensures c.in_ok-classes.ensures c.in_ok-interfaces.ensures c.in_ok-globals.ensures
    ∙ ap (λ ds. names_told ds 0) c.as_slice-decls.ensures
