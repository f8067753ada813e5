use Rattle.std.proofs.Common.{sym, ap, ◌∙◌}
use Rattle.st_unit_rules.specs.declared_names.WrittenTypes.{type_written}
use Rattle.st_unit_rules.specs.declared_names.UnitNames.{entry_kind}
use Rattle.symbol_table.specs.unit_names.Private.Known.{decls_of, names_of}
use Rattle.symbol_table.proofs.unit_names.types.entry_kind.Goals as goal

pub returns-in_ok-kind-in-Alias : goal.returns-in_ok-kind-in-Alias
returns-in_ok-kind-in-Alias c =
    let k = c.args.known.now in
    c.in_ok-kind-in-Alias.ensures
    ∙ ap (λ t. type_written t c.in-Alias.spec) c.in_ok-s-in-Alias.ensures
    ∙ ap (entry_kind (decls_of k) (names_of k) c.args.number) (sym c.in-Alias.is)
