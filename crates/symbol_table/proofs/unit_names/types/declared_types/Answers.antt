use Rattle.std.proofs.Common.{◌+◌, ◌++◌, drop, sym, ap, ◌∙◌}
use Rattle.st_rules.proofs.ListLaws.{drop-at}
use Rattle.st_unit_rules.specs.declared_names.UnitNames.{types_declared}
use Rattle.symbol_table.specs.unit_names.Private.Known.{decls_of, names_of}
use Rattle.symbol_table.proofs.unit_names.types.declared_types.Goals as goal

pub loop-decl-preserved : goal.loop-decl-preserved
loop-decl-preserved c =
    let decls = c.args.decls.now in
    let k = c.args.known.now in
    let i = c.loop-decl.decl-index in
    c.in_ok-next.ensures (drop (i + 1) decls)
    ∙ ap (λ ds. c.loop-decl.list ++ types_declared (decls_of k) (names_of k) c.loop-decl.next.entry c.loop-decl.next.class c.loop-decl.next.interface ds) (sym (drop-at decls i c.decl-item.result c.loop-decl-test.true c.decl-item.is))
    ∙ c.loop-decl.invariant
