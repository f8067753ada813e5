use Rattle.std.proofs.Common.{◌+◌, ◌++◌, drop, sym, ap, ◌∙◌}
use Rattle.st_rules.proofs.ListLaws.{drop-at}
use Rattle.declared_symbols.specs.untold_names.Untold.{untold_globals}
use Rattle.declared_symbols.proofs.untold_names.globals.untold_globals.Goals as goal

pub loop-decl-preserved : goal.loop-decl-preserved
loop-decl-preserved c =
    let decls = c.args.decls.now in
    let i = c.loop-decl.decl-index in
    c.in_ok-next.ensures (drop (i + 1) decls)
    ∙ ap (λ ds. c.loop-decl.list ++ untold_globals c.loop-decl.next.region c.loop-decl.next.function ds) (sym (drop-at decls i c.decl-item.result c.loop-decl-test.true c.decl-item.is))
    ∙ c.loop-decl.invariant
