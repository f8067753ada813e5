use Rattle.std.proofs.Common.{◌+◌, ◌++◌, drop, map, sym, ap, ◌∙◌}
use Rattle.st_rules.proofs.ListLaws.{drop-at}
use Rattle.type_resolution.specs.declared_variables.Private.Told.{told_as, locals_told}
use Rattle.type_resolution.proofs.declared_variables.locals.add_numbered.Goals as goal

pub loop-name-preserved : goal.loop-name-preserved
loop-name-preserved c =
    let names = c.args.names.now in
    let i = c.loop-name.name-index in
    c.in_ok-next.ensures (map told_as (drop (i + 1) names))
    ∙ ap (λ xs. c.loop-name.list ++ locals_told c.loop-name.next.parameter c.loop-name.next.other (map told_as xs)) (sym (drop-at names i c.name-item.result c.loop-name-test.true c.name-item.is))
    ∙ c.loop-name.invariant
