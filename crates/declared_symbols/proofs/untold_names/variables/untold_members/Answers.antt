use Rattle.std.proofs.Common.{◌+◌, ◌++◌, drop, map, sym, ap, ◌∙◌}
use Rattle.st_unit_rules.specs.declaration_list.Written.{written_of}
use Rattle.declared_symbols.specs.untold_names.Untold.{untold_members}
use Rattle.declared_symbols.proofs.untold_names.StepLaws.{written_at}
use Rattle.declared_symbols.proofs.untold_names.variables.untold_members.Goals as goal

pub loop-name-preserved : goal.loop-name-preserved
loop-name-preserved c =
    let names = c.args.names.now in
    let i = c.loop-name.name-index in
    c.in_ok-next.ensures (map written_of (drop (i + 1) names))
    ∙ ap (λ ws. c.loop-name.list ++ untold_members c.loop-name.next.variable c.loop-name.next.local ws) (sym (written_at names i c.name-item.result c.loop-name-test.true c.name-item.is))
    ∙ c.loop-name.invariant
