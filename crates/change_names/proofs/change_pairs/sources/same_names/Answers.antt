use Rattle.std.proofs.Common.{ap, ◌∙◌}
use Rattle.st_change.specs.From.{same_name}
use Rattle.program_tables.specs.st_initial.Variables.{variables_of}
use Rattle.change_names.specs.declared.change_pairs.sources.Pair.{Pair}
use Rattle.change_names.proofs.change_pairs.VariableLaws.{pairs_next, same_is}
use Rattle.change_names.proofs.change_pairs.sources.same_names.Goals as goal

pub loop-variable-preserved : goal.loop-variable-preserved
loop-variable-preserved c =
    let v = c.variable-item.result in
    let a : Pair = record { name = v.name; from = c.same_name-from.result } in
    pairs_next (same_name (variables_of c.args.old.now)) c.args.new.now c.loop-variable.variable-index c.loop-variable.pairs.items c.push.new.self.items v a c.loop-variable-test.true c.variable-item.is c.loop-variable.invariant c.in_ok-push.ensures.items
    (ap (λ o. (v.name.now, o)) (c.same_name-from.ensures ∙ same_is c.args.old.now c.in_ok-declared.declared c.in_ok-declared.ensures v))
