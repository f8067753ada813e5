use Rattle.st_rules.specs.Scope.{is_of_instance}
use Rattle.check_limits.proofs.type_sizes.RoundLaws.{kinds_next}
use Rattle.check_limits.proofs.type_sizes.rounds.variables_size.Goals as goal

pub loop-variable-preserved : goal.loop-variable-preserved
loop-variable-preserved c =
    kinds_next (λ v. v.kind) is_of_instance c.args.levels.now c.args.variables.now c.loop-variable.size c.with_variable-size.result c.loop-variable.variable-index c.variable-item.result c.loop-variable-test.true
    c.variable-item.is (λ s ts a h. c.with_variable-size.ensures s ts a h) c.loop-variable.invariant
