use Rattle.st_rules.specs.Scope.{is_of_body}
use Rattle.check_limits.proofs.limit_rules.SumLaws.{Sums}
use Rattle.check_limits.proofs.limit_rules.locals.add_body_values.Given as goal

abbrev pub invariant-loop-variable : goal.invariant-loop-variable
invariant-loop-variable l = Sums l.sizes is_of_body l.before l.variables l.sum l.variable-index
