use Rattle.st_unit_rules.specs.DeclarationRules.{is_local}
use Rattle.check_limits.proofs.limit_rules.SumLaws.{Sums}
use Rattle.check_limits.proofs.limit_rules.locals.locals_fault.Given as goal

abbrev pub invariant-loop-variable : goal.invariant-loop-variable
invariant-loop-variable l = Sums l.sizes is_local 0 l.locals l.sum l.variable-index
