use Rattle.st_rules.specs.Scope.{is_of_instance}
use Rattle.check_limits.proofs.type_sizes.RoundLaws.{KindsTo}
use Rattle.check_limits.proofs.type_sizes.rounds.variables_size.Given as goal

abbrev pub invariant-loop-variable : goal.invariant-loop-variable
invariant-loop-variable l = KindsTo (λ v. v.kind) is_of_instance l.levels l.variables l.size l.variable-index
