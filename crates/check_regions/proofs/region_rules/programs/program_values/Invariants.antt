use Rattle.check_regions.proofs.region_rules.SumLaws.{Sums}
use Rattle.check_regions.proofs.region_rules.programs.program_values.Given as goal

abbrev pub invariant-loop-variable : goal.invariant-loop-variable
invariant-loop-variable l = Sums l.sizes l.locals l.sum l.variable-index
