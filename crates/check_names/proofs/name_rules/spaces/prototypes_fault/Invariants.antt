use Rattle.check_names.specs.name_rules.Spaces.{prototype_locals}
use Rattle.check_names.proofs.name_rules.FaultLists.{FaultsTo}
use Rattle.check_names.proofs.name_rules.spaces.prototypes_fault.Given as goal

abbrev pub invariant-loop-method : goal.invariant-loop-method
invariant-loop-method l = FaultsTo prototype_locals l.methods l.found l.method-index
