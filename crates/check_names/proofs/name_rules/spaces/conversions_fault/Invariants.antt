use Rattle.check_names.specs.name_rules.Spaces.{conversion_of}
use Rattle.check_names.proofs.name_rules.FaultLists.{FaultsTo}
use Rattle.check_names.proofs.name_rules.spaces.conversions_fault.Given as goal

abbrev pub invariant-loop-name : goal.invariant-loop-name
invariant-loop-name l = FaultsTo conversion_of l.names l.found l.name-index
