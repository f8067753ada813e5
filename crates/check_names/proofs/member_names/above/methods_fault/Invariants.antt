use Rattle.check_names.proofs.name_rules.FaultLists.{FaultsTo}
use Rattle.st_unit_rules.specs.NameRules.{method_named_as_variable}
use Rattle.check_names.specs.member_names.Private.Above.{names_above}
use Rattle.check_names.proofs.member_names.above.methods_fault.Given as goal

abbrev pub invariant-loop-name : goal.invariant-loop-name
invariant-loop-name l = FaultsTo (λ n. (method_named_as_variable (names_above l.names.variables.items l.above)) n.now) l.list l.found l.name-index
