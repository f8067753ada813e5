use Rattle.check_names.proofs.name_rules.FaultLists.{FaultsTo}
use Rattle.check_names.specs.member_names.Private.Above.{names_above, variable_above}
use Rattle.check_names.proofs.member_names.above.variables_fault.Given as goal

abbrev pub invariant-loop-name : goal.invariant-loop-name
invariant-loop-name l = FaultsTo (λ n. (variable_above (names_above l.names.variables.items l.above) (names_above l.names.methods.items l.above)) n.now) l.list l.found l.name-index
