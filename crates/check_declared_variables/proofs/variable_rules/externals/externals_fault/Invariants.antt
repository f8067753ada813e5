use Rattle.check_names.proofs.name_rules.FaultLists.{FaultsTo}
use Rattle.check_declared_variables.specs.variable_rules.Private.Externals.{name_faults}
use Rattle.check_declared_variables.proofs.variable_rules.externals.externals_fault.Given as goal

abbrev pub invariant-loop-name : goal.invariant-loop-name
invariant-loop-name l = FaultsTo (name_faults l.names.names l.line l.kind) l.list l.found l.name-index
