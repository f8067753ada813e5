use Rattle.st_unit_rules.specs.declared_names.Variables.{is_body_written}
use Rattle.st_unit_rules.specs.declaration_list.Written.{global_of}
use Rattle.st_unit_rules.specs.DeclarationRules.{item_too_deep}
use Rattle.check_names.proofs.name_rules.FaultLists.{FaultsTo}
use Rattle.check_routines.specs.depth_rules.Private.Variables.{with_first}
use Rattle.check_routines.proofs.depth_rules.variables.body_depth_fault.Given as goal

abbrev pub invariant-loop-name : goal.invariant-loop-name
invariant-loop-name l = FaultsTo (λ n. with_first is_body_written (item_too_deep l.graph.decls l.s) (global_of n)) l.names l.found l.name-index
