use Rattle.st_unit_rules.specs.declared_names.Variables.{is_kept_written}
use Rattle.st_unit_rules.specs.declaration_list.Written.{global_of}
use Rattle.check_names.proofs.name_rules.FaultLists.{FaultsTo}
use Rattle.check_routines.specs.depth_rules.Private.Variables.{in_program, with_first}
use Rattle.check_routines.proofs.depth_rules.variables.kept_depth_fault.Given as goal

abbrev pub invariant-loop-name : goal.invariant-loop-name
invariant-loop-name l = FaultsTo (λ n. with_first is_kept_written (in_program l.graph.decls l.s l.line) (global_of n)) l.names l.found l.name-index
