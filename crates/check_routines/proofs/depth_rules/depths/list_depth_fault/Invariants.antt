use Rattle.st_unit_rules.specs.DeclarationRules.{item_too_deep}
use Rattle.check_names.proofs.name_rules.FaultLists.{FaultsTo}
use Rattle.check_routines.proofs.depth_rules.depths.list_depth_fault.Given as goal

abbrev pub invariant-loop-item : goal.invariant-loop-item
invariant-loop-item l = FaultsTo (item_too_deep l.graph.decls l.s) l.items l.found l.item-index
