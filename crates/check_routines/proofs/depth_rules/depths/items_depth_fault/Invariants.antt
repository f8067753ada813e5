use Rattle.check_names.proofs.name_rules.FaultLists.{FaultsTo}
use Rattle.check_routines.specs.depth_rules.Private.Depths.{section_too_deep}
use Rattle.check_routines.proofs.depth_rules.depths.items_depth_fault.Given as goal

abbrev pub invariant-loop-section : goal.invariant-loop-section
invariant-loop-section l = FaultsTo (section_too_deep l.graph.decls l.s) l.sections l.found l.section-index
