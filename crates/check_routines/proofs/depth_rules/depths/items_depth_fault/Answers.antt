use Rattle.std.proofs.Common.{ap, ◌∙◌}
use Rattle.st_rules.specs.Faults.{least}
use Rattle.check_names.proofs.name_rules.FaultLists.{faults_next, faults_ended}
use Rattle.check_routines.specs.depth_rules.Private.Depths.{section_too_deep}
use Rattle.check_routines.proofs.depth_rules.DepthLaws.{by_section}
use Rattle.check_routines.proofs.depth_rules.depths.items_depth_fault.Goals as goal

pub loop-section-preserved : goal.loop-section-preserved
loop-section-preserved c =
    faults_next (section_too_deep c.args.graph.now.decls c.args.s.now) c.args.sections.now _ _ _ _ _ c.loop-section-test.true c.section-item.is c.in_ok-own.ensures c.earlier-found.ensures c.loop-section.invariant

pub returns : goal.returns
returns c =
    faults_ended (section_too_deep c.args.graph.now.decls c.args.s.now) c.args.sections.now _ _ c.loop-section-test.false c.loop-section.invariant
    ∙ ap least (by_section c.args.graph.now.decls c.args.s.now c.args.sections.now)
