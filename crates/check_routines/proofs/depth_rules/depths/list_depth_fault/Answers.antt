use Rattle.st_unit_rules.specs.DeclarationRules.{item_too_deep}
use Rattle.check_names.proofs.name_rules.FaultLists.{faults_next, faults_ended}
use Rattle.check_routines.proofs.depth_rules.depths.list_depth_fault.Goals as goal

pub loop-item-preserved : goal.loop-item-preserved
loop-item-preserved c =
    faults_next (item_too_deep c.args.graph.now.decls c.args.s.now) c.args.items.now _ _ _ _ _ c.loop-item-test.true c.item-item.is c.in_ok-one.ensures c.earlier-found.ensures c.loop-item.invariant

pub returns : goal.returns
returns c = faults_ended (item_too_deep c.args.graph.now.decls c.args.s.now) c.args.items.now _ _ c.loop-item-test.false c.loop-item.invariant
