use Rattle.check_routines.proofs.depth_rules.DepthLaws.{there}
use Rattle.check_routines.proofs.depth_rules.depths.result_depth_fault.Goals as goal

pub returns-in_ok-found-in-Some : goal.returns-in_ok-found-in-Some
returns-in_ok-found-in-Some c = there c.args.graph.now.decls c.args.s.now c.args.line c.args.spec.now _ _ c.in-Some.is c.in_ok-found-in-Some.ensures
