use Rattle.check_routines.proofs.depth_rules.DepthLaws.{depth_found}
use Rattle.check_routines.proofs.depth_rules.depths.type_depth_fault.Goals as goal

pub returns : goal.returns
returns c = depth_found c.args.graph.now.decls c.args.s.now c.args.sizes.now c.args.within c.args.line c.args.spec.now _ _ c.requires c.in_ok-found.ensures c.too_deep.ensures
