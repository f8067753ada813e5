use Rattle.check_routines.proofs.method_rules.MethodLaws.{prototype_in}
use Rattle.check_routines.proofs.method_rules.prototypes.check_in.Goals as goal

pub returns : goal.returns
returns c = prototype_in _ c.args.parts.now.graph.now.decls c.args.s.now c.args.method.now _ _ _ c.as_slice-sections.ensures c.in_ok-name.ensures c.in_ok-found.ensures c.prototype_of.ensures
