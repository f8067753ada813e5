use Rattle.check_classes.proofs.class_limit_rules.LimitLaws.{depths_found}
use Rattle.check_classes.proofs.class_limit_rules.limits.depths_fault.Goals as goal

pub returns : goal.returns
returns c =
    depths_found c.args.graph.now.decls c.args.s.now c.args.place c.args.class c.args.decl.now _ _ _ _ _ _ _ c.requires c.as_slice-members.ensures c.as_slice-names.ensures.value c.in_ok-list.ensures.names c.class_too_deep-own.ensures c.in_ok-of_body.ensures c.earlier.ensures
