use Rattle.check_routines.proofs.routine_rules.RoutineLaws.{limits_found}
use Rattle.check_routines.proofs.routine_rules.limits.limits_fault.Goals as goal

pub returns : goal.returns
returns c =
    limits_found c.args.parts.now.graph.now.decls c.args.s.now c.args.line c.args.spec.now c.args.sections.now _ _ _ _ _ _ _ _ _ c.as_slice-names.ensures.value c.in_ok-list.ensures.names c.in_ok-list.ensures.written c.in_ok-cycles.ensures c.parameters_fault-many.ensures c.in_ok-items.ensures c.in_ok-deep.ensures c.earlier.ensures c.earlier-2.ensures c.earlier-3.ensures
