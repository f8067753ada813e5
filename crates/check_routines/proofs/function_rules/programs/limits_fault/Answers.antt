use Rattle.check_routines.proofs.function_rules.ProgramLaws.{limits_found}
use Rattle.check_routines.proofs.function_rules.programs.limits_fault.Goals as goal

pub returns : goal.returns
returns c =
    limits_found c.args.parts.now.graph.now.decls c.args.s.now c.args.program.now _ _ _ _ _ _ _ _ c.as_slice-names.ensures.value c.as_slice-sections.ensures c.in_ok-list.ensures.names c.in_ok-cycles.ensures c.in_ok-kept.ensures c.in_ok-of_body.ensures c.earlier.ensures
    c.earlier-2.ensures
