use Rattle.std.proofs.Common.{ap}
use Rattle.check_names.specs.name_spaces.NamesIn.{names_of}
use Rattle.check_routines.proofs.function_rules.ProgramLaws.{program_in}
use Rattle.check_routines.proofs.function_rules.programs.check_in.Goals as goal

pub returns : goal.returns
returns c =
    program_in _ c.args.parts.now.graph.now.decls c.args.s.now c.args.program.now _ _ _ _ _ _ _ _ _ c.as_slice-sections.ensures c.as_slice-text.ensures c.in_ok-list.ensures (ap names_of c.as_slice-all.ensures.value) c.in_ok-names.ensures c.in_ok-limits.ensures
    c.in_ok-name.ensures c.in_ok-found.ensures c.in_ok-body.ensures c.program_of.ensures
