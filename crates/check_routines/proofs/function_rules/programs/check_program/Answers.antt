use Rattle.std.proofs.Common.{false, None}
use Rattle.st_check_expr.proofs.OkLaws.{when_ok}
use Rattle.check_routines.proofs.function_rules.PartLaws.{serves_scope}
use Rattle.check_routines.proofs.function_rules.ProgramLaws.{program_checks}
use Rattle.check_routines.proofs.function_rules.programs.check_program.Goals as goal

pub check_in-requires : goal.check_in-requires
check_in-requires c = serves_scope _ c.args.tables.now.decls None false _ _ c.parts_of-parts.ensures.serves c.in_ok-s.ensures

pub returns : goal.returns
returns c = when_ok c.check_in.result c.check_in.ensures (λ x w. program_checks x c.args.tables.now.decls _ c.args.program.now _ _ _ _ c.parts_of-parts.ensures.unit c.as_slice-sections.ensures c.in_ok-list.ensures c.as_slice-variables.ensures c.in_ok-s.ensures w)
