use Rattle.std.proofs.Common.{false, None}
use Rattle.st_check_expr.proofs.OkLaws.{when_ok}
use Rattle.check_routines.proofs.function_rules.PartLaws.{serves_scope, own_locals}
use Rattle.check_routines.proofs.function_rules.FunctionLaws.{function_checks}
use Rattle.check_routines.proofs.function_rules.functions.check_function.Goals as goal

pub check_in-requires-clause-parts : goal.check_in-requires-clause-parts
check_in-requires-clause-parts c = serves_scope _ c.args.tables.now.decls None false _ _ c.parts_of-parts.ensures.serves c.in_ok-s.ensures

pub check_in-requires-clause-locals : goal.check_in-requires-clause-locals
check_in-requires-clause-locals c = own_locals c.args.tables.now.decls None false _ _ c.in_ok-s.ensures

pub returns : goal.returns
returns c = when_ok c.check_in.result c.check_in.ensures (λ x w. function_checks x c.args.tables.now.decls _ c.args.function.now _ _ _ _ c.parts_of-parts.ensures.unit c.as_slice-sections.ensures c.in_ok-list.ensures c.as_slice-locals.ensures c.in_ok-s.ensures w)
