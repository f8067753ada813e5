use Rattle.std.proofs.Common.{true, Some}
use Rattle.st_check_expr.proofs.OkLaws.{when_ok}
use Rattle.check_routines.proofs.function_rules.PartLaws.{serves_scope, own_locals}
use Rattle.check_routines.proofs.method_rules.MethodLaws.{method_checks}
use Rattle.check_routines.proofs.method_rules.methods.check_method.Goals as goal

pub check_in-requires-clause-parts : goal.check_in-requires-clause-parts
check_in-requires-clause-parts c = serves_scope _ c.args.tables.now.decls (Some c.args.class) true _ _ c.parts_of-parts.ensures.serves c.in_ok-s.ensures

pub check_in-requires-clause-locals : goal.check_in-requires-clause-locals
check_in-requires-clause-locals c = own_locals c.args.tables.now.decls (Some c.args.class) true _ _ c.in_ok-s.ensures

pub returns : goal.returns
returns c = when_ok c.check_in.result c.check_in.ensures (λ x w. method_checks x c.args.tables.now.decls _ _ c.args.method.now _ _ _ _ c.parts_of-parts.ensures.unit c.as_slice-sections.ensures c.in_ok-list.ensures c.as_slice-locals.ensures c.in_ok-s.ensures w)
