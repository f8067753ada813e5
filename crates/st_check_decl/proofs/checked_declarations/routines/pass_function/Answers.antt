use Rattle.std.proofs.lemmas.Result.{err_from_is_err_and}
use Rattle.st_unit_rules.specs.declared_names.Declarations.{a_function}
use Rattle.st_check_decl.proofs.checked_declarations.PassLaws.{common_of, function_bad, function_good}
use Rattle.st_check_decl.proofs.checked_declarations.routines.pass_function.Goals as goal

pub returns-clause-passed : goal.returns-clause-passed
returns-clause-passed c = function_good c.args.tables.now.decls _ c.args.function.now _ _ _ (common_of _ _ _ (a_function c.args.function.now) _ c.graph.ensures c.common_fault-common.ensures) c.in_ok-found.ensures c.earlier.ensures _ c.in_ok-add_function.ensures c.in_ok-settle.ensures.good c.in_ok-settle.ensures.passed

pub returns-in_err-settle-clause-bad : goal.returns-in_err-settle-clause-bad
returns-in_err-settle-clause-bad c = let p = err_from_is_err_and c.from_residual-in_err-settle.result c.from_residual-in_err-settle.ensures.1 in rw (p.1, p.2) (function_bad c.args.tables.now.decls _ c.args.function.now _ _ _ (common_of _ _ _ (a_function c.args.function.now) _ c.graph.ensures c.common_fault-common.ensures) c.in_ok-found.ensures c.earlier.ensures _ c.in_err-settle.ensures.bad)
