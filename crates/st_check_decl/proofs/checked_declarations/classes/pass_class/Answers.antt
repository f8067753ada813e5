use Rattle.std.proofs.lemmas.Result.{err_from_is_err_and}
use Rattle.st_unit_rules.specs.declared_names.Declarations.{a_class}
use Rattle.st_check_decl.proofs.checked_declarations.PassLaws.{class_bad, class_good, common_of}
use Rattle.st_check_decl.proofs.checked_declarations.classes.pass_class.Goals as goal

pub returns-clause-passed : goal.returns-clause-passed
returns-clause-passed c = class_good c.args.tables.now.decls _ c.args.class.now _ _ _ _ _ (common_of _ _ _ (a_class c.args.class.now) _ c.graph.ensures c.common_fault-common.ensures) c.too_many_classes-many.ensures c.in_ok-found.ensures c.earlier-own.ensures c.earlier.ensures _ c.in_ok-add_class.ensures c.in_ok-settle.ensures.good c.in_ok-settle.ensures.passed

pub returns-in_err-settle-clause-bad : goal.returns-in_err-settle-clause-bad
returns-in_err-settle-clause-bad c = let p = err_from_is_err_and c.from_residual-in_err-settle.result c.from_residual-in_err-settle.ensures.1 in rw (p.1, p.2) (class_bad c.args.tables.now.decls _ c.args.class.now _ _ _ _ _ (common_of _ _ _ (a_class c.args.class.now) _ c.graph.ensures c.common_fault-common.ensures) c.too_many_classes-many.ensures c.in_ok-found.ensures c.earlier-own.ensures c.earlier.ensures _ c.in_err-settle.ensures.bad)
