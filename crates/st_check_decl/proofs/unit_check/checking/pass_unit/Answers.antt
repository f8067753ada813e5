use Rattle.std.proofs.lemmas.Result.{err_from_is_err_and}
use Rattle.st_check_decl.proofs.unit_check.DeclsLaws.{unit_failed, unit_passed}
use Rattle.st_check_decl.proofs.unit_check.checking.pass_unit.Goals as goal

pub returns-clause-good : goal.returns-clause-good
returns-clause-good c = unit_passed c.args.side.now.tables.now.decls c.args.decls.now _ c.in_ok-progress.ensures c.requires.unit _ c.in_ok-pass_decls.ensures.passed

pub returns-in_err-pass_decls-clause-bad : goal.returns-in_err-pass_decls-clause-bad
returns-in_err-pass_decls-clause-bad c = let p = err_from_is_err_and c.from_residual-in_err-pass_decls.result c.from_residual-in_err-pass_decls.ensures.1 in rw (p.1, p.2) (unit_failed c.args.side.now.tables.now.decls c.args.decls.now _ c.in_ok-progress.ensures c.requires.unit _ c.in_err-pass_decls.ensures.bad)
