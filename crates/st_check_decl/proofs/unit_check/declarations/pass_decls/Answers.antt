use Rattle.std.proofs.lemmas.Result.{err_from_is_err_and}
use Rattle.st_check_decl.proofs.unit_check.DeclsLaws.{decls_bad, decls_begun, decls_ended, decls_next}
use Rattle.st_check_decl.proofs.unit_check.declarations.pass_decls.Goals as goal

pub loop-decl-init : goal.loop-decl-init
loop-decl-init c = decls_begun c.args.side.now.tables.now.decls _ _

pub loop-decl-preserved : goal.loop-decl-preserved
loop-decl-preserved c = decls_next c.args.side.now.tables.now.decls _ _ _ c.args.decls.now c.loop-decl.decl-index c.decl-item.result c.loop-decl-test.true c.decl-item.is c.loop-decl.invariant c.in_ok-pass_decl.ensures.passed

pub returns-in_err-pass_decl-clause-bad : goal.returns-in_err-pass_decl-clause-bad
returns-in_err-pass_decl-clause-bad c = let p = err_from_is_err_and c.from_residual.result c.from_residual.ensures.1 in rw (p.1, p.2) (decls_bad c.args.side.now.tables.now.decls _ _ _ c.args.decls.now c.loop-decl.decl-index c.decl-item.result c.loop-decl-test.true c.decl-item.is c.loop-decl.invariant c.in_err-pass_decl.ensures.bad)

pub returns-clause-passed : goal.returns-clause-passed
returns-clause-passed c = decls_ended c.args.side.now.tables.now.decls _ _ c.args.decls.now c.loop-decl.decl-index c.loop-decl-test.false c.loop-decl.invariant
