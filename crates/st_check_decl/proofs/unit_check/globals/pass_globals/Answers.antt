use Rattle.std.proofs.lemmas.Result.{err_from_is_err_and}
use Rattle.st_check_decl.proofs.unit_check.GlobalLaws.{names_bad, names_begun, names_ended, names_next, names_short}
use Rattle.st_check_decl.proofs.unit_check.globals.pass_globals.Goals as goal

pub loop-name-init : goal.loop-name-init
loop-name-init c = names_begun c.args.graph.now.decls _ c.args.faults.now c.args.names.now

pub loop-name-preserved : goal.loop-name-preserved
loop-name-preserved c = names_next c.args.graph.now.decls _ c.args.faults.now c.args.names.now _ _ _ _ c.loop-name.name-index c.name-item.result c.loop-name-test.true c.name-item.is c.in-Some.ensures.cases.0 c.loop-name.invariant _ c.in_ok-pass_global.ensures.passed

pub returns-in_default-clause-passed : goal.returns-in_default-clause-passed
returns-in_default-clause-passed c = names_short c.args.graph.now.decls _ c.args.faults.now c.args.names.now _ _ c.loop-name.name-index c.name-item.result c.loop-name-test.true c.name-item.is c.in_default.ensures.cases c.loop-name.invariant

pub returns-in_err-pass_global-clause-bad : goal.returns-in_err-pass_global-clause-bad
returns-in_err-pass_global-clause-bad c = let p = err_from_is_err_and c.from_residual.result c.from_residual.ensures.1 in rw (p.1, p.2) (names_bad c.args.graph.now.decls _ c.args.faults.now c.args.names.now _ _ _ _ c.loop-name.name-index c.name-item.result c.loop-name-test.true c.name-item.is c.in-Some.ensures.cases.0 c.loop-name.invariant _ c.in_err-pass_global.ensures.bad)

pub returns-clause-passed : goal.returns-clause-passed
returns-clause-passed c = names_ended c.args.graph.now.decls _ c.args.faults.now c.args.names.now _ _ c.loop-name.name-index c.loop-name-test.false c.loop-name.invariant
