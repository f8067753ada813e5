use Rattle.std.proofs.Common.{refl}
use Rattle.std.proofs.lemmas.Result.{err_from_is_err_and}
use Rattle.st_check_decl.proofs.checked_declarations.PassLaws.{configuration_bad, configuration_good}
use Rattle.st_check_decl.proofs.checked_declarations.globals.pass_configuration.Goals as goal

pub returns-clause-passed : goal.returns-clause-passed
returns-clause-passed c = configuration_good c.args.graph.now.decls _ _ _ _ c.earlier.ensures _ c.args.configuration.now c.common_fault-common.ensures refl c.in_ok-settle.ensures.good c.in_ok-settle.ensures.passed

pub returns-in_err-settle-clause-bad : goal.returns-in_err-settle-clause-bad
returns-in_err-settle-clause-bad c =
    let p = err_from_is_err_and c.from_residual.result c.from_residual.ensures.1 in rw (p.1, p.2) (configuration_bad c.args.graph.now.decls _ _ _ _ c.earlier.ensures c.args.configuration.now c.common_fault-common.ensures _ c.in_err-settle.ensures.bad)
