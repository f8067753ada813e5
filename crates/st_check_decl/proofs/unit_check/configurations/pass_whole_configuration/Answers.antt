use Rattle.std.proofs.lemmas.Result.{err_from_is_err_and}
use Rattle.std.proofs.Common.{refl}
use Rattle.st_check_decl.proofs.unit_check.ConfigurationLaws.{configuration_fails, configuration_passes, configured_fail_as, configured_pass_as}
use Rattle.st_check_decl.proofs.unit_check.DeclLaws.{adds_first}
use Rattle.st_check_decl.proofs.unit_check.configurations.pass_whole_configuration.Goals as goal

pub returns-clause-passed : goal.returns-clause-passed
returns-clause-passed c = configuration_passes c.args.side.now.tables.now.decls _ c.args.configuration.now _ _ _ _ (adds_first c.args.side.now.tables.now.decls _ _ _ _ _ c.new-faults.ensures.items c.in_ok-check_all_globals.ensures) c.in_ok-fault.ensures _ (configured_pass_as c.args.side.now.tables.now.decls c.args.configuration.now _ _ _ _ _ c.deref.ensures.value c.in_ok-pass_configured.ensures.passed) _ refl

pub returns-in_err-pass_configured-clause-bad : goal.returns-in_err-pass_configured-clause-bad
returns-in_err-pass_configured-clause-bad c = let p = err_from_is_err_and c.from_residual-in_err-pass_configured.result c.from_residual-in_err-pass_configured.ensures.1 in rw (p.1, p.2) (configuration_fails c.args.side.now.tables.now.decls _ c.args.configuration.now _ _ _ _ (adds_first c.args.side.now.tables.now.decls _ _ _ _ _ c.new-faults.ensures.items c.in_ok-check_all_globals.ensures) c.in_ok-fault.ensures _ (configured_fail_as c.args.side.now.tables.now.decls c.args.configuration.now _ _ _ _ _ c.deref.ensures.value c.in_err-pass_configured.ensures.bad))
