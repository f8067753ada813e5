use Rattle.st_check_decl.proofs.unit_check.ConfigurationLaws.{all_added}
use Rattle.st_check_decl.proofs.unit_check.configurations.check_all_globals.Goals as goal

pub returns : goal.returns
returns c = all_added c.args.side.now.tables.now.decls c.args.configuration.now _ _ _ _ _ _ _ _ c.as_slice-own.ensures c.resource_globals-behind.ensures c.in_ok-check_globals.ensures c.in_ok-check_globals-2.ensures
