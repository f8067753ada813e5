use Rattle.st_check_decl.proofs.unit_check.ConfigurationLaws.{all_names, names_joined}
use Rattle.st_check_decl.proofs.unit_check.configurations.configuration_names.Goals as goal

pub returns : goal.returns
returns c = all_names c.args.configuration.now _ _ _ c.as_slice.ensures c.resource_globals.ensures (names_joined _ _ _ _ _ _ c.in_ok-list.ensures.names c.in_ok-behind.ensures.names c.deref.ensures.value c.in_ok-add_names.ensures)
