use Rattle.st_check_decl.proofs.unit_check.ConfigurationLaws.{configures}
use Rattle.st_check_decl.proofs.unit_check.configurations.check_configured.Goals as goal

pub returns : goal.returns
returns c =
    let h = c.requires.programs in
    configures c.args.side.now.tables.now.decls c.args.configuration.now c.args.checked.now _ _ _ _ (λ y s. c.in_ok-found.ensures.fault y h s) (λ y s. c.in_ok-found.ensures.taken y h s) (λ y s. c.in_ok-found.ensures.regions y h s) c.in_ok-append.ensures
