use Rattle.std.proofs.lemmas.Result.{err_from_is_err_and}
use Rattle.std.proofs.Common.{refl, map, ap, ◌∙◌}
use Rattle.st_tree.specs.declared.configuration.InstanceSpec.{InstanceSpec}
use Rattle.st_unit_rules.specs.declaration_list.Written.{global_of}
use Rattle.check_names.specs.name_spaces.NamesIn.{names_of}
use Rattle.st_check_decl.proofs.unit_check.ConfigurationLaws.{configured_fail_of, configured_fails, configured_globals_fail, configured_pass_of, configured_passes}
use Rattle.st_check_decl.proofs.unit_check.configurations.pass_configured.Goals as goal

pub returns-clause-passed : goal.returns-clause-passed
returns-clause-passed c =
    configured_pass_of _ _ c.args.configuration.now c.args.fault c.args.faults.now _ _ c.graph-graph.ensures
    (configured_passes _ c.args.configuration.now c.args.fault c.args.faults.now _ _ c.in_ok-pass_configuration.ensures.passed _ (ap (map global_of) c.deref.ensures.value ∙ c.in_ok-names.ensures) _ _ _ c.in_ok-pass_globals.ensures.passed
    (ap names_of c.deref-2.ensures.value ∙ c.in_ok-instances.ensures ∙ ap (map (λ (i : InstanceSpec). i.name)) c.as_slice.ensures) c.in_ok-pass_names.ensures refl)

pub returns-in_err-pass_configuration-clause-bad : goal.returns-in_err-pass_configuration-clause-bad
returns-in_err-pass_configuration-clause-bad c = let p = err_from_is_err_and c.from_residual.result c.from_residual.ensures.1 in rw (p.1, p.2) (configured_fail_of _ _ c.args.configuration.now c.args.fault c.args.faults.now _ _ c.graph-graph.ensures (configured_fails _ c.args.configuration.now c.args.fault c.args.faults.now _ _ c.in_err-pass_configuration.ensures.bad))

pub returns-in_err-pass_globals-clause-bad : goal.returns-in_err-pass_globals-clause-bad
returns-in_err-pass_globals-clause-bad c = let p = err_from_is_err_and c.from_residual-in_err-pass_globals.result c.from_residual-in_err-pass_globals.ensures.1 in rw (p.1, p.2) (configured_fail_of _ _ c.args.configuration.now c.args.fault c.args.faults.now _ _ c.graph-graph.ensures (configured_globals_fail _ c.args.configuration.now c.args.fault c.args.faults.now _ _ c.in_ok-pass_configuration.ensures.passed _ (ap (map global_of) c.deref.ensures.value ∙ c.in_ok-names.ensures) _ c.in_err-pass_globals.ensures.bad))
