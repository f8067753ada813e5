use Rattle.std.proofs.Common.{◌++◌, ap, ◌∙◌}
use Rattle.std.specs.Prelude.{flat_map}
use Rattle.st_rules.specs.Faults.{least}
use Rattle.st_unit_rules.specs.NameRules.{declared_twice, name_of_conversion, space_faults}
use Rattle.check_names.specs.name_rules.Configurations.{instance_names, task_names, conversion_of_instance, own_texts}
use Rattle.check_names.proofs.name_rules.ConfigurationLaws.{conversions_are}
use Rattle.check_names.proofs.name_rules.FaultLists.{two_joined}
use Rattle.check_names.proofs.name_rules.configurations.configuration_name_fault.Goals as goal

pub returns : goal.returns
returns c = λ names h.
    let k = c.args.configuration.now in
    let twice = declared_twice (names ++ own_texts k) (instance_names k.instances) in
    let conversions = flat_map name_of_conversion (instance_names k.instances) in
    two_joined c.earlier.result c.in_ok-tasks.tasks c.earlier-2.result (twice ++ conversions) (space_faults (task_names k.tasks))
    (two_joined c.in_ok-twice.twice c.conversions_fault-conversion.result c.earlier.result twice conversions
    (c.in_ok-twice.ensures names (own_texts k) h c.in_ok-own.ensures ∙ ap (λ is. least (declared_twice (names ++ own_texts k) (instance_names is))) c.as_slice-instances.ensures)
    (c.conversions_fault-conversion.ensures ∙ ap (λ is. least (flat_map conversion_of_instance is)) c.as_slice-instances.ensures ∙ ap least (conversions_are k.instances)) c.earlier.ensures)
    (c.in_ok-tasks.ensures ∙ ap (λ ts. least (space_faults (task_names ts))) c.as_slice.ensures) c.earlier-2.ensures
