use Rattle.std.proofs.Common.{ap, ◌∙◌}
use Rattle.std.specs.Prelude.{flat_map}
use Rattle.st_rules.specs.Faults.{least}
use Rattle.st_rules.specs.Numbered.{each_numbered}
use Rattle.st_unit_rules.specs.ConfigurationRules.{task_faults, instance_faults, tasks_and_instances}
use Rattle.st_unit_rules.specs.NameRules.{texts}
use Rattle.check_names.specs.name_spaces.NamesIn.{names_of}
use Rattle.check_configurations.specs.config_rules.Private.Names.{task_names}
use Rattle.check_configurations.proofs.config_rules.ConfigLaws.{pair_told}
use Rattle.check_configurations.proofs.config_rules.tasks.tasks_and_instances.Goals as goal

pub returns : goal.returns
unfolding tasks_and_instances
returns c =
    let programs = texts (names_of c.args.programs.now) in
    let all = c.args.configuration.now in
    pair_told c.earlier.result c.in_ok-of_tasks.of_tasks c.in_ok-of_instances.of_instances (each_numbered (task_faults all.instances) 0 all.tasks) (flat_map (instance_faults (task_names all.tasks) programs) all.instances) c.earlier.ensures
    (c.in_ok-of_tasks.ensures ∙ ap (λ xs. least (each_numbered (task_faults xs) 0 c.as_slice-tasks.result.now)) c.as_slice-instances.ensures ∙ ap (λ ts. least (each_numbered (task_faults all.instances) 0 ts)) c.as_slice-tasks.ensures)
    (c.in_ok-of_instances.ensures ∙ ap (λ xs. least (flat_map (instance_faults (task_names c.as_slice-tasks.result.now) programs) xs)) c.as_slice-instances.ensures ∙ ap (λ ts. least (flat_map (instance_faults (task_names ts) programs) all.instances)) c.as_slice-tasks.ensures)
