use Rattle.std.proofs.Common.{ℕ, ◌+◌, Option, sym, subst}
use Rattle.plc_text.specs.declared.code.Code.{Code}
use Rattle.st_unit_rules.specs.ConfigurationRules.{instance_faults, not_among}
use Rattle.st_unit_rules.specs.NameRules.{texts}
use Rattle.check_names.specs.name_spaces.NamesIn.{names_of}
use Rattle.check_configurations.specs.config_rules.Private.Names.{task_names}
use Rattle.check_configurations.proofs.config_rules.ConfigLaws.{FaultsTo, faults_next, pair_told}
use Rattle.check_configurations.proofs.config_rules.tasks.instances_fault.Goals as goal

pub loop-instance-preserved : goal.loop-instance-preserved
loop-instance-preserved c =
    let gives = instance_faults (task_names c.args.tasks.now) (texts (names_of c.args.programs.now)) in
    let x = c.instance-item.result in
    subst (λ (f : Option (Code × ℕ)). FaultsTo gives c.args.instances.now f (c.loop-instance.instance-index + 1)) (sym c.earlier-found.ensures)
    (faults_next gives c.args.instances.now c.loop-instance.found c.earlier.result c.loop-instance.instance-index x c.loop-instance-test.true c.instance-item.is
    (pair_told c.earlier.result c.not_among_tasks-task.result c.not_among_programs-program.result (not_among (task_names c.args.tasks.now) x.task) (not_among (texts (names_of c.args.programs.now)) x.program) c.earlier.ensures c.not_among_tasks-task.ensures c.not_among_programs-program.ensures)
    c.loop-instance.invariant)
