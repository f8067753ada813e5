use Rattle.std.proofs.Common.{refl, nat_eq}
use Rattle.check_names.specs.name_spaces.NamesIn.{names_of}
use Rattle.check_configurations.proofs.configuration_rules.ConfigurationLaws.{faults_told, regions_made, regions_taken}
use Rattle.check_configurations.proofs.configuration_rules.configurations.check_configuration.Goals as goal

pub returns-clause-fault : goal.returns-clause-fault
returns-clause-fault c = λ x h at.
    faults_told x c.args.tables.now.decls c.args.configuration.now c.args.before.now c.args.taken.now c.check_instances.new.taken c.args.programs.now (nat_eq c.args.earlier_configurations 0) c.args.earlier_configurations
    c.as_slice-instances.result.now c.in_ok-checked.checked refl c.as_slice-instances.ensures h at c.in_ok-checked.ensures
    c.earlier-least.result c.earlier-own.result c.earlier-named.result c.in_ok-name.name c.when-second.result c.in_ok-inner.inner (names_of c.names.result.now)
    c.earlier-least.ensures c.earlier-own.ensures c.earlier-named.ensures c.in_ok-name.ensures c.when-second.ensures c.in_ok-inner.ensures (c.names.ensures c.args.tables.now.decls h)

pub returns-clause-taken : goal.returns-clause-taken
returns-clause-taken c = λ x h at.
    regions_taken x c.args.tables.now.decls c.args.configuration.now c.args.before.now c.args.taken.now c.check_instances.new.taken c.args.programs.now (nat_eq c.args.earlier_configurations 0) c.args.earlier_configurations
    c.as_slice-instances.result.now c.in_ok-checked.checked refl c.as_slice-instances.ensures h at c.in_ok-checked.ensures

pub returns-clause-regions : goal.returns-clause-regions
returns-clause-regions c = λ x h at.
    regions_made x c.args.tables.now.decls c.args.configuration.now c.args.before.now c.args.taken.now c.check_instances.new.taken c.args.programs.now (nat_eq c.args.earlier_configurations 0) c.args.earlier_configurations
    c.as_slice-instances.result.now c.in_ok-checked.checked refl c.as_slice-instances.ensures h at c.in_ok-checked.ensures
