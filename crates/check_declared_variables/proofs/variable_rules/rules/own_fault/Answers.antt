use Rattle.std.proofs.Common.{ap, ◌∙◌}
use Rattle.std.specs.Prelude.{option_map}
use Rattle.st_tree.specs.Initial.{initial_of}
use Rattle.st_rules.specs.Faults.{least}
use Rattle.st_unit_rules.specs.VariableRules.{may_hold_instances, instance_out_of_place, instance_of_abstract_class, address_faults}
use Rattle.section_rules.specs.Home.{home_of}
use Rattle.section_rules.specs.Variables.{classes_of}
use Rattle.section_rules.proofs.Joined.{four_joined}
use Rattle.check_declared_variables.specs.variable_rules.Private.Rules.{constant_faults, may_be_located}
use Rattle.check_declared_variables.proofs.variable_rules.rules.own_fault.Goals as goal

pub returns : goal.returns
returns c =
    let section = c.args.section.now in
    let item = c.args.item.now in
    let kind = c.args.kind.now in
    four_joined _ _ _ _ _ _ _ (instance_out_of_place c.args.line (may_hold_instances (home_of c.args.home) section.sort) kind) (instance_of_abstract_class c.args.line (classes_of c.args.classes.now) section.sort kind)
    (constant_faults section c.args.line kind (option_map initial_of item.initial)) (address_faults c.args.line (may_be_located (home_of c.args.home) section) kind item.address)
    (c.instance_out_of_place-place.ensures ∙ ap (λ b. least (instance_out_of_place c.args.line b kind)) c.may_hold_instances.ensures) c.instance_of_abstract_class-of_abstract.ensures c.constant_if-constant.ensures
    (c.address_fault-address.ensures ∙ ap (λ b. least (address_faults c.args.line b kind item.address)) c.may_be_located.ensures) c.earlier.ensures c.earlier-2.ensures c.earlier-3.ensures
