use Rattle.std.proofs.Common.{map, ap, ◌∙◌}
use Rattle.st_unit_rules.specs.declared_names.Variables.{sections_in}
use Rattle.st_unit_rules.specs.declaration_list.Written.{global_of, names_in_sections}
use Rattle.resolution_order.specs.telling_groups.Groups.{group_of}
use Rattle.resolution_order.proofs.telling_groups.ListLaws.{class_added}
use Rattle.resolution_order.proofs.telling_groups.groups.add_class.Goals as goal

pub returns : goal.returns
returns c =
    class_added c.add_members.result (map group_of c.args.list.now.items) _ _ c.args.types c.args.class _ _ c.in_ok-add.ensures c.add_members.ensures
    (ap (map global_of) c.deref.ensures.value ∙ c.in_ok-names.ensures.names ∙ ap (λ ms. names_in_sections (sections_in ms)) c.as_slice.ensures)
