use Rattle.std.proofs.Common.{map, ap, ◌∙◌}
use Rattle.st_unit_rules.specs.declaration_list.Listed.{declared_as}
use Rattle.resolution_order.specs.telling_list.Jobs.{first_numbers}
use Rattle.resolution_order.specs.telling_groups.Private.Listed.{groups_in, groups_from}
use Rattle.resolution_order.proofs.telling_groups.groups.list_groups.Goals as goal

pub returns : goal.returns
unfolding groups_in
returns c = c.in_ok-list.ensures ∙ ap (λ xs. groups_from first_numbers (map declared_as xs)) c.deref.ensures.value ∙ ap (groups_from first_numbers) c.in_ok-declared.ensures
