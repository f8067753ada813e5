use Rattle.std.proofs.Common.{◌∙◌, ap}
use Rattle.st_unit_rules.specs.declared_names.Declarations.{item_line_of}
use Rattle.check_declared_variables.proofs.entry_rules.GroupLaws.{group_checks}
use Rattle.check_declared_variables.proofs.entry_rules.groups.check_group.Goals as goal

pub returns : goal.returns
returns c =
    group_checks _ _ _ _ _ _ _ (c.first_line-line.ensures ∙ ap item_line_of c.as_slice-2.ensures) (c.in_ok-names.ensures ∙ c.as_slice.ensures) c.in_ok-kind.ensures c.in_ok-given.ensures c.group_of.ensures
