use Rattle.std.proofs.Common.{◌≡◌, ◌++◌, drop}
use Rattle.st_unit_rules.specs.NameRules.{field_names}
use Rattle.check_names.specs.name_spaces.NamesIn.{names_of}
use Rattle.check_names.proofs.name_spaces.names_in.add_groups.Given as goal

abbrev pub invariant-loop-group : goal.invariant-loop-group
invariant-loop-group l = names_of l.list.items ++ field_names (drop l.group-index l.groups) ≡ names_of l.initial.list.items ++ field_names l.groups
