use Rattle.std.proofs.Common.{◌≡◌, ◌++◌, drop}
use Rattle.st_unit_rules.specs.NameRules.{member_names}
use Rattle.check_names.specs.name_spaces.NamesIn.{names_of}
use Rattle.check_names.proofs.name_spaces.names_in.member_names.Given as goal

abbrev pub invariant-loop-member : goal.invariant-loop-member
invariant-loop-member l = names_of l.list.items ++ member_names (drop l.member-index l.members) ≡ member_names l.members
