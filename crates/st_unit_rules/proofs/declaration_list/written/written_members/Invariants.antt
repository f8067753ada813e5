use Rattle.std.proofs.Common.{◌≡◌, ◌++◌, map, drop}
use Rattle.st_unit_rules.specs.declared_names.Variables.{sections_in}
use Rattle.st_unit_rules.specs.declaration_list.Written.{global_of, names_in_sections}
use Rattle.st_unit_rules.proofs.declaration_list.written.written_members.Given as goal

abbrev pub invariant-loop-member : goal.invariant-loop-member
invariant-loop-member l = map global_of l.list.items ++ names_in_sections (sections_in (drop l.member-index l.members)) ≡ names_in_sections (sections_in l.members)
