use Rattle.std.proofs.Common.{◌≡◌, ◌++◌, map, drop}
use Rattle.st_unit_rules.specs.declaration_list.Written.{global_of, names_in_sections}
use Rattle.st_unit_rules.proofs.declaration_list.written.add_sections.Given as goal

abbrev pub invariant-loop-section : goal.invariant-loop-section
invariant-loop-section l = map global_of l.list.items ++ names_in_sections (drop l.section-index l.sections) ≡ map global_of l.initial.list.items ++ names_in_sections l.sections
