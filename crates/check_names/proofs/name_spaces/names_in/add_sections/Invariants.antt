use Rattle.std.proofs.Common.{◌≡◌, ◌++◌, drop}
use Rattle.check_names.specs.name_spaces.Private.Items.{names_in_sections}
use Rattle.check_names.specs.name_spaces.NamesIn.{names_of}
use Rattle.check_names.proofs.name_spaces.names_in.add_sections.Given as goal

abbrev pub invariant-loop-section : goal.invariant-loop-section
invariant-loop-section l = names_of l.list.items ++ names_in_sections (drop l.section-index l.sections) ≡ names_of l.initial.list.items ++ names_in_sections l.sections
