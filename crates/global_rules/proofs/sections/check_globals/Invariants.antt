use Rattle.st_unit_rules.specs.declaration_list.Written.{names_in_section}
use Rattle.global_rules.proofs.SectionLaws.{AddsTo}
use Rattle.global_rules.proofs.sections.check_globals.Given as goal

abbrev pub invariant-loop-section : goal.invariant-loop-section
invariant-loop-section l = AddsTo l.tables.decls names_in_section l.sections l.initial.faults.items l.initial.regions l.faults.items l.regions l.section-index
