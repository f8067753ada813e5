use Rattle.st_unit_rules.specs.declaration_list.Written.{names_in_item}
use Rattle.global_rules.proofs.SectionLaws.{AddsTo}
use Rattle.global_rules.proofs.sections.add_section.Given as goal

abbrev pub invariant-loop-item : goal.invariant-loop-item
invariant-loop-item l = AddsTo l.tables.decls (names_in_item l.section) l.items l.initial.faults.items l.initial.regions l.faults.items l.regions l.item-index
