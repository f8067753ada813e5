use Rattle.std.specs.Prelude.{false, ◌∷◌, []}
use Rattle.global_rules.specs.Private.Sections.{global_with}
use Rattle.global_rules.proofs.SectionLaws.{AddsTo}
use Rattle.global_rules.proofs.sections.add_others.Given as goal

abbrev pub invariant-loop-name : goal.invariant-loop-name
invariant-loop-name l = AddsTo l.tables.decls (λ n. global_with l.of.section.now l.of.item.now false n ∷ []) l.names l.initial.faults.items l.initial.regions l.faults.items l.regions l.name-index
