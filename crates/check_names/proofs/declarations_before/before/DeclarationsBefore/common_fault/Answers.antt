use Rattle.std.proofs.Common.{ap, length, ◌∙◌}
use Rattle.plc_text.specs.declared.code.Code.TheVariants.{E04}
use Rattle.st_tree.specs.declared.name.Name.{Name}
use Rattle.st_rules.specs.Faults.{least, when}
use Rattle.st_unit_rules.specs.declared_names.Declarations.{declarations, heading_line, name_of}
use Rattle.st_unit_rules.specs.declaration_list.Listed.{declared_as}
use Rattle.st_unit_rules.specs.Cycles.{cycle_faults}
use Rattle.st_unit_rules.specs.Limits.{too_many_declarations}
use Rattle.st_unit_rules.specs.NameRules.{declared_before, name_of_conversion}
use Rattle.check_names.proofs.declarations_before.BeforeLaws.{least_four}
use Rattle.check_names.proofs.declarations_before.before.DeclarationsBefore.common_fault.Goals as goal

pub returns : goal.returns
returns c = λ earlier names b.
    let all = declarations c.args.graph.now.decls in
    let line = heading_line (declared_as c.args.declared.now) in
    let name = name_of (declared_as c.args.declared.now) in
    least_four (declared_before names name) (name_of_conversion name) (cycle_faults all line (length earlier)) (too_many_declarations line (length earlier)) _ _ _ _ _ _ _
    (c.when-again.ensures ∙ ap (λ t. least (when t E04 c.name-name.result.now.line)) (c.has.ensures names b.names) ∙ ap (λ (n : Name). least (declared_before names n)) c.name-name.ensures)
    (c.conversion_fault-conversion.ensures ∙ ap (λ (n : Name). least (name_of_conversion n)) c.name-name.ensures)
    (c.cycle_fault-cycle.ensures ∙ ap (λ l. least (cycle_faults all l c.args.self.now.count)) c.heading_line-line.ensures ∙ ap (λ k. least (cycle_faults all line k)) b.count)
    (c.when-many.ensures ∙ ap (λ l. least (too_many_declarations l c.args.self.now.count)) c.heading_line-line.ensures ∙ ap (λ k. least (too_many_declarations line k)) b.count)
    c.earlier.ensures c.earlier-2.ensures c.earlier-3.ensures
