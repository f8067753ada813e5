use Rattle.std.proofs.Common.{◌++◌, map, ap, ◌∙◌}
use Rattle.st_unit_rules.specs.declaration_list.Written.{global_of, names_in_sections}
use Rattle.st_unit_rules.proofs.declaration_list.GlobalLaws.{written_by_names}
use Rattle.st_unit_rules.proofs.declaration_list.written.written_names.Goals as goal

pub returns-clause-written : goal.returns-clause-written
returns-clause-written c = written_by_names _ c.args.sections.now (c.in_ok-add_sections.ensures ∙ ap (λ xs. map global_of xs ++ names_in_sections c.args.sections.now) c.new-list.ensures.items)
