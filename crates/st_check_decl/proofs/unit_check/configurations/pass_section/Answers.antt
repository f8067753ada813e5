use Rattle.std.proofs.Common.{ap, ◌∙◌}
use Rattle.st_unit_rules.specs.declaration_list.Written.{names_in_sections}
use Rattle.std.proofs.lemmas.Result.{err_from_is_err_and}
use Rattle.st_check_decl.proofs.unit_check.DeclLaws.{adds_of, section_fails, section_passes}
use Rattle.st_check_decl.proofs.unit_check.GlobalLaws.{fail_as, pass_as}
use Rattle.st_check_decl.proofs.unit_check.configurations.pass_section.Goals as goal

pub returns-clause-passed : goal.returns-clause-passed
returns-clause-passed c = section_passes c.args.side.now.tables.now.decls _ _ c.args.section.now _ _ (c.in_ok-names.ensures.names ∙ ap names_in_sections c.from_ref-sections.ensures.value) (adds_of c.args.side.now.tables.now.decls _ _ _ _ _ _ c.new-faults.ensures.items c.from_ref-sections.ensures.value c.in_ok-check_globals.ensures) (pass_as _ _ _ _ _ _ _ c.graph-graph.ensures c.deref.ensures.value c.deref-2.ensures.value _ c.in_ok-pass_globals.ensures.passed)

pub returns-in_err-pass_globals-clause-bad : goal.returns-in_err-pass_globals-clause-bad
returns-in_err-pass_globals-clause-bad c = let p = err_from_is_err_and c.from_residual-in_err-pass_globals.result c.from_residual-in_err-pass_globals.ensures.1 in rw (p.1, p.2) (section_fails c.args.side.now.tables.now.decls _ c.args.p.now c.args.section.now _ _ (c.in_ok-names.ensures.names ∙ ap names_in_sections c.from_ref-sections.ensures.value) _ _ (adds_of c.args.side.now.tables.now.decls _ _ _ _ _ _ c.new-faults.ensures.items c.from_ref-sections.ensures.value c.in_ok-check_globals.ensures) (fail_as _ _ _ _ _ _ _ c.graph-graph.ensures c.deref.ensures.value c.deref-2.ensures.value _ c.in_err-pass_globals.ensures.bad))
