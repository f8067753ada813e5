use Rattle.std.proofs.Common.{◌++◌, map, ap, ◌∙◌}
use Rattle.st_unit_rules.specs.declared_names.Variables.{section_written}
use Rattle.type_resolution.specs.declared_variables.Private.Told.{told_as, globals_told, regions_behind}
use Rattle.type_resolution.proofs.declared_variables.NumberLaws.{globals_are}
use Rattle.type_resolution.proofs.declared_variables.globals.add_section_globals.Goals as goal

pub returns : goal.returns
returns c =
    globals_are c.args.s.now (section_written c.args.section.now) c.args.list.now c.add_numbered.new.list c.args.region c.in_ok-after.after (map told_as c.in_ok-names.names.items) c.in_ok-names.ensures
    (c.in_ok-after.ensures.0 ∙ ap (λ xs. c.args.list.now ++ globals_told c.args.region (map told_as xs)) c.deref.ensures.value)
    (c.in_ok-after.ensures.1 ∙ ap (λ xs. regions_behind c.args.region (map told_as xs)) c.deref.ensures.value)
