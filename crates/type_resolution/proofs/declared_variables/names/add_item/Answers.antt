use Rattle.std.proofs.Common.{◌++◌, map, ap, ◌∙◌}
use Rattle.st_unit_rules.specs.declared_names.WrittenTypes.{type_written}
use Rattle.type_resolution.specs.declared_variables.Private.Told.{told_as, value_in}
use Rattle.type_resolution.proofs.declared_variables.NameLaws.{item_named}
use Rattle.type_resolution.proofs.declared_variables.names.add_item.Goals as goal

pub returns : goal.returns
returns c =
    let s = c.args.s.now in
    c.in_ok-add_names.ensures
    ∙ ap (λ xs. map told_as c.args.list.now.items ++ xs)
    (item_named s c.args.section.now c.args.item.now c.in_ok-told.told.kind c.in_ok-told.told.value c.in-Some.first.now (c.in_ok-told.ensures.kind ∙ ap (λ w. type_written s w.item.kind) c.written_name.ensures)
    (c.in_ok-told.ensures.value ∙ ap (value_in s) c.written_name.ensures) c.args.item.now.names)
