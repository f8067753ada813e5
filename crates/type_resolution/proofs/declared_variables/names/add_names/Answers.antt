use Rattle.std.proofs.Common.{◌∷◌, [], ◌++◌, map, refl, ap, ◌∙◌}
use Rattle.st_rules.proofs.ListLaws.{left_next, left_end}
use Rattle.type_resolution.specs.declared_variables.Private.Told.{told_as, named}
use Rattle.type_resolution.proofs.declared_variables.names.add_names.Goals as goal

pub loop-name-preserved : goal.loop-name-preserved
loop-name-preserved c =
    left_next (map (named c.args.section.now c.args.item.now c.args.told.now.kind c.args.told.now.value)) c.as_slice-names.result.now c.loop-name.name-index c.name-item.result (map told_as c.loop-name.list.items) _ (named c.args.section.now c.args.item.now c.args.told.now.kind c.args.told.now.value c.name-item.result ∷ []) _
    c.loop-name-test.true c.name-item.is refl (rw c.written_name.ensures at c.in_ok-add_name.ensures) c.loop-name.invariant

pub returns : goal.returns
returns c = left_end (map (named c.args.section.now c.args.item.now c.args.told.now.kind c.args.told.now.value)) c.as_slice-names.result.now c.loop-name.name-index (map told_as c.loop-name.list.items) _ refl c.loop-name-test.false c.loop-name.invariant ∙ ap (λ ns. map told_as c.args.list.now.items ++ map (named c.args.section.now c.args.item.now c.args.told.now.kind c.args.told.now.value) ns) c.as_slice-names.ensures
