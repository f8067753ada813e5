use Rattle.std.proofs.Common.{◌∷◌, [], map, refl, ap, ◌∙◌}
use Rattle.std.proofs.lemmas.List.{map-append}
use Rattle.st_rules.proofs.ListLaws.{left_next, left_end}
use Rattle.st_unit_rules.specs.declaration_list.Written.{global_of}
use Rattle.st_check_decl.proofs.unit_check.configurations.add_names.Goals as goal

pub loop-name-preserved : goal.loop-name-preserved
loop-name-preserved c =
    left_next (map global_of) c.args.names.now c.loop-name.name-index c.name-item.result (map global_of c.loop-name.list.items) _ (global_of c.name-item.result ∷ []) _
    c.loop-name-test.true c.name-item.is refl (ap (map global_of) c.in_ok-push.ensures.items ∙ map-append global_of c.loop-name.list.items (_ ∷ [])) c.loop-name.invariant

pub returns : goal.returns
returns c = left_end (map global_of) c.args.names.now c.loop-name.name-index (map global_of c.loop-name.list.items) _ refl c.loop-name-test.false c.loop-name.invariant
