use Rattle.std.proofs.Common.{◌∷◌, [], ◌++◌, ◌+◌, drop, map, false, refl, sym, ap, ◌∙◌}
use Rattle.std.proofs.lemmas.List.{map-append, append_assoc}
use Rattle.st_rules.proofs.ListLaws.{drop-at, left_end}
use Rattle.st_unit_rules.specs.declaration_list.Written.{written_in, global_of, names_from}
use Rattle.st_unit_rules.proofs.declaration_list.written.add_names.Goals as goal

pub loop-name-preserved : goal.loop-name-preserved
loop-name-preserved c =
    let s = c.args.section.now in
    let item = c.args.item.now in
    let names = c.args.names.now in
    let i = c.loop-name.name-index in
    let old = c.loop-name.list.items in
    let rest = names_from s item false (map (written_in s item) (drop (i + 1) names)) in
    ap (λ zs. zs ++ rest) (ap (map global_of) c.in_ok-push.ensures.items ∙ map-append global_of old (_ ∷ [])) ∙ append_assoc (map global_of old) (_ ∷ []) rest
    ∙ ap (λ ns. map global_of old ++ names_from s item c.loop-name.first (map (written_in s item) ns)) (sym (drop-at names i c.name-item.result c.loop-name-test.true c.name-item.is)) ∙ c.loop-name.invariant

pub returns : goal.returns
returns c =
    let s = c.args.section.now in
    let item = c.args.item.now in
    left_end (λ ns. names_from s item c.loop-name.first (map (written_in s item) ns)) c.args.names.now c.loop-name.name-index (map global_of c.loop-name.list.items) _ refl c.loop-name-test.false c.loop-name.invariant
