use Rattle.std.proofs.Common.{ℕ, List, [], ◌∷◌, ◌++◌, ◌∙◌, ap}
use Rattle.class_tables.proofs.MapLaws.{put_levels}
use Rattle.class_tables.proofs.maps.+put.Goals as goal

pub returns-clause-ok : goal.returns-clause-ok
returns-clause-ok t c =
    put_levels c.args.nodes.now.items c.put.new.nodes.items c.push_node.new.nodes.items c.index.result.now c.args.levels c.args.map c.args.key c.args.value c.in_ok-below.below c.in_ok-made.made
    c.if-levels-eq0.false c.requires c.index.ensures c.with_part.ensures.long c.put.ensures.keeps c.in_ok-below.ensures.ok c.in_ok-made.ensures.place
    (c.in_ok-made.ensures.ok ∙ ap (λ (x : List ℕ). c.put.new.nodes.items ++ x ∷ []) c.with_part.ensures.changed)
