use Rattle.std.proofs.Common.{sym, ap, ◌∙◌, ◌-◌, ◌+◌, ◌/◌}
use Rattle.class_tables.specs.Private.Maps.{value_at}
use Rattle.class_tables.proofs.MapLaws.{value_step}
use Rattle.class_tables.proofs.maps.value_at.Goals as goal

pub levels-preserved : goal.levels-preserved
levels-preserved c =
    ap (λ r. value_at c.args.nodes.now (c.args.levels - (c.levels._level + 1)) r (c.levels.rest / 4)) c.part-root.ensures
    ∙ sym (value_step c.args.nodes.now c.args.levels c.levels._level c.levels.root c.levels.rest c.levels-test.true) ∙ c.levels.invariant
