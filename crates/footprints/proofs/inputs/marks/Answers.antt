use Rattle.std.proofs.Common.{◌∷◌, [], ◌++◌, map, refl, ap, ◌∙◌}
use Rattle.st_rules.proofs.ListLaws.{left_next, left_end}
use Rattle.st_values.specs.View.{region_of}
use Rattle.footprints.specs.Private.Inputs.{has_input_by}
use Rattle.footprints.proofs.inputs.marks.Goals as goal

pub loop-region-preserved : goal.loop-region-preserved
loop-region-preserved c =
    left_next (λ rs. map (has_input_by c.args.classes.now) (map region_of rs)) c.args.regions.now c.loop-region.region-index c.region-item.result c.loop-region.marks.items _ (has_input_by c.args.classes.now (region_of c.region-item.result) ∷ []) _
    c.loop-region-test.true c.region-item.is refl (c.in_ok-push.ensures.items ∙ ap (λ b. c.loop-region.marks.items ++ b ∷ []) c.has_input.ensures) c.loop-region.invariant

pub returns : goal.returns
returns c = left_end (λ rs. map (has_input_by c.args.classes.now) (map region_of rs)) c.args.regions.now c.loop-region.region-index c.loop-region.marks.items _ refl c.loop-region-test.false c.loop-region.invariant
