use Rattle.std.proofs.Common.{◌∷◌, [], map, refl, ap, ◌∙◌}
use Rattle.std.proofs.lemmas.List.{map-append}
use Rattle.st_rules.proofs.ListLaws.{left_next, left_end}
use Rattle.st_unit_rules.specs.declared_names.Declarations.{of_instance}
use Rattle.check_regions.specs.unit_regions.Listed.{region_as}
use Rattle.check_regions.proofs.unit_regions.listed.add_instances.Goals as goal

pub loop-instance-preserved : goal.loop-instance-preserved
loop-instance-preserved c =
    left_next (map of_instance) c.args.instances.now c.loop-instance.instance-index c.instance-item.result (map region_as c.loop-instance.list.items) _ (of_instance c.instance-item.result ∷ []) _
    c.loop-instance-test.true c.instance-item.is refl (ap (map region_as) c.in_ok-push.ensures.items ∙ map-append region_as c.loop-instance.list.items (_ ∷ [])) c.loop-instance.invariant

pub returns : goal.returns
returns c = left_end (map of_instance) c.args.instances.now c.loop-instance.instance-index (map region_as c.loop-instance.list.items) _ refl c.loop-instance-test.false c.loop-instance.invariant
