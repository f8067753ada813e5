use Rattle.std.proofs.Common.{ap, ◌∙◌}
use Rattle.st_change.specs.From.{region_from}
use Rattle.change_names.specs.declared.change_pairs.sources.Pair.{Pair}
use Rattle.change_names.specs.change_pairs.Regions.{regions_of}
use Rattle.change_names.proofs.change_pairs.RegionLaws.{regions_next, region_is}
use Rattle.change_names.proofs.change_pairs.regions.region_origins.Goals as goal

pub loop-region-preserved : goal.loop-region-preserved
loop-region-preserved c =
    let x = c.region-item.result in
    let a : Pair = record { name = x.variable.name; from = c.region_from-from.result } in
    regions_next (region_from (regions_of c.args.new.now) (regions_of c.args.old.now)) c.args.new.now c.loop-region.region-index c.loop-region.pairs.items c.push.new.self.items x a c.loop-region-test.true c.region-item.is c.loop-region.invariant c.in_ok-push.ensures.items
    (ap (λ o. (x.variable.name.now, o)) (c.region_from-from.ensures ∙ region_is (regions_of c.args.new.now) (regions_of c.args.old.now) c.in_ok-known.known c.in_ok-known.ensures x))
