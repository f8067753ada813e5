use Rattle.std.proofs.Common.{map, ap, ◌∙◌}
use Rattle.st_values.specs.Initial.{initial_regions}
use Rattle.st_values.specs.View.{program_of, region_of}
use Rattle.initial_trees.proofs.StoreLaws.{regions_next, regions_ended}
use Rattle.initial_trees.proofs.store.initial_store.Goals as goal

pub loop-region-preserved : goal.loop-region-preserved
loop-region-preserved c =
    regions_next (program_of c.args.program.now) c.as_slice-region-items.result.now c.loop-region.region-index c.region-item.result c.loop-region.store c.push_member.new.found _ c.loop-region-test.true c.region-item.is c.loop-region.invariant c.in_ok-value.ensures c.in_ok-push_member.ensures

pub returns : goal.returns
returns c = regions_ended (program_of c.args.program.now) c.as_slice-region-items.result.now c.loop-region.region-index c.loop-region.store c.loop-region-test.false c.loop-region.invariant
    ∙ ap (λ rs. initial_regions (program_of c.args.program.now) (map region_of rs)) c.as_slice-region-items.ensures
