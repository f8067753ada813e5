use Rattle.std.proofs.Common.{sym, ◌∙◌}
use Rattle.std.specs.Prelude.{option_and_then}
use Rattle.st_change.specs.From.{new_name}
use Rattle.change_names.specs.change_pairs.Places.{found_in}
use Rattle.change_names.specs.change_pairs.Regions.{region_of}
use Rattle.change_names.proofs.ListLaws.{all_mapped, map_map}
use Rattle.change_names.proofs.regions.new_numbers.Goals as goal

pub returns : goal.returns
returns c =
    all_mapped (λ x. option_and_then (found_in c.args.places.now) (new_name c.args.pairs.now (region_of x).variable.name)) c.args.old.now c.loop-region.region-index c.loop-region.numbers.items c.loop-region-test.false c.loop-region.invariant
    ∙ sym (map_map region_of (λ x. option_and_then (found_in c.args.places.now) (new_name c.args.pairs.now x.variable.name)) c.args.old.now)
