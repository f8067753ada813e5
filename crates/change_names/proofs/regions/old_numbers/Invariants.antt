use Rattle.std.specs.Prelude.{option_and_then}
use Rattle.st_change.specs.From.{old_name}
use Rattle.change_names.specs.change_pairs.Places.{found_in}
use Rattle.change_names.specs.change_pairs.Regions.{region_of}
use Rattle.change_names.proofs.ListLaws.{MappedTo}
use Rattle.change_names.proofs.regions.old_numbers.Given as goal

abbrev pub invariant-loop-region : goal.invariant-loop-region
invariant-loop-region l = MappedTo (λ x. option_and_then (found_in l.places) (old_name l.pairs (region_of x).variable.name)) l.new l.region-index l.numbers.items
