use Rattle.st_change.specs.From.{region_from}
use Rattle.change_names.specs.change_pairs.Regions.{regions_of}
use Rattle.change_names.proofs.change_pairs.RegionLaws.{RegionsLeft}
use Rattle.change_names.proofs.change_pairs.regions.region_origins.Given as goal

abbrev pub invariant-loop-region : goal.invariant-loop-region
invariant-loop-region l = RegionsLeft (region_from (regions_of l.new) (regions_of l.old)) l.new l.region-index l.pairs.items
