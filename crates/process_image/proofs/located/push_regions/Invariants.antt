use Rattle.std.proofs.Common.{◌≡◌, ◌++◌, drop, map}
use Rattle.st_meaning.specs.ProcessImage.{located_from}
use Rattle.st_values.specs.View.{program_of, region_of}
use Rattle.process_image.specs.Located.{all_seen}
use Rattle.process_image.proofs.located.push_regions.Given as goal

abbrev pub invariant-loop-r : goal.invariant-loop-r
invariant-loop-r l = (all_seen l.out.items ++ located_from (program_of l.program) l.r (map region_of (drop l.r l.regions))) ≡ (all_seen l.initial.out.items ++ located_from (program_of l.program) 0 (map region_of l.regions))
