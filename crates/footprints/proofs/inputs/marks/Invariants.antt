use Rattle.std.proofs.Common.{◌≡◌, ◌++◌, map, drop}
use Rattle.st_values.specs.View.{region_of}
use Rattle.footprints.specs.Private.Inputs.{has_input_by}
use Rattle.footprints.proofs.inputs.marks.Given as goal

abbrev pub invariant-loop-region : goal.invariant-loop-region
invariant-loop-region l = l.marks.items ++ map (has_input_by l.classes) (map region_of (drop l.region-index l.regions)) ≡ map (has_input_by l.classes) (map region_of l.regions)
