use Rattle.std.proofs.Common.{length}
use Rattle.footprints.specs.Private.Inputs.{IsInput}
use Rattle.footprints.specs.Private.Puts.{Takes}
use Rattle.footprints.proofs.footprints.put_inputs.Given as goal

abbrev pub invariant-regions : goal.invariant-regions
invariant-regions l = Takes (IsInput l.inputs) l.regions l.left l.fn.marks.keys l.marks.keys

abbrev pub decreases-regions : goal.decreases-regions
decreases-regions l = length l.left
