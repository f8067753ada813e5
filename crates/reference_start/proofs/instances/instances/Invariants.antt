use Rattle.reference_start.proofs.RegionLaws.{RegionsLeft}
use Rattle.reference_start.proofs.instances.instances.Given as goal

abbrev pub invariant-loop-r : goal.invariant-loop-r
invariant-loop-r l = RegionsLeft l.program l.r l.found.items
