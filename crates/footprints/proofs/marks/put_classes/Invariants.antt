use Rattle.std.proofs.Common.{length}
use Rattle.st_meaning.specs.st_frame.Footprint.{Has}
use Rattle.footprints.specs.Private.Holders.{holders_at}
use Rattle.footprints.specs.Private.Puts.{Takes}
use Rattle.footprints.proofs.marks.put_classes.Given as goal

abbrev pub invariant-classes : goal.invariant-classes
invariant-classes l = Takes (λ c r. Has (holders_at l.holders c) r) l.classes l.left l.fn.marks.keys l.marks.keys

abbrev pub decreases-classes : goal.decreases-classes
decreases-classes l = length l.left
