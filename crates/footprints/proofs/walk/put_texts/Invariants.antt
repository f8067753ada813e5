use Rattle.std.proofs.Common.{length}
use Rattle.st_values.specs.View.{program_of}
use Rattle.footprints.specs.Private.Puts.{Takes}
use Rattle.footprints.specs.Private.Walk.{InRoutine, AreFollowed}
use Rattle.footprints.proofs.walk.put_texts.Given as goal

abbrev pub invariant-ids : goal.invariant-ids
invariant-ids l = record {
  taken : Takes (InRoutine l.t.program.now l.t.holders.items l.part) l.ids l.left l.fn.walk.marks.keys l.walk.marks.keys;
  followed : AreFollowed (program_of l.t.program.now) l.t.holders.items l.walk.followed l.walk.marks.keys;
}

abbrev pub decreases-ids : goal.decreases-ids
decreases-ids l = length l.left
