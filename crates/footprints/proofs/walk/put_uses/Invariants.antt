use Rattle.std.proofs.Common.{drop}
use Rattle.st_values.specs.View.{program_of}
use Rattle.body_uses.specs.Uses.{uses_of}
use Rattle.footprints.specs.Private.Puts.{Takes}
use Rattle.footprints.specs.Private.Walk.{InUse, AreFollowed}
use Rattle.footprints.proofs.walk.put_uses.Given as goal

abbrev pub invariant-loop-one : goal.invariant-loop-one
invariant-loop-one l = record {
  taken : Takes (InUse (program_of l.t.program.now) l.t.holders.items l.part) (uses_of l.uses) (uses_of (drop l.one-index l.uses)) l.fn.walk.marks.keys l.walk.marks.keys;
  followed : AreFollowed (program_of l.t.program.now) l.t.holders.items l.walk.followed l.walk.marks.keys;
}
