use Rattle.std.proofs.Common.{length}
use Rattle.footprints.proofs.reached_routines.FamilyLaws.{Chained}
use Rattle.footprints.proofs.reached_routines.conformers.note_chain.Given as goal

abbrev pub invariant-chain : goal.invariant-chain
invariant-chain l = Chained l.class l.chain l.left l.fn.families l.families

abbrev pub decreases-chain : goal.decreases-chain
decreases-chain l = length l.left
