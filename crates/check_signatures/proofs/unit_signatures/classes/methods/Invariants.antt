use Rattle.std.proofs.Common.{[], take}
use Rattle.std.specs.Prelude.{flat_map}
use Rattle.check_signatures.specs.unit_signatures.Private.Adds.{Adds}
use Rattle.check_signatures.specs.unit_signatures.Private.Parameters.{AreWeighed}
use Rattle.check_signatures.specs.unit_signatures.Private.Routines.{signature_tells}
use Rattle.check_signatures.proofs.unit_signatures.RoutineLaws.{of_member}
use Rattle.check_signatures.proofs.unit_signatures.classes.methods.Given as goal

abbrev pub invariant-loop-member : goal.invariant-loop-member
invariant-loop-member l = Adds signature_tells (AreWeighed l.weighed) l.initial.table l.table [] l.list (flat_map (of_member l.weighed l.class) (take l.member-index l.members))
