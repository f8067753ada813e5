use Rattle.std.proofs.Common.{[], take}
use Rattle.std.specs.Prelude.{flat_map}
use Rattle.check_signatures.specs.unit_signatures.Private.Adds.{Adds}
use Rattle.check_signatures.specs.unit_signatures.Private.Parameters.{AreWeighed}
use Rattle.check_signatures.specs.unit_signatures.Private.Routines.{signature_tells}
use Rattle.check_signatures.proofs.unit_signatures.RoutineLaws.{of_prototype}
use Rattle.check_signatures.proofs.unit_signatures.interfaces.prototypes.Given as goal

abbrev pub invariant-loop-method : goal.invariant-loop-method
invariant-loop-method l = Adds signature_tells (AreWeighed l.weighed) l.initial.table l.table [] l.list (flat_map (of_prototype l.weighed) (take l.method-index l.methods))
