use Rattle.std.proofs.Common.{[], take}
use Rattle.std.specs.Prelude.{flat_map}
use Rattle.check_signatures.specs.unit_signatures.Private.Adds.{Adds}
use Rattle.check_signatures.specs.unit_signatures.Private.Parameters.{AreWeighed}
use Rattle.check_signatures.specs.unit_signatures.Private.Routines.{list_tells}
use Rattle.check_signatures.proofs.unit_signatures.RoutineLaws.{of_interface}
use Rattle.check_signatures.proofs.unit_signatures.interfaces.interface_signatures.Given as goal

abbrev pub invariant-loop-decl : goal.invariant-loop-decl
invariant-loop-decl l = Adds list_tells (AreWeighed l.weighed) l.initial.table l.table [] l.list (flat_map (of_interface l.weighed) (take l.decl-index l.decls))
