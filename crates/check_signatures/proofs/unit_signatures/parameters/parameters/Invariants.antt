use Rattle.std.proofs.Common.{[], take}
use Rattle.std.specs.Prelude.{flat_map}
use Rattle.check_signatures.specs.unit_signatures.Private.Adds.{Adds}
use Rattle.check_signatures.specs.unit_signatures.Private.Parameters.{AreWeighed, parameter_tells, section_parameters}
use Rattle.check_signatures.proofs.unit_signatures.parameters.parameters.Given as goal

abbrev pub invariant-loop-section : goal.invariant-loop-section
invariant-loop-section l = Adds parameter_tells (AreWeighed l.weighed) l.initial.table l.table [] l.list (flat_map (section_parameters l.weighed l.s) (take l.section-index l.sections))
