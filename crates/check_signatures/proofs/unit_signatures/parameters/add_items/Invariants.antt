use Rattle.std.proofs.Common.{take}
use Rattle.std.specs.Prelude.{flat_map}
use Rattle.check_signatures.specs.unit_signatures.Private.Adds.{Adds}
use Rattle.check_signatures.specs.unit_signatures.Private.Parameters.{AreWeighed, parameter_tells, item_parameters}
use Rattle.check_signatures.proofs.unit_signatures.parameters.add_items.Given as goal

abbrev pub invariant-loop-item : goal.invariant-loop-item
invariant-loop-item l = Adds parameter_tells (AreWeighed l.weighed) l.initial.table l.table l.initial.list l.list (flat_map (item_parameters l.weighed l.s l.sort) (take l.item-index l.items))
