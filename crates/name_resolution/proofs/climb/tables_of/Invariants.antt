use Rattle.std.proofs.Common.{take}
use Rattle.name_resolution.specs.Private.Places.{passes}
use Rattle.name_resolution.specs.Private.Climb.{AreTablesOf}
use Rattle.name_resolution.proofs.climb.tables_of.Given as goal

abbrev pub invariant-loop-class : goal.invariant-loop-class
invariant-loop-class l = AreTablesOf (passes l.which) l.tables.items (take l.class-index l.classes)
