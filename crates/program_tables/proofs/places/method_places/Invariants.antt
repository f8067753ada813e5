use Rattle.std.proofs.Common.{take}
use Rattle.program_tables.specs.Private.Places.{AreMemberTables}
use Rattle.program_tables.proofs.places.method_places.Given as goal

abbrev pub invariant-loop-class : goal.invariant-loop-class
invariant-loop-class l = AreMemberTables l.tables.items (take l.class-index l.classes)
