use Rattle.st_values.specs.View.{program_of}
use Rattle.footprints.specs.reached_routines.Private.Families.{NotesBut, IsInterfaceUpTo}
use Rattle.footprints.proofs.reached_routines.FamilyLaws.{IsInterfaceFrom}
use Rattle.footprints.proofs.reached_routines.conformers.note_interfaces.Given as goal

abbrev pub invariant-loop-interface : goal.invariant-loop-interface
invariant-loop-interface l = NotesBut (IsInterfaceUpTo (program_of l.tables) l.class l.count) (IsInterfaceFrom (program_of l.tables) l.class l.interface l.count) l.class l.fn.families l.families
