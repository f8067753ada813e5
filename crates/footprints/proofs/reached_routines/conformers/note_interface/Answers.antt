use Rattle.std.proofs.Common.{sym}
use Rattle.st_values.specs.View.{program_of}
use Rattle.footprints.proofs.reached_routines.FamilyLaws.{conformed}
use Rattle.footprints.proofs.reached_routines.conformers.note_interface.Goals as goal

pub returns-in_ok-note : goal.returns-in_ok-note
returns-in_ok-note c =
    conformed (program_of c.args.tables.now) c.args.class c.args.interface c.args.families.now c.note.new.families (sym c.if-conforms.ensures) c.in_ok-note.ensures
