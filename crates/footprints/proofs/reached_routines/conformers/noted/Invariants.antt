use Rattle.st_values.specs.View.{program_of}
use Rattle.footprints.specs.reached_routines.Private.Families.{AreFamilies}
use Rattle.footprints.proofs.reached_routines.conformers.noted.Given as goal

abbrev pub invariant-loop-class : goal.invariant-loop-class
invariant-loop-class l = AreFamilies (program_of l.tables) l.class l.found
