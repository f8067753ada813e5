use Rattle.st_values.specs.View.{program_of}
use Rattle.change_names.proofs.change_paths.SoFarLaws.{SoFar}
use Rattle.change_kept.proofs.KeptLaws.{Tells}
use Rattle.change_kept.proofs.kept.kept_regions.Given as goal

abbrev pub invariant-loop-r : goal.invariant-loop-r
invariant-loop-r l = SoFar (Tells (program_of l.c.old.program.now) (program_of l.c.new.program.now)) l.r l.kept.items
