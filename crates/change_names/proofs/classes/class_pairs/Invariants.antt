use Rattle.std.proofs.Common.{length}
use Rattle.st_values.specs.View.{program_of}
use Rattle.change_names.proofs.ClassLaws.{ChainLeft}
use Rattle.change_names.proofs.classes.class_pairs.Given as goal

abbrev pub invariant-classes : goal.invariant-classes
invariant-classes l = ChainLeft (program_of l.old.program.now) (program_of l.new.program.now) l.fn.class l.left l.out.items

abbrev pub decreases-classes : goal.decreases-classes
decreases-classes l = length l.left
