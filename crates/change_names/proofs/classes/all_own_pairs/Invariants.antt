use Rattle.st_change.specs.From.{own_pairs}
use Rattle.st_values.specs.Program.{class_at}
use Rattle.st_values.specs.View.{program_of}
use Rattle.change_names.specs.Private.Classes.{pairs_in}
use Rattle.change_names.proofs.ListLaws.{FirstShow}
use Rattle.change_names.proofs.classes.all_own_pairs.Given as goal

abbrev pub invariant-loop-c : goal.invariant-loop-c
invariant-loop-c l = FirstShow pairs_in (λ k. own_pairs (program_of l.old.program.now) (class_at (program_of l.new.program.now) k)) l.c l.all
