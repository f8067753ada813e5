use Rattle.st_values.specs.Program.{class_at, own_of}
use Rattle.st_values.specs.View.{program_of}
use Rattle.change_names.specs.Private.Classes.{listed_at}
use Rattle.change_names.proofs.ListLaws.{FirstShow}
use Rattle.change_names.proofs.own.own_lists.Given as goal

abbrev pub invariant-loop-c : goal.invariant-loop-c
invariant-loop-c l = FirstShow listed_at (λ k. own_of (class_at (program_of l.program) k)) l.c l.all
