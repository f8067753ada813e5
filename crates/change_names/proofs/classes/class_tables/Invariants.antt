use Rattle.st_change.specs.From.{class_pairs}
use Rattle.st_values.specs.View.{program_of}
use Rattle.change_names.specs.Pairs.{or_none}
use Rattle.change_names.proofs.ListLaws.{FirstShow}
use Rattle.change_names.proofs.classes.class_tables.Given as goal

abbrev pub invariant-loop-c : goal.invariant-loop-c
invariant-loop-c l = FirstShow or_none (class_pairs (program_of l.old.program.now) (program_of l.new.program.now)) l.c l.tables.items
