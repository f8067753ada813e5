use Rattle.st_values.specs.Program.{class_variables}
use Rattle.st_values.specs.View.{program_of}
use Rattle.program_tables.proofs.st_initial.TableLaws.{FirstLists}
use Rattle.program_tables.proofs.st_initial.members.classes.Given as goal

abbrev pub invariant-loop-c : goal.invariant-loop-c
invariant-loop-c l = FirstLists l.all l.c (class_variables (program_of l.program))
