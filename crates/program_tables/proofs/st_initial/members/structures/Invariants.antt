use Rattle.st_values.specs.View.{program_of}
use Rattle.program_tables.specs.st_initial.Variables.{fields_at}
use Rattle.program_tables.proofs.st_initial.TableLaws.{FirstLists}
use Rattle.program_tables.proofs.st_initial.members.structures.Given as goal

abbrev pub invariant-loop-n : goal.invariant-loop-n
invariant-loop-n l = FirstLists l.all l.n (fields_at (program_of l.program))
