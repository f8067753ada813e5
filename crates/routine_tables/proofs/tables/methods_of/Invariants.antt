use Rattle.program_tables.specs.Routine.{routine_of}
use Rattle.program_tables.specs.declared.routine.RoutineId.TheVariants as id
use Rattle.routine_tables.proofs.TableLaws.{Entries}
use Rattle.routine_tables.proofs.tables.methods_of.Given as goal

abbrev pub invariant-loop-m : goal.invariant-loop-m
invariant-loop-m l = Entries (λ m. routine_of l.program (id.Method l.class m)) l.all l.m
