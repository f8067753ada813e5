use Rattle.program_tables.specs.Routine.{routine_of}
use Rattle.program_tables.specs.declared.routine.RoutineId.TheVariants as id
use Rattle.routine_tables.proofs.TableLaws.{Entries}
use Rattle.routine_tables.proofs.tables.bodies.Given as goal

abbrev pub invariant-loop-c : goal.invariant-loop-c
invariant-loop-c l = Entries (λ c. routine_of l.program (id.Body c)) l.all l.c
