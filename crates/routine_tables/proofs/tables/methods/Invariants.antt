use Rattle.program_tables.specs.Routine.{routine_of}
use Rattle.program_tables.specs.declared.routine.RoutineId.TheVariants as id
use Rattle.routine_tables.proofs.TableLaws.{Rows}
use Rattle.routine_tables.proofs.tables.methods.Given as goal

abbrev pub invariant-loop-c : goal.invariant-loop-c
invariant-loop-c l = Rows (λ c m. routine_of l.program (id.Method c m)) l.all l.c
