use Rattle.program_tables.specs.Routine.{routine_of}
use Rattle.program_tables.specs.declared.routine.RoutineId.TheVariants as id
use Rattle.routine_tables.proofs.TableLaws.{Entries}
use Rattle.routine_tables.proofs.tables.functions.Given as goal

abbrev pub invariant-loop-k : goal.invariant-loop-k
invariant-loop-k l = Entries (λ k. routine_of l.program (id.Function k)) l.all l.k
