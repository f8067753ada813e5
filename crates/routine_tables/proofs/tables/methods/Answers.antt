use Rattle.std.proofs.Common.{arith}
use Rattle.program_tables.specs.Routine.{routine_of}
use Rattle.program_tables.specs.declared.routine.RoutineId.TheVariants as id
use Rattle.routine_tables.proofs.TableLaws.{all_rows, no_class}
use Rattle.routine_tables.proofs.tables.methods.Goals as goal

pub returns : goal.returns
returns c =
    all_rows (λ k m. routine_of c.args.program.now (id.Method k m)) c.loop-c.all c.loop-c.c c.loop-c.invariant
    (λ k h m. let e = c.len-c-end.ensures in let t = c.loop-c-test.false in no_class c.args.program.now k m (omega (arith, h, e, t)))
