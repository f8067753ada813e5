use Rattle.std.proofs.Common.{arith}
use Rattle.program_tables.specs.Routine.{routine_of}
use Rattle.program_tables.specs.declared.routine.RoutineId.TheVariants as id
use Rattle.routine_tables.proofs.TableLaws.{all_entries, no_function}
use Rattle.routine_tables.proofs.tables.functions.Goals as goal

pub returns : goal.returns
returns c =
    all_entries (λ k. routine_of c.args.program.now (id.Function k)) c.loop-k.all c.loop-k.k c.loop-k.invariant
    (λ k h. let e = c.len-k-end.ensures in let t = c.loop-k-test.false in no_function c.args.program.now k (omega (arith, h, e, t)))
