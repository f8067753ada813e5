use Rattle.std.proofs.Common.{arith}
use Rattle.program_tables.specs.Routine.{routine_of}
use Rattle.program_tables.specs.declared.routine.RoutineId.TheVariants as id
use Rattle.routine_tables.proofs.TableLaws.{all_entries, no_member}
use Rattle.routine_tables.proofs.tables.methods_of.Goals as goal

pub returns : goal.returns
returns c =
    all_entries (λ m. routine_of c.args.program.now (id.Method c.args.class m)) c.loop-m.all c.loop-m.m c.loop-m.invariant
    (λ m h. let e = c.member_count-m-end.ensures in let t = c.loop-m-test.false in no_member c.args.program.now c.args.class m (omega (arith, h, e, t)))
