use Rattle.std.proofs.Common.{arith}
use Rattle.program_tables.proofs.st_initial.TableLaws.{count_types}
use Rattle.program_tables.proofs.st_initial.members.structures.Goals as goal

pub returns-clause-all : goal.returns-clause-all
returns-clause-all c =
    let t = c.loop-n-test.false in
    let l = c.loop-n.invariant.long in
    omega (arith, t, l, count_types c.args.program.now)
