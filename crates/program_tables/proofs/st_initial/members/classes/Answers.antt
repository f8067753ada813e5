use Rattle.std.proofs.Common.{arith}
use Rattle.st_values.specs.Program.{class_variables}
use Rattle.st_values.specs.View.{program_of}
use Rattle.program_tables.proofs.ClassLaws.{count_classes}
use Rattle.program_tables.proofs.st_initial.TableLaws.{next_list, all_lists, no_variables_past}
use Rattle.program_tables.proofs.st_initial.members.classes.Goals as goal

pub loop-c-preserved : goal.loop-c-preserved
loop-c-preserved c =
    next_list c.loop-c.all c.push.new.self c.loop-c.c c.in_ok-class.class (class_variables (program_of c.args.program.now)) c.from_vec.result c.in_ok-variables.variables.items c.loop-c.invariant
    c.in_ok-class.ensures c.in_ok-variables.ensures c.from_vec.ensures c.in_ok-push.ensures.ok

pub returns-clause-each : goal.returns-clause-each
returns-clause-each c =
    all_lists c.loop-c.all c.loop-c.c (class_variables (program_of c.args.program.now)) c.loop-c.invariant
    (λ k h. let e = c.in-Some.ensures in let t = c.loop-c-test.false in no_variables_past c.args.program.now k (omega (arith, h, e, t)))

pub returns-clause-all : goal.returns-clause-all
returns-clause-all c =
    let e = c.in-Some.ensures in
    let t = c.loop-c-test.false in
    let l = c.loop-c.invariant.long in
    omega (arith, e, t, l, count_classes c.args.program.now)
