use Rattle.std.proofs.Common.{ap, ◌∙◌, arith}
use Rattle.st_values.specs.Program.{class_at, own_of}
use Rattle.st_values.specs.View.{program_of}
use Rattle.program_tables.specs.st_initial.Variables.{variables_of}
use Rattle.change_names.specs.Private.Classes.{listed_at}
use Rattle.change_names.proofs.ClassLaws.{no_own_past}
use Rattle.change_names.proofs.ListLaws.{one_shown, all_shown}
use Rattle.change_names.proofs.own.own_lists.Goals as goal

pub loop-c-preserved : goal.loop-c-preserved
loop-c-preserved c =
    one_shown listed_at (λ k. own_of (class_at (program_of c.args.program.now) k)) c.loop-c.c c.loop-c.all c.push.new.self c.from_vec.result c.loop-c.invariant
    c.in_ok-push.ensures.ok (ap variables_of c.from_vec.ensures ∙ c.in_ok-own.ensures)

pub returns : goal.returns
returns c =
    all_shown listed_at (λ k. own_of (class_at (program_of c.args.program.now) k)) c.loop-c.c c.loop-c.all c.loop-c.invariant
    (λ k h. let e = c.in-Some.ensures in let t = c.loop-c-test.false in no_own_past c.args.program.now k (omega (arith, h, e, t)))
