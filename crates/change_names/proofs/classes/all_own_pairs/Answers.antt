use Rattle.std.proofs.Common.{sym, ap, ◌∙◌, arith}
use Rattle.st_change.specs.From.{own_pairs}
use Rattle.st_values.specs.Program.{class_at}
use Rattle.st_values.specs.View.{program_of}
use Rattle.change_names.specs.change_pairs.Pairs.{pairs_of}
use Rattle.change_names.specs.Private.Classes.{pairs_in}
use Rattle.change_names.proofs.ClassLaws.{past_none}
use Rattle.change_names.proofs.ListLaws.{one_shown, all_shown}
use Rattle.change_names.proofs.classes.all_own_pairs.Goals as goal

pub loop-c-preserved : goal.loop-c-preserved
loop-c-preserved c =
    one_shown pairs_in (λ k. own_pairs (program_of c.args.old.now.program.now) (class_at (program_of c.args.new.now.program.now) k)) c.loop-c.c c.loop-c.all c.push.new.self c.from_vec.result c.loop-c.invariant
    c.in_ok-push.ensures.ok
    (ap pairs_of c.from_vec.ensures ∙ c.in_ok-pairs.ensures ∙ ap (λ k. own_pairs (program_of c.args.old.now.program.now) (class_at (program_of c.args.new.now.program.now) k)) c.in_ok-class.ensures)

pub returns : goal.returns
returns c = record {
  by =
      all_shown pairs_in (λ k. own_pairs (program_of c.args.old.now.program.now) (class_at (program_of c.args.new.now.program.now) k)) c.loop-c.c c.loop-c.all c.loop-c.invariant
      (λ k h. let e = c.in-Some.ensures in let t = c.loop-c-test.false in sym (ap (own_pairs (program_of c.args.old.now.program.now)) (past_none c.args.new.now.program.now k (omega (arith, h, e, t)))));
}
