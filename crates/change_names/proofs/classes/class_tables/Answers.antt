use Rattle.std.proofs.Common.{sym, ap, ◌∙◌, arith}
use Rattle.st_change.specs.From.{class_pairs}
use Rattle.st_values.specs.View.{program_of}
use Rattle.change_names.specs.Pairs.{or_none}
use Rattle.change_names.proofs.ClassLaws.{past_none, no_pairs_past}
use Rattle.change_names.proofs.ListLaws.{one_shown, all_shown}
use Rattle.change_names.proofs.classes.class_tables.Goals as goal

pub loop-c-preserved : goal.loop-c-preserved
loop-c-preserved c =
    one_shown or_none (class_pairs (program_of c.args.old.now.program.now) (program_of c.args.new.now.program.now)) c.loop-c.c c.loop-c.tables.items c.push.new.self.items c.in_ok-table.table c.loop-c.invariant
    c.in_ok-push.ensures.items
    (c.in_ok-table.ensures ∙ c.in_ok-pairs.ensures ∙ ap (class_pairs (program_of c.args.old.now.program.now) (program_of c.args.new.now.program.now)) c.in_ok-class.ensures)

pub returns : goal.returns
returns c =
    all_shown or_none (class_pairs (program_of c.args.old.now.program.now) (program_of c.args.new.now.program.now)) c.loop-c.c c.loop-c.tables.items c.loop-c.invariant
    (λ k h. let e = c.in-Some.ensures in let t = c.loop-c-test.false in no_pairs_past (program_of c.args.old.now.program.now) (program_of c.args.new.now.program.now) k (past_none c.args.new.now.program.now k (omega (arith, h, e, t))))
