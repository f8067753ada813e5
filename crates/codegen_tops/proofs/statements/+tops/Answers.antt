use Rattle.std.proofs.Common.{refl, ap, ◌∙◌}
use Rattle.std.specs.Prelude.{max}
use Rattle.st_tree.specs.Statement.{branches_of, cases_of, statement_of, statements_of}
use Rattle.code_rules.specs.Tops.{branches_top, cases_top, effect_top, effects_top}
use Rattle.codegen_tables.specs.Context.{plan_in}
use Rattle.codegen_tops.proofs.ArmLaws.{attempt_arm, branch_arm, case_arm, case_branch_arm, for_arm, if_arm, repeat_arm, while_arm}
use Rattle.codegen_tops.proofs.TopLaws.{branches_next, cases_next, top_end, top_next}
use Rattle.codegen_tops.proofs.statements.+tops.Goals as goal

pub effects_top-loop-s-preserved : goal.effects_top-loop-s-preserved
effects_top-loop-s-preserved t c =
    top_next (λ xs. effects_top (plan_in c.args.c.now) c.args.free (statements_of xs)) c.args.body.now c.loop-s.s-index c.s-item.result c.loop-s.most (effect_top (plan_in c.args.c.now) c.args.free (statement_of c.s-item.result)) _ _ c.loop-s-test.true c.s-item.is refl (c.max-most.ensures ∙ ap (max c.loop-s.most) c.in_ok-top.ensures) c.loop-s.invariant

pub effects_top-returns : goal.effects_top-returns
effects_top-returns t c = top_end (λ xs. effects_top (plan_in c.args.c.now) c.args.free (statements_of xs)) c.args.body.now c.loop-s.s-index c.loop-s.most c.args.free _ _ refl c.loop-s-test.false c.max.ensures c.loop-s.invariant

pub branches_top-loop-branch-preserved : goal.branches_top-loop-branch-preserved
branches_top-loop-branch-preserved t c =
    branches_next (plan_in c.args.c.now) c.args.branches.now c.loop-branch.branch-index c.branch-item.result c.args.free c.loop-branch.most _ _ _ c.loop-branch-test.true c.branch-item.is c.in_ok-top.ensures c.max-most.ensures c.loop-branch.invariant

pub branches_top-returns : goal.branches_top-returns
branches_top-returns t c = top_end (λ xs. branches_top (plan_in c.args.c.now) c.args.free (branches_of xs)) c.args.branches.now c.loop-branch.branch-index c.loop-branch.most c.args.free _ _ refl c.loop-branch-test.false c.max.ensures c.loop-branch.invariant

pub cases_top-loop-case-preserved : goal.cases_top-loop-case-preserved
cases_top-loop-case-preserved t c =
    cases_next (plan_in c.args.c.now) c.args.cases.now c.loop-case.case-index c.case-item.result c.args.free c.loop-case.most _ _ _ c.loop-case-test.true c.case-item.is c.in_ok-top.ensures c.max-most.ensures c.loop-case.invariant

pub cases_top-returns : goal.cases_top-returns
cases_top-returns t c = top_end (λ xs. cases_top (plan_in c.args.c.now) c.args.free (cases_of xs)) c.args.cases.now c.loop-case.case-index c.loop-case.most c.args.free _ _ refl c.loop-case-test.false c.max.ensures c.loop-case.invariant

pub effect_top-returns-in_ok-second-in-Attempt : goal.effect_top-returns-in_ok-second-in-Attempt
effect_top-returns-in_ok-second-in-Attempt t c = attempt_arm (plan_in c.args.c.now) c.args.free c.args.s.now c.max.result c.in-Attempt.field-0 c.in-Attempt.field-1 c.in-Attempt.target c.in-Attempt.e _ _ c.in-Attempt.is c.in_ok-first-in-Attempt.ensures c.in_ok-second-in-Attempt.ensures c.max.ensures

pub effect_top-returns-in_ok-second-in-If : goal.effect_top-returns-in_ok-second-in-If
effect_top-returns-in_ok-second-in-If t c =
    if_arm (plan_in c.args.c.now) c.args.free c.args.s.now c.max-in-If.result c.in-If.field-0 c.in-If.branches c.as_slice-in-If.result.now c.in-If.otherwise _ _ c.in-If.is c.as_slice-in-If.ensures c.in_ok-first-in-If.ensures c.in_ok-second-in-If.ensures c.max-in-If.ensures

pub effect_top-returns-in_ok-third-in-Case : goal.effect_top-returns-in_ok-third-in-Case
effect_top-returns-in_ok-third-in-Case t c =
    case_arm (plan_in c.args.c.now) c.args.free c.args.s.now c.max-in-Case-2.result c.in-Case.field-0 c.in-Case.e c.in-Case.cases c.as_slice-in-Case.result.now c.in-Case.otherwise _ _ _ _ c.in-Case.is c.as_slice-in-Case.ensures c.in_ok-first-in-Case.ensures c.in_ok-second-in-Case.ensures
    c.in_ok-third-in-Case.ensures c.max-in-Case.ensures c.max-in-Case-2.ensures

pub effect_top-returns-in_ok-fourth-in-For : goal.effect_top-returns-in_ok-fourth-in-For
effect_top-returns-in_ok-fourth-in-For t c =
    for_arm (plan_in c.args.c.now) c.args.free c.args.s.now c.max-in-For-4.result c.in-For.field-0 c.in-For.field-1 c.in-For.field-2 c.in-For.from c.in-For.last c.in-For.by c.in-For.body c.as_slice-in-For.result.now _ _ _ _ _ _ _ _ _ c.in-For.is c.as_slice-in-For.ensures c.in_ok-step-in-For.ensures
    c.in_ok-behind-in-For.ensures c.in_ok-first-in-For.ensures c.in_ok-second-in-For.ensures c.in_ok-third-in-For.ensures c.in_ok-fourth-in-For.ensures c.max-in-For.ensures c.max-in-For-2.ensures c.max-in-For-3.ensures c.max-in-For-4.ensures

pub effect_top-returns-in_ok-second-in-While : goal.effect_top-returns-in_ok-second-in-While
effect_top-returns-in_ok-second-in-While t c =
    while_arm (plan_in c.args.c.now) c.args.free c.args.s.now c.max-in-While.result c.in-While.field-0 c.in-While.e c.in-While.body c.as_slice-in-While.result.now _ _ c.in-While.is c.as_slice-in-While.ensures c.in_ok-first-in-While.ensures c.in_ok-second-in-While.ensures c.max-in-While.ensures

pub effect_top-returns-in_ok-second-in-Repeat : goal.effect_top-returns-in_ok-second-in-Repeat
effect_top-returns-in_ok-second-in-Repeat t c =
    repeat_arm (plan_in c.args.c.now) c.args.free c.args.s.now c.max-in-Repeat.result c.in-Repeat.field-0 c.in-Repeat.body c.as_slice-in-Repeat.result.now c.in-Repeat.e _ _ c.in-Repeat.is c.as_slice-in-Repeat.ensures c.in_ok-first-in-Repeat.ensures c.in_ok-second-in-Repeat.ensures c.max-in-Repeat.ensures

pub branch_top-returns : goal.branch_top-returns
branch_top-returns t c = branch_arm (plan_in c.args.c.now) c.args.free c.args.branch.now c.as_slice.result.now _ _ c.max.result c.as_slice.ensures c.in_ok-first.ensures c.in_ok-second.ensures c.max.ensures

pub case_top-returns : goal.case_top-returns
case_top-returns t c = case_branch_arm (plan_in c.args.c.now) c.args.free c.args.case.now c.as_slice.result.now c.effects_top.result c.as_slice.ensures c.effects_top.ensures
