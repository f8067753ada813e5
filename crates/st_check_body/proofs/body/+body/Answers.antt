use Rattle.std.proofs.Common.{ap, ◌∙◌}
use Rattle.st_tree.specs.Statement.{statement_of, statement_of-Empty, statement_of-Assign, statement_of-Attempt, statement_of-Exit, statement_of-Continue, statement_of-Return, otherwise_of, otherwise_of-Nothing}
use Rattle.st_check_expr.proofs.OkLaws.{when_ok}
use Rattle.st_check_body.proofs.ListLaws.{statements_begun, statements_next, statements_ended, branches_begun, branches_next, branches_ended, cases_begun, cases_next, cases_ended}
use Rattle.st_check_body.proofs.NodeLaws.{statement_seen, all_statements_seen, call_seen, otherwise_seen, if_arm, case_arm, for_arm, while_arm, repeat_arm, branch_arm, case_branch_arm, else_arm}
use Rattle.st_check_body.proofs.body.+body.Goals as goal

-- ---- statements

pub check_statement-returns-in-Empty : goal.check_statement-returns-in-Empty
check_statement-returns-in-Empty t c = statement_seen _ _ _ _ _ (ap statement_of c.in-Empty.is ∙ statement_of-Empty _) (c.empty_of.ensures c.args.s.now c.args.in_loop)

pub check_statement-returns-in-Assign : goal.check_statement-returns-in-Assign
check_statement-returns-in-Assign t c = all_statements_seen _ _ _ _ _ (ap statement_of c.in-Assign.is ∙ statement_of-Assign _ _ _ _) (c.check_assign.ensures c.args.in_loop)

pub check_statement-returns-in-Attempt : goal.check_statement-returns-in-Attempt
check_statement-returns-in-Attempt t c = all_statements_seen _ _ _ _ _ (ap statement_of c.in-Attempt.is ∙ statement_of-Attempt _ _ _ _) (c.check_attempt.ensures c.args.in_loop)

pub check_statement-returns-in-Call : goal.check_statement-returns-in-Call
check_statement-returns-in-Call t c = when_ok c.check_call.result (c.check_call.ensures c.args.in_loop) (λ x w. call_seen x _ _ _ _ _ _ _ _ c.in-Call.is c.as_slice.ensures w)

pub check_statement-returns-in-Exit : goal.check_statement-returns-in-Exit
check_statement-returns-in-Exit t c = statement_seen _ _ _ _ _ (ap statement_of c.in-Exit.is ∙ statement_of-Exit _) (c.exit_of.ensures c.args.s.now)

pub check_statement-returns-in-Continue : goal.check_statement-returns-in-Continue
check_statement-returns-in-Continue t c = statement_seen _ _ _ _ _ (ap statement_of c.in-Continue.is ∙ statement_of-Continue _) (c.continue_of.ensures c.args.s.now)

pub check_statement-returns-in-Return : goal.check_statement-returns-in-Return
check_statement-returns-in-Return t c = statement_seen _ _ _ _ _ (ap statement_of c.in-Return.is ∙ statement_of-Return _) (c.return_of.ensures c.args.s.now c.args.in_loop)

pub check_statement-returns-in_ok-o-in-If : goal.check_statement-returns-in_ok-o-in-If
check_statement-returns-in_ok-o-in-If t c = if_arm _ _ _ _ _ _ _ _ _ _ c.in-If.is c.as_slice-in-If.ensures c.in_ok-bs-in-If.ensures c.in_ok-o-in-If.ensures c.if_of.ensures

pub check_statement-returns-in_ok-o-in-Case : goal.check_statement-returns-in_ok-o-in-Case
check_statement-returns-in_ok-o-in-Case t c = case_arm _ _ _ _ _ _ _ _ _ _ _ _ _ c.in-Case.is c.as_slice-in-Case.ensures c.in_ok-choice-in-Case.ensures c.in_ok-asked-in-Case.ensures c.in_ok-cs-in-Case.ensures c.in_ok-o-in-Case.ensures c.case_of.ensures

pub check_statement-returns-in_ok-body-in-For : goal.check_statement-returns-in_ok-body-in-For
check_statement-returns-in_ok-body-in-For t c = when_ok c.for_of.result c.for_of.ensures (λ x w. for_arm x _ _ _ _ _ _ _ _ _ _ _ _ _ c.in-For.is c.as_slice-in-For.ensures c.in_ok-control-in-For.ensures c.in_ok-body-in-For.ensures w)

pub check_statement-returns-in_ok-body-in-While : goal.check_statement-returns-in_ok-body-in-While
check_statement-returns-in_ok-body-in-While t c = while_arm _ _ _ _ _ _ _ _ _ _ c.in-While.is c.as_slice-in-While.ensures c.in_ok-e-in-While.ensures c.in_ok-body-in-While.ensures c.while_of.ensures

pub check_statement-returns-in_ok-e-in-Repeat : goal.check_statement-returns-in_ok-e-in-Repeat
check_statement-returns-in_ok-e-in-Repeat t c = repeat_arm _ _ _ _ _ _ _ _ _ _ c.in-Repeat.is c.as_slice-in-Repeat.ensures c.in_ok-repeated-in-Repeat.ensures c.in_ok-e-in-Repeat.ensures c.repeat_of.ensures

-- ---- lists

pub check_statements-loop-x-init : goal.check_statements-loop-x-init
check_statements-loop-x-init t c = statements_begun _ _ _ _ c.no_statement-so_far.ensures

pub check_statements-loop-x-preserved : goal.check_statements-loop-x-preserved
check_statements-loop-x-preserved t c = statements_next _ _ _ _ _ _ _ _ _ c.loop-x-test.true c.x-item.is c.in_ok-so_far.ensures c.in_ok-one.ensures c.loop-x.invariant

pub check_statements-returns : goal.check_statements-returns
check_statements-returns t c = statements_ended _ _ _ _ _ _ c.loop-x-test.false c.loop-x.invariant

pub check_branch-returns : goal.check_branch-returns
check_branch-returns t c = branch_arm _ _ _ _ _ _ _ c.as_slice.ensures c.in_ok-e.ensures c.in_ok-body.ensures c.branch_of.ensures

pub check_branches-loop-branch-init : goal.check_branches-loop-branch-init
check_branches-loop-branch-init t c = branches_begun _ _ _ _ c.no_branch-so_far.ensures

pub check_branches-loop-branch-preserved : goal.check_branches-loop-branch-preserved
check_branches-loop-branch-preserved t c = branches_next _ _ _ _ _ _ _ _ _ c.loop-branch-test.true c.branch-item.is c.in_ok-so_far.ensures c.in_ok-one.ensures c.loop-branch.invariant

pub check_branches-returns : goal.check_branches-returns
check_branches-returns t c = branches_ended _ _ _ _ _ _ c.loop-branch-test.false c.loop-branch.invariant

pub check_case-returns : goal.check_case-returns
check_case-returns t c = case_branch_arm _ _ _ _ _ _ _ _ _ c.as_slice.ensures c.as_slice-2.ensures c.in_ok-ls.ensures c.in_ok-body.ensures c.case_branch_of.ensures

pub check_cases-loop-case-init : goal.check_cases-loop-case-init
check_cases-loop-case-init t c = cases_begun _ _ _ _ _ c.no_case-so_far.ensures

pub check_cases-loop-case-preserved : goal.check_cases-loop-case-preserved
check_cases-loop-case-preserved t c = cases_next _ _ _ _ _ _ _ _ _ _ c.loop-case-test.true c.case-item.is c.in_ok-so_far.ensures c.in_ok-one.ensures c.loop-case.invariant

pub check_cases-returns : goal.check_cases-returns
check_cases-returns t c = cases_ended _ _ _ _ _ _ _ c.loop-case-test.false c.loop-case.invariant

-- ---- ELSE

pub check_otherwise-returns-in-Nothing : goal.check_otherwise-returns-in-Nothing
check_otherwise-returns-in-Nothing t c = otherwise_seen _ _ _ _ _ (ap otherwise_of c.in-Nothing.is ∙ otherwise_of-Nothing) (c.no_else.ensures c.args.s.now c.args.in_loop)

pub check_otherwise-returns-in_ok-body-in-Else : goal.check_otherwise-returns-in_ok-body-in-Else
check_otherwise-returns-in_ok-body-in-Else t c = else_arm _ _ _ _ _ _ _ c.in-Else.is c.as_slice.ensures c.in_ok-body-in-Else.ensures c.else_of.ensures
