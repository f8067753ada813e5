use Rattle.std.proofs.Common.{◌+◌, ◌++◌, drop, refl}
use Rattle.st_rules.proofs.ListLaws.{left_next, left_end}
use Rattle.st_tree.specs.Statement.{statement_of, statements_of, branch_of, branches_of, case_branch_of, cases_of}
use Rattle.st_values.specs.View.{program_of}
use Rattle.st_meaning.specs.st_frame.Use.{expression_uses, statement_uses, body_uses, branch_uses, case_uses}
use Rattle.body_uses.specs.Uses.{uses_of}
use Rattle.body_uses.proofs.StatementLaws.{assign_goes, tried_goes, called_goes, case_branch_goes, else_goes, branches_first, empty_goes, exit_goes, continue_goes, return_goes, no_else, if_goes, case_goes, while_goes, repeat_goes, for_goes, branch_goes}
use Rattle.body_uses.proofs.statements.+statements.Goals as goal

pub add_branch-returns : goal.add_branch-returns
add_branch-returns t c = branch_goes (program_of c.args.c.tables.now) c.args.branch.now c.as_slice.result.now _ _ _ c.as_slice.ensures c.in_ok-add_expression.ensures c.in_ok-add_body.ensures

pub add_otherwise-returns-in-Nothing : goal.add_otherwise-returns-in-Nothing
add_otherwise-returns-in-Nothing t c = no_else (program_of c.args.c.tables.now) _ c.args.otherwise.now c.in-Nothing.is

pub add_statement-returns-in-Empty : goal.add_statement-returns-in-Empty
add_statement-returns-in-Empty t c = empty_goes (program_of c.args.c.tables.now) _ c.args.statement.now c.in-Empty.field-0 c.in-Empty.is

pub add_statement-returns-in-Exit : goal.add_statement-returns-in-Exit
add_statement-returns-in-Exit t c = exit_goes (program_of c.args.c.tables.now) _ c.args.statement.now c.in-Exit.field-0 c.in-Exit.is

pub add_statement-returns-in-Continue : goal.add_statement-returns-in-Continue
add_statement-returns-in-Continue t c = continue_goes (program_of c.args.c.tables.now) _ c.args.statement.now c.in-Continue.field-0 c.in-Continue.is

pub add_statement-returns-in-Return : goal.add_statement-returns-in-Return
add_statement-returns-in-Return t c = return_goes (program_of c.args.c.tables.now) _ c.args.statement.now c.in-Return.field-0 c.in-Return.is

pub add_statement-returns-in_ok-add_otherwise-in-If : goal.add_statement-returns-in_ok-add_otherwise-in-If
add_statement-returns-in_ok-add_otherwise-in-If t c =
    if_goes (program_of c.args.c.tables.now) c.args.statement.now c.in-If.field-0 c.in-If.branches c.as_slice-in-If.result.now c.in-If.otherwise _ _ _ c.in-If.is c.as_slice-in-If.ensures c.in_ok-add_branches-in-If.ensures c.in_ok-add_otherwise-in-If.ensures

pub add_statement-returns-in_ok-add_otherwise-in-Case : goal.add_statement-returns-in_ok-add_otherwise-in-Case
add_statement-returns-in_ok-add_otherwise-in-Case t c =
    case_goes (program_of c.args.c.tables.now) c.args.statement.now c.in-Case.field-0 c.in-Case.selector c.in-Case.cases c.as_slice-in-Case.result.now c.in-Case.otherwise _ _ _ _ c.in-Case.is c.as_slice-in-Case.ensures
    c.in_ok-add_expression-in-Case.ensures c.in_ok-add_cases-in-Case.ensures c.in_ok-add_otherwise-in-Case.ensures

pub add_statement-returns-in_ok-add_body-in-For : goal.add_statement-returns-in_ok-add_body-in-For
add_statement-returns-in_ok-add_body-in-For t c =
    for_goes (program_of c.args.c.tables.now) c.args.statement.now c.in-For.field-0 c.in-For.counter c.in-For.field-2 c.in-For.from c.in-For.to c.in-For.by c.in-For.body c.as_slice-in-For.result.now _ _ _ c.in-For.is c.as_slice-in-For.ensures
    c.in_ok-add_range-in-For.ensures c.in_ok-add_body-in-For.ensures

pub add_statement-returns-in_ok-add_body-in-While : goal.add_statement-returns-in_ok-add_body-in-While
add_statement-returns-in_ok-add_body-in-While t c =
    while_goes (program_of c.args.c.tables.now) c.args.statement.now c.in-While.field-0 c.in-While.condition c.in-While.body c.as_slice-in-While.result.now _ _ _ c.in-While.is c.as_slice-in-While.ensures c.in_ok-add_expression-in-While.ensures
    c.in_ok-add_body-in-While.ensures

pub add_statement-returns-in_ok-add_expression-in-Repeat : goal.add_statement-returns-in_ok-add_expression-in-Repeat
add_statement-returns-in_ok-add_expression-in-Repeat t c =
    repeat_goes (program_of c.args.c.tables.now) c.args.statement.now c.in-Repeat.field-0 c.in-Repeat.body c.as_slice-in-Repeat.result.now c.in-Repeat.condition _ _ _ c.in-Repeat.is c.as_slice-in-Repeat.ensures c.in_ok-add_body-in-Repeat.ensures
    c.in_ok-add_expression-in-Repeat.ensures

pub add_statement-returns-in_ok-add_assigned-in-Assign : goal.add_statement-returns-in_ok-add_assigned-in-Assign
add_statement-returns-in_ok-add_assigned-in-Assign t c = assign_goes (program_of c.args.c.tables.now) (uses_of c.args.uses.now.items) _ _ _ _ _ _ c.in-Assign.is c.in_ok-add_assigned-in-Assign.ensures

pub add_statement-returns-in_ok-add_attempt-in-Attempt : goal.add_statement-returns-in_ok-add_attempt-in-Attempt
add_statement-returns-in_ok-add_attempt-in-Attempt t c = tried_goes (program_of c.args.c.tables.now) (uses_of c.args.uses.now.items) _ _ _ _ _ _ c.in-Attempt.is c.in_ok-add_attempt-in-Attempt.ensures

pub add_statement-returns-in_ok-add_whole_call-in-Call : goal.add_statement-returns-in_ok-add_whole_call-in-Call
add_statement-returns-in_ok-add_whole_call-in-Call t c = called_goes (program_of c.args.c.tables.now) (uses_of c.args.uses.now.items) _ _ _ _ _ _ _ c.in-Call.is c.as_slice.ensures c.in_ok-add_whole_call-in-Call.ensures

pub add_case-returns : goal.add_case-returns
add_case-returns t c = case_branch_goes (program_of c.args.c.tables.now) c.add_body.result (uses_of c.args.uses.now.items) _ c.args.case.now _ c.as_slice.ensures c.add_body.ensures

pub add_otherwise-returns-in_ok-add_body-in-Else : goal.add_otherwise-returns-in_ok-add_body-in-Else
add_otherwise-returns-in_ok-add_body-in-Else t c = else_goes (program_of c.args.c.tables.now) (uses_of c.args.uses.now.items) _ _ _ _ c.in-Else.is c.as_slice.ensures c.in_ok-add_body-in-Else.ensures

pub add_body-loop-statement-preserved : goal.add_body-loop-statement-preserved
add_body-loop-statement-preserved t c =
    left_next (λ ss. body_uses (program_of c.args.c.tables.now) (statements_of ss)) c.args.body.now c.loop-statement.statement-index c.statement-item.result (uses_of c.loop-statement.uses.items) _ (statement_uses (program_of c.args.c.tables.now) (statement_of c.statement-item.result)) _
    c.loop-statement-test.true c.statement-item.is refl c.in_ok-add_statement.ensures c.loop-statement.invariant

pub add_body-returns : goal.add_body-returns
add_body-returns t c = left_end (λ ss. body_uses (program_of c.args.c.tables.now) (statements_of ss)) c.args.body.now c.loop-statement.statement-index (uses_of c.loop-statement.uses.items) _ refl c.loop-statement-test.false c.loop-statement.invariant

pub add_branches-loop-branch-preserved : goal.add_branches-loop-branch-preserved
add_branches-loop-branch-preserved t c =
    left_next (λ bs. branch_uses (program_of c.args.c.tables.now) (branches_of bs)) c.args.branches.now c.loop-branch.branch-index c.branch-item.result (uses_of c.loop-branch.uses.items) _ (expression_uses (program_of c.args.c.tables.now) (branch_of c.branch-item.result).0 ++ body_uses (program_of c.args.c.tables.now) (branch_of c.branch-item.result).1) _
    c.loop-branch-test.true c.branch-item.is (branches_first (program_of c.args.c.tables.now) c.branch-item.result (drop (c.loop-branch.branch-index + 1) c.args.branches.now)) c.in_ok-add_branch.ensures c.loop-branch.invariant

pub add_branches-returns : goal.add_branches-returns
add_branches-returns t c = left_end (λ bs. branch_uses (program_of c.args.c.tables.now) (branches_of bs)) c.args.branches.now c.loop-branch.branch-index (uses_of c.loop-branch.uses.items) _ refl c.loop-branch-test.false c.loop-branch.invariant

pub add_cases-loop-case-preserved : goal.add_cases-loop-case-preserved
add_cases-loop-case-preserved t c =
    left_next (λ cs. case_uses (program_of c.args.c.tables.now) (cases_of cs)) c.args.cases.now c.loop-case.case-index c.case-item.result (uses_of c.loop-case.uses.items) _ (body_uses (program_of c.args.c.tables.now) (case_branch_of c.case-item.result).1) _
    c.loop-case-test.true c.case-item.is refl c.in_ok-add_case.ensures c.loop-case.invariant

pub add_cases-returns : goal.add_cases-returns
add_cases-returns t c = left_end (λ cs. case_uses (program_of c.args.c.tables.now) (cases_of cs)) c.args.cases.now c.loop-case.case-index (uses_of c.loop-case.uses.items) _ refl c.loop-case-test.false c.loop-case.invariant
