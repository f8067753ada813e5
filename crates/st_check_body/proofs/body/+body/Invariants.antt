use Rattle.std.proofs.Common.{drop}
use Rattle.st_tree.specs.Statement.{statements_of, branches_of, cases_of}
use Rattle.st_check_body.specs.Private.Lists.{StatementsLeft, BranchesLeft, CasesLeft}
use Rattle.st_check_body.proofs.body.+body.Given as goal

abbrev pub invariant-check_statements-loop-x : goal.invariant-check_statements-loop-x
invariant-check_statements-loop-x l = StatementsLeft l.so_far l.s l.in_loop (statements_of (drop l.x-index l.body)) (statements_of l.body)

abbrev pub invariant-check_branches-loop-branch : goal.invariant-check_branches-loop-branch
invariant-check_branches-loop-branch l = BranchesLeft l.so_far l.s l.in_loop (branches_of (drop l.branch-index l.branches)) (branches_of l.branches)

abbrev pub invariant-check_cases-loop-case : goal.invariant-check_cases-loop-case
invariant-check_cases-loop-case l = CasesLeft l.so_far l.s l.in_loop l.asked (cases_of (drop l.case-index l.cases)) (cases_of l.cases)
