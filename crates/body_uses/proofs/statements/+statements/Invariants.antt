use Rattle.std.proofs.Common.{◌≡◌, ◌++◌, drop}
use Rattle.st_tree.specs.Statement.{statements_of, branches_of, cases_of}
use Rattle.st_values.specs.View.{program_of}
use Rattle.st_meaning.specs.st_frame.Use.{body_uses, branch_uses, case_uses}
use Rattle.body_uses.specs.Uses.{uses_of}
use Rattle.body_uses.proofs.statements.+statements.Given as goal

abbrev pub invariant-add_body-loop-statement : goal.invariant-add_body-loop-statement
invariant-add_body-loop-statement l = (uses_of l.uses.items ++ body_uses (program_of l.c.tables.now) (statements_of (drop l.statement-index l.body))) ≡ (uses_of l.initial.uses.items ++ body_uses (program_of l.c.tables.now) (statements_of l.body))

abbrev pub invariant-add_branches-loop-branch : goal.invariant-add_branches-loop-branch
invariant-add_branches-loop-branch l = (uses_of l.uses.items ++ branch_uses (program_of l.c.tables.now) (branches_of (drop l.branch-index l.branches))) ≡ (uses_of l.initial.uses.items ++ branch_uses (program_of l.c.tables.now) (branches_of l.branches))

abbrev pub invariant-add_cases-loop-case : goal.invariant-add_cases-loop-case
invariant-add_cases-loop-case l = (uses_of l.uses.items ++ case_uses (program_of l.c.tables.now) (cases_of (drop l.case-index l.cases))) ≡ (uses_of l.initial.uses.items ++ case_uses (program_of l.c.tables.now) (cases_of l.cases))
