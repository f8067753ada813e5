-- Statements with statements in them, from what is found out about their parts, and lists, one item after the other.
use Rattle.std.specs.Prelude.{◌≡◌, ℕ, List, [], ◌∷◌, ◌++◌, map, Option, None, option_map}
use Rattle.st_tree.specs.Expression.{expression_of}
use Rattle.st_tree.specs.Statement.{If, Case, For, While, Repeat, Else, statement_of, statements_of, branches_of, cases_of, otherwise_of, branch_of, case_branch_of}
use Rattle.st_rules.specs.Faults.{earlier}
use Rattle.check_nodes.specs.declared.found.Checked.{Checked}
use Rattle.st_check_body.specs.declared.st_body_parts.found.CheckedStatement.{CheckedStatement}
use Rattle.st_check_body.specs.declared.st_body_parts.found.CheckedStatements.{CheckedStatements}
use Rattle.st_check_body.specs.declared.st_body_parts.found.CheckedBranch.{CheckedBranch}
use Rattle.st_check_body.specs.declared.st_body_parts.found.CheckedBranches.{CheckedBranches}
use Rattle.st_check_body.specs.declared.st_body_parts.found.CheckedCase.{CheckedCase}
use Rattle.st_check_body.specs.declared.st_body_parts.found.CheckedCases.{CheckedCases}
use Rattle.st_check_body.specs.declared.st_body_parts.found.CheckedOtherwise.{CheckedOtherwise}
use Rattle.st_check_body.specs.declared.st_body_parts.found.CheckedLabel.{CheckedLabel}
use Rattle.st_check_body.specs.declared.st_body_parts.found.CheckedLabels.{CheckedLabels}
use Rattle.st_check_body.specs.declared.st_body_parts.found.CheckedControl.{CheckedControl}

-- ---- nodes

pub record IsIf (c : CheckedStatement) (line : ℕ) (bs : CheckedBranches) (o : CheckedOtherwise) : Type 0 where
  pub least : c.least ≡ earlier bs.least o.least
  pub tree : statement_of c.statement ≡ If line (branches_of bs.branches) (otherwise_of o.otherwise)

pub record IsCase (c : CheckedStatement) (line : ℕ) (choice : Checked) (cs : CheckedCases) (o : CheckedOtherwise) : Type 0 where
  pub least : c.least ≡ earlier (earlier choice.least cs.least) o.least
  pub tree : statement_of c.statement ≡ Case line (expression_of choice.tree) (cases_of cs.cases) (otherwise_of o.otherwise)

pub record IsFor (c : CheckedStatement) (line : ℕ) (name : List ℕ) (control : CheckedControl) (body : CheckedStatements) : Type 0 where
  pub least : c.least ≡ earlier control.least body.least
  pub tree : statement_of c.statement ≡ For line control.note name (expression_of control.from) (expression_of control.to) (option_map expression_of control.by) (statements_of body.statements)

pub record IsWhile (c : CheckedStatement) (line : ℕ) (e : Checked) (body : CheckedStatements) : Type 0 where
  pub least : c.least ≡ earlier e.least body.least
  pub tree : statement_of c.statement ≡ While line (expression_of e.tree) (statements_of body.statements)

pub record IsRepeat (c : CheckedStatement) (line : ℕ) (body : CheckedStatements) (e : Checked) : Type 0 where
  pub least : c.least ≡ earlier body.least e.least
  pub tree : statement_of c.statement ≡ Repeat line (statements_of body.statements) (expression_of e.tree)

pub record IsBranch (c : CheckedBranch) (e : Checked) (body : CheckedStatements) : Type 0 where
  pub least : c.least ≡ earlier e.least body.least
  pub tree : branch_of c.branch ≡ (expression_of e.tree, statements_of body.statements)

pub record IsCaseBranch (c : CheckedCase) (ls : CheckedLabels) (body : CheckedStatements) : Type 0 where
  pub least : c.least ≡ earlier ls.least body.least
  pub tree : case_branch_of c.case ≡ (ls.labels, statements_of body.statements)

pub record IsElse (c : CheckedOtherwise) (body : CheckedStatements) : Type 0 where
  pub least : c.least ≡ body.least
  pub tree : otherwise_of c.otherwise ≡ Else (statements_of body.statements)

-- ---- lists

pub record NoStatement (x : CheckedStatements) : Type 0 where
  pub least : x.least ≡ None
  pub statements : map statement_of x.statements ≡ []

pub record AddsStatement (x before : CheckedStatements) (one : CheckedStatement) : Type 0 where
  pub least : x.least ≡ earlier before.least one.least
  pub statements : map statement_of x.statements ≡ map statement_of before.statements ++ statement_of one.statement ∷ []

pub record NoBranch (x : CheckedBranches) : Type 0 where
  pub least : x.least ≡ None
  pub branches : map branch_of x.branches ≡ []

pub record AddsBranch (x before : CheckedBranches) (one : CheckedBranch) : Type 0 where
  pub least : x.least ≡ earlier before.least one.least
  pub branches : map branch_of x.branches ≡ map branch_of before.branches ++ branch_of one.branch ∷ []

pub record NoCase (x : CheckedCases) : Type 0 where
  pub least : x.least ≡ None
  pub cases : map case_branch_of x.cases ≡ []

pub record AddsCase (x before : CheckedCases) (one : CheckedCase) : Type 0 where
  pub least : x.least ≡ earlier before.least one.least
  pub cases : map case_branch_of x.cases ≡ map case_branch_of before.cases ++ case_branch_of one.case ∷ []

pub record NoLabel (x : CheckedLabels) : Type 0 where
  pub least : x.least ≡ None
  pub labels : x.labels ≡ []

pub record AddsLabel (x before : CheckedLabels) (one : CheckedLabel) : Type 0 where
  pub least : x.least ≡ earlier before.least one.least
  pub labels : x.labels ≡ before.labels ++ one.label ∷ []
