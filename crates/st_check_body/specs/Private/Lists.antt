-- Lists that are still to come: what was done so far, and what the rest gives, is the whole.
use Rattle.std.specs.Prelude.{◌≡◌, ℕ, Bool, List, [], ◌∷◌, map, None}
use Rattle.st_tree.specs.declared.program.Note.{Note}
use Rattle.st_tree.specs.declared.statement.Label.{Label}
use Rattle.st_tree.specs.Expression.{Expression}
use Rattle.st_tree.specs.Statement.{Statement, Statements, statement_then, Branches, branch_then, Cases, case_then, statement_of, branch_of, case_branch_of}
use Rattle.st_rules.specs.declared.asked.Asked.{Asked}
use Rattle.st_rules.specs.Faults.{least, earlier}
use Rattle.st_rules.specs.Scope.{Scope}
use Rattle.st_rules.specs.Statements.{statements_faults, branches_faults, cases_faults, typed_statements, typed_branches, typed_cases}
use Rattle.st_check_body.specs.declared.st_body_parts.found.CheckedStatements.{CheckedStatements}
use Rattle.st_check_body.specs.declared.st_body_parts.found.CheckedBranches.{CheckedBranches}
use Rattle.st_check_body.specs.declared.st_body_parts.found.CheckedCases.{CheckedCases}

abbrev pub statements_onto : List (Statement Note) → Statements Note → Statements Note
statements_onto [] rest = rest
statements_onto (x ∷ xs) rest = statement_then x (statements_onto xs rest)

pub record StatementsLeft (x : CheckedStatements) (s : Scope) (in_loop : Bool) (rest all : Statements ℕ) : Type 0 where
  pub broken : earlier x.least (least (statements_faults s in_loop rest)) ≡ least (statements_faults s in_loop all)
  pub tree : x.least ≡ None → statements_onto (map statement_of x.statements) (typed_statements s rest) ≡ typed_statements s all

abbrev pub branches_onto : List (Expression Note × Statements Note) → Branches Note → Branches Note
branches_onto [] rest = rest
branches_onto (x ∷ xs) rest = branch_then x.0 x.1 (branches_onto xs rest)

pub record BranchesLeft (x : CheckedBranches) (s : Scope) (in_loop : Bool) (rest all : Branches ℕ) : Type 0 where
  pub broken : earlier x.least (least (branches_faults s in_loop rest)) ≡ least (branches_faults s in_loop all)
  pub tree : x.least ≡ None → branches_onto (map branch_of x.branches) (typed_branches s rest) ≡ typed_branches s all

abbrev pub cases_onto : List (List (Label Note) × Statements Note) → Cases Note → Cases Note
cases_onto [] rest = rest
cases_onto (x ∷ xs) rest = case_then x.0 x.1 (cases_onto xs rest)

pub record CasesLeft (x : CheckedCases) (s : Scope) (in_loop : Bool) (asked : Asked) (rest all : Cases ℕ) : Type 0 where
  pub broken : earlier x.least (least (cases_faults s in_loop asked rest)) ≡ least (cases_faults s in_loop asked all)
  pub tree : x.least ≡ None → cases_onto (map case_branch_of x.cases) (typed_cases s asked rest) ≡ typed_cases s asked all
