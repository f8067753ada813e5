-- One statement, branch, case or label more.
use Rattle.std.proofs.Common.{◌≡◌, ℕ, ◌+◌, ◌<◌, ◌≤◌, Bool, List, [], ◌∷◌, ◌++◌, None, refl, sym, ap, ◌∙◌, map, drop, get_or, length}
use Rattle.st_tree.specs.declared.program.Note.{Note}
use Rattle.st_tree.specs.declared.statement.Branch.{Branch}
use Rattle.st_tree.specs.declared.statement.Case.{Case as CodeCase}
use Rattle.st_tree.specs.declared.statement.Label.{Label}
use Rattle.st_tree.specs.declared.statement.Stmt.{Stmt}
use Rattle.st_tree.specs.Expression.{Expression}
use Rattle.st_tree.specs.Statement.{Statement, Statements, no_statements, statement_then, statements, statements_of, statement_of, Branches, no_branches, branch_then, branches, branches_of, branch_of, Cases, no_cases, case_then, cases, cases_of, case_branch_of}
use Rattle.st_rules.specs.declared.asked.Asked.{Asked}
use Rattle.st_rules.specs.declared.asked.Asked.TheVariants.{Wanted}
use Rattle.st_rules.specs.Kinds.{boolean}
use Rattle.st_rules.specs.Expressions.{typed}
use Rattle.st_rules.specs.Faults.{least, earlier}
use Rattle.st_rules.specs.Scope.{Scope}
use Rattle.st_rules.specs.Statements.{condition_faults, labels_faults, typed_label, statement_faults, statements_faults, branches_faults, cases_faults, typed_statement, typed_statements, typed_branches, typed_cases}
use Rattle.st_rules.proofs.FaultLaws.{earlier-none}
use Rattle.st_rules.proofs.ListLaws.{drop-at, drop-end}
use Rattle.st_check_body.specs.declared.st_body_parts.found.CheckedStatement.{CheckedStatement}
use Rattle.st_check_body.specs.declared.st_body_parts.found.CheckedStatements.{CheckedStatements}
use Rattle.st_check_body.specs.declared.st_body_parts.found.CheckedBranch.{CheckedBranch}
use Rattle.st_check_body.specs.declared.st_body_parts.found.CheckedBranches.{CheckedBranches}
use Rattle.st_check_body.specs.declared.st_body_parts.found.CheckedCase.{CheckedCase}
use Rattle.st_check_body.specs.declared.st_body_parts.found.CheckedCases.{CheckedCases}
use Rattle.st_check_body.specs.st_body_parts.Found.{StatementFinds, StatementsFind, BranchFinds, BranchesFind, CaseFinds, CasesFind}
use Rattle.st_check_body.specs.Private.Lists.{StatementsLeft, statements_onto, BranchesLeft, branches_onto, CasesLeft, cases_onto}
use Rattle.st_check_body.specs.st_body_parts.Nodes.{NoStatement, AddsStatement, NoBranch, AddsBranch, NoCase, AddsCase}
use Rattle.st_check_body.proofs.Parts.{more_broken, none_before, none_behind}

-- ---- statements

statements_append : (xs ys : List (Statement Note)) (rest : Statements Note) → statements_onto (xs ++ ys) rest ≡ statements_onto xs (statements_onto ys rest)
statements_append [] ys rest = refl
statements_append (x ∷ xs) ys rest = ap (statement_then x) (statements_append xs ys rest)

statements_nothing : (xs : List (Statement Note)) → statements_onto xs no_statements ≡ statements xs
statements_nothing [] = refl
statements_nothing (x ∷ xs) = ap (statement_then x) (statements_nothing xs)

module _ (s : Scope) (in_loop : Bool) where
  pub statements_begun : (x : CheckedStatements) (all : Statements ℕ) → NoStatement x → StatementsLeft x s in_loop all all
  statements_begun x all n = record {
    broken = ap (λ r. earlier r (least (statements_faults s in_loop all))) n.least;
    tree = λ h. ap (λ xs. statements_onto xs (typed_statements s all)) n.statements;
  }

  pub statements_next : (x before : CheckedStatements) (one : CheckedStatement) (body : List (Stmt ℕ)) (i : ℕ) (y : Stmt ℕ) (all : Statements ℕ) → i < length body → y ≡ get_or body i y → AddsStatement x before one → StatementFinds one s in_loop (statement_of y) →
      StatementsLeft before s in_loop (statements_of (drop i body)) all → StatementsLeft x s in_loop (statements_of (drop (i + 1) body)) all
  statements_next x before one body i y all h at a f l =
      let rest = statements_of (drop (i + 1) body) in
      let here : statements_of (drop i body) ≡ statement_then (statement_of y) rest = ap statements_of (drop-at body i y h at) in
      record {
        broken = more_broken x.least before.least one.least (statement_faults s in_loop (statement_of y)) (statements_faults s in_loop rest) (least (statements_faults s in_loop all)) a.least f.broken
            (sym (ap (λ ss. earlier before.least (least (statements_faults s in_loop ss))) here) ∙ l.broken);
        tree = λ n.
            let m : earlier before.least one.least ≡ None = sym a.least ∙ n in
            ap (λ xs. statements_onto xs (typed_statements s rest)) (a.statements ∙ ap (λ t. map statement_of before.statements ++ t ∷ []) (f.tree (none_behind before.least one.least m)))
            ∙ statements_append (map statement_of before.statements) (typed_statement s (statement_of y) ∷ []) (typed_statements s rest)
            ∙ sym (ap (λ ss. statements_onto (map statement_of before.statements) (typed_statements s ss)) here)
            ∙ l.tree (none_before before.least one.least m);
      }

  pub statements_ended : (x : CheckedStatements) (body : List (Stmt ℕ)) (i : ℕ) (all : Statements ℕ) → length body ≤ i → StatementsLeft x s in_loop (statements_of (drop i body)) all → StatementsFind x s in_loop all
  statements_ended x body i all h l =
      let here : statements_of (drop i body) ≡ no_statements = ap statements_of (drop-end body i h) in
      record {
        broken = sym (earlier-none x.least) ∙ sym (ap (λ ss. earlier x.least (least (statements_faults s in_loop ss))) here) ∙ l.broken;
        tree = λ n. sym (statements_nothing (map statement_of x.statements)) ∙ sym (ap (λ ss. statements_onto (map statement_of x.statements) (typed_statements s ss)) here) ∙ l.tree n;
      }

-- ---- branches

branches_append : (xs ys : List (Expression Note × Statements Note)) (rest : Branches Note) → branches_onto (xs ++ ys) rest ≡ branches_onto xs (branches_onto ys rest)
branches_append [] ys rest = refl
branches_append (x ∷ xs) ys rest = ap (branch_then x.0 x.1) (branches_append xs ys rest)

branches_nothing : (xs : List (Expression Note × Statements Note)) → branches_onto xs no_branches ≡ branches xs
branches_nothing [] = refl
branches_nothing (x ∷ xs) = ap (branch_then x.0 x.1) (branches_nothing xs)

module _ (s : Scope) (in_loop : Bool) where
  pub branches_begun : (x : CheckedBranches) (all : Branches ℕ) → NoBranch x → BranchesLeft x s in_loop all all
  branches_begun x all n = record {
    broken = ap (λ r. earlier r (least (branches_faults s in_loop all))) n.least;
    tree = λ h. ap (λ xs. branches_onto xs (typed_branches s all)) n.branches;
  }

  pub branches_next : (x before : CheckedBranches) (one : CheckedBranch) (list : List (Branch ℕ)) (i : ℕ) (y : Branch ℕ) (all : Branches ℕ) → i < length list → y ≡ get_or list i y → AddsBranch x before one → BranchFinds one s in_loop (branch_of y).0 (branch_of y).1 →
      BranchesLeft before s in_loop (branches_of (drop i list)) all → BranchesLeft x s in_loop (branches_of (drop (i + 1) list)) all
  branches_next x before one list i y all h at a f l =
      let rest = branches_of (drop (i + 1) list) in
      let here : branches_of (drop i list) ≡ branch_then (branch_of y).0 (branch_of y).1 rest = ap branches_of (drop-at list i y h at) in
      record {
        broken = more_broken x.least before.least one.least (condition_faults s (branch_of y).0 ++ statements_faults s in_loop (branch_of y).1) (branches_faults s in_loop rest) (least (branches_faults s in_loop all)) a.least f.broken
            (sym (ap (λ bs. earlier before.least (least (branches_faults s in_loop bs))) here) ∙ l.broken);
        tree = λ n.
            let m : earlier before.least one.least ≡ None = sym a.least ∙ n in
            ap (λ xs. branches_onto xs (typed_branches s rest)) (a.branches ∙ ap (λ t. map branch_of before.branches ++ t ∷ []) (f.tree (none_behind before.least one.least m)))
            ∙ branches_append (map branch_of before.branches) ((typed s (Wanted boolean) (branch_of y).0, typed_statements s (branch_of y).1) ∷ []) (typed_branches s rest)
            ∙ sym (ap (λ bs. branches_onto (map branch_of before.branches) (typed_branches s bs)) here)
            ∙ l.tree (none_before before.least one.least m);
      }

  pub branches_ended : (x : CheckedBranches) (list : List (Branch ℕ)) (i : ℕ) (all : Branches ℕ) → length list ≤ i → BranchesLeft x s in_loop (branches_of (drop i list)) all → BranchesFind x s in_loop all
  branches_ended x list i all h l =
      let here : branches_of (drop i list) ≡ no_branches = ap branches_of (drop-end list i h) in
      record {
        broken = sym (earlier-none x.least) ∙ sym (ap (λ bs. earlier x.least (least (branches_faults s in_loop bs))) here) ∙ l.broken;
        tree = λ n. sym (branches_nothing (map branch_of x.branches)) ∙ sym (ap (λ bs. branches_onto (map branch_of x.branches) (typed_branches s bs)) here) ∙ l.tree n;
      }

-- ---- cases

cases_append : (xs ys : List (List (Label Note) × Statements Note)) (rest : Cases Note) → cases_onto (xs ++ ys) rest ≡ cases_onto xs (cases_onto ys rest)
cases_append [] ys rest = refl
cases_append (x ∷ xs) ys rest = ap (case_then x.0 x.1) (cases_append xs ys rest)

cases_nothing : (xs : List (List (Label Note) × Statements Note)) → cases_onto xs no_cases ≡ cases xs
cases_nothing [] = refl
cases_nothing (x ∷ xs) = ap (case_then x.0 x.1) (cases_nothing xs)

module _ (s : Scope) (in_loop : Bool) (asked : Asked) where
  pub cases_begun : (x : CheckedCases) (all : Cases ℕ) → NoCase x → CasesLeft x s in_loop asked all all
  cases_begun x all n = record {
    broken = ap (λ r. earlier r (least (cases_faults s in_loop asked all))) n.least;
    tree = λ h. ap (λ xs. cases_onto xs (typed_cases s asked all)) n.cases;
  }

  pub cases_next : (x before : CheckedCases) (one : CheckedCase) (list : List (CodeCase ℕ)) (i : ℕ) (y : CodeCase ℕ) (all : Cases ℕ) → i < length list → y ≡ get_or list i y → AddsCase x before one → CaseFinds one s in_loop asked (case_branch_of y).0 (case_branch_of y).1 →
      CasesLeft before s in_loop asked (cases_of (drop i list)) all → CasesLeft x s in_loop asked (cases_of (drop (i + 1) list)) all
  cases_next x before one list i y all h at a f l =
      let rest = cases_of (drop (i + 1) list) in
      let here : cases_of (drop i list) ≡ case_then (case_branch_of y).0 (case_branch_of y).1 rest = ap cases_of (drop-at list i y h at) in
      record {
        broken = more_broken x.least before.least one.least (labels_faults s asked (case_branch_of y).0 ++ statements_faults s in_loop (case_branch_of y).1) (cases_faults s in_loop asked rest) (least (cases_faults s in_loop asked all)) a.least f.broken
            (sym (ap (λ cs. earlier before.least (least (cases_faults s in_loop asked cs))) here) ∙ l.broken);
        tree = λ n.
            let m : earlier before.least one.least ≡ None = sym a.least ∙ n in
            ap (λ xs. cases_onto xs (typed_cases s asked rest)) (a.cases ∙ ap (λ t. map case_branch_of before.cases ++ t ∷ []) (f.tree (none_behind before.least one.least m)))
            ∙ cases_append (map case_branch_of before.cases) ((map (typed_label s asked) (case_branch_of y).0, typed_statements s (case_branch_of y).1) ∷ []) (typed_cases s asked rest)
            ∙ sym (ap (λ cs. cases_onto (map case_branch_of before.cases) (typed_cases s asked cs)) here)
            ∙ l.tree (none_before before.least one.least m);
      }

  pub cases_ended : (x : CheckedCases) (list : List (CodeCase ℕ)) (i : ℕ) (all : Cases ℕ) → length list ≤ i → CasesLeft x s in_loop asked (cases_of (drop i list)) all → CasesFind x s in_loop asked all
  cases_ended x list i all h l =
      let here : cases_of (drop i list) ≡ no_cases = ap cases_of (drop-end list i h) in
      record {
        broken = sym (earlier-none x.least) ∙ sym (ap (λ cs. earlier x.least (least (cases_faults s in_loop asked cs))) here) ∙ l.broken;
        tree = λ n. sym (cases_nothing (map case_branch_of x.cases)) ∙ sym (ap (λ cs. cases_onto (map case_branch_of x.cases) (typed_cases s asked cs)) here) ∙ l.tree n;
      }
