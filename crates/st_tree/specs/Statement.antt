-- The plain tree of a statement. Its nodes have the names of the code's.
use Rattle.std.specs.Prelude.{◌≡◌, ℕ, List, [], ◌∷◌, map, Option}
use Rattle.std.proofs.Common.{sym, ◌∙◌, ap}
use Rattle.std.specs.Option.{option_map}
use Rattle.st_tree.specs.declared.expression.Expr.{Expr}
use Rattle.st_tree.specs.declared.expression.Place.{Place}
use Rattle.st_tree.specs.declared.expression.Argument.{Argument as CodeArgument}
use Rattle.st_tree.specs.declared.statement.Label.{Label}
use Rattle.st_tree.specs.Expression.{Expression, Selectors, Arguments, expression_of, place_of, arguments_of}
use Rattle.st_tree.specs.declared.statement.Otherwise.TheOpen.{Otherwise-F, Stmt-F, Branch-F, Case-F}
use Rattle.st_tree.specs.declared.statement.Otherwise.TheFolds.{fold-Otherwise, fold-Stmt, fold-Branch, fold-Case, fold-roll-Otherwise, fold-roll-Stmt, fold_out-Branch, fold_out-Case}
use Rattle.st_tree.specs.declared.statement.Otherwise.{Otherwise as CodeOtherwise}
use Rattle.st_tree.specs.declared.statement.Otherwise.TheVariants as otherwise
use Rattle.st_tree.specs.declared.statement.Stmt.{Stmt}
use Rattle.st_tree.specs.declared.statement.Stmt.TheVariants as code
use Rattle.st_tree.specs.declared.statement.Branch.{Branch}
use Rattle.st_tree.specs.declared.statement.Case.{Case as CodeCase}
use Rattle.st_tree.specs.declared.expression.Root.{Root}

mutual
  pub data Statement (A : Type 0) : Type 0 where
    Empty : ℕ → Statement A
    Assign : ℕ → A → Root A → Selectors A → Expression A → Statement A
    Attempt : ℕ → A → Root A → Selectors A → Expression A → Statement A
    Call : ℕ → A → Root A → Selectors A → Arguments A → Statement A
    Exit : ℕ → Statement A
    Continue : ℕ → Statement A
    Return : ℕ → Statement A
    If : ℕ → Branches A → Otherwise A → Statement A
    Case : ℕ → Expression A → Cases A → Otherwise A → Statement A
    For : ℕ → A → List ℕ → Expression A → Expression A → Option (Expression A) → Statements A → Statement A
    While : ℕ → Expression A → Statements A → Statement A
    Repeat : ℕ → Statements A → Expression A → Statement A

  pub data Statements (A : Type 0) : Type 0 where
    no_statements : Statements A
    statement_then : Statement A → Statements A → Statements A

  pub data Branches (A : Type 0) : Type 0 where
    no_branches : Branches A
    branch_then : Expression A → Statements A → Branches A → Branches A

  pub data Cases (A : Type 0) : Type 0 where
    no_cases : Cases A
    case_then : List (Label A) → Statements A → Cases A → Cases A

  pub data Otherwise (A : Type 0) : Type 0 where
    Nothing : Otherwise A
    Else : Statements A → Otherwise A

-- ---- the plain tree of a statement of the code

-- lists of one level
abbrev pub statements : {A : Type 0} → List (Statement A) → Statements A
statements [] = no_statements
statements (s ∷ ss) = statement_then s (statements ss)

abbrev pub branches : {A : Type 0} → List (Expression A × Statements A) → Branches A
branches [] = no_branches
branches (b ∷ bs) = branch_then b.0 b.1 (branches bs)

abbrev pub cases : {A : Type 0} → List (List (Label A) × Statements A) → Cases A
cases [] = no_cases
cases (c ∷ cs) = case_then c.0 c.1 (cases cs)

-- one level, with the plain trees of its parts in their places
abbrev pub otherwise_level : {A : Type 0} → Otherwise-F A (Otherwise A) (Statement A) (Expression A × Statements A) (List (Label A) × Statements A) → Otherwise A
otherwise_level Otherwise-F.Nothing = Nothing
otherwise_level (Otherwise-F.Else ss) = Else (statements ss)

abbrev pub statement_level : {A : Type 0} → Stmt-F A (Otherwise A) (Statement A) (Expression A × Statements A) (List (Label A) × Statements A) → Statement A
statement_level (Stmt-F.Empty l) = Empty l
statement_level (Stmt-F.Assign l a p e) = Assign l a (place_of p).0 (place_of p).1 (expression_of e)
statement_level (Stmt-F.Attempt l a p e) = Attempt l a (place_of p).0 (place_of p).1 (expression_of e)
statement_level (Stmt-F.Call l a p xs) = Call l a (place_of p).0 (place_of p).1 (arguments_of xs)
statement_level (Stmt-F.Exit l) = Exit l
statement_level (Stmt-F.Continue l) = Continue l
statement_level (Stmt-F.Return l) = Return l
statement_level (Stmt-F.If l bs o) = If l (branches bs) o
statement_level (Stmt-F.Case l e cs o) = Case l (expression_of e) (cases cs) o
statement_level (Stmt-F.For l a n from to by ss) = For l a n (expression_of from) (expression_of to) (option_map expression_of by) (statements ss)
statement_level (Stmt-F.While l e ss) = While l (expression_of e) (statements ss)
statement_level (Stmt-F.Repeat l ss e) = Repeat l (statements ss) (expression_of e)

abbrev pub branch_level : {A : Type 0} → Branch-F A (Otherwise A) (Statement A) (Expression A × Statements A) (List (Label A) × Statements A) → Expression A × Statements A
branch_level x = ((expression_of x.condition), (statements x.body))

abbrev pub case_level : {A : Type 0} → Case-F A (Otherwise A) (Statement A) (Expression A × Statements A) (List (Label A) × Statements A) → List (Label A) × Statements A
case_level x = (x.labels, (statements x.body))

unfoldable pub otherwise_of : {A : Type 0} → CodeOtherwise A → Otherwise A
otherwise_of {A = A} = fold-Otherwise A (Otherwise A) (Statement A) (Expression A × Statements A) (List (Label A) × Statements A) otherwise_level statement_level branch_level case_level

unfoldable pub statement_of : {A : Type 0} → Stmt A → Statement A
statement_of {A = A} = fold-Stmt A (Otherwise A) (Statement A) (Expression A × Statements A) (List (Label A) × Statements A) otherwise_level statement_level branch_level case_level

unfoldable pub branch_of : {A : Type 0} → Branch A → Expression A × Statements A
branch_of {A = A} = fold-Branch A (Otherwise A) (Statement A) (Expression A × Statements A) (List (Label A) × Statements A) otherwise_level statement_level branch_level case_level

unfoldable pub case_branch_of : {A : Type 0} → CodeCase A → List (Label A) × Statements A
case_branch_of {A = A} = fold-Case A (Otherwise A) (Statement A) (Expression A × Statements A) (List (Label A) × Statements A) otherwise_level statement_level branch_level case_level

abbrev pub statements_of : {A : Type 0} → List (Stmt A) → Statements A
statements_of ss = statements (map statement_of ss)

abbrev pub branches_of : {A : Type 0} → List (Branch A) → Branches A
branches_of bs = branches (map branch_of bs)

abbrev pub cases_of : {A : Type 0} → List (CodeCase A) → Cases A
cases_of cs = cases (map case_branch_of cs)

-- what each variant is
pub otherwise_of-Nothing : {A : Type 0} → otherwise_of {A = A} otherwise.Nothing ≡ Nothing
unfolding otherwise_of statement_of branch_of case_branch_of
otherwise_of-Nothing {A = A} = ap (otherwise_of {A = A}) (sym (otherwise.rolls-Nothing)) ∙ fold-roll-Otherwise A _ _ _ _ otherwise_level statement_level branch_level case_level (Otherwise-F.Nothing)

pub otherwise_of-Else : {A : Type 0} (ss : List (Stmt A)) → otherwise_of (otherwise.Else ss) ≡ Else (statements_of ss)
unfolding otherwise_of statement_of branch_of case_branch_of
otherwise_of-Else {A = A} ss = ap (otherwise_of {A = A}) (sym (otherwise.rolls-Else ss)) ∙ fold-roll-Otherwise A _ _ _ _ otherwise_level statement_level branch_level case_level (Otherwise-F.Else ss)

pub statement_of-Empty : {A : Type 0} (l : ℕ) → statement_of {A = A} (code.Empty l) ≡ Empty l
unfolding otherwise_of statement_of branch_of case_branch_of
statement_of-Empty {A = A} l = ap (statement_of {A = A}) (sym (code.rolls-Empty l)) ∙ fold-roll-Stmt A _ _ _ _ otherwise_level statement_level branch_level case_level (Stmt-F.Empty l)

pub statement_of-Assign : {A : Type 0} (l : ℕ) (a : A) (p : Place A) (e : Expr A) → statement_of (code.Assign l a p e) ≡ Assign l a (place_of p).0 (place_of p).1 (expression_of e)
unfolding otherwise_of statement_of branch_of case_branch_of
statement_of-Assign {A = A} l a p e = ap (statement_of {A = A}) (sym (code.rolls-Assign l a p e)) ∙ fold-roll-Stmt A _ _ _ _ otherwise_level statement_level branch_level case_level (Stmt-F.Assign l a p e)

pub statement_of-Attempt : {A : Type 0} (l : ℕ) (a : A) (p : Place A) (e : Expr A) → statement_of (code.Attempt l a p e) ≡ Attempt l a (place_of p).0 (place_of p).1 (expression_of e)
unfolding otherwise_of statement_of branch_of case_branch_of
statement_of-Attempt {A = A} l a p e = ap (statement_of {A = A}) (sym (code.rolls-Attempt l a p e)) ∙ fold-roll-Stmt A _ _ _ _ otherwise_level statement_level branch_level case_level (Stmt-F.Attempt l a p e)

pub statement_of-Call : {A : Type 0} (l : ℕ) (a : A) (p : Place A) (xs : List (CodeArgument A)) → statement_of (code.Call l a p xs) ≡ Call l a (place_of p).0 (place_of p).1 (arguments_of xs)
unfolding otherwise_of statement_of branch_of case_branch_of
statement_of-Call {A = A} l a p xs = ap (statement_of {A = A}) (sym (code.rolls-Call l a p xs)) ∙ fold-roll-Stmt A _ _ _ _ otherwise_level statement_level branch_level case_level (Stmt-F.Call l a p xs)

pub statement_of-Exit : {A : Type 0} (l : ℕ) → statement_of {A = A} (code.Exit l) ≡ Exit l
unfolding otherwise_of statement_of branch_of case_branch_of
statement_of-Exit {A = A} l = ap (statement_of {A = A}) (sym (code.rolls-Exit l)) ∙ fold-roll-Stmt A _ _ _ _ otherwise_level statement_level branch_level case_level (Stmt-F.Exit l)

pub statement_of-Continue : {A : Type 0} (l : ℕ) → statement_of {A = A} (code.Continue l) ≡ Continue l
unfolding otherwise_of statement_of branch_of case_branch_of
statement_of-Continue {A = A} l = ap (statement_of {A = A}) (sym (code.rolls-Continue l)) ∙ fold-roll-Stmt A _ _ _ _ otherwise_level statement_level branch_level case_level (Stmt-F.Continue l)

pub statement_of-Return : {A : Type 0} (l : ℕ) → statement_of {A = A} (code.Return l) ≡ Return l
unfolding otherwise_of statement_of branch_of case_branch_of
statement_of-Return {A = A} l = ap (statement_of {A = A}) (sym (code.rolls-Return l)) ∙ fold-roll-Stmt A _ _ _ _ otherwise_level statement_level branch_level case_level (Stmt-F.Return l)

pub statement_of-If : {A : Type 0} (l : ℕ) (bs : List (Branch A)) (o : CodeOtherwise A) → statement_of (code.If l bs o) ≡ If l (branches_of bs) (otherwise_of o)
unfolding otherwise_of statement_of branch_of case_branch_of
statement_of-If {A = A} l bs o = ap (statement_of {A = A}) (sym (code.rolls-If l bs o)) ∙ fold-roll-Stmt A _ _ _ _ otherwise_level statement_level branch_level case_level (Stmt-F.If l bs o)

pub statement_of-Case : {A : Type 0} (l : ℕ) (e : Expr A) (cs : List (CodeCase A)) (o : CodeOtherwise A) → statement_of (code.Case l e cs o) ≡ Case l (expression_of e) (cases_of cs) (otherwise_of o)
unfolding otherwise_of statement_of branch_of case_branch_of
statement_of-Case {A = A} l e cs o = ap (statement_of {A = A}) (sym (code.rolls-Case l e cs o)) ∙ fold-roll-Stmt A _ _ _ _ otherwise_level statement_level branch_level case_level (Stmt-F.Case l e cs o)

pub statement_of-For : {A : Type 0} (l : ℕ) (a : A) (n : List ℕ) (from : Expr A) (to : Expr A) (by : Option (Expr A)) (ss : List (Stmt A)) → statement_of (code.For l a n from to by ss) ≡ For l a n (expression_of from) (expression_of to) (option_map expression_of by) (statements_of ss)
unfolding otherwise_of statement_of branch_of case_branch_of
statement_of-For {A = A} l a n from to by ss = ap (statement_of {A = A}) (sym (code.rolls-For l a n from to by ss)) ∙ fold-roll-Stmt A _ _ _ _ otherwise_level statement_level branch_level case_level (Stmt-F.For l a n from to by ss)

pub statement_of-While : {A : Type 0} (l : ℕ) (e : Expr A) (ss : List (Stmt A)) → statement_of (code.While l e ss) ≡ While l (expression_of e) (statements_of ss)
unfolding otherwise_of statement_of branch_of case_branch_of
statement_of-While {A = A} l e ss = ap (statement_of {A = A}) (sym (code.rolls-While l e ss)) ∙ fold-roll-Stmt A _ _ _ _ otherwise_level statement_level branch_level case_level (Stmt-F.While l e ss)

pub statement_of-Repeat : {A : Type 0} (l : ℕ) (ss : List (Stmt A)) (e : Expr A) → statement_of (code.Repeat l ss e) ≡ Repeat l (statements_of ss) (expression_of e)
unfolding otherwise_of statement_of branch_of case_branch_of
statement_of-Repeat {A = A} l ss e = ap (statement_of {A = A}) (sym (code.rolls-Repeat l ss e)) ∙ fold-roll-Stmt A _ _ _ _ otherwise_level statement_level branch_level case_level (Stmt-F.Repeat l ss e)

pub branch_of-is : {A : Type 0} (x : Branch A) → branch_of x ≡ ((expression_of x.condition), (statements_of x.body))
unfolding otherwise_of statement_of branch_of case_branch_of
branch_of-is {A = A} x = fold_out-Branch A _ _ _ _ otherwise_level statement_level branch_level case_level x

pub branch_of-condition : {A : Type 0} (x : Branch A) → (branch_of x).0 ≡ (expression_of x.condition)
branch_of-condition x = ap (λ p. p.0) (branch_of-is x)

pub branch_of-body : {A : Type 0} (x : Branch A) → (branch_of x).1 ≡ (statements_of x.body)
branch_of-body x = ap (λ p. p.1) (branch_of-is x)

pub case_branch_of-is : {A : Type 0} (x : CodeCase A) → case_branch_of x ≡ (x.labels, (statements_of x.body))
unfolding otherwise_of statement_of branch_of case_branch_of
case_branch_of-is {A = A} x = fold_out-Case A _ _ _ _ otherwise_level statement_level branch_level case_level x

pub case_branch_of-labels : {A : Type 0} (x : CodeCase A) → (case_branch_of x).0 ≡ x.labels
case_branch_of-labels x = ap (λ p. p.0) (case_branch_of-is x)

pub case_branch_of-body : {A : Type 0} (x : CodeCase A) → (case_branch_of x).1 ≡ (statements_of x.body)
case_branch_of-body x = ap (λ p. p.1) (case_branch_of-is x)

pub ruleset statement_views = (otherwise_of-Nothing, otherwise_of-Else, statement_of-Empty, statement_of-Assign, statement_of-Attempt, statement_of-Call, statement_of-Exit, statement_of-Continue, statement_of-Return, statement_of-If, statement_of-Case, statement_of-For, statement_of-While, statement_of-Repeat, branch_of-condition, branch_of-body, case_branch_of-labels, case_branch_of-body)
