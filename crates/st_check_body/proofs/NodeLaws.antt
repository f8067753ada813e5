-- Statements with statements in them, from what their parts are found to be.
use Rattle.std.proofs.Common.{◌≡◌, ℕ, Bool, true, false, List, ◌++◌, Option, None, refl, sym, ap, ◌∙◌, subst}
use Rattle.std.specs.Prelude.{option_map, Result, IfOk}
use Rattle.plc_text.specs.declared.memory.NoMemory.{NoMemory}
use Rattle.st_tree.specs.declared.expression.Argument.{Argument as CodeArgument}
use Rattle.st_tree.specs.declared.expression.Expr.{Expr}
use Rattle.st_tree.specs.declared.expression.Place.{Place as CodePlace}
use Rattle.st_tree.specs.declared.statement.Branch.{Branch}
use Rattle.st_tree.specs.declared.statement.Case.{Case as CodeCase}
use Rattle.st_tree.specs.declared.statement.Label.{Label}
use Rattle.st_tree.specs.declared.statement.Otherwise.{Otherwise as CodeOtherwise}
use Rattle.st_tree.specs.declared.statement.Otherwise.TheVariants as otherwise
use Rattle.st_tree.specs.declared.statement.Stmt.{Stmt}
use Rattle.st_tree.specs.declared.statement.Stmt.TheVariants as code
use Rattle.st_tree.specs.Expression.{Expression, expression_of, arguments_of, place_of}
use Rattle.st_tree.specs.Statement.{Statement, Statements, Call, If, Case, For, While, Repeat, Else, Otherwise, statement_of, statements_of, branches_of, cases_of, otherwise_of, branch_of, branch_of-is, case_branch_of, case_branch_of-is, statement_of-Call, statement_of-If, statement_of-Case, statement_of-For, statement_of-While, statement_of-Repeat, otherwise_of-Else}
use Rattle.st_rules.specs.declared.asked.Asked.{Asked}
use Rattle.st_rules.specs.declared.asked.Asked.TheVariants.{Anything, Wanted}
use Rattle.st_rules.specs.Faults.{earlier}
use Rattle.st_rules.specs.Kinds.{boolean}
use Rattle.st_rules.specs.Scope.{Scope, sought}
use Rattle.st_rules.specs.Literals.{asked_of}
use Rattle.st_rules.specs.Expressions.{note, meant_target, type_of, typed}
use Rattle.st_rules.specs.Statements.{condition_faults, case_selector_faults, labels_faults, for_faults, control_type, control_asked, statements_faults, branches_faults, cases_faults, otherwise_faults, typed_statements, typed_branches, typed_cases}
use Rattle.check_nodes.specs.declared.found.Checked.{Checked}
use Rattle.check_nodes.specs.Found.{Finds}
use Rattle.st_check_body.specs.declared.st_body_parts.found.CheckedStatement.{CheckedStatement}
use Rattle.st_check_body.specs.declared.st_body_parts.found.CheckedStatements.{CheckedStatements}
use Rattle.st_check_body.specs.declared.st_body_parts.found.CheckedBranch.{CheckedBranch}
use Rattle.st_check_body.specs.declared.st_body_parts.found.CheckedBranches.{CheckedBranches}
use Rattle.st_check_body.specs.declared.st_body_parts.found.CheckedCase.{CheckedCase}
use Rattle.st_check_body.specs.declared.st_body_parts.found.CheckedCases.{CheckedCases}
use Rattle.st_check_body.specs.declared.st_body_parts.found.CheckedControl.{CheckedControl}
use Rattle.st_check_body.specs.declared.st_body_parts.found.CheckedLabels.{CheckedLabels}
use Rattle.st_check_body.specs.declared.st_body_parts.found.CheckedOtherwise.{CheckedOtherwise}
use Rattle.st_check_body.specs.st_body_parts.Found.{ControlFinds, StatementFinds, StatementsFind, BranchFinds, BranchesFind, CaseFinds, CasesFind, OtherwiseFinds, LabelsFind}
use Rattle.st_check_body.specs.st_body_parts.Nodes.{IsIf, IsCase, IsFor, IsWhile, IsRepeat, IsBranch, IsCaseBranch, IsElse}
use Rattle.st_check_body.proofs.Parts.{both, joined, none_before, none_behind}

pub statement_seen : (c : CheckedStatement) (s : Scope) (in_loop : Bool) (x : Stmt ℕ) (y : Statement ℕ) → statement_of x ≡ y → StatementFinds c s in_loop y → StatementFinds c s in_loop (statement_of x)
statement_seen c s in_loop x y h f = subst (λ (z : Statement ℕ). StatementFinds c s in_loop z) (sym h) f

pub all_statements_seen : (r : Result CheckedStatement NoMemory) (s : Scope) (in_loop : Bool) (x : Stmt ℕ) (y : Statement ℕ) → statement_of x ≡ y → IfOk r (λ c. StatementFinds c s in_loop y) → IfOk r (λ c. StatementFinds c s in_loop (statement_of x))
all_statements_seen r s in_loop x y h f = subst (λ (z : Statement ℕ). IfOk r (λ c. StatementFinds c s in_loop z)) (sym h) f

pub call_seen : (c : CheckedStatement) (s : Scope) (in_loop : Bool) (x : Stmt ℕ) (l k : ℕ) (p : CodePlace ℕ) (xs ys : List (CodeArgument ℕ)) → x ≡ code.Call l k p xs → ys ≡ xs →
    StatementFinds c s in_loop (Call l k (place_of p).0 (place_of p).1 (arguments_of ys)) → StatementFinds c s in_loop (statement_of x)
call_seen c s in_loop x l k p xs ys h q f = statement_seen c s in_loop x _ (ap statement_of (h ∙ ap (λ (us : List (CodeArgument ℕ)). code.Call l k p us) (sym q)) ∙ statement_of-Call l k p ys) f

module _ (c : CheckedStatement) (s : Scope) (in_loop : Bool) (x : Stmt ℕ) (l : ℕ) where
  pub if_arm : (bs us : List (Branch ℕ)) (o : CodeOtherwise ℕ) (b : CheckedBranches) (e : CheckedOtherwise) → x ≡ code.If l bs o → us ≡ bs → BranchesFind b s in_loop (branches_of us) → OtherwiseFinds e s in_loop (otherwise_of o) → IsIf c l b e →
      StatementFinds c s in_loop (statement_of x)
  if_arm bs us o b e h q f g w =
      statement_seen c s in_loop x (If l (branches_of us) (otherwise_of o)) (ap statement_of (h ∙ ap (λ (ys : List (Branch ℕ)). code.If l ys o) (sym q)) ∙ statement_of-If l us o)
      (record {
        broken = joined c.least b.least e.least (branches_faults s in_loop (branches_of us)) (otherwise_faults s in_loop (otherwise_of o)) w.least f.broken g.broken;
        tree = λ n.
            let m : earlier b.least e.least ≡ None = sym w.least ∙ n in
            w.tree ∙ ap (λ bs. If l bs (otherwise_of e.otherwise)) (f.tree (none_before b.least e.least m)) ∙ ap (If l (typed_branches s (branches_of us))) (g.tree (none_behind b.least e.least m));
      })

  pub case_arm : (e : Expr ℕ) (cs us : List (CodeCase ℕ)) (o : CodeOtherwise ℕ) (choice : Checked) (asked : Asked) (k : CheckedCases) (r : CheckedOtherwise) → x ≡ code.Case l e cs o → us ≡ cs →
      Finds choice (type_of s Anything (expression_of e)) (case_selector_faults s (expression_of e)) (typed s Anything (expression_of e)) → asked ≡ asked_of choice.told →
      CasesFind k s in_loop asked (cases_of us) → OtherwiseFinds r s in_loop (otherwise_of o) → IsCase c l choice k r → StatementFinds c s in_loop (statement_of x)
  case_arm e cs us o choice asked k r h q f p g d w =
      let a : asked ≡ asked_of (type_of s Anything (expression_of e)) = p ∙ ap asked_of f.told in
      let cases : CasesFind k s in_loop (asked_of (type_of s Anything (expression_of e))) (cases_of us) = subst (λ (b : Asked). CasesFind k s in_loop b (cases_of us)) a g in
      statement_seen c s in_loop x (Case l (expression_of e) (cases_of us) (otherwise_of o)) (ap statement_of (h ∙ ap (λ (ys : List (CodeCase ℕ)). code.Case l e ys o) (sym q)) ∙ statement_of-Case l e us o)
      (record {
        broken = joined c.least (earlier choice.least k.least) r.least (case_selector_faults s (expression_of e) ++ cases_faults s in_loop (asked_of (type_of s Anything (expression_of e))) (cases_of us)) (otherwise_faults s in_loop (otherwise_of o)) w.least
            (joined _ choice.least k.least (case_selector_faults s (expression_of e)) (cases_faults s in_loop (asked_of (type_of s Anything (expression_of e))) (cases_of us)) refl f.least cases.broken) d.broken;
        tree = λ n.
            let m : earlier (earlier choice.least k.least) r.least ≡ None = sym w.least ∙ n in
            w.tree ∙ ap (λ y. Case l y (cases_of k.cases) (otherwise_of r.otherwise)) f.tree
            ∙ ap (λ ys. Case l (typed s Anything (expression_of e)) ys (otherwise_of r.otherwise)) (cases.tree (none_behind choice.least k.least (none_before (earlier choice.least k.least) r.least m)))
            ∙ ap (Case l (typed s Anything (expression_of e)) (typed_cases s (asked_of (type_of s Anything (expression_of e))) (cases_of us))) (d.tree (none_behind (earlier choice.least k.least) r.least m));
      })

  pub for_arm : (a : ℕ) (name : List ℕ) (from to : Expr ℕ) (by : Option (Expr ℕ)) (ss us : List (Stmt ℕ)) (control : CheckedControl) (body : CheckedStatements) → x ≡ code.For l a name from to by ss → us ≡ ss →
      ControlFinds control s a name (expression_of from) (expression_of to) (option_map expression_of by) → StatementsFind body s true (statements_of us) → IsFor c l name control body → StatementFinds c s in_loop (statement_of x)
  for_arm a name from to by ss us control body h q f g w =
      statement_seen c s in_loop x (For l a name (expression_of from) (expression_of to) (option_map expression_of by) (statements_of us))
      (ap statement_of (h ∙ ap (λ (ys : List (Stmt ℕ)). code.For l a name from to by ys) (sym q)) ∙ statement_of-For l a name from to by us)
      (record {
        broken = joined c.least control.least body.least (for_faults s a name (expression_of from) (expression_of to) (option_map expression_of by)) (statements_faults s true (statements_of us)) w.least f.broken g.broken;
        tree = λ n.
            let m : earlier control.least body.least ≡ None = sym w.least ∙ n in
            w.tree
            ∙ ap (λ y. For l y name (expression_of control.from) (expression_of control.to) (option_map expression_of control.by) (statements_of body.statements)) f.note_is
            ∙ ap (λ y. For l (note a (control_type (sought s false name)) (meant_target (sought s false name))) name y (expression_of control.to) (option_map expression_of control.by) (statements_of body.statements)) f.from_is
            ∙ ap (λ y. For l (note a (control_type (sought s false name)) (meant_target (sought s false name))) name (typed s (control_asked s name) (expression_of from)) y (option_map expression_of control.by) (statements_of body.statements)) f.to_is
            ∙ ap (λ y. For l (note a (control_type (sought s false name)) (meant_target (sought s false name))) name (typed s (control_asked s name) (expression_of from)) (typed s (control_asked s name) (expression_of to)) y (statements_of body.statements)) f.by_is
            ∙ ap (λ y. For l (note a (control_type (sought s false name)) (meant_target (sought s false name))) name (typed s (control_asked s name) (expression_of from)) (typed s (control_asked s name) (expression_of to)) (option_map (typed s (control_asked s name)) (option_map expression_of by)) y) (g.tree (none_behind control.least body.least m));
      })

  pub while_arm : (e : Expr ℕ) (ss us : List (Stmt ℕ)) (y : Checked) (body : CheckedStatements) → x ≡ code.While l e ss → us ≡ ss →
      Finds y (type_of s (Wanted boolean) (expression_of e)) (condition_faults s (expression_of e)) (typed s (Wanted boolean) (expression_of e)) → StatementsFind body s true (statements_of us) → IsWhile c l y body → StatementFinds c s in_loop (statement_of x)
  while_arm e ss us y body h q f g w =
      statement_seen c s in_loop x (While l (expression_of e) (statements_of us)) (ap statement_of (h ∙ ap (λ (ys : List (Stmt ℕ)). code.While l e ys) (sym q)) ∙ statement_of-While l e us)
      (record {
        broken = joined c.least y.least body.least (condition_faults s (expression_of e)) (statements_faults s true (statements_of us)) w.least f.least g.broken;
        tree = λ n.
            let m : earlier y.least body.least ≡ None = sym w.least ∙ n in
            w.tree ∙ ap (λ z. While l z (statements_of body.statements)) f.tree ∙ ap (While l (typed s (Wanted boolean) (expression_of e))) (g.tree (none_behind y.least body.least m));
      })

  pub repeat_arm : (e : Expr ℕ) (ss us : List (Stmt ℕ)) (y : Checked) (body : CheckedStatements) → x ≡ code.Repeat l ss e → us ≡ ss →
      StatementsFind body s true (statements_of us) → Finds y (type_of s (Wanted boolean) (expression_of e)) (condition_faults s (expression_of e)) (typed s (Wanted boolean) (expression_of e)) → IsRepeat c l body y → StatementFinds c s in_loop (statement_of x)
  repeat_arm e ss us y body h q g f w =
      statement_seen c s in_loop x (Repeat l (statements_of us) (expression_of e)) (ap statement_of (h ∙ ap (λ (ys : List (Stmt ℕ)). code.Repeat l ys e) (sym q)) ∙ statement_of-Repeat l us e)
      (record {
        broken = joined c.least body.least y.least (statements_faults s true (statements_of us)) (condition_faults s (expression_of e)) w.least g.broken f.least;
        tree = λ n.
            let m : earlier body.least y.least ≡ None = sym w.least ∙ n in
            w.tree ∙ ap (λ z. Repeat l z (expression_of y.tree)) (g.tree (none_before body.least y.least m)) ∙ ap (Repeat l (typed_statements s (statements_of us))) f.tree;
      })

-- ---- branches and cases

pub branch_arm : (c : CheckedBranch) (s : Scope) (in_loop : Bool) (b : Branch ℕ) (us : List (Stmt ℕ)) (y : Checked) (body : CheckedStatements) → us ≡ b.body →
    Finds y (type_of s (Wanted boolean) (expression_of b.condition)) (condition_faults s (expression_of b.condition)) (typed s (Wanted boolean) (expression_of b.condition)) → StatementsFind body s in_loop (statements_of us) → IsBranch c y body →
    BranchFinds c s in_loop (branch_of b).0 (branch_of b).1
branch_arm c s in_loop b us y body q f g w =
    let is : branch_of b ≡ (expression_of b.condition, statements_of us) = branch_of-is b ∙ ap (λ (ys : List (Stmt ℕ)). (expression_of b.condition, statements_of ys)) (sym q) in
    subst (λ (p : Expression ℕ × Statements ℕ). BranchFinds c s in_loop p.0 p.1) (sym is)
    (record {
      broken = joined c.least y.least body.least (condition_faults s (expression_of b.condition)) (statements_faults s in_loop (statements_of us)) w.least f.least g.broken;
      tree = λ n. w.tree ∙ both f.tree (g.tree (none_behind y.least body.least (sym w.least ∙ n)));
    })

pub case_branch_arm : (c : CheckedCase) (s : Scope) (in_loop : Bool) (asked : Asked) (b : CodeCase ℕ) (ls : List (Label ℕ)) (us : List (Stmt ℕ)) (y : CheckedLabels) (body : CheckedStatements) → ls ≡ b.labels → us ≡ b.body →
    LabelsFind y s asked ls → StatementsFind body s in_loop (statements_of us) → IsCaseBranch c y body → CaseFinds c s in_loop asked (case_branch_of b).0 (case_branch_of b).1
case_branch_arm c s in_loop asked b ls us y body p q f g w =
    let is : case_branch_of b ≡ (ls, statements_of us) = case_branch_of-is b ∙ both (sym p) (ap (λ (ys : List (Stmt ℕ)). statements_of ys) (sym q)) in
    subst (λ (d : List (Label ℕ) × Statements ℕ). CaseFinds c s in_loop asked d.0 d.1) (sym is)
    (record {
      broken = joined c.least y.least body.least (labels_faults s asked ls) (statements_faults s in_loop (statements_of us)) w.least f.broken g.broken;
      tree = λ n.
          let m : earlier y.least body.least ≡ None = sym w.least ∙ n in
          w.tree ∙ both (f.tree (none_before y.least body.least m)) (g.tree (none_behind y.least body.least m));
    })

-- ---- ELSE

pub otherwise_seen : (c : CheckedOtherwise) (s : Scope) (in_loop : Bool) (x : CodeOtherwise ℕ) (y : Otherwise ℕ) → otherwise_of x ≡ y → OtherwiseFinds c s in_loop y → OtherwiseFinds c s in_loop (otherwise_of x)
otherwise_seen c s in_loop x y h f = subst (λ (z : Otherwise ℕ). OtherwiseFinds c s in_loop z) (sym h) f

pub else_arm : (c : CheckedOtherwise) (s : Scope) (in_loop : Bool) (o : CodeOtherwise ℕ) (ss us : List (Stmt ℕ)) (body : CheckedStatements) → o ≡ otherwise.Else ss → us ≡ ss → StatementsFind body s in_loop (statements_of us) → IsElse c body →
    OtherwiseFinds c s in_loop (otherwise_of o)
else_arm c s in_loop o ss us body h q f w =
    subst (λ (z : Otherwise ℕ). OtherwiseFinds c s in_loop z) (sym (ap otherwise_of (h ∙ ap (λ (ys : List (Stmt ℕ)). otherwise.Else ys) (sym q)) ∙ otherwise_of-Else us))
    (record {
      broken = w.least ∙ f.broken;
      tree = λ n. w.tree ∙ ap (λ z. Else z) (f.tree (sym w.least ∙ n));
    })
