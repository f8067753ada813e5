-- What statements use, by their forms.
use Rattle.std.proofs.Common.{◌≡◌, ℕ, List, [], ◌∷◌, ◌++◌, Option, Result, OnOk, sym, ap, ◌∙◌, subst, append_assoc, append-nil}
use Rattle.std.specs.Prelude.{option_map}
use Rattle.st_tree.specs.declared.expression.Argument.{Argument as CodeArgument}
use Rattle.st_tree.specs.declared.expression.Expr.{Expr}
use Rattle.st_tree.specs.declared.expression.Place.{Place as CodePlace}
use Rattle.st_tree.specs.declared.expression.Selector.{Selector as CodeSelector}
use Rattle.st_tree.specs.declared.program.Note.{Note}
use Rattle.st_tree.specs.declared.statement.Branch.{Branch}
use Rattle.st_tree.specs.declared.statement.Case.{Case as CodeCase}
use Rattle.st_tree.specs.declared.statement.Otherwise.{Otherwise as CodeOtherwise}
use Rattle.st_tree.specs.declared.statement.Otherwise.TheVariants as otherwise
use Rattle.st_tree.specs.declared.statement.Stmt.{Stmt}
use Rattle.st_tree.specs.declared.statement.Stmt.TheVariants as code
use Rattle.st_tree.specs.Expression.{Expression, expression_of, arguments_of, place_of, selectors_of}
use Rattle.st_tree.specs.Statement.{Statement, statement_of, statement_of-Empty, statement_of-Exit, statement_of-Continue, statement_of-Return, statement_of-If, statement_of-Case, statement_of-For, statement_of-While, statement_of-Repeat, statement_of-Assign, statement_of-Attempt, statement_of-Call, Statements, statements_of, branches_of, cases_of, otherwise_of, otherwise_of-Nothing, otherwise_of-Else, branch_of, branch_of-is, case_branch_of, case_branch_of-body}
use Rattle.st_values.specs.Initial.{note_of}
use Rattle.st_values.specs.Program.{Program}
use Rattle.st_meaning.specs.st_frame.Use.{Use, owner_uses, changed, named_region, name_uses, expression_uses, place_uses, call_uses, tried, step_uses, statement_uses, body_uses, branch_uses, case_uses, otherwise_uses}
use Rattle.body_uses.specs.Private.Statements.{assigned_uses}
use Rattle.body_uses.proofs.UseLaws.{two, owner_at}

module _ (p : Program) where
  -- ---- assignments

  pub assigned_goes : (q : CodePlace Note) (ss : List (CodeSelector Note)) (v : Expression Note) (old a b new : List Use) → ss ≡ q.selectors → a ≡ old ++ owner_uses q.root (selectors_of ss) → b ≡ a ++ place_uses p (place_of q).0 (place_of q).1
      → new ≡ b ++ expression_uses p v → new ≡ old ++ assigned_uses p (place_of q).0 (place_of q).1 v
  assigned_goes q ss v old a b new h m k e =
      let o = owner_uses (place_of q).0 (place_of q).1 in
      let y = place_uses p (place_of q).0 (place_of q).1 in
      two old b new (o ++ y) (expression_uses p v) (two old a b o y (m ∙ ap (λ x. old ++ x) (owner_at q ss h)) k) e
      ∙ ap (λ z. old ++ z) (append_assoc o y (expression_uses p v))

  pub attempt_goes : (a : Note) (v : Expression Note) (old mid new y : List Use) → a ≡ note_of v → mid ≡ old ++ tried p a.kind → new ≡ mid ++ y → new ≡ old ++ (tried p (note_of v).kind ++ y)
  attempt_goes a v old mid new y h m k = two old mid new (tried p a.kind) y m k ∙ ap (λ x. old ++ (tried p x.kind ++ y)) h

  -- ---- statements

  same_statement : (old new : List Use) (s : Stmt Note) (x : Statement Note) → statement_of s ≡ x → new ≡ old ++ statement_uses p x → new ≡ old ++ statement_uses p (statement_of s)
  same_statement old new s x h k = k ∙ ap (λ y. old ++ statement_uses p y) (sym h)

  nothing : (old : List Use) → old ≡ old ++ []
  nothing old = sym (append-nil old)

  pub empty_goes : (old : List Use) (s : Stmt Note) (l : ℕ) → s ≡ code.Empty l → old ≡ old ++ statement_uses p (statement_of s)
  empty_goes old s l e = same_statement old old s _ (ap statement_of e ∙ statement_of-Empty l) (nothing old)

  pub exit_goes : (old : List Use) (s : Stmt Note) (l : ℕ) → s ≡ code.Exit l → old ≡ old ++ statement_uses p (statement_of s)
  exit_goes old s l e = same_statement old old s _ (ap statement_of e ∙ statement_of-Exit l) (nothing old)

  pub continue_goes : (old : List Use) (s : Stmt Note) (l : ℕ) → s ≡ code.Continue l → old ≡ old ++ statement_uses p (statement_of s)
  continue_goes old s l e = same_statement old old s _ (ap statement_of e ∙ statement_of-Continue l) (nothing old)

  pub return_goes : (old : List Use) (s : Stmt Note) (l : ℕ) → s ≡ code.Return l → old ≡ old ++ statement_uses p (statement_of s)
  return_goes old s l e = same_statement old old s _ (ap statement_of e ∙ statement_of-Return l) (nothing old)

  pub no_else : (old : List Use) (o : CodeOtherwise Note) → o ≡ otherwise.Nothing → old ≡ old ++ otherwise_uses p (otherwise_of o)
  no_else old o e = nothing old ∙ ap (λ x. old ++ otherwise_uses p x) (sym (ap otherwise_of e ∙ otherwise_of-Nothing))

  pub assign_goes : (old new : List Use) (s : Stmt Note) (l : ℕ) (a : Note) (q : CodePlace Note) (v : Expr Note) → s ≡ code.Assign l a q v → new ≡ old ++ assigned_uses p (place_of q).0 (place_of q).1 (expression_of v) → new ≡ old ++ statement_uses p (statement_of s)
  assign_goes old new s l a q v e k = same_statement old new s _ (ap statement_of e ∙ statement_of-Assign l a q v) k

  pub tried_goes : (old new : List Use) (s : Stmt Note) (l : ℕ) (a : Note) (q : CodePlace Note) (v : Expr Note) → s ≡ code.Attempt l a q v → new ≡ old ++ (tried p (note_of (expression_of v)).kind ++ assigned_uses p (place_of q).0 (place_of q).1 (expression_of v))
      → new ≡ old ++ statement_uses p (statement_of s)
  tried_goes old new s l a q v e k = same_statement old new s _ (ap statement_of e ∙ statement_of-Attempt l a q v) k

  pub called_goes : (old new : List Use) (s : Stmt Note) (l : ℕ) (a : Note) (q : CodePlace Note) (xs ys : List (CodeArgument Note)) → s ≡ code.Call l a q xs → ys ≡ xs → new ≡ old ++ call_uses p (place_of q).0 (place_of q).1 (arguments_of ys)
      → new ≡ old ++ statement_uses p (statement_of s)
  called_goes old new s l a q xs ys e h k = same_statement old new s _ (ap statement_of e ∙ statement_of-Call l a q xs) (k ∙ ap (λ zs. old ++ call_uses p (place_of q).0 (place_of q).1 (arguments_of zs)) h)

  pub case_branch_goes : {T E : Type 0} (r : Result T E) (old new : List Use) (x : CodeCase Note) (ss : List (Stmt Note)) → ss ≡ x.body → OnOk r (new ≡ old ++ body_uses p (statements_of ss)) → OnOk r (new ≡ old ++ body_uses p (case_branch_of x).1)
  case_branch_goes r old new x ss h k = subst (λ (y : Statements Note). OnOk r (new ≡ old ++ body_uses p y)) (ap statements_of h ∙ sym (case_branch_of-body x)) k

  pub else_goes : (old new : List Use) (o : CodeOtherwise Note) (ss xs : List (Stmt Note)) → o ≡ otherwise.Else ss → xs ≡ ss → new ≡ old ++ body_uses p (statements_of xs) → new ≡ old ++ otherwise_uses p (otherwise_of o)
  else_goes old new o ss xs e h k = k ∙ ap (λ ys. old ++ body_uses p (statements_of ys)) h ∙ ap (λ y. old ++ otherwise_uses p y) (sym (ap otherwise_of e ∙ otherwise_of-Else ss))

  -- a branch before those that are left
  pub branches_first : (x : Branch Note) (xs : List (Branch Note)) → branch_uses p (branches_of (x ∷ xs)) ≡ (expression_uses p (branch_of x).0 ++ body_uses p (branch_of x).1) ++ branch_uses p (branches_of xs)
  branches_first x xs = sym (append_assoc (expression_uses p (branch_of x).0) (body_uses p (branch_of x).1) (branch_uses p (branches_of xs)))

  pub if_goes : (s : Stmt Note) (l : ℕ) (bs xs : List (Branch Note)) (o : CodeOtherwise Note) (old mid new : List Use) → s ≡ code.If l bs o → xs ≡ bs → mid ≡ old ++ branch_uses p (branches_of xs) → new ≡ mid ++ otherwise_uses p (otherwise_of o)
      → new ≡ old ++ statement_uses p (statement_of s)
  if_goes s l bs xs o old mid new e h m k =
      same_statement old new s _ (ap statement_of e ∙ statement_of-If l bs o) (two old mid new _ _ (m ∙ ap (λ ys. old ++ branch_uses p (branches_of ys)) h) k)

  pub case_goes : (s : Stmt Note) (l : ℕ) (v : Expr Note) (cs xs : List (CodeCase Note)) (o : CodeOtherwise Note) (old a b new : List Use) → s ≡ code.Case l v cs o → xs ≡ cs → a ≡ old ++ expression_uses p (expression_of v) → b ≡ a ++ case_uses p (cases_of xs)
      → new ≡ b ++ otherwise_uses p (otherwise_of o) → new ≡ old ++ statement_uses p (statement_of s)
  case_goes s l v cs xs o old a b new e h f g k =
      let x = expression_uses p (expression_of v) in
      let y = case_uses p (cases_of cs) in
      let z = otherwise_uses p (otherwise_of o) in
      same_statement old new s _ (ap statement_of e ∙ statement_of-Case l v cs o)
      (two old b new (x ++ y) z (two old a b x y f (g ∙ ap (λ ys. a ++ case_uses p (cases_of ys)) h)) k ∙ ap (λ w. old ++ w) (append_assoc x y z))

  pub while_goes : (s : Stmt Note) (l : ℕ) (v : Expr Note) (ss xs : List (Stmt Note)) (old mid new : List Use) → s ≡ code.While l v ss → xs ≡ ss → mid ≡ old ++ expression_uses p (expression_of v) → new ≡ mid ++ body_uses p (statements_of xs)
      → new ≡ old ++ statement_uses p (statement_of s)
  while_goes s l v ss xs old mid new e h m k =
      same_statement old new s _ (ap statement_of e ∙ statement_of-While l v ss) (two old mid new _ _ m (k ∙ ap (λ ys. mid ++ body_uses p (statements_of ys)) h))

  pub repeat_goes : (s : Stmt Note) (l : ℕ) (ss xs : List (Stmt Note)) (v : Expr Note) (old mid new : List Use) → s ≡ code.Repeat l ss v → xs ≡ ss → mid ≡ old ++ body_uses p (statements_of xs) → new ≡ mid ++ expression_uses p (expression_of v)
      → new ≡ old ++ statement_uses p (statement_of s)
  repeat_goes s l ss xs v old mid new e h m k =
      same_statement old new s _ (ap statement_of e ∙ statement_of-Repeat l ss v) (two old mid new _ _ (m ∙ ap (λ ys. old ++ body_uses p (statements_of ys)) h) k)

  joined : (a b c d e f : List Use) → (a ++ (b ++ (c ++ (d ++ e)))) ++ f ≡ a ++ (b ++ (c ++ (d ++ (e ++ f))))
  joined a b c d e f =
      append_assoc a (b ++ (c ++ (d ++ e))) f
      ∙ ap (λ x. a ++ x) (append_assoc b (c ++ (d ++ e)) f ∙ ap (λ x. b ++ x) (append_assoc c (d ++ e) f ∙ ap (λ x. c ++ x) (append_assoc d e f)))

  pub for_goes : (s : Stmt Note) (l : ℕ) (a : Note) (n : List ℕ) (from to : Expr Note) (by : Option (Expr Note)) (ss xs : List (Stmt Note)) (old mid new : List Use) → s ≡ code.For l a n from to by ss → xs ≡ ss
      → mid ≡ old ++ (changed (named_region a.target) ++ (name_uses a.target ++ (expression_uses p (expression_of from) ++ (expression_uses p (expression_of to) ++ step_uses p (option_map expression_of by)))))
      → new ≡ mid ++ body_uses p (statements_of xs) → new ≡ old ++ statement_uses p (statement_of s)
  for_goes s l a n from to by ss xs old mid new e h m k =
      same_statement old new s _ (ap statement_of e ∙ statement_of-For l a n from to by ss)
      (two old mid new _ (body_uses p (statements_of ss)) m (k ∙ ap (λ ys. mid ++ body_uses p (statements_of ys)) h)
      ∙ ap (λ w. old ++ w) (joined (changed (named_region a.target)) (name_uses a.target) (expression_uses p (expression_of from)) (expression_uses p (expression_of to)) (step_uses p (option_map expression_of by)) (body_uses p (statements_of ss))))

  pub branch_goes : (b : Branch Note) (xs : List (Stmt Note)) (old mid new : List Use) → xs ≡ b.body → mid ≡ old ++ expression_uses p (expression_of b.condition) → new ≡ mid ++ body_uses p (statements_of xs)
      → new ≡ old ++ (expression_uses p (branch_of b).0 ++ body_uses p (branch_of b).1)
  branch_goes b xs old mid new h m k =
      two old mid new _ _ m (k ∙ ap (λ ys. mid ++ body_uses p (statements_of ys)) h) ∙ ap (λ x. old ++ (expression_uses p x.0 ++ body_uses p x.1)) (sym (branch_of-is b))
