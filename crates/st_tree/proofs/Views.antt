-- Each plain tree is that of one tree of the code, and of no other.
use Rattle.std.proofs.Common.{◌≡◌, ℕ, List, [], ◌∷◌, map, Option, Some, None, refl, sym, ◌∙◌, ap, subst}
use Rattle.std.specs.Option.{option_map}
use Rattle.st_types.specs.declared.elem.Elem.{Elem}
use Rattle.st_tree.specs.declared.expression.Operator.{Operator}
use Rattle.st_tree.specs.declared.expression.Root.{Root}
use Rattle.st_tree.specs.declared.expression.Argument.TheOpen.{Argument-F, Expr-F, Selector-F, Place-F, Tail-F}
use Rattle.st_tree.specs.declared.expression.Argument.TheViews.{roll-Argument, roll-Expr, roll-Selector, roll-Place, roll-Tail}
use Rattle.st_tree.specs.declared.expression.Argument.TheFolds.{ind-Argument, ind-Expr, ind-Selector, ind-Place, ind-Tail, map-Argument, map-Expr, map-Selector, map-Place, map-Tail}
use Rattle.st_tree.specs.declared.expression.Argument.{Argument as CodeArgument}
use Rattle.st_tree.specs.declared.expression.Argument.TheVariants as argument
use Rattle.st_tree.specs.declared.expression.Expr.{Expr}
use Rattle.st_tree.specs.declared.expression.Expr.TheVariants as code
use Rattle.st_tree.specs.declared.expression.Selector.{Selector as CodeSelector}
use Rattle.st_tree.specs.declared.expression.Selector.TheVariants as selection
use Rattle.st_tree.specs.declared.expression.Place.{Place as CodePlace}
use Rattle.st_tree.specs.declared.expression.Tail.{Tail}
use Rattle.st_tree.specs.declared.initial.Init.TheOpen.{Init-F, Part-F, FieldInit-F}
use Rattle.st_tree.specs.declared.initial.Init.TheViews.{roll-Init, roll-Part, roll-FieldInit}
use Rattle.st_tree.specs.declared.initial.Init.TheFolds.{ind-Init, map-Init, map-Part, map-FieldInit}
use Rattle.st_tree.specs.declared.initial.Init.{Init}
use Rattle.st_tree.specs.declared.initial.Init.TheVariants as initials
use Rattle.st_tree.specs.declared.initial.Part.{Part as CodePart}
use Rattle.st_tree.specs.declared.initial.Part.TheVariants as part
use Rattle.st_tree.specs.declared.initial.FieldInit.{FieldInit}
use Rattle.st_tree.specs.declared.statement.Label.{Label}
use Rattle.st_tree.specs.declared.statement.Otherwise.TheOpen.{Otherwise-F, Stmt-F, Branch-F, Case-F}
use Rattle.st_tree.specs.declared.statement.Otherwise.TheViews.{roll-Otherwise, roll-Stmt, roll-Branch, roll-Case}
use Rattle.st_tree.specs.declared.statement.Otherwise.TheFolds.{ind-Stmt, map-Otherwise, map-Stmt, map-Branch, map-Case}
use Rattle.st_tree.specs.declared.statement.Otherwise.{Otherwise as CodeOtherwise}
use Rattle.st_tree.specs.declared.statement.Otherwise.TheVariants as otherwise
use Rattle.st_tree.specs.declared.statement.Stmt.{Stmt}
use Rattle.st_tree.specs.declared.statement.Stmt.TheVariants as statement
use Rattle.st_tree.specs.declared.statement.Branch.{Branch}
use Rattle.st_tree.specs.declared.statement.Case.{Case as CodeCase}
use Rattle.st_tree.specs.Expression as expr
use Rattle.st_tree.specs.Expression.{Expression, Expressions, no_expressions, expression_then, Selector, Selectors, no_selectors, selector_then, Argument, Arguments, no_arguments, argument_then, Tails, no_tails, tail_then, expression_of, argument_of, selector_of, place_of, tail_of, expressions_of, selectors_of, arguments_of, tails_of, place_of-is, tail_of-is}
use Rattle.st_tree.specs.Initial as init
use Rattle.st_tree.specs.Initial.{Initial, Part, Parts, no_parts, part_then, FieldInits, no_fields, field_then, initial_of, part_of, field_of, parts_of, fields_of, field_of-is}
use Rattle.st_tree.specs.Statement as stmt
use Rattle.st_tree.specs.Statement.{Statement, Statements, no_statements, statement_then, Branches, no_branches, branch_then, Cases, no_cases, case_then, Otherwise, statement_of, otherwise_of, branch_of, case_branch_of, statements_of, branches_of, cases_of, branch_of-is, case_branch_of-is}

-- ---- expressions

abbrev pub place_with : {A : Type 0} → Root A → List (CodeSelector A) → CodePlace A
place_with r ss = record { root = r; selectors = ss }

abbrev mutual
  pub expression_from : {A : Type 0} → Expression A → Expr A
  expression_from (expr.Int a digits) = code.Int a digits
  expression_from (expr.Typed a k l) = code.Typed a k l
  expression_from (expr.Time a text) = code.Time a text
  expression_from (expr.True a) = code.True a
  expression_from (expr.False a) = code.False a
  expression_from (expr.Null a) = code.Null a
  expression_from (expr.Place a r ss) = code.Place a (place_with r (selectors_from ss))
  expression_from (expr.Call a r ss xs) = code.Call a (place_with r (selectors_from ss)) (arguments_from xs)
  expression_from (expr.Enumerator a t b n) = code.Enumerator a t b n
  expression_from (expr.Ref a r ss) = code.Ref a (place_with r (selectors_from ss))
  expression_from (expr.Now a) = code.Now a
  expression_from (expr.Paren a e) = code.Paren a (expression_from e)
  expression_from (expr.Not a e) = code.Not a (expression_from e)
  expression_from (expr.Negate a e) = code.Negate a (expression_from e)
  expression_from (expr.Chain a e ts) = code.Chain a (expression_from e) (tails_from ts)

  pub expressions_from : {A : Type 0} → Expressions A → List (Expr A)
  expressions_from no_expressions = []
  expressions_from (expression_then e es) = expression_from e ∷ expressions_from es

  pub selector_from : {A : Type 0} → Selector A → CodeSelector A
  selector_from (expr.Field a n) = selection.Field a n
  selector_from (expr.Index a es) = selection.Index a (expressions_from es)
  selector_from (expr.Target a) = selection.Target a

  pub selectors_from : {A : Type 0} → Selectors A → List (CodeSelector A)
  selectors_from no_selectors = []
  selectors_from (selector_then s ss) = selector_from s ∷ selectors_from ss

  pub argument_from : {A : Type 0} → Argument A → CodeArgument A
  argument_from (expr.Positional e) = argument.Positional (expression_from e)
  argument_from (expr.Input a n e) = argument.Input a n (expression_from e)
  argument_from (expr.Output a n b r ss) = argument.Output a n b (place_with r (selectors_from ss))

  pub arguments_from : {A : Type 0} → Arguments A → List (CodeArgument A)
  arguments_from no_arguments = []
  arguments_from (argument_then x xs) = argument_from x ∷ arguments_from xs

  pub tails_from : {A : Type 0} → Tails A → List (Tail A)
  tails_from no_tails = []
  tails_from (tail_then a p e ts) = record { note = a; operator = p; operand = expression_from e } ∷ tails_from ts

abbrev pub place_from : {A : Type 0} → Root A × Selectors A → CodePlace A
place_from p = place_with p.0 (selectors_from p.1)

abbrev pub tail_from : {A : Type 0} → A × Operator × Expression A → Tail A
tail_from t = record { note = t.0; operator = t.1; operand = expression_from t.2 }

placed : {A : Type 0} (r : Root A) (ss : List (CodeSelector A)) (ss' : Selectors A) → selectors_of ss ≡ ss' → place_of (place_with r ss) ≡ (r, ss')
placed r ss ss' h = place_of-is (place_with r ss) ∙ ap (λ u. (r, u)) h

mutual
  pub forth-expression : {A : Type 0} (e : Expression A) → expression_of (expression_from e) ≡ e
  forth-expression (expr.Int a digits) = expr.expression_of-Int a digits
  forth-expression (expr.Typed a k l) = expr.expression_of-Typed a k l
  forth-expression (expr.Time a text) = expr.expression_of-Time a text
  forth-expression (expr.True a) = expr.expression_of-True a
  forth-expression (expr.False a) = expr.expression_of-False a
  forth-expression (expr.Null a) = expr.expression_of-Null a
  forth-expression (expr.Place a r ss) = expr.expression_of-Place a (place_with r (selectors_from ss)) ∙ ap (λ p. expr.Place a p.0 p.1) (placed r (selectors_from ss) ss (forth-selectors ss))
  forth-expression (expr.Call a r ss xs) =
      expr.expression_of-Call a (place_with r (selectors_from ss)) (arguments_from xs) ∙ ap (λ p. expr.Call a p.0 p.1 (arguments_of (arguments_from xs))) (placed r (selectors_from ss) ss (forth-selectors ss))
      ∙ ap (expr.Call a r ss) (forth-arguments xs)
  forth-expression (expr.Enumerator a t b n) = expr.expression_of-Enumerator a t b n
  forth-expression (expr.Ref a r ss) = expr.expression_of-Ref a (place_with r (selectors_from ss)) ∙ ap (λ p. expr.Ref a p.0 p.1) (placed r (selectors_from ss) ss (forth-selectors ss))
  forth-expression (expr.Now a) = expr.expression_of-Now a
  forth-expression (expr.Paren a e) = expr.expression_of-Paren a (expression_from e) ∙ ap (expr.Paren a) (forth-expression e)
  forth-expression (expr.Not a e) = expr.expression_of-Not a (expression_from e) ∙ ap (expr.Not a) (forth-expression e)
  forth-expression (expr.Negate a e) = expr.expression_of-Negate a (expression_from e) ∙ ap (expr.Negate a) (forth-expression e)
  forth-expression (expr.Chain a e ts) =
      expr.expression_of-Chain a (expression_from e) (tails_from ts) ∙ ap (λ u. expr.Chain a u (tails_of (tails_from ts))) (forth-expression e) ∙ ap (expr.Chain a e) (forth-tails ts)

  pub forth-expressions : {A : Type 0} (es : Expressions A) → expressions_of (expressions_from es) ≡ es
  forth-expressions no_expressions = refl
  forth-expressions (expression_then e es) = ap (λ u. expression_then u (expressions_of (expressions_from es))) (forth-expression e) ∙ ap (expression_then e) (forth-expressions es)

  pub forth-selector : {A : Type 0} (s : Selector A) → selector_of (selector_from s) ≡ s
  forth-selector (expr.Field a n) = expr.selector_of-Field a n
  forth-selector (expr.Index a es) = expr.selector_of-Index a (expressions_from es) ∙ ap (expr.Index a) (forth-expressions es)
  forth-selector (expr.Target a) = expr.selector_of-Target a

  pub forth-selectors : {A : Type 0} (ss : Selectors A) → selectors_of (selectors_from ss) ≡ ss
  forth-selectors no_selectors = refl
  forth-selectors (selector_then s ss) = ap (λ u. selector_then u (selectors_of (selectors_from ss))) (forth-selector s) ∙ ap (selector_then s) (forth-selectors ss)

  pub forth-argument : {A : Type 0} (x : Argument A) → argument_of (argument_from x) ≡ x
  forth-argument (expr.Positional e) = expr.argument_of-Positional (expression_from e) ∙ ap expr.Positional (forth-expression e)
  forth-argument (expr.Input a n e) = expr.argument_of-Input a n (expression_from e) ∙ ap (expr.Input a n) (forth-expression e)
  forth-argument (expr.Output a n b r ss) = expr.argument_of-Output a n b (place_with r (selectors_from ss)) ∙ ap (λ p. expr.Output a n b p.0 p.1) (placed r (selectors_from ss) ss (forth-selectors ss))

  pub forth-arguments : {A : Type 0} (xs : Arguments A) → arguments_of (arguments_from xs) ≡ xs
  forth-arguments no_arguments = refl
  forth-arguments (argument_then x xs) = ap (λ u. argument_then u (arguments_of (arguments_from xs))) (forth-argument x) ∙ ap (argument_then x) (forth-arguments xs)

  pub forth-tails : {A : Type 0} (ts : Tails A) → tails_of (tails_from ts) ≡ ts
  forth-tails no_tails = refl
  forth-tails {A = A} (tail_then a p e ts) =
      let t : Tail A = record { note = a; operator = p; operand = expression_from e } in
      ap (λ u. tail_then u.0 u.1 u.2 (tails_of (tails_from ts))) (tail_of-is t) ∙ ap (λ u. tail_then a p u (tails_of (tails_from ts))) (forth-expression e) ∙ ap (tail_then a p e) (forth-tails ts)

-- ---- and of no other

module _ {A : Type 0} (S S' S'' S''' S'''' : Type 0)
    (p : S → CodeArgument A)
    (p' : S' → Expr A)
    (p'' : S'' → CodeSelector A)
    (p''' : S''' → CodePlace A)
    (p'''' : S'''' → Tail A)
    (q : (s : S) → argument_from (argument_of (p s)) ≡ p s)
    (q' : (s : S') → expression_from (expression_of (p' s)) ≡ p' s)
    (q'' : (s : S'') → selector_from (selector_of (p'' s)) ≡ p'' s)
    (q''' : (s : S''') → place_from (place_of (p''' s)) ≡ p''' s)
    (q'''' : (s : S'''') → tail_from (tail_of (p'''' s)) ≡ p'''' s)
  where
    each-argument : (xs : List S) → arguments_from (arguments_of (map p xs)) ≡ map p xs
    each-argument [] = refl
    each-argument (x ∷ xs) = ap (λ u. u ∷ arguments_from (arguments_of (map p xs))) (q x) ∙ ap (λ u. p x ∷ u) (each-argument xs)

    each-expression : (xs : List S') → expressions_from (expressions_of (map p' xs)) ≡ map p' xs
    each-expression [] = refl
    each-expression (x ∷ xs) = ap (λ u. u ∷ expressions_from (expressions_of (map p' xs))) (q' x) ∙ ap (λ u. p' x ∷ u) (each-expression xs)

    each-selector : (xs : List S'') → selectors_from (selectors_of (map p'' xs)) ≡ map p'' xs
    each-selector [] = refl
    each-selector (x ∷ xs) = ap (λ u. u ∷ selectors_from (selectors_of (map p'' xs))) (q'' x) ∙ ap (λ u. p'' x ∷ u) (each-selector xs)

    each-tail : (xs : List S'''') → tails_from (tails_of (map p'''' xs)) ≡ map p'''' xs
    each-tail [] = refl
    each-tail (x ∷ xs) = ap (λ u. u ∷ tails_from (tails_of (map p'''' xs))) (q'''' x) ∙ ap (λ u. p'''' x ∷ u) (each-tail xs)

    step-argument : (y : Argument-F A S S' S'' S''' S'''') → argument_from (argument_of (roll-Argument A (map-Argument A S S' S'' S''' S'''' (CodeArgument A) (Expr A) (CodeSelector A) (CodePlace A) (Tail A) p p' p'' p''' p'''' y))) ≡ roll-Argument A (map-Argument A S S' S'' S''' S'''' (CodeArgument A) (Expr A) (CodeSelector A) (CodePlace A) (Tail A) p p' p'' p''' p'''' y)
    step-argument (Argument-F.Positional e) = subst (λ x. argument_from (argument_of x) ≡ x) (sym (argument.rolls-Positional (p' e))) (ap argument_from (expr.argument_of-Positional (p' e)) ∙ ap argument.Positional (q' e))
    step-argument (Argument-F.Input a n e) = subst (λ x. argument_from (argument_of x) ≡ x) (sym (argument.rolls-Input a n (p' e))) (ap argument_from (expr.argument_of-Input a n (p' e)) ∙ ap (argument.Input a n) (q' e))
    step-argument (Argument-F.Output a n b x) = subst (λ x. argument_from (argument_of x) ≡ x) (sym (argument.rolls-Output a n b (p''' x))) (ap argument_from (expr.argument_of-Output a n b (p''' x)) ∙ ap (argument.Output a n b) (q''' x))

    step-expression : (y : Expr-F A S S' S'' S''' S'''') → expression_from (expression_of (roll-Expr A (map-Expr A S S' S'' S''' S'''' (CodeArgument A) (Expr A) (CodeSelector A) (CodePlace A) (Tail A) p p' p'' p''' p'''' y))) ≡ roll-Expr A (map-Expr A S S' S'' S''' S'''' (CodeArgument A) (Expr A) (CodeSelector A) (CodePlace A) (Tail A) p p' p'' p''' p'''' y)
    step-expression (Expr-F.Int a n) = subst (λ x. expression_from (expression_of x) ≡ x) (sym (code.rolls-Int a n)) (ap expression_from (expr.expression_of-Int a n))
    step-expression (Expr-F.Typed a k l) = subst (λ x. expression_from (expression_of x) ≡ x) (sym (code.rolls-Typed a k l)) (ap expression_from (expr.expression_of-Typed a k l))
    step-expression (Expr-F.Time a n) = subst (λ x. expression_from (expression_of x) ≡ x) (sym (code.rolls-Time a n)) (ap expression_from (expr.expression_of-Time a n))
    step-expression (Expr-F.True a) = subst (λ x. expression_from (expression_of x) ≡ x) (sym (code.rolls-True a)) (ap expression_from (expr.expression_of-True a))
    step-expression (Expr-F.False a) = subst (λ x. expression_from (expression_of x) ≡ x) (sym (code.rolls-False a)) (ap expression_from (expr.expression_of-False a))
    step-expression (Expr-F.Null a) = subst (λ x. expression_from (expression_of x) ≡ x) (sym (code.rolls-Null a)) (ap expression_from (expr.expression_of-Null a))
    step-expression (Expr-F.Place a x) = subst (λ x. expression_from (expression_of x) ≡ x) (sym (code.rolls-Place a (p''' x))) (ap expression_from (expr.expression_of-Place a (p''' x)) ∙ ap (code.Place a) (q''' x))
    step-expression (Expr-F.Call a x xs) = subst (λ x. expression_from (expression_of x) ≡ x) (sym (code.rolls-Call a (p''' x) (map p xs))) (ap expression_from (expr.expression_of-Call a (p''' x) (map p xs)) ∙ ap (λ u. code.Call a u (arguments_from (arguments_of (map p xs)))) (q''' x) ∙ ap (code.Call a (p''' x)) (each-argument xs))
    step-expression (Expr-F.Enumerator a t b n) = subst (λ x. expression_from (expression_of x) ≡ x) (sym (code.rolls-Enumerator a t b n)) (ap expression_from (expr.expression_of-Enumerator a t b n))
    step-expression (Expr-F.Ref a x) = subst (λ x. expression_from (expression_of x) ≡ x) (sym (code.rolls-Ref a (p''' x))) (ap expression_from (expr.expression_of-Ref a (p''' x)) ∙ ap (code.Ref a) (q''' x))
    step-expression (Expr-F.Now a) = subst (λ x. expression_from (expression_of x) ≡ x) (sym (code.rolls-Now a)) (ap expression_from (expr.expression_of-Now a))
    step-expression (Expr-F.Paren a e) = subst (λ x. expression_from (expression_of x) ≡ x) (sym (code.rolls-Paren a (p' e))) (ap expression_from (expr.expression_of-Paren a (p' e)) ∙ ap (code.Paren a) (q' e))
    step-expression (Expr-F.Not a e) = subst (λ x. expression_from (expression_of x) ≡ x) (sym (code.rolls-Not a (p' e))) (ap expression_from (expr.expression_of-Not a (p' e)) ∙ ap (code.Not a) (q' e))
    step-expression (Expr-F.Negate a e) = subst (λ x. expression_from (expression_of x) ≡ x) (sym (code.rolls-Negate a (p' e))) (ap expression_from (expr.expression_of-Negate a (p' e)) ∙ ap (code.Negate a) (q' e))
    step-expression (Expr-F.Chain a e ts) = subst (λ x. expression_from (expression_of x) ≡ x) (sym (code.rolls-Chain a (p' e) (map p'''' ts))) (ap expression_from (expr.expression_of-Chain a (p' e) (map p'''' ts)) ∙ ap (λ u. code.Chain a u (tails_from (tails_of (map p'''' ts)))) (q' e) ∙ ap (code.Chain a (p' e)) (each-tail ts))

    step-selector : (y : Selector-F A S S' S'' S''' S'''') → selector_from (selector_of (roll-Selector A (map-Selector A S S' S'' S''' S'''' (CodeArgument A) (Expr A) (CodeSelector A) (CodePlace A) (Tail A) p p' p'' p''' p'''' y))) ≡ roll-Selector A (map-Selector A S S' S'' S''' S'''' (CodeArgument A) (Expr A) (CodeSelector A) (CodePlace A) (Tail A) p p' p'' p''' p'''' y)
    step-selector (Selector-F.Field a n) = subst (λ x. selector_from (selector_of x) ≡ x) (sym (selection.rolls-Field a n)) (ap selector_from (expr.selector_of-Field a n))
    step-selector (Selector-F.Index a es) = subst (λ x. selector_from (selector_of x) ≡ x) (sym (selection.rolls-Index a (map p' es))) (ap selector_from (expr.selector_of-Index a (map p' es)) ∙ ap (selection.Index a) (each-expression es))
    step-selector (Selector-F.Target a) = subst (λ x. selector_from (selector_of x) ≡ x) (sym (selection.rolls-Target a)) (ap selector_from (expr.selector_of-Target a))

    step-place : (y : Place-F A S S' S'' S''' S'''') → place_from (place_of (roll-Place A (map-Place A S S' S'' S''' S'''' (CodeArgument A) (Expr A) (CodeSelector A) (CodePlace A) (Tail A) p p' p'' p''' p'''' y))) ≡ roll-Place A (map-Place A S S' S'' S''' S'''' (CodeArgument A) (Expr A) (CodeSelector A) (CodePlace A) (Tail A) p p' p'' p''' p'''' y)
    step-place y = let v : CodePlace A = place_with y.root (map p'' y.selectors) in ap place_from (place_of-is v) ∙ ap (place_with y.root) (each-selector y.selectors)

    step-tail : (y : Tail-F A S S' S'' S''' S'''') → tail_from (tail_of (roll-Tail A (map-Tail A S S' S'' S''' S'''' (CodeArgument A) (Expr A) (CodeSelector A) (CodePlace A) (Tail A) p p' p'' p''' p'''' y))) ≡ roll-Tail A (map-Tail A S S' S'' S''' S'''' (CodeArgument A) (Expr A) (CodeSelector A) (CodePlace A) (Tail A) p p' p'' p''' p'''' y)
    step-tail y = let v : Tail A = record { note = y.note; operator = y.operator; operand = p' y.operand } in let same : ◌≡◌ {A = Tail A} (tail_from (y.note, y.operator, expression_of (p' y.operand))) v = ap (λ u. record { note = y.note; operator = y.operator; operand = u }) (q' y.operand) in ap tail_from (tail_of-is v) ∙ same

pub back-expression : {A : Type 0} (x : Expr A) → expression_from (expression_of x) ≡ x
back-expression {A = A} = ind-Expr A (λ x. argument_from (argument_of x) ≡ x) (λ x. expression_from (expression_of x) ≡ x) (λ x. selector_from (selector_of x) ≡ x) (λ x. place_from (place_of x) ≡ x) (λ x. tail_from (tail_of x) ≡ x)
    (λ x y is. subst (λ z. argument_from (argument_of (roll-Argument A z)) ≡ roll-Argument A z) is (step-argument _ _ _ _ _ (λ e. e.0) (λ e. e.0) (λ e. e.0) (λ e. e.0) (λ e. e.0) (λ e. e.1) (λ e. e.1) (λ e. e.1) (λ e. e.1) (λ e. e.1) y))
    (λ x y is. subst (λ z. expression_from (expression_of (roll-Expr A z)) ≡ roll-Expr A z) is (step-expression _ _ _ _ _ (λ e. e.0) (λ e. e.0) (λ e. e.0) (λ e. e.0) (λ e. e.0) (λ e. e.1) (λ e. e.1) (λ e. e.1) (λ e. e.1) (λ e. e.1) y))
    (λ x y is. subst (λ z. selector_from (selector_of (roll-Selector A z)) ≡ roll-Selector A z) is (step-selector _ _ _ _ _ (λ e. e.0) (λ e. e.0) (λ e. e.0) (λ e. e.0) (λ e. e.0) (λ e. e.1) (λ e. e.1) (λ e. e.1) (λ e. e.1) (λ e. e.1) y))
    (λ x y is. subst (λ z. place_from (place_of (roll-Place A z)) ≡ roll-Place A z) is (step-place _ _ _ _ _ (λ e. e.0) (λ e. e.0) (λ e. e.0) (λ e. e.0) (λ e. e.0) (λ e. e.1) (λ e. e.1) (λ e. e.1) (λ e. e.1) (λ e. e.1) y))
    (λ x y is. subst (λ z. tail_from (tail_of (roll-Tail A z)) ≡ roll-Tail A z) is (step-tail _ _ _ _ _ (λ e. e.0) (λ e. e.0) (λ e. e.0) (λ e. e.0) (λ e. e.0) (λ e. e.1) (λ e. e.1) (λ e. e.1) (λ e. e.1) (λ e. e.1) y))

pub back-place : {A : Type 0} (x : CodePlace A) → place_from (place_of x) ≡ x
back-place {A = A} = ind-Place A (λ x. argument_from (argument_of x) ≡ x) (λ x. expression_from (expression_of x) ≡ x) (λ x. selector_from (selector_of x) ≡ x) (λ x. place_from (place_of x) ≡ x) (λ x. tail_from (tail_of x) ≡ x)
    (λ x y is. subst (λ z. argument_from (argument_of (roll-Argument A z)) ≡ roll-Argument A z) is (step-argument _ _ _ _ _ (λ e. e.0) (λ e. e.0) (λ e. e.0) (λ e. e.0) (λ e. e.0) (λ e. e.1) (λ e. e.1) (λ e. e.1) (λ e. e.1) (λ e. e.1) y))
    (λ x y is. subst (λ z. expression_from (expression_of (roll-Expr A z)) ≡ roll-Expr A z) is (step-expression _ _ _ _ _ (λ e. e.0) (λ e. e.0) (λ e. e.0) (λ e. e.0) (λ e. e.0) (λ e. e.1) (λ e. e.1) (λ e. e.1) (λ e. e.1) (λ e. e.1) y))
    (λ x y is. subst (λ z. selector_from (selector_of (roll-Selector A z)) ≡ roll-Selector A z) is (step-selector _ _ _ _ _ (λ e. e.0) (λ e. e.0) (λ e. e.0) (λ e. e.0) (λ e. e.0) (λ e. e.1) (λ e. e.1) (λ e. e.1) (λ e. e.1) (λ e. e.1) y))
    (λ x y is. subst (λ z. place_from (place_of (roll-Place A z)) ≡ roll-Place A z) is (step-place _ _ _ _ _ (λ e. e.0) (λ e. e.0) (λ e. e.0) (λ e. e.0) (λ e. e.0) (λ e. e.1) (λ e. e.1) (λ e. e.1) (λ e. e.1) (λ e. e.1) y))
    (λ x y is. subst (λ z. tail_from (tail_of (roll-Tail A z)) ≡ roll-Tail A z) is (step-tail _ _ _ _ _ (λ e. e.0) (λ e. e.0) (λ e. e.0) (λ e. e.0) (λ e. e.0) (λ e. e.1) (λ e. e.1) (λ e. e.1) (λ e. e.1) (λ e. e.1) y))

pub back-argument : {A : Type 0} (x : CodeArgument A) → argument_from (argument_of x) ≡ x
back-argument {A = A} = ind-Argument A (λ x. argument_from (argument_of x) ≡ x) (λ x. expression_from (expression_of x) ≡ x) (λ x. selector_from (selector_of x) ≡ x) (λ x. place_from (place_of x) ≡ x) (λ x. tail_from (tail_of x) ≡ x)
    (λ x y is. subst (λ z. argument_from (argument_of (roll-Argument A z)) ≡ roll-Argument A z) is (step-argument _ _ _ _ _ (λ e. e.0) (λ e. e.0) (λ e. e.0) (λ e. e.0) (λ e. e.0) (λ e. e.1) (λ e. e.1) (λ e. e.1) (λ e. e.1) (λ e. e.1) y))
    (λ x y is. subst (λ z. expression_from (expression_of (roll-Expr A z)) ≡ roll-Expr A z) is (step-expression _ _ _ _ _ (λ e. e.0) (λ e. e.0) (λ e. e.0) (λ e. e.0) (λ e. e.0) (λ e. e.1) (λ e. e.1) (λ e. e.1) (λ e. e.1) (λ e. e.1) y))
    (λ x y is. subst (λ z. selector_from (selector_of (roll-Selector A z)) ≡ roll-Selector A z) is (step-selector _ _ _ _ _ (λ e. e.0) (λ e. e.0) (λ e. e.0) (λ e. e.0) (λ e. e.0) (λ e. e.1) (λ e. e.1) (λ e. e.1) (λ e. e.1) (λ e. e.1) y))
    (λ x y is. subst (λ z. place_from (place_of (roll-Place A z)) ≡ roll-Place A z) is (step-place _ _ _ _ _ (λ e. e.0) (λ e. e.0) (λ e. e.0) (λ e. e.0) (λ e. e.0) (λ e. e.1) (λ e. e.1) (λ e. e.1) (λ e. e.1) (λ e. e.1) y))
    (λ x y is. subst (λ z. tail_from (tail_of (roll-Tail A z)) ≡ roll-Tail A z) is (step-tail _ _ _ _ _ (λ e. e.0) (λ e. e.0) (λ e. e.0) (λ e. e.0) (λ e. e.0) (λ e. e.1) (λ e. e.1) (λ e. e.1) (λ e. e.1) (λ e. e.1) y))

pub back-arguments : {A : Type 0} (xs : List (CodeArgument A)) → arguments_from (arguments_of xs) ≡ xs
back-arguments [] = refl
back-arguments (x ∷ xs) = ap (λ u. u ∷ arguments_from (arguments_of xs)) (back-argument x) ∙ ap (λ u. x ∷ u) (back-arguments xs)

-- ---- initial values

abbrev mutual
  pub initial_from : {A : Type 0} → Initial A → Init A
  initial_from (init.Value e) = initials.Value (expression_from e)
  initial_from (init.Array l ps) = initials.Array l (parts_from ps)
  initial_from (init.Fields l fs) = initials.Fields l (fields_from fs)

  pub part_from : {A : Type 0} → Part A → CodePart A
  part_from (init.One i) = part.One (initial_from i)
  part_from (init.Repeated l digits i) = part.Repeated l digits (initial_from i)

  pub parts_from : {A : Type 0} → Parts A → List (CodePart A)
  parts_from no_parts = []
  parts_from (part_then p ps) = part_from p ∷ parts_from ps

  pub fields_from : {A : Type 0} → FieldInits A → List (FieldInit A)
  fields_from no_fields = []
  fields_from (field_then a n i fs) = record { note = a; name = n; value = initial_from i } ∷ fields_from fs

abbrev field_from : {A : Type 0} → A × List ℕ × Initial A → FieldInit A
field_from f = record { note = f.0; name = f.1; value = initial_from f.2 }

mutual
  pub forth-initial : {A : Type 0} (i : Initial A) → initial_of (initial_from i) ≡ i
  forth-initial (init.Value e) = init.initial_of-Value (expression_from e) ∙ ap init.Value (forth-expression e)
  forth-initial (init.Array l ps) = init.initial_of-Array l (parts_from ps) ∙ ap (init.Array l) (forth-parts ps)
  forth-initial (init.Fields l fs) = init.initial_of-Fields l (fields_from fs) ∙ ap (init.Fields l) (forth-fields fs)

  forth-part : {A : Type 0} (p : Part A) → part_of (part_from p) ≡ p
  forth-part (init.One i) = init.part_of-One (initial_from i) ∙ ap init.One (forth-initial i)
  forth-part (init.Repeated l digits i) = init.part_of-Repeated l digits (initial_from i) ∙ ap (init.Repeated l digits) (forth-initial i)

  forth-parts : {A : Type 0} (ps : Parts A) → parts_of (parts_from ps) ≡ ps
  forth-parts no_parts = refl
  forth-parts (part_then p ps) = ap (λ u. part_then u (parts_of (parts_from ps))) (forth-part p) ∙ ap (part_then p) (forth-parts ps)

  forth-fields : {A : Type 0} (fs : FieldInits A) → fields_of (fields_from fs) ≡ fs
  forth-fields no_fields = refl
  forth-fields {A = A} (field_then a n i fs) =
      let f : FieldInit A = record { note = a; name = n; value = initial_from i } in
      ap (λ u. field_then u.0 u.1 u.2 (fields_of (fields_from fs))) (field_of-is f) ∙ ap (λ u. field_then a n u (fields_of (fields_from fs))) (forth-initial i) ∙ ap (field_then a n i) (forth-fields fs)

module _ {A : Type 0} (S S' S'' : Type 0)
    (p : S → Init A)
    (p' : S' → CodePart A)
    (p'' : S'' → FieldInit A)
    (q : (s : S) → initial_from (initial_of (p s)) ≡ p s)
    (q' : (s : S') → part_from (part_of (p' s)) ≡ p' s)
    (q'' : (s : S'') → field_from (field_of (p'' s)) ≡ p'' s)
  where
    each-part : (xs : List S') → parts_from (parts_of (map p' xs)) ≡ map p' xs
    each-part [] = refl
    each-part (x ∷ xs) = ap (λ u. u ∷ parts_from (parts_of (map p' xs))) (q' x) ∙ ap (λ u. p' x ∷ u) (each-part xs)

    each-field : (xs : List S'') → fields_from (fields_of (map p'' xs)) ≡ map p'' xs
    each-field [] = refl
    each-field (x ∷ xs) = ap (λ u. u ∷ fields_from (fields_of (map p'' xs))) (q'' x) ∙ ap (λ u. p'' x ∷ u) (each-field xs)

    step-initial : (y : Init-F A S S' S'') → initial_from (initial_of (roll-Init A (map-Init A S S' S'' (Init A) (CodePart A) (FieldInit A) p p' p'' y))) ≡ roll-Init A (map-Init A S S' S'' (Init A) (CodePart A) (FieldInit A) p p' p'' y)
    step-initial (Init-F.Value e) = subst (λ x. initial_from (initial_of x) ≡ x) (sym (initials.rolls-Value e)) (ap initial_from (init.initial_of-Value e) ∙ ap initials.Value (back-expression e))
    step-initial (Init-F.Array l ps) = subst (λ x. initial_from (initial_of x) ≡ x) (sym (initials.rolls-Array l (map p' ps))) (ap initial_from (init.initial_of-Array l (map p' ps)) ∙ ap (initials.Array l) (each-part ps))
    step-initial (Init-F.Fields l fs) = subst (λ x. initial_from (initial_of x) ≡ x) (sym (initials.rolls-Fields l (map p'' fs))) (ap initial_from (init.initial_of-Fields l (map p'' fs)) ∙ ap (initials.Fields l) (each-field fs))

    step-part : (y : Part-F A S S' S'') → part_from (part_of (roll-Part A (map-Part A S S' S'' (Init A) (CodePart A) (FieldInit A) p p' p'' y))) ≡ roll-Part A (map-Part A S S' S'' (Init A) (CodePart A) (FieldInit A) p p' p'' y)
    step-part (Part-F.One i) = subst (λ x. part_from (part_of x) ≡ x) (sym (part.rolls-One (p i))) (ap part_from (init.part_of-One (p i)) ∙ ap part.One (q i))
    step-part (Part-F.Repeated l digits i) = subst (λ x. part_from (part_of x) ≡ x) (sym (part.rolls-Repeated l digits (p i))) (ap part_from (init.part_of-Repeated l digits (p i)) ∙ ap (part.Repeated l digits) (q i))

    step-field : (y : FieldInit-F A S S' S'') → field_from (field_of (roll-FieldInit A (map-FieldInit A S S' S'' (Init A) (CodePart A) (FieldInit A) p p' p'' y))) ≡ roll-FieldInit A (map-FieldInit A S S' S'' (Init A) (CodePart A) (FieldInit A) p p' p'' y)
    step-field y = let v : FieldInit A = record { note = y.note; name = y.name; value = p y.value } in let same : ◌≡◌ {A = FieldInit A} (field_from (y.note, y.name, initial_of (p y.value))) v = ap (λ u. record { note = y.note; name = y.name; value = u }) (q y.value) in ap field_from (field_of-is v) ∙ same

pub back-initial : {A : Type 0} (x : Init A) → initial_from (initial_of x) ≡ x
back-initial {A = A} = ind-Init A (λ x. initial_from (initial_of x) ≡ x) (λ x. part_from (part_of x) ≡ x) (λ x. field_from (field_of x) ≡ x)
    (λ x y is. subst (λ z. initial_from (initial_of (roll-Init A z)) ≡ roll-Init A z) is (step-initial _ _ _ (λ e. e.0) (λ e. e.0) (λ e. e.0) (λ e. e.1) (λ e. e.1) (λ e. e.1) y))
    (λ x y is. subst (λ z. part_from (part_of (roll-Part A z)) ≡ roll-Part A z) is (step-part _ _ _ (λ e. e.0) (λ e. e.0) (λ e. e.0) (λ e. e.1) (λ e. e.1) (λ e. e.1) y))
    (λ x y is. subst (λ z. field_from (field_of (roll-FieldInit A z)) ≡ roll-FieldInit A z) is (step-field _ _ _ (λ e. e.0) (λ e. e.0) (λ e. e.0) (λ e. e.1) (λ e. e.1) (λ e. e.1) y))

-- ---- statements

abbrev pub step_from : {A : Type 0} → Option (Expression A) → Option (Expr A)
step_from None = None
step_from (Some e) = Some (expression_from e)

back-step : {A : Type 0} (o : Option (Expr A)) → step_from (option_map expression_of o) ≡ o
back-step None = refl
back-step (Some e) = ap Some (back-expression e)

forth-step : {A : Type 0} (o : Option (Expression A)) → option_map expression_of (step_from o) ≡ o
forth-step None = refl
forth-step (Some e) = ap Some (forth-expression e)

abbrev mutual
  pub statement_from : {A : Type 0} → Statement A → Stmt A
  statement_from (stmt.Empty l) = statement.Empty l
  statement_from (stmt.Assign l a r ss e) = statement.Assign l a (place_from (r, ss)) (expression_from e)
  statement_from (stmt.Attempt l a r ss e) = statement.Attempt l a (place_from (r, ss)) (expression_from e)
  statement_from (stmt.Call l a r ss xs) = statement.Call l a (place_from (r, ss)) (arguments_from xs)
  statement_from (stmt.Exit l) = statement.Exit l
  statement_from (stmt.Continue l) = statement.Continue l
  statement_from (stmt.Return l) = statement.Return l
  statement_from (stmt.If l bs o) = statement.If l (branches_from bs) (otherwise_from o)
  statement_from (stmt.Case l e cs o) = statement.Case l (expression_from e) (cases_from cs) (otherwise_from o)
  statement_from (stmt.For l a n from to by ss) = statement.For l a n (expression_from from) (expression_from to) (step_from by) (statements_from ss)
  statement_from (stmt.While l e ss) = statement.While l (expression_from e) (statements_from ss)
  statement_from (stmt.Repeat l ss e) = statement.Repeat l (statements_from ss) (expression_from e)

  pub statements_from : {A : Type 0} → Statements A → List (Stmt A)
  statements_from no_statements = []
  statements_from (statement_then s ss) = statement_from s ∷ statements_from ss

  pub branches_from : {A : Type 0} → Branches A → List (Branch A)
  branches_from no_branches = []
  branches_from (branch_then e ss bs) = record { condition = expression_from e; body = statements_from ss } ∷ branches_from bs

  pub cases_from : {A : Type 0} → Cases A → List (CodeCase A)
  cases_from no_cases = []
  cases_from (case_then ls ss cs) = record { labels = ls; body = statements_from ss } ∷ cases_from cs

  pub otherwise_from : {A : Type 0} → Otherwise A → CodeOtherwise A
  otherwise_from stmt.Nothing = otherwise.Nothing
  otherwise_from (stmt.Else ss) = otherwise.Else (statements_from ss)

abbrev branch_from : {A : Type 0} → Expression A × Statements A → Branch A
branch_from b = record { condition = expression_from b.0; body = statements_from b.1 }

abbrev case_from : {A : Type 0} → List (Label A) × Statements A → CodeCase A
case_from c = record { labels = c.0; body = statements_from c.1 }

forth-place : {A : Type 0} (r : Root A) (ss : Selectors A) → place_of (place_from (r, ss)) ≡ (r, ss)
forth-place r ss = placed r (selectors_from ss) ss (forth-selectors ss)

mutual
  pub forth-statement : {A : Type 0} (s : Statement A) → statement_of (statement_from s) ≡ s
  forth-statement (stmt.Empty l) = stmt.statement_of-Empty l
  forth-statement (stmt.Assign l a r ss e) =
      stmt.statement_of-Assign l a (place_from (r, ss)) (expression_from e) ∙ ap (λ p. stmt.Assign l a p.0 p.1 (expression_of (expression_from e))) (forth-place r ss) ∙ ap (stmt.Assign l a r ss) (forth-expression e)
  forth-statement (stmt.Attempt l a r ss e) =
      stmt.statement_of-Attempt l a (place_from (r, ss)) (expression_from e) ∙ ap (λ p. stmt.Attempt l a p.0 p.1 (expression_of (expression_from e))) (forth-place r ss) ∙ ap (stmt.Attempt l a r ss) (forth-expression e)
  forth-statement (stmt.Call l a r ss xs) =
      stmt.statement_of-Call l a (place_from (r, ss)) (arguments_from xs) ∙ ap (λ p. stmt.Call l a p.0 p.1 (arguments_of (arguments_from xs))) (forth-place r ss) ∙ ap (stmt.Call l a r ss) (forth-arguments xs)
  forth-statement (stmt.Exit l) = stmt.statement_of-Exit l
  forth-statement (stmt.Continue l) = stmt.statement_of-Continue l
  forth-statement (stmt.Return l) = stmt.statement_of-Return l
  forth-statement (stmt.If l bs o) =
      stmt.statement_of-If l (branches_from bs) (otherwise_from o) ∙ ap (λ u. stmt.If l u (otherwise_of (otherwise_from o))) (forth-branches bs) ∙ ap (stmt.If l bs) (forth-otherwise o)
  forth-statement (stmt.Case l e cs o) =
      stmt.statement_of-Case l (expression_from e) (cases_from cs) (otherwise_from o) ∙ ap (λ u. stmt.Case l u (cases_of (cases_from cs)) (otherwise_of (otherwise_from o))) (forth-expression e)
      ∙ ap (λ u. stmt.Case l e u (otherwise_of (otherwise_from o))) (forth-cases cs) ∙ ap (stmt.Case l e cs) (forth-otherwise o)
  forth-statement (stmt.For l a n from to by ss) =
      stmt.statement_of-For l a n (expression_from from) (expression_from to) (step_from by) (statements_from ss)
      ∙ ap (λ u. stmt.For l a n u (expression_of (expression_from to)) (option_map expression_of (step_from by)) (statements_of (statements_from ss))) (forth-expression from)
      ∙ ap (λ u. stmt.For l a n from u (option_map expression_of (step_from by)) (statements_of (statements_from ss))) (forth-expression to)
      ∙ ap (λ u. stmt.For l a n from to u (statements_of (statements_from ss))) (forth-step by) ∙ ap (stmt.For l a n from to by) (forth-statements ss)
  forth-statement (stmt.While l e ss) =
      stmt.statement_of-While l (expression_from e) (statements_from ss) ∙ ap (λ u. stmt.While l u (statements_of (statements_from ss))) (forth-expression e) ∙ ap (stmt.While l e) (forth-statements ss)
  forth-statement (stmt.Repeat l ss e) =
      stmt.statement_of-Repeat l (statements_from ss) (expression_from e) ∙ ap (λ u. stmt.Repeat l u (expression_of (expression_from e))) (forth-statements ss) ∙ ap (stmt.Repeat l ss) (forth-expression e)

  pub forth-statements : {A : Type 0} (ss : Statements A) → statements_of (statements_from ss) ≡ ss
  forth-statements no_statements = refl
  forth-statements (statement_then s ss) = ap (λ u. statement_then u (statements_of (statements_from ss))) (forth-statement s) ∙ ap (statement_then s) (forth-statements ss)

  forth-branches : {A : Type 0} (bs : Branches A) → branches_of (branches_from bs) ≡ bs
  forth-branches no_branches = refl
  forth-branches {A = A} (branch_then e ss bs) =
      let b : Branch A = record { condition = expression_from e; body = statements_from ss } in
      ap (λ u. branch_then u.0 u.1 (branches_of (branches_from bs))) (branch_of-is b) ∙ ap (λ u. branch_then u (statements_of (statements_from ss)) (branches_of (branches_from bs))) (forth-expression e)
      ∙ ap (λ u. branch_then e u (branches_of (branches_from bs))) (forth-statements ss) ∙ ap (branch_then e ss) (forth-branches bs)

  forth-cases : {A : Type 0} (cs : Cases A) → cases_of (cases_from cs) ≡ cs
  forth-cases no_cases = refl
  forth-cases {A = A} (case_then ls ss cs) =
      let c : CodeCase A = record { labels = ls; body = statements_from ss } in
      ap (λ u. case_then u.0 u.1 (cases_of (cases_from cs))) (case_branch_of-is c) ∙ ap (λ u. case_then ls u (cases_of (cases_from cs))) (forth-statements ss) ∙ ap (case_then ls ss) (forth-cases cs)

  forth-otherwise : {A : Type 0} (o : Otherwise A) → otherwise_of (otherwise_from o) ≡ o
  forth-otherwise stmt.Nothing = stmt.otherwise_of-Nothing
  forth-otherwise (stmt.Else ss) = stmt.otherwise_of-Else (statements_from ss) ∙ ap stmt.Else (forth-statements ss)

module _ {A : Type 0} (S S' S'' S''' : Type 0)
    (p : S → CodeOtherwise A)
    (p' : S' → Stmt A)
    (p'' : S'' → Branch A)
    (p''' : S''' → CodeCase A)
    (q : (s : S) → otherwise_from (otherwise_of (p s)) ≡ p s)
    (q' : (s : S') → statement_from (statement_of (p' s)) ≡ p' s)
    (q'' : (s : S'') → branch_from (branch_of (p'' s)) ≡ p'' s)
    (q''' : (s : S''') → case_from (case_branch_of (p''' s)) ≡ p''' s)
  where
    each-statement : (xs : List S') → statements_from (statements_of (map p' xs)) ≡ map p' xs
    each-statement [] = refl
    each-statement (x ∷ xs) = ap (λ u. u ∷ statements_from (statements_of (map p' xs))) (q' x) ∙ ap (λ u. p' x ∷ u) (each-statement xs)

    each-branch : (xs : List S'') → branches_from (branches_of (map p'' xs)) ≡ map p'' xs
    each-branch [] = refl
    each-branch (x ∷ xs) = ap (λ u. u ∷ branches_from (branches_of (map p'' xs))) (q'' x) ∙ ap (λ u. p'' x ∷ u) (each-branch xs)

    each-case : (xs : List S''') → cases_from (cases_of (map p''' xs)) ≡ map p''' xs
    each-case [] = refl
    each-case (x ∷ xs) = ap (λ u. u ∷ cases_from (cases_of (map p''' xs))) (q''' x) ∙ ap (λ u. p''' x ∷ u) (each-case xs)

    step-otherwise : (y : Otherwise-F A S S' S'' S''') → otherwise_from (otherwise_of (roll-Otherwise A (map-Otherwise A S S' S'' S''' (CodeOtherwise A) (Stmt A) (Branch A) (CodeCase A) p p' p'' p''' y))) ≡ roll-Otherwise A (map-Otherwise A S S' S'' S''' (CodeOtherwise A) (Stmt A) (Branch A) (CodeCase A) p p' p'' p''' y)
    step-otherwise (Otherwise-F.Nothing) = subst (λ x. otherwise_from (otherwise_of x) ≡ x) (sym (otherwise.rolls-Nothing)) (ap otherwise_from stmt.otherwise_of-Nothing)
    step-otherwise (Otherwise-F.Else ss) = subst (λ x. otherwise_from (otherwise_of x) ≡ x) (sym (otherwise.rolls-Else (map p' ss))) (ap otherwise_from (stmt.otherwise_of-Else (map p' ss)) ∙ ap otherwise.Else (each-statement ss))

    step-statement : (y : Stmt-F A S S' S'' S''') → statement_from (statement_of (roll-Stmt A (map-Stmt A S S' S'' S''' (CodeOtherwise A) (Stmt A) (Branch A) (CodeCase A) p p' p'' p''' y))) ≡ roll-Stmt A (map-Stmt A S S' S'' S''' (CodeOtherwise A) (Stmt A) (Branch A) (CodeCase A) p p' p'' p''' y)
    step-statement (Stmt-F.Empty l) = subst (λ x. statement_from (statement_of x) ≡ x) (sym (statement.rolls-Empty l)) (ap statement_from (stmt.statement_of-Empty l))
    step-statement (Stmt-F.Assign l a x e) = subst (λ x. statement_from (statement_of x) ≡ x) (sym (statement.rolls-Assign l a x e)) (ap statement_from (stmt.statement_of-Assign l a x e) ∙ ap (λ u. statement.Assign l a u (expression_from (expression_of e))) (back-place x) ∙ ap (statement.Assign l a x) (back-expression e))
    step-statement (Stmt-F.Attempt l a x e) = subst (λ x. statement_from (statement_of x) ≡ x) (sym (statement.rolls-Attempt l a x e)) (ap statement_from (stmt.statement_of-Attempt l a x e) ∙ ap (λ u. statement.Attempt l a u (expression_from (expression_of e))) (back-place x) ∙ ap (statement.Attempt l a x) (back-expression e))
    step-statement (Stmt-F.Call l a x xs) = subst (λ x. statement_from (statement_of x) ≡ x) (sym (statement.rolls-Call l a x xs)) (ap statement_from (stmt.statement_of-Call l a x xs) ∙ ap (λ u. statement.Call l a u (arguments_from (arguments_of xs))) (back-place x) ∙ ap (statement.Call l a x) (back-arguments xs))
    step-statement (Stmt-F.Exit l) = subst (λ x. statement_from (statement_of x) ≡ x) (sym (statement.rolls-Exit l)) (ap statement_from (stmt.statement_of-Exit l))
    step-statement (Stmt-F.Continue l) = subst (λ x. statement_from (statement_of x) ≡ x) (sym (statement.rolls-Continue l)) (ap statement_from (stmt.statement_of-Continue l))
    step-statement (Stmt-F.Return l) = subst (λ x. statement_from (statement_of x) ≡ x) (sym (statement.rolls-Return l)) (ap statement_from (stmt.statement_of-Return l))
    step-statement (Stmt-F.If l bs o) = subst (λ x. statement_from (statement_of x) ≡ x) (sym (statement.rolls-If l (map p'' bs) (p o))) (ap statement_from (stmt.statement_of-If l (map p'' bs) (p o)) ∙ ap (λ u. statement.If l u (otherwise_from (otherwise_of (p o)))) (each-branch bs) ∙ ap (statement.If l (map p'' bs)) (q o))
    step-statement (Stmt-F.Case l e cs o) = subst (λ x. statement_from (statement_of x) ≡ x) (sym (statement.rolls-Case l e (map p''' cs) (p o))) (ap statement_from (stmt.statement_of-Case l e (map p''' cs) (p o)) ∙ ap (λ u. statement.Case l u (cases_from (cases_of (map p''' cs))) (otherwise_from (otherwise_of (p o)))) (back-expression e) ∙ ap (λ u. statement.Case l e u (otherwise_from (otherwise_of (p o)))) (each-case cs) ∙ ap (statement.Case l e (map p''' cs)) (q o))
    step-statement (Stmt-F.For l a n from to by ss) = subst (λ x. statement_from (statement_of x) ≡ x) (sym (statement.rolls-For l a n from to by (map p' ss))) (ap statement_from (stmt.statement_of-For l a n from to by (map p' ss)) ∙ ap (λ u. statement.For l a n u (expression_from (expression_of to)) (step_from (option_map expression_of by)) (statements_from (statements_of (map p' ss)))) (back-expression from) ∙ ap (λ u. statement.For l a n from u (step_from (option_map expression_of by)) (statements_from (statements_of (map p' ss)))) (back-expression to) ∙ ap (λ u. statement.For l a n from to u (statements_from (statements_of (map p' ss)))) (back-step by) ∙ ap (statement.For l a n from to by) (each-statement ss))
    step-statement (Stmt-F.While l e ss) = subst (λ x. statement_from (statement_of x) ≡ x) (sym (statement.rolls-While l e (map p' ss))) (ap statement_from (stmt.statement_of-While l e (map p' ss)) ∙ ap (λ u. statement.While l u (statements_from (statements_of (map p' ss)))) (back-expression e) ∙ ap (statement.While l e) (each-statement ss))
    step-statement (Stmt-F.Repeat l ss e) = subst (λ x. statement_from (statement_of x) ≡ x) (sym (statement.rolls-Repeat l (map p' ss) e)) (ap statement_from (stmt.statement_of-Repeat l (map p' ss) e) ∙ ap (λ u. statement.Repeat l u (expression_from (expression_of e))) (each-statement ss) ∙ ap (statement.Repeat l (map p' ss)) (back-expression e))

    step-branch : (y : Branch-F A S S' S'' S''') → branch_from (branch_of (roll-Branch A (map-Branch A S S' S'' S''' (CodeOtherwise A) (Stmt A) (Branch A) (CodeCase A) p p' p'' p''' y))) ≡ roll-Branch A (map-Branch A S S' S'' S''' (CodeOtherwise A) (Stmt A) (Branch A) (CodeCase A) p p' p'' p''' y)
    step-branch y = let v : Branch A = record { condition = y.condition; body = map p' y.body } in let same : ◌≡◌ {A = Branch A} (branch_from (expression_of y.condition, statements_of (map p' y.body))) v = ap (λ u. record { condition = u; body = statements_from (statements_of (map p' y.body)) }) (back-expression y.condition) ∙ ap (λ u. record { condition = y.condition; body = u }) (each-statement y.body) in ap branch_from (branch_of-is v) ∙ same

    step-case : (y : Case-F A S S' S'' S''') → case_from (case_branch_of (roll-Case A (map-Case A S S' S'' S''' (CodeOtherwise A) (Stmt A) (Branch A) (CodeCase A) p p' p'' p''' y))) ≡ roll-Case A (map-Case A S S' S'' S''' (CodeOtherwise A) (Stmt A) (Branch A) (CodeCase A) p p' p'' p''' y)
    step-case y = let v : CodeCase A = record { labels = y.labels; body = map p' y.body } in let same : ◌≡◌ {A = CodeCase A} (case_from (y.labels, statements_of (map p' y.body))) v = ap (λ u. record { labels = y.labels; body = u }) (each-statement y.body) in ap case_from (case_branch_of-is v) ∙ same

pub back-statement : {A : Type 0} (x : Stmt A) → statement_from (statement_of x) ≡ x
back-statement {A = A} = ind-Stmt A (λ x. otherwise_from (otherwise_of x) ≡ x) (λ x. statement_from (statement_of x) ≡ x) (λ x. branch_from (branch_of x) ≡ x) (λ x. case_from (case_branch_of x) ≡ x)
    (λ x y is. subst (λ z. otherwise_from (otherwise_of (roll-Otherwise A z)) ≡ roll-Otherwise A z) is (step-otherwise _ _ _ _ (λ e. e.0) (λ e. e.0) (λ e. e.0) (λ e. e.0) (λ e. e.1) (λ e. e.1) (λ e. e.1) (λ e. e.1) y))
    (λ x y is. subst (λ z. statement_from (statement_of (roll-Stmt A z)) ≡ roll-Stmt A z) is (step-statement _ _ _ _ (λ e. e.0) (λ e. e.0) (λ e. e.0) (λ e. e.0) (λ e. e.1) (λ e. e.1) (λ e. e.1) (λ e. e.1) y))
    (λ x y is. subst (λ z. branch_from (branch_of (roll-Branch A z)) ≡ roll-Branch A z) is (step-branch _ _ _ _ (λ e. e.0) (λ e. e.0) (λ e. e.0) (λ e. e.0) (λ e. e.1) (λ e. e.1) (λ e. e.1) (λ e. e.1) y))
    (λ x y is. subst (λ z. case_from (case_branch_of (roll-Case A z)) ≡ roll-Case A z) is (step-case _ _ _ _ (λ e. e.0) (λ e. e.0) (λ e. e.0) (λ e. e.0) (λ e. e.1) (λ e. e.1) (λ e. e.1) (λ e. e.1) y))

pub back-statements : {A : Type 0} (ss : List (Stmt A)) → statements_from (statements_of ss) ≡ ss
back-statements [] = refl
back-statements (s ∷ ss) = ap (λ u. u ∷ statements_from (statements_of ss)) (back-statement s) ∙ ap (λ u. s ∷ u) (back-statements ss)
