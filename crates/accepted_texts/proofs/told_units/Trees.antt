-- Each plain tree is that of a tree of the code.
use Rattle.std.proofs.Common.{◌≡◌, List, [], ◌∷◌, Option, Some, None, refl, ap, ◌∙◌}
use Rattle.std.specs.Prelude.{option_map}
use Rattle.st_tree.specs.declared.expression.Root.{Root}
use Rattle.st_tree.specs.declared.expression.Argument.{Argument as ArgumentTree}
use Rattle.st_tree.specs.declared.expression.Argument.TheVariants as argument
use Rattle.st_tree.specs.declared.expression.Expr.{Expr}
use Rattle.st_tree.specs.declared.expression.Expr.TheVariants as code
use Rattle.st_tree.specs.declared.expression.Selector.{Selector as SelectorTree}
use Rattle.st_tree.specs.declared.expression.Selector.TheVariants as selection
use Rattle.st_tree.specs.declared.expression.Place.{Place as PlaceTree}
use Rattle.st_tree.specs.declared.expression.Tail.{Tail}
use Rattle.st_tree.specs.declared.initial.Init.{Init}
use Rattle.st_tree.specs.declared.initial.Init.TheVariants as init
use Rattle.st_tree.specs.declared.initial.Part.{Part as PartTree}
use Rattle.st_tree.specs.declared.initial.Part.TheVariants as part
use Rattle.st_tree.specs.declared.initial.FieldInit.{FieldInit}
use Rattle.st_tree.specs.declared.statement.Branch.{Branch}
use Rattle.st_tree.specs.declared.statement.Case.{Case as CaseTree}
use Rattle.st_tree.specs.declared.statement.Otherwise.{Otherwise as OtherwiseTree}
use Rattle.st_tree.specs.declared.statement.Otherwise.TheVariants as otherwise
use Rattle.st_tree.specs.declared.statement.Stmt.{Stmt}
use Rattle.st_tree.specs.declared.statement.Stmt.TheVariants as statement
use Rattle.st_tree.specs.Expression as plain
use Rattle.st_tree.specs.Expression.{Expression, Expressions, Selector, Selectors, Argument, Arguments, Tails, expression_of, expressions_of, selector_of, selectors_of, place_of, argument_of, arguments_of, tails_of}
use Rattle.st_tree.specs.Initial as initial
use Rattle.st_tree.specs.Initial.{Initial, Part, Parts, FieldInits, initial_of, part_of, parts_of, fields_of}
use Rattle.st_tree.specs.Statement as told
use Rattle.st_tree.specs.Statement.{Statement, Statements, Branches, Cases, Otherwise, statement_of, statements_of, branches_of, cases_of, otherwise_of}

-- ---- expressions

abbrev mutual
  pub tree : {A : Type 0} → Expression A → Expr A
  tree (plain.Int a digits) = code.Int a digits
  tree (plain.Typed a k l) = code.Typed a k l
  tree (plain.Time a text) = code.Time a text
  tree (plain.True a) = code.True a
  tree (plain.False a) = code.False a
  tree (plain.Null a) = code.Null a
  tree (plain.Place a r ss) = code.Place a (record { root = r; selectors = selector_trees ss })
  tree (plain.Call a r ss xs) = code.Call a (record { root = r; selectors = selector_trees ss }) (argument_trees xs)
  tree (plain.Enumerator a t b n) = code.Enumerator a t b n
  tree (plain.Ref a r ss) = code.Ref a (record { root = r; selectors = selector_trees ss })
  tree (plain.Now a) = code.Now a
  tree (plain.Paren a e) = code.Paren a (tree e)
  tree (plain.Not a e) = code.Not a (tree e)
  tree (plain.Negate a e) = code.Negate a (tree e)
  tree (plain.Chain a e ts) = code.Chain a (tree e) (tail_trees ts)

  pub trees : {A : Type 0} → Expressions A → List (Expr A)
  trees plain.no_expressions = []
  trees (plain.expression_then e es) = tree e ∷ trees es

  pub selector_tree : {A : Type 0} → Selector A → SelectorTree A
  selector_tree (plain.Field a n) = selection.Field a n
  selector_tree (plain.Index a es) = selection.Index a (trees es)
  selector_tree (plain.Target a) = selection.Target a

  pub selector_trees : {A : Type 0} → Selectors A → List (SelectorTree A)
  selector_trees plain.no_selectors = []
  selector_trees (plain.selector_then x ss) = selector_tree x ∷ selector_trees ss

  pub argument_tree : {A : Type 0} → Argument A → ArgumentTree A
  argument_tree (plain.Positional e) = argument.Positional (tree e)
  argument_tree (plain.Input a n e) = argument.Input a n (tree e)
  argument_tree (plain.Output a n b r ss) = argument.Output a n b (record { root = r; selectors = selector_trees ss })

  pub argument_trees : {A : Type 0} → Arguments A → List (ArgumentTree A)
  argument_trees plain.no_arguments = []
  argument_trees (plain.argument_then x xs) = argument_tree x ∷ argument_trees xs

  pub tail_trees : {A : Type 0} → Tails A → List (Tail A)
  tail_trees plain.no_tails = []
  tail_trees (plain.tail_then a o e ts) = record { note = a; operator = o; operand = tree e } ∷ tail_trees ts

abbrev pub place_tree : {A : Type 0} → Root A → Selectors A → PlaceTree A
place_tree r ss = record { root = r; selectors = selector_trees ss }

placed : {A : Type 0} {X : Type 0} (f : Root A → Selectors A → X) (r : Root A) (ss : Selectors A) → selectors_of (selector_trees ss) ≡ ss → f (place_of (place_tree r ss)).0 (place_of (place_tree r ss)).1 ≡ f r ss
placed f r ss e = ap (λ x. f x (place_of (place_tree r ss)).1) (plain.place_of-root (place_tree r ss)) ∙ ap (f r) (plain.place_of-selectors (place_tree r ss) ∙ e)

mutual
  pub tree_is : {A : Type 0} (e : Expression A) → expression_of (tree e) ≡ e
  tree_is (plain.Int a digits) = plain.expression_of-Int a digits
  tree_is (plain.Typed a k l) = plain.expression_of-Typed a k l
  tree_is (plain.Time a text) = plain.expression_of-Time a text
  tree_is (plain.True a) = plain.expression_of-True a
  tree_is (plain.False a) = plain.expression_of-False a
  tree_is (plain.Null a) = plain.expression_of-Null a
  tree_is (plain.Place a r ss) = plain.expression_of-Place a (place_tree r ss) ∙ placed (plain.Place a) r ss (selector_trees_are ss)
  tree_is (plain.Call a r ss xs) =
      plain.expression_of-Call a (place_tree r ss) (argument_trees xs)
      ∙ placed (λ x y. plain.Call a x y (arguments_of (argument_trees xs))) r ss (selector_trees_are ss)
      ∙ ap (plain.Call a r ss) (argument_trees_are xs)
  tree_is (plain.Enumerator a t b n) = plain.expression_of-Enumerator a t b n
  tree_is (plain.Ref a r ss) = plain.expression_of-Ref a (place_tree r ss) ∙ placed (plain.Ref a) r ss (selector_trees_are ss)
  tree_is (plain.Now a) = plain.expression_of-Now a
  tree_is (plain.Paren a e) = plain.expression_of-Paren a (tree e) ∙ ap (plain.Paren a) (tree_is e)
  tree_is (plain.Not a e) = plain.expression_of-Not a (tree e) ∙ ap (plain.Not a) (tree_is e)
  tree_is (plain.Negate a e) = plain.expression_of-Negate a (tree e) ∙ ap (plain.Negate a) (tree_is e)
  tree_is (plain.Chain a e ts) = plain.expression_of-Chain a (tree e) (tail_trees ts) ∙ ap (λ x. plain.Chain a x (tails_of (tail_trees ts))) (tree_is e) ∙ ap (plain.Chain a e) (tail_trees_are ts)

  trees_are : {A : Type 0} (es : Expressions A) → expressions_of (trees es) ≡ es
  trees_are plain.no_expressions = refl
  trees_are (plain.expression_then e es) = ap (λ x. plain.expression_then x (expressions_of (trees es))) (tree_is e) ∙ ap (plain.expression_then e) (trees_are es)

  selector_tree_is : {A : Type 0} (x : Selector A) → selector_of (selector_tree x) ≡ x
  selector_tree_is (plain.Field a n) = plain.selector_of-Field a n
  selector_tree_is (plain.Index a es) = plain.selector_of-Index a (trees es) ∙ ap (plain.Index a) (trees_are es)
  selector_tree_is (plain.Target a) = plain.selector_of-Target a

  selector_trees_are : {A : Type 0} (ss : Selectors A) → selectors_of (selector_trees ss) ≡ ss
  selector_trees_are plain.no_selectors = refl
  selector_trees_are (plain.selector_then x ss) = ap (λ y. plain.selector_then y (selectors_of (selector_trees ss))) (selector_tree_is x) ∙ ap (plain.selector_then x) (selector_trees_are ss)

  argument_tree_is : {A : Type 0} (x : Argument A) → argument_of (argument_tree x) ≡ x
  argument_tree_is (plain.Positional e) = plain.argument_of-Positional (tree e) ∙ ap plain.Positional (tree_is e)
  argument_tree_is (plain.Input a n e) = plain.argument_of-Input a n (tree e) ∙ ap (plain.Input a n) (tree_is e)
  argument_tree_is (plain.Output a n b r ss) = plain.argument_of-Output a n b (place_tree r ss) ∙ placed (plain.Output a n b) r ss (selector_trees_are ss)

  argument_trees_are : {A : Type 0} (xs : Arguments A) → arguments_of (argument_trees xs) ≡ xs
  argument_trees_are plain.no_arguments = refl
  argument_trees_are (plain.argument_then x xs) = ap (λ y. plain.argument_then y (arguments_of (argument_trees xs))) (argument_tree_is x) ∙ ap (plain.argument_then x) (argument_trees_are xs)

  tail_trees_are : {A : Type 0} (ts : Tails A) → tails_of (tail_trees ts) ≡ ts
  tail_trees_are plain.no_tails = refl
  tail_trees_are (plain.tail_then a o e ts) =
      ap (λ t. plain.tail_then t.0 t.1 t.2 (tails_of (tail_trees ts))) (plain.tail_of-is (record { note = a; operator = o; operand = tree e }))
      ∙ ap (λ x. plain.tail_then a o x (tails_of (tail_trees ts))) (tree_is e)
      ∙ ap (plain.tail_then a o e) (tail_trees_are ts)

-- ---- initial values

abbrev mutual
  pub initial_tree : {A : Type 0} → Initial A → Init A
  initial_tree (initial.Value e) = init.Value (tree e)
  initial_tree (initial.Array l ps) = init.Array l (part_trees ps)
  initial_tree (initial.Fields l fs) = init.Fields l (field_trees fs)

  pub part_tree : {A : Type 0} → Part A → PartTree A
  part_tree (initial.One i) = part.One (initial_tree i)
  part_tree (initial.Repeated l digits i) = part.Repeated l digits (initial_tree i)

  pub part_trees : {A : Type 0} → Parts A → List (PartTree A)
  part_trees initial.no_parts = []
  part_trees (initial.part_then p ps) = part_tree p ∷ part_trees ps

  pub field_trees : {A : Type 0} → FieldInits A → List (FieldInit A)
  field_trees initial.no_fields = []
  field_trees (initial.field_then a name i fs) = record { note = a; name = name; value = initial_tree i } ∷ field_trees fs

mutual
  pub initial_tree_is : {A : Type 0} (i : Initial A) → initial_of (initial_tree i) ≡ i
  initial_tree_is (initial.Value e) = initial.initial_of-Value (tree e) ∙ ap initial.Value (tree_is e)
  initial_tree_is (initial.Array l ps) = initial.initial_of-Array l (part_trees ps) ∙ ap (initial.Array l) (part_trees_are ps)
  initial_tree_is (initial.Fields l fs) = initial.initial_of-Fields l (field_trees fs) ∙ ap (initial.Fields l) (field_trees_are fs)

  part_tree_is : {A : Type 0} (p : Part A) → part_of (part_tree p) ≡ p
  part_tree_is (initial.One i) = initial.part_of-One (initial_tree i) ∙ ap initial.One (initial_tree_is i)
  part_tree_is (initial.Repeated l digits i) = initial.part_of-Repeated l digits (initial_tree i) ∙ ap (initial.Repeated l digits) (initial_tree_is i)

  part_trees_are : {A : Type 0} (ps : Parts A) → parts_of (part_trees ps) ≡ ps
  part_trees_are initial.no_parts = refl
  part_trees_are (initial.part_then p ps) = ap (λ x. initial.part_then x (parts_of (part_trees ps))) (part_tree_is p) ∙ ap (initial.part_then p) (part_trees_are ps)

  field_trees_are : {A : Type 0} (fs : FieldInits A) → fields_of (field_trees fs) ≡ fs
  field_trees_are initial.no_fields = refl
  field_trees_are (initial.field_then a name i fs) =
      ap (λ t. initial.field_then t.0 t.1 t.2 (fields_of (field_trees fs))) (initial.field_of-is (record { note = a; name = name; value = initial_tree i }))
      ∙ ap (λ x. initial.field_then a name x (fields_of (field_trees fs))) (initial_tree_is i)
      ∙ ap (initial.field_then a name i) (field_trees_are fs)

-- ---- statements

abbrev mutual
  pub statement_tree : {A : Type 0} → Statement A → Stmt A
  statement_tree (told.Empty l) = statement.Empty l
  statement_tree (told.Assign l a r ss e) = statement.Assign l a (place_tree r ss) (tree e)
  statement_tree (told.Attempt l a r ss e) = statement.Attempt l a (place_tree r ss) (tree e)
  statement_tree (told.Call l a r ss xs) = statement.Call l a (place_tree r ss) (argument_trees xs)
  statement_tree (told.Exit l) = statement.Exit l
  statement_tree (told.Continue l) = statement.Continue l
  statement_tree (told.Return l) = statement.Return l
  statement_tree (told.If l bs o) = statement.If l (branch_trees bs) (otherwise_tree o)
  statement_tree (told.Case l e cs o) = statement.Case l (tree e) (case_trees cs) (otherwise_tree o)
  statement_tree (told.For l a n from to by ss) = statement.For l a n (tree from) (tree to) (option_map tree by) (statement_trees ss)
  statement_tree (told.While l e ss) = statement.While l (tree e) (statement_trees ss)
  statement_tree (told.Repeat l ss e) = statement.Repeat l (statement_trees ss) (tree e)

  pub statement_trees : {A : Type 0} → Statements A → List (Stmt A)
  statement_trees told.no_statements = []
  statement_trees (told.statement_then s ss) = statement_tree s ∷ statement_trees ss

  pub branch_trees : {A : Type 0} → Branches A → List (Branch A)
  branch_trees told.no_branches = []
  branch_trees (told.branch_then e ss bs) = record { condition = tree e; body = statement_trees ss } ∷ branch_trees bs

  pub case_trees : {A : Type 0} → Cases A → List (CaseTree A)
  case_trees told.no_cases = []
  case_trees (told.case_then ls ss cs) = record { labels = ls; body = statement_trees ss } ∷ case_trees cs

  pub otherwise_tree : {A : Type 0} → Otherwise A → OtherwiseTree A
  otherwise_tree told.Nothing = otherwise.Nothing
  otherwise_tree (told.Else ss) = otherwise.Else (statement_trees ss)

step_tree_is : {A : Type 0} (o : Option (Expression A)) → option_map expression_of (option_map tree o) ≡ o
step_tree_is None = refl
step_tree_is (Some e) = ap Some (tree_is e)

mutual
  statement_tree_is : {A : Type 0} (s : Statement A) → statement_of (statement_tree s) ≡ s
  statement_tree_is (told.Empty l) = told.statement_of-Empty l
  statement_tree_is (told.Assign l a r ss e) =
      told.statement_of-Assign l a (place_tree r ss) (tree e) ∙ placed (λ x y. told.Assign l a x y (expression_of (tree e))) r ss (selector_trees_are ss) ∙ ap (told.Assign l a r ss) (tree_is e)
  statement_tree_is (told.Attempt l a r ss e) =
      told.statement_of-Attempt l a (place_tree r ss) (tree e) ∙ placed (λ x y. told.Attempt l a x y (expression_of (tree e))) r ss (selector_trees_are ss) ∙ ap (told.Attempt l a r ss) (tree_is e)
  statement_tree_is (told.Call l a r ss xs) =
      told.statement_of-Call l a (place_tree r ss) (argument_trees xs)
      ∙ placed (λ x y. told.Call l a x y (arguments_of (argument_trees xs))) r ss (selector_trees_are ss)
      ∙ ap (told.Call l a r ss) (argument_trees_are xs)
  statement_tree_is (told.Exit l) = told.statement_of-Exit l
  statement_tree_is (told.Continue l) = told.statement_of-Continue l
  statement_tree_is (told.Return l) = told.statement_of-Return l
  statement_tree_is (told.If l bs o) = told.statement_of-If l (branch_trees bs) (otherwise_tree o) ∙ ap (λ x. told.If l x (otherwise_of (otherwise_tree o))) (branch_trees_are bs) ∙ ap (told.If l bs) (otherwise_tree_is o)
  statement_tree_is (told.Case l e cs o) =
      told.statement_of-Case l (tree e) (case_trees cs) (otherwise_tree o)
      ∙ ap (λ x. told.Case l x (cases_of (case_trees cs)) (otherwise_of (otherwise_tree o))) (tree_is e)
      ∙ ap (λ x. told.Case l e x (otherwise_of (otherwise_tree o))) (case_trees_are cs)
      ∙ ap (told.Case l e cs) (otherwise_tree_is o)
  statement_tree_is (told.For l a n from to by ss) =
      told.statement_of-For l a n (tree from) (tree to) (option_map tree by) (statement_trees ss)
      ∙ ap (λ x. told.For l a n x (expression_of (tree to)) (option_map expression_of (option_map tree by)) (statements_of (statement_trees ss))) (tree_is from)
      ∙ ap (λ x. told.For l a n from x (option_map expression_of (option_map tree by)) (statements_of (statement_trees ss))) (tree_is to)
      ∙ ap (λ x. told.For l a n from to x (statements_of (statement_trees ss))) (step_tree_is by)
      ∙ ap (told.For l a n from to by) (statement_trees_are ss)
  statement_tree_is (told.While l e ss) = told.statement_of-While l (tree e) (statement_trees ss) ∙ ap (λ x. told.While l x (statements_of (statement_trees ss))) (tree_is e) ∙ ap (told.While l e) (statement_trees_are ss)
  statement_tree_is (told.Repeat l ss e) =
      told.statement_of-Repeat l (statement_trees ss) (tree e) ∙ ap (λ x. told.Repeat l x (expression_of (tree e))) (statement_trees_are ss) ∙ ap (told.Repeat l ss) (tree_is e)

  pub statement_trees_are : {A : Type 0} (ss : Statements A) → statements_of (statement_trees ss) ≡ ss
  statement_trees_are told.no_statements = refl
  statement_trees_are (told.statement_then s ss) = ap (λ x. told.statement_then x (statements_of (statement_trees ss))) (statement_tree_is s) ∙ ap (told.statement_then s) (statement_trees_are ss)

  branch_trees_are : {A : Type 0} (bs : Branches A) → branches_of (branch_trees bs) ≡ bs
  branch_trees_are told.no_branches = refl
  branch_trees_are (told.branch_then e ss bs) =
      ap (λ b. told.branch_then b.0 b.1 (branches_of (branch_trees bs))) (told.branch_of-is (record { condition = tree e; body = statement_trees ss }))
      ∙ ap (λ x. told.branch_then x (statements_of (statement_trees ss)) (branches_of (branch_trees bs))) (tree_is e)
      ∙ ap (λ x. told.branch_then e x (branches_of (branch_trees bs))) (statement_trees_are ss)
      ∙ ap (told.branch_then e ss) (branch_trees_are bs)

  case_trees_are : {A : Type 0} (cs : Cases A) → cases_of (case_trees cs) ≡ cs
  case_trees_are told.no_cases = refl
  case_trees_are (told.case_then ls ss cs) =
      ap (λ b. told.case_then b.0 b.1 (cases_of (case_trees cs))) (told.case_branch_of-is (record { labels = ls; body = statement_trees ss }))
      ∙ ap (λ x. told.case_then ls x (cases_of (case_trees cs))) (statement_trees_are ss)
      ∙ ap (told.case_then ls ss) (case_trees_are cs)

  otherwise_tree_is : {A : Type 0} (o : Otherwise A) → otherwise_of (otherwise_tree o) ≡ o
  otherwise_tree_is told.Nothing = told.otherwise_of-Nothing
  otherwise_tree_is (told.Else ss) = told.otherwise_of-Else (statement_trees ss) ∙ ap told.Else (statement_trees_are ss)
