-- What is used in two or more steps.
use Rattle.std.proofs.Common.{◌≡◌, ℕ, Bool, List, ◌++◌, Option, Result, OnOk, sym, ap, ◌∙◌, subst, append_assoc}
use Rattle.st_tree.specs.declared.expression.Argument.{Argument as CodeArgument}
use Rattle.st_tree.specs.declared.expression.Argument.TheVariants as argument
use Rattle.st_tree.specs.declared.expression.Expr.{Expr}
use Rattle.st_tree.specs.declared.expression.Expr.TheVariants as code
use Rattle.st_tree.specs.declared.expression.Place.{Place as CodePlace}
use Rattle.st_tree.specs.declared.expression.Selector.{Selector as CodeSelector}
use Rattle.st_tree.specs.declared.expression.Selector.TheVariants as selection
use Rattle.st_tree.specs.declared.expression.Tail.{Tail}
use Rattle.st_tree.specs.declared.program.Note.{Note}
use Rattle.st_tree.specs.Expression.{Expression, expression_of, expression_of-Call, expression_of-Chain, expression_of-Place, expression_of-Ref, expression_of-Paren, expression_of-Not, expression_of-Negate, expressions_of, selector_of-Index, tail_of, tail_of-operand, argument_of, argument_of-Positional, argument_of-Input, argument_of-Output, Arguments, arguments_of, tails_of, selector_of, selectors_of, place_of, place_of-is}
use Rattle.st_values.specs.Program.{Parameter, Program}
use Rattle.st_meaning.specs.Place.{root_note}
use Rattle.st_meaning.specs.Call.{parameter_named, next_parameter}
use Rattle.st_meaning.specs.st_frame.Use.{Called, Use, owner_uses, root_uses, called_of, call_use, called_parameters, is_bound, bound_uses, along_uses, selector_uses, index_uses, expression_uses, tail_uses, argument_uses, place_uses, call_uses}
use Rattle.body_uses.specs.Private.Uses.{one_argument}
use Rattle.body_uses.proofs.CallLaws.{none_in_field, none_in_target}

pub two : (old mid new x y : List Use) → mid ≡ old ++ x → new ≡ mid ++ y → new ≡ old ++ (x ++ y)
two old mid new x y h k = k ∙ ap (λ z. z ++ y) h ∙ append_assoc old x y

pub owner_at : (q : CodePlace Note) (ss : List (CodeSelector Note)) → ss ≡ q.selectors → owner_uses q.root (selectors_of ss) ≡ owner_uses (place_of q).0 (place_of q).1
owner_at q ss h = ap (λ x. owner_uses q.root (selectors_of x)) h ∙ ap (λ x. owner_uses x.0 x.1) (sym (place_of-is q))

pub head_goes : (q : CodePlace Note) (ss : List (CodeSelector Note)) (old mid new x : List Use) → ss ≡ q.selectors → mid ≡ old ++ x → new ≡ mid ++ owner_uses q.root (selectors_of ss) → new ≡ old ++ (x ++ owner_uses (place_of q).0 (place_of q).1)
head_goes q ss old mid new x h m k = two old mid new x (owner_uses (place_of q).0 (place_of q).1) m (k ∙ ap (λ o. mid ++ o) (owner_at q ss h))

module _ (p : Program) where
  pub place_goes : (q : CodePlace Note) (ss : List (CodeSelector Note)) (a : Note) (old mid new : List Use) → ss ≡ q.selectors → a ≡ root_note q.root → mid ≡ old ++ root_uses q.root → new ≡ mid ++ along_uses p a.kind (selectors_of ss) → new ≡ old ++ place_uses p (place_of q).0 (place_of q).1
  place_goes q ss a old mid new h n m k =
      two old mid new (root_uses q.root) (along_uses p a.kind (selectors_of ss)) m k
      ∙ ap (λ x. old ++ (root_uses q.root ++ along_uses p x.kind (selectors_of ss))) n
      ∙ ap (λ x. old ++ place_uses p q.root (selectors_of x)) h
      ∙ ap (λ x. old ++ place_uses p x.0 x.1) (sym (place_of-is q))

  -- ---- arguments

  pub positional_goes : (ps left : List Parameter) (x : CodeArgument Note) (v : Expr Note) (b : Bool) (old mid new : List Use) → x ≡ argument.Positional v → b ≡ is_bound (next_parameter left) → mid ≡ old ++ bound_uses b (expression_of v)
      → new ≡ mid ++ expression_uses p (expression_of v) → new ≡ old ++ one_argument p ps left (argument_of x)
  positional_goes ps left x v b old mid new e h m k =
      two old mid new (bound_uses b (expression_of v)) (expression_uses p (expression_of v)) m k
      ∙ ap (λ c. old ++ (bound_uses c (expression_of v) ++ expression_uses p (expression_of v))) h
      ∙ ap (λ y. old ++ one_argument p ps left y) (sym (ap argument_of e ∙ argument_of-Positional v))

  pub input_goes : (ps left : List Parameter) (x : CodeArgument Note) (a : Note) (n : List ℕ) (v : Expr Note) (b : Bool) (old mid new : List Use) → x ≡ argument.Input a n v → b ≡ is_bound (parameter_named ps a) → mid ≡ old ++ bound_uses b (expression_of v)
      → new ≡ mid ++ expression_uses p (expression_of v) → new ≡ old ++ one_argument p ps left (argument_of x)
  input_goes ps left x a n v b old mid new e h m k =
      two old mid new (bound_uses b (expression_of v)) (expression_uses p (expression_of v)) m k
      ∙ ap (λ c. old ++ (bound_uses c (expression_of v) ++ expression_uses p (expression_of v))) h
      ∙ ap (λ y. old ++ one_argument p ps left y) (sym (ap argument_of e ∙ argument_of-Input a n v))

  pub output_goes : (ps left : List Parameter) (x : CodeArgument Note) (a : Note) (n : List ℕ) (b : Note) (q : CodePlace Note) (ss : List (CodeSelector Note)) (old mid new : List Use) → x ≡ argument.Output a n b q → ss ≡ q.selectors
      → mid ≡ old ++ owner_uses q.root (selectors_of ss) → new ≡ mid ++ place_uses p (place_of q).0 (place_of q).1 → new ≡ old ++ one_argument p ps left (argument_of x)
  output_goes ps left x a n b q ss old mid new e h m k =
      two old mid new (owner_uses (place_of q).0 (place_of q).1) (place_uses p (place_of q).0 (place_of q).1) (m ∙ ap (λ o. old ++ o) (owner_at q ss h)) k
      ∙ ap (λ y. old ++ one_argument p ps left y) (sym (ap argument_of e ∙ argument_of-Output a n b q))

  -- ---- calls and rows

  joined : (c o y x : List Use) → ((c ++ o) ++ y) ++ x ≡ c ++ (o ++ (y ++ x))
  joined c o y x = append_assoc (c ++ o) y x ∙ append_assoc c o (y ++ x)

  pub call_goes : (q : CodePlace Note) (ss : List (CodeSelector Note)) (c : Option Called) (ps : List Parameter) (xs : Arguments Note) (old a b new : List Use) → ss ≡ q.selectors → c ≡ called_of q.root (selectors_of ss) → ps ≡ called_parameters p c
      → a ≡ old ++ (call_use c ++ owner_uses (place_of q).0 (place_of q).1) → b ≡ a ++ place_uses p (place_of q).0 (place_of q).1 → new ≡ b ++ argument_uses p ps ps xs → new ≡ old ++ call_uses p (place_of q).0 (place_of q).1 xs
  call_goes q ss c ps xs old a b new h d g f e k =
      let o = owner_uses (place_of q).0 (place_of q).1 in
      let y = place_uses p (place_of q).0 (place_of q).1 in
      two old b new ((call_use c ++ o) ++ y) (argument_uses p ps ps xs) (two old a b (call_use c ++ o) y f e) k
      ∙ ap (λ z. old ++ z) (joined (call_use c) o y (argument_uses p ps ps xs))
      ∙ ap (λ rs. old ++ (call_use c ++ (o ++ (y ++ argument_uses p rs rs xs)))) g
      ∙ ap (λ d. old ++ (call_use d ++ (o ++ (y ++ argument_uses p (called_parameters p d) (called_parameters p d) xs)))) (d ∙ ap (λ x. called_of q.root (selectors_of x)) h ∙ ap (λ x. called_of x.0 x.1) (sym (place_of-is q)))

  pub call_arm : (e : Expr Note) (n : Note) (q : CodePlace Note) (ys : List (CodeArgument Note)) (old new : List Use) → e ≡ code.Call n q ys → new ≡ old ++ call_uses p (place_of q).0 (place_of q).1 (arguments_of ys) → new ≡ old ++ expression_uses p (expression_of e)
  call_arm e n q ys old new i k =
      let r = (place_of q).0 in
      let s = (place_of q).1 in
      k ∙ ap (λ z. old ++ (call_use (called_of r s) ++ (owner_uses r s ++ z)))
      (append_assoc (root_uses r) (along_uses p (root_note r).kind s) (argument_uses p (called_parameters p (called_of r s)) (called_parameters p (called_of r s)) (arguments_of ys)))
      ∙ ap (λ x. old ++ expression_uses p x) (sym (ap expression_of i ∙ expression_of-Call n q ys))

  pub row_goes : (e : Expr Note) (n : Note) (first : Expr Note) (ts : List (Tail Note)) (old mid new : List Use) → e ≡ code.Chain n first ts → mid ≡ old ++ expression_uses p (expression_of first) → new ≡ mid ++ tail_uses p (tails_of ts) → new ≡ old ++ expression_uses p (expression_of e)
  row_goes e n first ts old mid new i m k =
      two old mid new (expression_uses p (expression_of first)) (tail_uses p (tails_of ts)) m k ∙ ap (λ x. old ++ expression_uses p x) (sym (ap expression_of i ∙ expression_of-Chain n first ts))

  pub field_goes : (old : List Use) (x : CodeSelector Note) (a : Note) (n : List ℕ) → x ≡ selection.Field a n → old ≡ old ++ selector_uses p (selector_of x)
  field_goes old x a n e = none_in_field p old a n ∙ ap (λ y. old ++ selector_uses p (selector_of y)) (sym e)

  pub target_goes : (old : List Use) (x : CodeSelector Note) (a : Note) → x ≡ selection.Target a → old ≡ old ++ selector_uses p (selector_of x)
  target_goes old x a e = none_in_target p old a ∙ ap (λ y. old ++ selector_uses p (selector_of y)) (sym e)

  -- ---- one part

  one_goes : (old new : List Use) (e : Expr Note) (x : Expression Note) → expression_of e ≡ x → new ≡ old ++ expression_uses p x → new ≡ old ++ expression_uses p (expression_of e)
  one_goes old new e x h k = k ∙ ap (λ y. old ++ expression_uses p y) (sym h)

  pub leaf_goes : (old : List Use) (e x : Expr Note) → e ≡ x → old ≡ old ++ expression_uses p (expression_of x) → old ≡ old ++ expression_uses p (expression_of e)
  leaf_goes old e x h k = k ∙ ap (λ y. old ++ expression_uses p (expression_of y)) (sym h)

  pub place_node_goes : (old new : List Use) (e : Expr Note) (n : Note) (q : CodePlace Note) → e ≡ code.Place n q → new ≡ old ++ place_uses p (place_of q).0 (place_of q).1 → new ≡ old ++ expression_uses p (expression_of e)
  place_node_goes old new e n q i k = one_goes old new e _ (ap expression_of i ∙ expression_of-Place n q) k

  pub ref_goes : (old new : List Use) (e : Expr Note) (n : Note) (q : CodePlace Note) → e ≡ code.Ref n q → new ≡ old ++ place_uses p (place_of q).0 (place_of q).1 → new ≡ old ++ expression_uses p (expression_of e)
  ref_goes old new e n q i k = one_goes old new e _ (ap expression_of i ∙ expression_of-Ref n q) k

  pub paren_goes : (old new : List Use) (e : Expr Note) (n : Note) (inner x : Expr Note) → e ≡ code.Paren n inner → x ≡ inner → new ≡ old ++ expression_uses p (expression_of x) → new ≡ old ++ expression_uses p (expression_of e)
  paren_goes old new e n inner x i g k = one_goes old new e _ (ap expression_of i ∙ expression_of-Paren n inner) (k ∙ ap (λ y. old ++ expression_uses p (expression_of y)) g)

  pub not_goes : (old new : List Use) (e : Expr Note) (n : Note) (inner x : Expr Note) → e ≡ code.Not n inner → x ≡ inner → new ≡ old ++ expression_uses p (expression_of x) → new ≡ old ++ expression_uses p (expression_of e)
  not_goes old new e n inner x i g k = one_goes old new e _ (ap expression_of i ∙ expression_of-Not n inner) (k ∙ ap (λ y. old ++ expression_uses p (expression_of y)) g)

  pub negate_goes : (old new : List Use) (e : Expr Note) (n : Note) (inner x : Expr Note) → e ≡ code.Negate n inner → x ≡ inner → new ≡ old ++ expression_uses p (expression_of x) → new ≡ old ++ expression_uses p (expression_of e)
  negate_goes old new e n inner x i g k = one_goes old new e _ (ap expression_of i ∙ expression_of-Negate n inner) (k ∙ ap (λ y. old ++ expression_uses p (expression_of y)) g)

  pub index_goes : (old new : List Use) (x : CodeSelector Note) (a : Note) (es fs : List (Expr Note)) → x ≡ selection.Index a es → fs ≡ es → new ≡ old ++ index_uses p (expressions_of fs) → new ≡ old ++ selector_uses p (selector_of x)
  index_goes old new x a es fs i g k = k ∙ ap (λ ys. old ++ index_uses p (expressions_of ys)) g ∙ ap (λ y. old ++ selector_uses p y) (sym (ap selector_of i ∙ selector_of-Index a es))

  pub tail_goes : {T E : Type 0} (r : Result T E) (old new : List Use) (x : Tail Note) → OnOk r (new ≡ old ++ expression_uses p (expression_of x.operand)) → OnOk r (new ≡ old ++ expression_uses p (tail_of x).2)
  tail_goes r old new x k = subst (λ (y : Expression Note). OnOk r (new ≡ old ++ expression_uses p y)) (sym (tail_of-operand x)) k
