-- Names that are told by the variants of expressions, and operands and arguments one by one.
use Rattle.std.proofs.Common.{◌≡◌, ℕ, ◌+◌, ◌<◌, ◌≤◌, Bool, true, false, List, length, get_or, drop, refl, sym, ap, ◌∙◌}
use Rattle.std.specs.Prelude.{◌&&◌}
use Rattle.st_types.specs.declared.elem.Elem.{Elem}
use Rattle.st_tree.specs.declared.expression.Argument.{Argument as CodeArgument}
use Rattle.st_tree.specs.declared.expression.Argument.TheVariants as argument
use Rattle.st_tree.specs.declared.expression.Expr.{Expr}
use Rattle.st_tree.specs.declared.expression.Expr.TheVariants as code
use Rattle.st_tree.specs.declared.expression.Literal.{Literal}
use Rattle.st_tree.specs.declared.expression.Place.{Place as CodePlace}
use Rattle.st_tree.specs.declared.expression.Tail.{Tail}
use Rattle.st_tree.specs.Expression.{Expression, Argument, Positional, Input, Output, Arguments, argument_then, expression_of, argument_of, arguments_of, place_of, place_of-is, selectors_of, tail_of, tail_of-operand, tails_of, argument_of-Positional, argument_of-Input, argument_of-Output, expression_of-Int, expression_of-Typed, expression_of-Time, expression_of-True, expression_of-False, expression_of-Null, expression_of-Place, expression_of-Call, expression_of-Enumerator, expression_of-Ref, expression_of-Now, expression_of-Paren, expression_of-Not, expression_of-Negate, expression_of-Chain}
use Rattle.st_rules.specs.Expressions.{note_of_value, whole_target}
use Rattle.st_rules.specs.Scope.{Scope, type_qualifier}
use Rattle.st_rules.proofs.ListLaws.{drop-at, drop-end}
use Rattle.st_unit_rules.specs.declared_names.Constants.{is_told, names_are_told, operands_are_told, arguments_are_told}
use Rattle.constant_folding.specs.told_expressions.Private.Parts.{place_is_told, argument_is_told}

-- ---- parts without names

pub told_int : (s : Scope) (l : ℕ) (digits : List ℕ) → true ≡ names_are_told s (expression_of (code.Int l digits))
told_int s l digits = ap (names_are_told s) (sym (expression_of-Int l digits))

pub told_typed : (s : Scope) (l : ℕ) (k : Elem) (x : Literal) → true ≡ names_are_told s (expression_of (code.Typed l k x))
told_typed s l k x = ap (names_are_told s) (sym (expression_of-Typed l k x))

pub told_time : (s : Scope) (l : ℕ) (text : List ℕ) → true ≡ names_are_told s (expression_of (code.Time l text))
told_time s l text = ap (names_are_told s) (sym (expression_of-Time l text))

pub told_true : (s : Scope) (l : ℕ) → true ≡ names_are_told s (expression_of (code.True l))
told_true s l = ap (names_are_told s) (sym (expression_of-True l))

pub told_false : (s : Scope) (l : ℕ) → true ≡ names_are_told s (expression_of (code.False l))
told_false s l = ap (names_are_told s) (sym (expression_of-False l))

pub told_null : (s : Scope) (l : ℕ) → true ≡ names_are_told s (expression_of (code.Null l))
told_null s l = ap (names_are_told s) (sym (expression_of-Null l))

pub told_ref : (s : Scope) (l : ℕ) (p : CodePlace ℕ) → true ≡ names_are_told s (expression_of (code.Ref l p))
told_ref s l p = ap (names_are_told s) (sym (expression_of-Ref l p))

pub told_now : (s : Scope) (l : ℕ) → true ≡ names_are_told s (expression_of (code.Now l))
told_now s l = ap (names_are_told s) (sym (expression_of-Now l))

pub leaf_arm : (s : Scope) (e x : Expr ℕ) → e ≡ x → true ≡ names_are_told s (expression_of x) → true ≡ names_are_told s (expression_of e)
leaf_arm s e x h k = k ∙ ap (λ y. names_are_told s (expression_of y)) (sym h)

-- ---- one part

seen : (s : Scope) (r : Bool) (e : Expr ℕ) (x : Expression ℕ) → expression_of e ≡ x → r ≡ names_are_told s x → r ≡ names_are_told s (expression_of e)
seen s r e x h k = k ∙ ap (names_are_told s) (sym h)

module _ (s : Scope) (r : Bool) (e : Expr ℕ) (l : ℕ) where
  pub paren_arm : (i inner : Expr ℕ) → e ≡ code.Paren l i → inner ≡ i → r ≡ names_are_told s (expression_of inner) → r ≡ names_are_told s (expression_of e)
  paren_arm i inner h g k = seen s r e _ (ap expression_of h ∙ expression_of-Paren l i) (k ∙ ap (λ x. names_are_told s (expression_of x)) g)

  pub not_arm : (i inner : Expr ℕ) → e ≡ code.Not l i → inner ≡ i → r ≡ names_are_told s (expression_of inner) → r ≡ names_are_told s (expression_of e)
  not_arm i inner h g k = seen s r e _ (ap expression_of h ∙ expression_of-Not l i) (k ∙ ap (λ x. names_are_told s (expression_of x)) g)

  pub negate_arm : (i inner : Expr ℕ) → e ≡ code.Negate l i → inner ≡ i → r ≡ names_are_told s (expression_of inner) → r ≡ names_are_told s (expression_of e)
  negate_arm i inner h g k = seen s r e _ (ap expression_of h ∙ expression_of-Negate l i) (k ∙ ap (λ x. names_are_told s (expression_of x)) g)

  pub chain_arm : (i inner : Expr ℕ) (ts us : List (Tail ℕ)) (a b : Bool) → e ≡ code.Chain l i ts → inner ≡ i → us ≡ ts → a ≡ names_are_told s (expression_of inner) → b ≡ operands_are_told s (tails_of us) → r ≡ (a && b)
      → r ≡ names_are_told s (expression_of e)
  chain_arm i inner ts us a b h g f k m q =
      seen s r e _ (ap expression_of h ∙ expression_of-Chain l i ts)
      (q ∙ ap (λ x. x && b) (k ∙ ap (λ x. names_are_told s (expression_of x)) g) ∙ ap (λ y. names_are_told s (expression_of i) && y) (m ∙ ap (λ xs. operands_are_told s (tails_of xs)) f))

  pub place_arm : (p : CodePlace ℕ) → e ≡ code.Place l p → r ≡ place_is_told s (place_of p) → r ≡ names_are_told s (expression_of e)
  place_arm p h k = seen s r e _ (ap expression_of h ∙ expression_of-Place l p) k

  pub enumerator_arm : (t : List ℕ) (j : ℕ) (name : List ℕ) → e ≡ code.Enumerator l t j name → r ≡ is_told (note_of_value s (type_qualifier s t) name) → r ≡ names_are_told s (expression_of e)
  enumerator_arm t j name h k = seen s r e _ (ap expression_of h ∙ expression_of-Enumerator l t j name) k

  pub call_arm : (p : CodePlace ℕ) (xs ys : List (CodeArgument ℕ)) → e ≡ code.Call l p xs → ys ≡ xs → r ≡ arguments_are_told s (arguments_of ys) → r ≡ names_are_told s (expression_of e)
  call_arm p xs ys h g k = seen s r e _ (ap expression_of h ∙ expression_of-Call l p xs) (k ∙ ap (λ zs. arguments_are_told s (arguments_of zs)) g)

pub place_seen : (s : Scope) (r : Bool) (p : CodePlace ℕ) → r ≡ is_told (whole_target s p.root (selectors_of p.selectors)) → r ≡ place_is_told s (place_of p)
place_seen s r p h = h ∙ ap (λ q. place_is_told s q) (sym (place_of-is p))

-- ---- operands one by one

module _ (s : Scope) (ts : List (Tail ℕ)) where
  pub record OperandsTo (i : ℕ) : Type 0 where
    pub rest : operands_are_told s (tails_of (drop i ts)) ≡ operands_are_told s (tails_of ts)

  pub operands_begun : OperandsTo 0
  operands_begun = record { rest = refl }

  at_operand : (b : Bool) (i : ℕ) (t : Tail ℕ) → i < length ts → t ≡ get_or ts i t → b ≡ names_are_told s (expression_of t.operand) → (b && operands_are_told s (tails_of (drop (i + 1) ts))) ≡ operands_are_told s (tails_of (drop i ts))
  at_operand b i t l e h = ap (λ x. x && operands_are_told s (tails_of (drop (i + 1) ts))) (h ∙ ap (names_are_told s) (sym (tail_of-operand t))) ∙ ap (λ us. operands_are_told s (tails_of us)) (sym (drop-at ts i t l e))

  pub operands_next : (b : Bool) (i : ℕ) (t : Tail ℕ) → i < length ts → t ≡ get_or ts i t → b ≡ names_are_told s (expression_of t.operand) → b ≡ true → OperandsTo i → OperandsTo (i + 1)
  operands_next b i t l e h q o = record { rest = ap (λ x. x && operands_are_told s (tails_of (drop (i + 1) ts))) (sym q) ∙ at_operand b i t l e h ∙ o.rest }

  pub operands_stopped : (b : Bool) (i : ℕ) (t : Tail ℕ) → i < length ts → t ≡ get_or ts i t → b ≡ names_are_told s (expression_of t.operand) → b ≡ false → OperandsTo i → false ≡ operands_are_told s (tails_of ts)
  operands_stopped b i t l e h q o = ap (λ x. x && operands_are_told s (tails_of (drop (i + 1) ts))) (sym q) ∙ at_operand b i t l e h ∙ o.rest

  pub operands_ended : (i : ℕ) → length ts ≤ i → OperandsTo i → true ≡ operands_are_told s (tails_of ts)
  operands_ended i l o = ap (λ us. operands_are_told s (tails_of us)) (sym (drop-end ts i l)) ∙ o.rest

-- ---- arguments one by one

argument_first : (s : Scope) (x : Argument ℕ) (xs : Arguments ℕ) → arguments_are_told s (argument_then x xs) ≡ (argument_is_told s x && arguments_are_told s xs)
argument_first s (Positional e) xs = refl
argument_first s (Input l name e) xs = refl
argument_first s (Output l name k r ss) xs = refl

pub positional_seen : (s : Scope) (r : Bool) (x : CodeArgument ℕ) (e : Expr ℕ) → x ≡ argument.Positional e → r ≡ names_are_told s (expression_of e) → r ≡ argument_is_told s (argument_of x)
positional_seen s r x e h k = k ∙ ap (λ y. argument_is_told s y) (sym (ap argument_of h ∙ argument_of-Positional e))

pub input_seen : (s : Scope) (r : Bool) (x : CodeArgument ℕ) (l : ℕ) (n : List ℕ) (e : Expr ℕ) → x ≡ argument.Input l n e → r ≡ names_are_told s (expression_of e) → r ≡ argument_is_told s (argument_of x)
input_seen s r x l n e h k = k ∙ ap (λ y. argument_is_told s y) (sym (ap argument_of h ∙ argument_of-Input l n e))

pub output_seen : (s : Scope) (r : Bool) (x : CodeArgument ℕ) (l : ℕ) (n : List ℕ) (b : ℕ) (p : CodePlace ℕ) → x ≡ argument.Output l n b p → r ≡ place_is_told s (place_of p) → r ≡ argument_is_told s (argument_of x)
output_seen s r x l n b p h k = k ∙ ap (λ y. argument_is_told s y) (sym (ap argument_of h ∙ argument_of-Output l n b p))

module _ (s : Scope) (xs : List (CodeArgument ℕ)) where
  pub record ArgumentsTo (i : ℕ) : Type 0 where
    pub rest : arguments_are_told s (arguments_of (drop i xs)) ≡ arguments_are_told s (arguments_of xs)

  pub arguments_begun : ArgumentsTo 0
  arguments_begun = record { rest = refl }

  at_argument : (b : Bool) (i : ℕ) (x : CodeArgument ℕ) → i < length xs → x ≡ get_or xs i x → b ≡ argument_is_told s (argument_of x) → (b && arguments_are_told s (arguments_of (drop (i + 1) xs))) ≡ arguments_are_told s (arguments_of (drop i xs))
  at_argument b i x l e h =
      ap (λ y. y && arguments_are_told s (arguments_of (drop (i + 1) xs))) h ∙ sym (argument_first s (argument_of x) (arguments_of (drop (i + 1) xs))) ∙ ap (λ ys. arguments_are_told s (arguments_of ys)) (sym (drop-at xs i x l e))

  pub arguments_next : (b : Bool) (i : ℕ) (x : CodeArgument ℕ) → i < length xs → x ≡ get_or xs i x → b ≡ argument_is_told s (argument_of x) → b ≡ true → ArgumentsTo i → ArgumentsTo (i + 1)
  arguments_next b i x l e h q o = record { rest = ap (λ y. y && arguments_are_told s (arguments_of (drop (i + 1) xs))) (sym q) ∙ at_argument b i x l e h ∙ o.rest }

  pub arguments_stopped : (b : Bool) (i : ℕ) (x : CodeArgument ℕ) → i < length xs → x ≡ get_or xs i x → b ≡ argument_is_told s (argument_of x) → b ≡ false → ArgumentsTo i → false ≡ arguments_are_told s (arguments_of xs)
  arguments_stopped b i x l e h q o = ap (λ y. y && arguments_are_told s (arguments_of (drop (i + 1) xs))) (sym q) ∙ at_argument b i x l e h ∙ o.rest

  pub arguments_ended : (i : ℕ) → length xs ≤ i → ArgumentsTo i → true ≡ arguments_are_told s (arguments_of xs)
  arguments_ended i l o = ap (λ ys. arguments_are_told s (arguments_of ys)) (sym (drop-end xs i l)) ∙ o.rest
