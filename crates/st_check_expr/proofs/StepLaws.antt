-- One step of the walk, from its parts as the code holds them.
use Rattle.std.proofs.Common.{◌≡◌, ℕ, Bool, true, false, List, Option, Some, None, sym, ap, ◌∙◌, subst}
use Rattle.st_tree.specs.declared.expression.Argument.{Argument as CodeArgument}
use Rattle.st_tree.specs.declared.expression.Argument.TheVariants as argument
use Rattle.st_tree.specs.declared.expression.Expr.TheVariants as code
use Rattle.st_tree.specs.declared.expression.Operator.{Operator}
use Rattle.st_tree.specs.declared.expression.Place.{Place as CodePlace}
use Rattle.st_tree.specs.declared.expression.Root.{Root}
use Rattle.st_tree.specs.declared.expression.Selector.{Selector as CodeSelector}
use Rattle.st_tree.specs.declared.expression.Tail.{Tail}
use Rattle.st_tree.specs.Expression.{Expression, Tails, tail_then, tail_of, tail_of-is, tail_of-operand, tail_of-operator, expression_of, Chain, Negate, no_tails, Selector, selector_of, Selectors, selectors_of, place_of-is, Argument, Output, argument_of, arguments_of, argument_of-Output, expression_of-Place, expression_of-Ref, expression_of-Call}
use Rattle.st_tree.specs.Expression as tree
use Rattle.st_rules.specs.declared.asked.Asked.{Asked}
use Rattle.st_rules.specs.declared.asked.Asked.TheVariants.{Anything}
use Rattle.st_rules.specs.Calls.{Matched}
use Rattle.st_rules.specs.Kinds.{is_arithmetic}
use Rattle.st_rules.specs.Places as places
use Rattle.st_rules.specs.Scope.{Scope}
use Rattle.st_rules.specs.Literals.{number_asked}
use Rattle.st_rules.specs.Expressions.{is_int, is_untyped, line_of, front_asked, asked_behind, operand_asked}
use Rattle.check_nodes.specs.declared.along.CheckedSelector.{CheckedSelector}
use Rattle.check_nodes.specs.declared.found.Checked.{Checked}
use Rattle.check_nodes.specs.declared.lists.CheckedArgument.{CheckedArgument}
use Rattle.check_nodes.specs.declared.rows.Ahead.{Ahead}
use Rattle.check_nodes.specs.declared.rows.Row.{Row}
use Rattle.check_nodes.specs.Found.{Checks}
use Rattle.check_nodes.specs.Rows.{EndsFront, Begins, Joins, Closes}
use Rattle.check_nodes.specs.Wraps.{Negates}
use Rattle.st_check_expr.specs.declared.walk.RowSoFar.{RowSoFar}
use Rattle.st_check_expr.specs.Private.Along.{SelectorFinds}
use Rattle.st_check_expr.specs.Private.Lists.{ArgumentFinds}
use Rattle.st_check_expr.specs.Private.Rows.{Keeps, GoesOn, EndsAt, RowGoes, row_rest}
use Rattle.st_check_expr.proofs.AheadSteps.{goes_on, ends_nowhere, ends_typed}
use Rattle.st_check_expr.proofs.RowSteps.{row_goes, row_checks, keeps_nothing, keeps_on, kept_is, asked_alone}
use Rattle.st_check_expr.proofs.NodeLaws.{negate_checks}

-- ---- an operator and its operand

module _ (t : Tail ℕ) where
  abbrev l : ℕ
  l = (tail_of t).0

  abbrev o : Operator
  o = (tail_of t).1

  abbrev e : Expression ℕ
  e = (tail_of t).2

  pub untyped_seen : (u b : Bool) → u ≡ is_untyped (expression_of t.operand) → u ≡ b → is_untyped e ≡ b
  untyped_seen u b h k = ap (λ (x : Expression ℕ). is_untyped x) (tail_of-operand t) ∙ sym h ∙ k

  pub arithmetic_seen : (u b : Bool) → u ≡ is_arithmetic t.operator → u ≡ b → is_arithmetic o ≡ b
  arithmetic_seen u b h k = ap is_arithmetic (tail_of-operator t) ∙ sym h ∙ k

  pub operand_seen : (c : Checked) (s : Scope) (a : Asked) → Checks c s a (expression_of t.operand) → Checks c s a e
  operand_seen c s a f = subst (λ (x : Expression ℕ). Checks c s a x) (sym (tail_of-operand t)) f

  -- ---- the look ahead

  pub step_ends_typed : (s : Scope) (a : Ahead) (y : Checked) (u : Bool) → u ≡ is_untyped (expression_of t.operand) → u ≡ false → EndsFront a y → Checks y s Anything (expression_of t.operand) → EndsAt s l o e a
  step_ends_typed s a y u h k ends f = ends_typed s l o e a y (untyped_seen u false h k) ends (operand_seen y s Anything f)

  pub step_goes_on : (s : Scope) (u n : Bool) → u ≡ is_untyped (expression_of t.operand) → u ≡ true → n ≡ is_arithmetic t.operator → n ≡ true → GoesOn s l o e
  step_goes_on s u n h k i j = goes_on s l o e (untyped_seen u true h k) (arithmetic_seen n true i j)

  pub step_ends_nowhere : (s : Scope) (a : Ahead) (u n : Bool) → u ≡ is_untyped (expression_of t.operand) → u ≡ true → n ≡ is_arithmetic t.operator → n ≡ false → a.asked ≡ Anything → a.kept ≡ None → EndsAt s l o e a
  step_ends_nowhere s a u n h k i j p q = ends_nowhere s l o e a (untyped_seen u true h k) (arithmetic_seen n false i j) p q

  -- ---- the row

  own_seen : (own : ℕ) → own ≡ line_of (expression_of t.operand) → own ≡ line_of e
  own_seen own m = m ∙ sym (ap (λ (x : Expression ℕ). line_of x) (tail_of-operand t))

  joins_seen : (r before : Row) (y : Checked) (own : ℕ) (alone : Bool) → own ≡ line_of (expression_of t.operand) → is_untyped e ≡ alone → Joins r t.note t.operator own alone before y → Joins r l o (line_of e) (is_untyped e) before y
  joins_seen r before y own alone m u j =
      subst (λ (k : ℕ). Joins r l o k (is_untyped e) before y) (own_seen own m)
      (subst (λ (b : Bool). Joins r l o own b before y) (sym u)
      (subst (λ (p : ℕ × Operator × Expression ℕ). Joins r p.0 p.1 own alone before y) (sym (tail_of-is t)) j))

  module _ (s : Scope) (asked : Asked) (before x : RowSoFar) (y : Checked) (own : ℕ) (m : own ≡ line_of (expression_of t.operand)) (u : Bool) (h : u ≡ is_untyped (expression_of t.operand)) where
    pub untyped_step : u ≡ true → Joins x.row t.note t.operator own true before.row y → x.kept ≡ before.kept → (wanted : Asked) → wanted ≡ operand_asked before.row.untyped true asked before.row.told →
        Checks y s wanted (expression_of t.operand) → RowGoes s asked before x l o e
    untyped_step k j same wanted w f =
        let v : is_untyped e ≡ true = untyped_seen u true h k in
        let inner : wanted ≡ operand_asked before.row.untyped (is_untyped e) asked before.row.told = w ∙ ap (λ b. operand_asked before.row.untyped b asked before.row.told) (sym v) in
        record {
          whole = λ ts p. row_goes s asked before.row x.row y l o e (joins_seen x.row before.row y own true m v j) (subst (λ (a : Asked). Checks y s a e) inner (operand_seen y s wanted f)) ts;
          keeps = λ ts p. subst (λ (k : Option Checked). Keeps k s ts) (sym same) (keeps_on before.kept s l o e ts v p);
        }

    typed_step : u ≡ false → Joins x.row t.note t.operator own false before.row y → x.kept ≡ None → ((ts : Tails ℕ) → Keeps before.kept s (tail_then l o e ts) → Checks y s Anything e) → RowGoes s asked before x l o e
    typed_step k j n f =
        let v : is_untyped e ≡ false = untyped_seen u false h k in
        record {
          whole = λ ts p. row_goes s asked before.row x.row y l o e (joins_seen x.row before.row y own false m v j)
              (subst (λ (a : Asked). Checks y s a e) (sym (asked_alone before.row.untyped e asked before.row.told v)) (f ts p)) ts;
          keeps = λ ts p. subst (λ (k : Option Checked). Keeps k s ts) (sym n) (keeps_nothing s ts);
        }

    pub kept_step : u ≡ false → Joins x.row t.note t.operator own false before.row y → x.kept ≡ None → before.kept ≡ Some y → RowGoes s asked before x l o e
    kept_step k j n q =
        typed_step k j n (λ ts p. kept_is y s l o e ts (untyped_seen u false h k) (subst (λ (k : Option Checked). Keeps k s (tail_then l o e ts)) q p))

    pub fresh_step : u ≡ false → Joins x.row t.note t.operator own false before.row y → x.kept ≡ None → Checks y s Anything (expression_of t.operand) → RowGoes s asked before x l o e
    fresh_step k j n f = typed_step k j n (λ ts p. operand_seen y s Anything f)

-- ---- selectors and arguments

pub asked_seen : (c : Checked) (s : Scope) (a b : Asked) (e : Expression ℕ) → a ≡ b → Checks c s a e → Checks c s b e
asked_seen c s a b e h f = subst (λ (x : Asked). Checks c s x e) h f

pub selector_seen : (c : CheckedSelector) (s : Scope) (line : ℕ) (called : Bool) (b : places.Standing) (x : CodeSelector ℕ) (y : Selector ℕ) → selector_of x ≡ y → SelectorFinds c s line called b y → SelectorFinds c s line called b (selector_of x)
selector_seen c s line called b x y h f = subst (λ (z : Selector ℕ). SelectorFinds c s line called b z) (sym h) f

pub argument_seen : (c : CheckedArgument) (s : Scope) (m : Matched) (x : CodeArgument ℕ) (y : Argument ℕ) → argument_of x ≡ y → ArgumentFinds c s m y → ArgumentFinds c s m (argument_of x)
argument_seen c s m x y h f = subst (λ (z : Argument ℕ). ArgumentFinds c s m z) (sym h) f

-- ---- places in nodes

module _ (l : ℕ) (p : CodePlace ℕ) where
  pub place_is : expression_of (code.Place l p) ≡ tree.Place l p.root (selectors_of p.selectors)
  place_is = expression_of-Place l p ∙ ap (λ (q : Root ℕ × Selectors ℕ). tree.Place l q.0 q.1) (place_of-is p)

  pub ref_is : expression_of (code.Ref l p) ≡ tree.Ref l p.root (selectors_of p.selectors)
  ref_is = expression_of-Ref l p ∙ ap (λ (q : Root ℕ × Selectors ℕ). tree.Ref l q.0 q.1) (place_of-is p)

  pub call_is : (xs : List (CodeArgument ℕ)) → expression_of (code.Call l p xs) ≡ tree.Call l p.root (selectors_of p.selectors) (arguments_of xs)
  call_is xs = expression_of-Call l p xs ∙ ap (λ (q : Root ℕ × Selectors ℕ). tree.Call l q.0 q.1 (arguments_of xs)) (place_of-is p)

  pub output_is : (name : List ℕ) (k : ℕ) → argument_of (argument.Output l name k p) ≡ Output l name k p.root (selectors_of p.selectors)
  output_is name k = argument_of-Output l name k p ∙ ap (λ (q : Root ℕ × Selectors ℕ). Output l name k q.0 q.1) (place_of-is p)

-- ---- rows and signs, by what the walk asks first

pub chain_checks : (c x : Checked) (s : Scope) (asked front : Asked) (l : ℕ) (e : Expression ℕ) (ts : Tails ℕ) (b r : Row) (u : Bool) → u ≡ is_untyped e → front ≡ front_asked u (asked_behind s asked ts) →
    Begins b u x → Checks x s front e → row_rest s front r no_tails ≡ row_rest s front b ts → Closes c l r → Checks c s asked (Chain l e ts)
chain_checks c x s asked front l e ts b r u h w begins f goes closes =
    row_checks s asked l e ts front b r x c (subst (λ (v : Bool). front ≡ front_asked v (asked_behind s asked ts)) h w) (subst (λ (v : Bool). Begins b v x) h begins) f goes closes

pub minus_checks : (c x : Checked) (s : Scope) (asked number wanted : Asked) (l k : ℕ) (e : Expression ℕ) (u : Bool) → is_int e ≡ false → u ≡ is_untyped e → number ≡ number_asked asked → wanted ≡ front_asked u number →
    Checks x s wanted e → k ≡ line_of e → Negates c l k x → Checks c s asked (Negate l e)
minus_checks c x s asked number wanted l k e u i h n w f m negates =
    negate_checks c x s asked wanted l k e i negates m (w ∙ ap (λ v. front_asked v number) h ∙ ap (front_asked (is_untyped e)) n) f
