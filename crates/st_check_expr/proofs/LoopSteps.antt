-- The loops of the walk, from one part of a list to the next.
use Rattle.std.proofs.Common.{◌≡◌, ℕ, ◌+◌, ◌<◌, ◌≤◌, Bool, true, false, List, Option, sym, ap, ◌∙◌, subst, drop, get_or, length}
use Rattle.std.specs.Prelude.{◌&&◌}
use Rattle.plc_text.specs.declared.code.Code.{Code}
use Rattle.st_tree.specs.declared.expression.Argument.{Argument as CodeArgument}
use Rattle.st_tree.specs.declared.expression.Expr.{Expr}
use Rattle.st_tree.specs.declared.expression.Selector.{Selector as CodeSelector}
use Rattle.st_tree.specs.declared.expression.Tail.{Tail}
use Rattle.st_tree.specs.declared.program.Note.{Note}
use Rattle.st_tree.specs.Expression.{Expression, Expressions, no_expressions, expression_then, expression_of, expressions_of, Selectors, no_selectors, selector_then, selector_of, selectors_of, Arguments, no_arguments, argument_then, argument_of, arguments_of, Tails, no_tails, tail_then, tail_of, tails_of}
use Rattle.st_rules.specs.declared.asked.Asked.{Asked}
use Rattle.st_rules.specs.declared.asked.Asked.TheVariants.{Anything}
use Rattle.st_rules.specs.Scope.{Scope}
use Rattle.st_rules.specs.Places.{is_last}
use Rattle.st_rules.specs.Calls.{Matched, first_match}
use Rattle.st_rules.specs.Expressions.{line_of}
use Rattle.st_rules.proofs.ListLaws.{drop-at, drop-end}
use Rattle.check_nodes.specs.declared.along.Along.{Along}
use Rattle.check_nodes.specs.declared.found.Checked.{Checked}
use Rattle.check_nodes.specs.declared.lists.Indices.{Indices}
use Rattle.check_nodes.specs.declared.lists.Arguments.{Arguments as SoFar}
use Rattle.check_nodes.specs.declared.lists.CheckedArgument.{CheckedArgument}
use Rattle.check_nodes.specs.Found.{Checks}
use Rattle.check_nodes.specs.declared.rows.Ahead.{Ahead}
use Rattle.check_nodes.specs.Rows.{Looks}
use Rattle.check_nodes.specs.Lists.{AddsIndex, AddsArgument}
use Rattle.st_check_expr.specs.declared.walk.RowSoFar.{RowSoFar}
use Rattle.st_check_expr.specs.Private.Along.{AlongGoes, along_rest}
use Rattle.st_check_expr.specs.Private.Lists.{ArgumentFinds, index_rest, argument_rest}
use Rattle.st_check_expr.specs.Private.Rows.{Keeps, GoesOn, EndsAt, LooksAhead, RowGoes, Whole, ahead_rest, row_rest}
use Rattle.st_check_expr.proofs.AheadSteps.{looks_so}
use Rattle.st_check_expr.proofs.ListSteps.{index_goes, argument_goes, later_drop}

pub tails_next : (ts : List (Tail ℕ)) (i : ℕ) (t : Tail ℕ) → i < length ts → t ≡ get_or ts i t → tails_of (drop i ts) ≡ tail_then (tail_of t).0 (tail_of t).1 (tail_of t).2 (tails_of (drop (i + 1) ts))
tails_next ts i t h e = ap tails_of (drop-at ts i t h e)

pub selectors_next : (ss : List (CodeSelector ℕ)) (i : ℕ) (x : CodeSelector ℕ) → i < length ss → x ≡ get_or ss i x → selectors_of (drop i ss) ≡ selector_then (selector_of x) (selectors_of (drop (i + 1) ss))
selectors_next ss i x h e = ap selectors_of (drop-at ss i x h e)

pub expressions_next : (es : List (Expr ℕ)) (i : ℕ) (x : Expr ℕ) → i < length es → x ≡ get_or es i x → expressions_of (drop i es) ≡ expression_then (expression_of x) (expressions_of (drop (i + 1) es))
expressions_next es i x h e = ap expressions_of (drop-at es i x h e)

pub arguments_next : (xs : List (CodeArgument ℕ)) (i : ℕ) (x : CodeArgument ℕ) → i < length xs → x ≡ get_or xs i x → arguments_of (drop i xs) ≡ argument_then (argument_of x) (arguments_of (drop (i + 1) xs))
arguments_next xs i x h e = ap arguments_of (drop-at xs i x h e)

pub tails_end : (ts : List (Tail ℕ)) (i : ℕ) → length ts ≤ i → tails_of (drop i ts) ≡ no_tails
tails_end ts i h = ap tails_of (drop-end ts i h)

pub selectors_end : (ss : List (CodeSelector ℕ)) (i : ℕ) → length ss ≤ i → selectors_of (drop i ss) ≡ no_selectors
selectors_end ss i h = ap selectors_of (drop-end ss i h)

pub expressions_end : (es : List (Expr ℕ)) (i : ℕ) → length es ≤ i → expressions_of (drop i es) ≡ no_expressions
expressions_end es i h = ap expressions_of (drop-end es i h)

pub arguments_end : (xs : List (CodeArgument ℕ)) (i : ℕ) → length xs ≤ i → arguments_of (drop i xs) ≡ no_arguments
arguments_end xs i h = ap arguments_of (drop-end xs i h)

-- ---- rows

module _ (s : Scope) (asked : Asked) (ts : List (Tail ℕ)) (i : ℕ) (t : Tail ℕ) (h : i < length ts) (e : t ≡ get_or ts i t) where
  pub ahead_goes : (passed : Bool) (w : Asked × Option (Expression ℕ)) → GoesOn s (tail_of t).0 (tail_of t).1 (tail_of t).2 → ahead_rest s passed asked (tails_of (drop i ts)) ≡ w → ahead_rest s true asked (tails_of (drop (i + 1) ts)) ≡ w
  ahead_goes passed w g p = g.rest passed asked (tails_of (drop (i + 1) ts)) ∙ sym (ap (ahead_rest s passed asked) (tails_next ts i t h e)) ∙ p

  pub looks_here : (untyped passed : Bool) (all : Tails ℕ) (a x : Ahead) → untyped ≡ true → Looks x passed a.asked a.kept → EndsAt s (tail_of t).0 (tail_of t).1 (tail_of t).2 a →
      ahead_rest s passed asked (tails_of (drop i ts)) ≡ ahead_rest s false asked all → LooksAhead x s untyped asked all
  looks_here untyped passed all a x u looks ends p =
      subst (λ (b : Bool). LooksAhead x s b asked all) (sym u)
      (looks_so s asked passed (tail_then (tail_of t).0 (tail_of t).1 (tail_of t).2 (tails_of (drop (i + 1) ts))) all (sym (ap (ahead_rest s passed asked) (tails_next ts i t h e)) ∙ p)
      a x looks (ends.wanted asked (tails_of (drop (i + 1) ts))) (ends.keeps (tails_of (drop (i + 1) ts))))

  kept_here : (so_far : RowSoFar) → Keeps so_far.kept s (tails_of (drop i ts)) → Keeps so_far.kept s (tail_then (tail_of t).0 (tail_of t).1 (tail_of t).2 (tails_of (drop (i + 1) ts)))
  kept_here so_far k = subst (λ (us : Tails ℕ). Keeps so_far.kept s us) (tails_next ts i t h e) k

  pub keeps_next : (so_far x : RowSoFar) → RowGoes s asked so_far x (tail_of t).0 (tail_of t).1 (tail_of t).2 → Keeps so_far.kept s (tails_of (drop i ts)) → Keeps x.kept s (tails_of (drop (i + 1) ts))
  keeps_next so_far x g k = g.keeps (tails_of (drop (i + 1) ts)) (kept_here so_far k)

  pub row_next : (so_far x : RowSoFar) (w : Whole) → RowGoes s asked so_far x (tail_of t).0 (tail_of t).1 (tail_of t).2 → Keeps so_far.kept s (tails_of (drop i ts)) → row_rest s asked so_far.row (tails_of (drop i ts)) ≡ w →
      row_rest s asked x.row (tails_of (drop (i + 1) ts)) ≡ w
  row_next so_far x w g k p = g.whole (tails_of (drop (i + 1) ts)) (kept_here so_far k) ∙ sym (ap (row_rest s asked so_far.row) (tails_next ts i t h e)) ∙ p

-- ---- selectors

pub along_next : (s : Scope) (line : ℕ) (called here : Bool) (ss : List (CodeSelector ℕ)) (i : ℕ) (one : CodeSelector ℕ) (before x : Along) (w : Option (Code × ℕ) × Selectors Note) →
    i < length ss → one ≡ get_or ss i one → AlongGoes s line here before x (selector_of one) → here ≡ (called && is_last (selectors_of (drop (i + 1) ss))) →
    along_rest s line called before (selectors_of (drop i ss)) ≡ w → along_rest s line called x (selectors_of (drop (i + 1) ss)) ≡ w
along_next s line called here ss i one before x w h e g l p = g.whole called (selectors_of (drop (i + 1) ss)) (sym l) ∙ sym (ap (along_rest s line called before) (selectors_next ss i one h e)) ∙ p

-- ---- indices and arguments

pub index_next : (s : Scope) (es : List (Expr ℕ)) (i : ℕ) (e : Expr ℕ) (before x : Indices) (one : Checked) (line : ℕ) (w : Option (Code × ℕ) × Expressions Note) →
    i < length es → e ≡ get_or es i e → AddsIndex x before line one → line ≡ line_of (expression_of e) → Checks one s Anything (expression_of e) →
    index_rest s before (expressions_of (drop i es)) ≡ w → index_rest s x (expressions_of (drop (i + 1) es)) ≡ w
index_next s es i e before x one line w h at a l f p =
    index_goes s before x one (expression_of e) (expressions_of (drop (i + 1) es)) (subst (λ (n : ℕ). AddsIndex x before n one) l a) f
    ∙ sym (ap (index_rest s before) (expressions_next es i e h at)) ∙ p

pub argument_next : (s : Scope) (ms : List Matched) (as' : List (CodeArgument ℕ)) (i : ℕ) (c : CodeArgument ℕ) (before x : SoFar) (one : CheckedArgument) (m : Matched) (w : Option (Code × ℕ) × Arguments Note) →
    i < length as' → c ≡ get_or as' i c → AddsArgument x before one → ArgumentFinds one s m (argument_of c) → m ≡ first_match (drop i ms) →
    argument_rest s before (drop i ms) (arguments_of (drop i as')) ≡ w → argument_rest s x (drop (i + 1) ms) (arguments_of (drop (i + 1) as')) ≡ w
argument_next s ms as' i c before x one m w h at a f l p =
    ap (λ (us : List Matched). argument_rest s x us (arguments_of (drop (i + 1) as'))) (sym (later_drop i ms))
    ∙ argument_goes s before x one m (argument_of c) (drop i ms) (arguments_of (drop (i + 1) as')) a f l
    ∙ sym (ap (argument_rest s before (drop i ms)) (arguments_next as' i c h at)) ∙ p
