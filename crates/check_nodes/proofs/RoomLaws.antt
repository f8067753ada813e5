-- The room that is left behind the operators of a node, from that behind its parts.
use Rattle.std.proofs.Common.{◌≡◌, ℕ, ◌+◌, ◌<◌, ◌≤◌, suc, Bool, true, false, List, [], ◌∷◌, length, get_or, drop, Option, Some, None, refl, sym, ap, ◌∙◌, subst, arith}
use Rattle.std.specs.Prelude.{if◌then◌else◌}
use Rattle.st_tree.specs.declared.expression.Argument.{Argument as CodeArgument}
use Rattle.st_tree.specs.declared.expression.Expr.{Expr}
use Rattle.st_tree.specs.declared.expression.Expr.TheVariants as code
use Rattle.st_tree.specs.declared.expression.Place.{Place as CodePlace}
use Rattle.st_tree.specs.declared.expression.Selector.{Selector as CodeSelector}
use Rattle.st_tree.specs.declared.expression.Tail.{Tail}
use Rattle.st_tree.specs.Expression as tree
use Rattle.st_tree.specs.Expression.{Expression, Selector, Field, Index, Selectors, selector_then, Argument, Positional, Input, Output, Arguments, argument_then, expression_of, expression_of-Negate, expression_of-Chain, tails_of, selectors_of, arguments_of}
use Rattle.st_rules.specs.Expressions.{is_int, operators, tail_operators, selector_operators, argument_operators}
use Rattle.st_rules.proofs.ListLaws.{drop-at, drop-end}
use Rattle.check_nodes.specs.Private.Count.{Leaves, selector_count, argument_count}
use Rattle.check_nodes.proofs.ViewLaws.{place_is, ref_is, call_is}

-- ---- room

pub nothing_taken : (room k : ℕ) → k ≡ 0 → room + k ≡ room
nothing_taken room k h = omega arith

pub same_count : (r : Option ℕ) (room n k : ℕ) → k ≡ n → Leaves r room n → Leaves r room k
same_count r room n k h f = subst (λ (x : ℕ). Leaves r room x) (sym h) f

pub both_left : (r : Option ℕ) (room left n m k : ℕ) → k ≡ n + m → left + n ≡ room → Leaves r left m → Leaves r room k
both_left None room left n m k h p f = omega arith
both_left (Some x) room left n m k h p f = omega arith

pub one_left : (r : Option ℕ) (room left m k : ℕ) → k ≡ suc m → left + 1 ≡ room → Leaves r left m → Leaves r room k
one_left None room left m k h p f = omega arith
one_left (Some x) room left m k h p f = omega arith

pub tail_left : (r : Option ℕ) (room left m k : ℕ) → k ≡ m → left + 1 ≡ room → Leaves r left m → Leaves r room (k + 1)
tail_left None room left m k h p f = omega arith
tail_left (Some x) room left m k h p f = omega arith

pub first_over : (room n m k : ℕ) → k ≡ n + m → room < n → room < k
first_over room n m k h p = omega arith

pub one_over : (room m k : ℕ) → k ≡ suc m → room < 1 → room < k
one_over room m k h p = omega arith

-- the parts of a list one by one, by what the rest of them takes
module _ {X : Type 0} (takes : List X → ℕ) (xs : List X) (room left i : ℕ) where
  pub room_next : (x : X) (size new : ℕ) → i < length xs → x ≡ get_or xs i x → takes (x ∷ drop (i + 1) xs) ≡ size + takes (drop (i + 1) xs) → new + size ≡ left → left + takes xs ≡ room + takes (drop i xs) → new + takes xs ≡ room + takes (drop (i + 1) xs)
  room_next x size new l e g h rest = let d : takes (drop i xs) ≡ size + takes (drop (i + 1) xs) = ap takes (drop-at xs i x l e) ∙ g in omega arith

  pub room_over : (x : X) (size : ℕ) → i < length xs → x ≡ get_or xs i x → takes (x ∷ drop (i + 1) xs) ≡ size + takes (drop (i + 1) xs) → left < size → left + takes xs ≡ room + takes (drop i xs) → room < takes xs
  room_over x size l e g h rest = let d : takes (drop i xs) ≡ size + takes (drop (i + 1) xs) = ap takes (drop-at xs i x l e) ∙ g in omega arith

  pub room_ended : takes [] ≡ 0 → length xs ≤ i → left + takes xs ≡ room + takes (drop i xs) → left + takes xs ≡ room
  room_ended z l rest = let d : takes (drop i xs) ≡ 0 = ap takes (drop-end xs i l) ∙ z in omega arith

-- ---- operators of nodes

abbrev pub count : Expression ℕ → ℕ
count x = operators x

pub tail_first : (n m : ℕ) → suc (n + m) ≡ (n + 1) + m
tail_first n m = omega arith

pub selector_first : (x : Selector ℕ) (xs : Selectors ℕ) → selector_operators (selector_then x xs) ≡ selector_count x + selector_operators xs
selector_first (Field a n) xs = let e : selector_operators xs ≡ 0 + selector_operators xs = omega arith in e
selector_first (Index a es) xs = refl
selector_first (tree.Target a) xs = let e : selector_operators xs ≡ 0 + selector_operators xs = omega arith in e

pub argument_first : (x : Argument ℕ) (xs : Arguments ℕ) → argument_operators (argument_then x xs) ≡ argument_count x + argument_operators xs
argument_first (Positional e) xs = refl
argument_first (Input a n e) xs = refl
argument_first (Output a n b r ss) xs = refl

pub place_count : (e : Expr ℕ) (l : ℕ) (p : CodePlace ℕ) (ss : List (CodeSelector ℕ)) → e ≡ code.Place l p → ss ≡ p.selectors → count (expression_of e) ≡ selector_operators (selectors_of ss)
place_count e l p ss h q = ap count (ap expression_of h ∙ place_is l p) ∙ ap (λ (us : List (CodeSelector ℕ)). selector_operators (selectors_of us)) (sym q)

pub ref_count : (e : Expr ℕ) (l : ℕ) (p : CodePlace ℕ) (ss : List (CodeSelector ℕ)) → e ≡ code.Ref l p → ss ≡ p.selectors → count (expression_of e) ≡ selector_operators (selectors_of ss)
ref_count e l p ss h q = ap count (ap expression_of h ∙ ref_is l p) ∙ ap (λ (us : List (CodeSelector ℕ)). selector_operators (selectors_of us)) (sym q)

pub call_count : (e : Expr ℕ) (l : ℕ) (p : CodePlace ℕ) (xs ys : List (CodeArgument ℕ)) (ss : List (CodeSelector ℕ)) → e ≡ code.Call l p xs → ss ≡ p.selectors → ys ≡ xs →
    count (expression_of e) ≡ selector_operators (selectors_of ss) + argument_operators (arguments_of ys)
call_count e l p xs ys ss h q k =
    ap count (ap expression_of h ∙ call_is l p xs)
    ∙ ap (λ (us : List (CodeSelector ℕ)). selector_operators (selectors_of us) + argument_operators (arguments_of xs)) (sym q)
    ∙ ap (λ (us : List (CodeArgument ℕ)). selector_operators (selectors_of ss) + argument_operators (arguments_of us)) (sym k)

pub chain_count : (e : Expr ℕ) (l : ℕ) (first f : Expr ℕ) (ts us : List (Tail ℕ)) → e ≡ code.Chain l first ts → f ≡ first → us ≡ ts →
    count (expression_of e) ≡ count (expression_of f) + tail_operators (tails_of us)
chain_count e l first f ts us h p q =
    ap count (ap expression_of (h ∙ ap (λ (y : Expr ℕ). code.Chain l y ts) (sym p) ∙ ap (λ (ys : List (Tail ℕ)). code.Chain l f ys) (sym q)) ∙ expression_of-Chain l f us)

module _ (e : Expr ℕ) (l : ℕ) (inner i : Expr ℕ) (h : e ≡ code.Negate l inner) (p : i ≡ inner) (b : Bool) (w : b ≡ is_int (expression_of i)) where
  negate_is : count (expression_of e) ≡ (if is_int (expression_of i) then 0 else suc (count (expression_of i)))
  negate_is = ap count (ap expression_of (h ∙ ap (code.Negate l) (sym p)) ∙ expression_of-Negate l i)

  pub literal_count : b ≡ true → count (expression_of e) ≡ 0
  literal_count k = negate_is ∙ ap (λ (v : Bool). if v then 0 else suc (count (expression_of i))) (sym w ∙ k)

  pub negate_count : (j : Expr ℕ) → j ≡ inner → b ≡ false → count (expression_of e) ≡ suc (count (expression_of j))
  negate_count j q k =
      negate_is ∙ ap (λ (v : Bool). if v then 0 else suc (count (expression_of i))) (sym w ∙ k)
      ∙ ap (λ (y : Expr ℕ). suc (count (expression_of y))) (p ∙ sym q)
