-- The plain tree of an expression, with a note at each node: what definitions speak of. Its nodes have the names of the code's.
-- Each list in a tree is a type of its own, since a definition goes down a tree and its lists together.
use Rattle.std.specs.Prelude.{◌≡◌, ℕ, List, [], ◌∷◌, map}
use Rattle.std.proofs.Common.{sym, ◌∙◌, ap}
use Rattle.st_types.specs.declared.elem.Elem.{Elem}
use Rattle.st_tree.specs.declared.expression.Operator.{Operator}
use Rattle.st_tree.specs.declared.expression.Literal.{Literal}
use Rattle.st_tree.specs.declared.expression.Root.{Root}
use Rattle.st_tree.specs.declared.expression.Argument.TheOpen.{Argument-F, Expr-F, Selector-F, Place-F, Tail-F}
use Rattle.st_tree.specs.declared.expression.Argument.TheFolds.{fold-Argument, fold-Expr, fold-Selector, fold-Place, fold-Tail, fold-roll-Argument, fold-roll-Expr, fold-roll-Selector, fold_out-Place, fold_out-Tail}
use Rattle.st_tree.specs.declared.expression.Argument.{Argument as CodeArgument}
use Rattle.st_tree.specs.declared.expression.Argument.TheVariants as argument
use Rattle.st_tree.specs.declared.expression.Expr.{Expr}
use Rattle.st_tree.specs.declared.expression.Expr.TheVariants as code
use Rattle.st_tree.specs.declared.expression.Selector.{Selector as CodeSelector}
use Rattle.st_tree.specs.declared.expression.Selector.TheVariants as selection
use Rattle.st_tree.specs.declared.expression.Place.{Place as CodePlace}
use Rattle.st_tree.specs.declared.expression.Tail.{Tail}

mutual
  pub data Expression (A : Type 0) : Type 0 where
    Int : A → List ℕ → Expression A
    Typed : A → Elem → Literal → Expression A
    Time : A → List ℕ → Expression A
    True : A → Expression A
    False : A → Expression A
    Null : A → Expression A
    Place : A → Root A → Selectors A → Expression A
    Call : A → Root A → Selectors A → Arguments A → Expression A
    Enumerator : A → List ℕ → A → List ℕ → Expression A
    Ref : A → Root A → Selectors A → Expression A
    Now : A → Expression A
    Paren : A → Expression A → Expression A
    Not : A → Expression A → Expression A
    Negate : A → Expression A → Expression A
    Chain : A → Expression A → Tails A → Expression A

  pub data Expressions (A : Type 0) : Type 0 where
    no_expressions : Expressions A
    expression_then : Expression A → Expressions A → Expressions A

  pub data Selector (A : Type 0) : Type 0 where
    Field : A → List ℕ → Selector A
    Index : A → Expressions A → Selector A
    Target : A → Selector A

  pub data Selectors (A : Type 0) : Type 0 where
    no_selectors : Selectors A
    selector_then : Selector A → Selectors A → Selectors A

  pub data Argument (A : Type 0) : Type 0 where
    Positional : Expression A → Argument A
    Input : A → List ℕ → Expression A → Argument A
    Output : A → List ℕ → A → Root A → Selectors A → Argument A

  pub data Arguments (A : Type 0) : Type 0 where
    no_arguments : Arguments A
    argument_then : Argument A → Arguments A → Arguments A

  pub data Tails (A : Type 0) : Type 0 where
    no_tails : Tails A
    tail_then : A → Operator → Expression A → Tails A → Tails A

-- ---- the plain tree of an expression of the code

-- lists of one level
abbrev pub expressions : {A : Type 0} → List (Expression A) → Expressions A
expressions [] = no_expressions
expressions (e ∷ es) = expression_then e (expressions es)

abbrev pub selectors : {A : Type 0} → List (Selector A) → Selectors A
selectors [] = no_selectors
selectors (s ∷ ss) = selector_then s (selectors ss)

abbrev pub arguments : {A : Type 0} → List (Argument A) → Arguments A
arguments [] = no_arguments
arguments (x ∷ xs) = argument_then x (arguments xs)

abbrev pub tails : {A : Type 0} → List (A × Operator × Expression A) → Tails A
tails [] = no_tails
tails (t ∷ ts) = tail_then t.0 t.1 t.2 (tails ts)

-- one level, with the plain trees of its parts in their places
abbrev pub argument_level : {A : Type 0} → Argument-F A (Argument A) (Expression A) (Selector A) (Root A × Selectors A) (A × Operator × Expression A) → Argument A
argument_level (Argument-F.Positional e) = Positional e
argument_level (Argument-F.Input a n e) = Input a n e
argument_level (Argument-F.Output a n b p) = Output a n b p.0 p.1

abbrev pub expression_level : {A : Type 0} → Expr-F A (Argument A) (Expression A) (Selector A) (Root A × Selectors A) (A × Operator × Expression A) → Expression A
expression_level (Expr-F.Int a digits) = Int a digits
expression_level (Expr-F.Typed a k l) = Typed a k l
expression_level (Expr-F.Time a text) = Time a text
expression_level (Expr-F.True a) = True a
expression_level (Expr-F.False a) = False a
expression_level (Expr-F.Null a) = Null a
expression_level (Expr-F.Place a p) = Place a p.0 p.1
expression_level (Expr-F.Call a p xs) = Call a p.0 p.1 (arguments xs)
expression_level (Expr-F.Enumerator a t b n) = Enumerator a t b n
expression_level (Expr-F.Ref a p) = Ref a p.0 p.1
expression_level (Expr-F.Now a) = Now a
expression_level (Expr-F.Paren a e) = Paren a e
expression_level (Expr-F.Not a e) = Not a e
expression_level (Expr-F.Negate a e) = Negate a e
expression_level (Expr-F.Chain a e ts) = Chain a e (tails ts)

abbrev pub selector_level : {A : Type 0} → Selector-F A (Argument A) (Expression A) (Selector A) (Root A × Selectors A) (A × Operator × Expression A) → Selector A
selector_level (Selector-F.Field a n) = Field a n
selector_level (Selector-F.Index a es) = Index a (expressions es)
selector_level (Selector-F.Target a) = Target a

abbrev pub place_level : {A : Type 0} → Place-F A (Argument A) (Expression A) (Selector A) (Root A × Selectors A) (A × Operator × Expression A) → Root A × Selectors A
place_level x = (x.root, (selectors x.selectors))

abbrev pub tail_level : {A : Type 0} → Tail-F A (Argument A) (Expression A) (Selector A) (Root A × Selectors A) (A × Operator × Expression A) → A × Operator × Expression A
tail_level x = (x.note, x.operator, x.operand)

unfoldable pub argument_of : {A : Type 0} → CodeArgument A → Argument A
argument_of {A = A} = fold-Argument A (Argument A) (Expression A) (Selector A) (Root A × Selectors A) (A × Operator × Expression A) argument_level expression_level selector_level place_level tail_level

unfoldable pub expression_of : {A : Type 0} → Expr A → Expression A
expression_of {A = A} = fold-Expr A (Argument A) (Expression A) (Selector A) (Root A × Selectors A) (A × Operator × Expression A) argument_level expression_level selector_level place_level tail_level

unfoldable pub selector_of : {A : Type 0} → CodeSelector A → Selector A
selector_of {A = A} = fold-Selector A (Argument A) (Expression A) (Selector A) (Root A × Selectors A) (A × Operator × Expression A) argument_level expression_level selector_level place_level tail_level

unfoldable pub place_of : {A : Type 0} → CodePlace A → Root A × Selectors A
place_of {A = A} = fold-Place A (Argument A) (Expression A) (Selector A) (Root A × Selectors A) (A × Operator × Expression A) argument_level expression_level selector_level place_level tail_level

unfoldable pub tail_of : {A : Type 0} → Tail A → A × Operator × Expression A
tail_of {A = A} = fold-Tail A (Argument A) (Expression A) (Selector A) (Root A × Selectors A) (A × Operator × Expression A) argument_level expression_level selector_level place_level tail_level

abbrev pub expressions_of : {A : Type 0} → List (Expr A) → Expressions A
expressions_of es = expressions (map expression_of es)

abbrev pub selectors_of : {A : Type 0} → List (CodeSelector A) → Selectors A
selectors_of ss = selectors (map selector_of ss)

abbrev pub arguments_of : {A : Type 0} → List (CodeArgument A) → Arguments A
arguments_of xs = arguments (map argument_of xs)

abbrev pub tails_of : {A : Type 0} → List (Tail A) → Tails A
tails_of ts = tails (map tail_of ts)

-- what each variant is
pub argument_of-Positional : {A : Type 0} (e : Expr A) → argument_of (argument.Positional e) ≡ Positional (expression_of e)
unfolding argument_of expression_of selector_of place_of tail_of
argument_of-Positional {A = A} e = ap (argument_of {A = A}) (sym (argument.rolls-Positional e)) ∙ fold-roll-Argument A _ _ _ _ _ argument_level expression_level selector_level place_level tail_level (Argument-F.Positional e)

pub argument_of-Input : {A : Type 0} (a : A) (n : List ℕ) (e : Expr A) → argument_of (argument.Input a n e) ≡ Input a n (expression_of e)
unfolding argument_of expression_of selector_of place_of tail_of
argument_of-Input {A = A} a n e = ap (argument_of {A = A}) (sym (argument.rolls-Input a n e)) ∙ fold-roll-Argument A _ _ _ _ _ argument_level expression_level selector_level place_level tail_level (Argument-F.Input a n e)

pub argument_of-Output : {A : Type 0} (a : A) (n : List ℕ) (b : A) (p : CodePlace A) → argument_of (argument.Output a n b p) ≡ Output a n b (place_of p).0 (place_of p).1
unfolding argument_of expression_of selector_of place_of tail_of
argument_of-Output {A = A} a n b p = ap (argument_of {A = A}) (sym (argument.rolls-Output a n b p)) ∙ fold-roll-Argument A _ _ _ _ _ argument_level expression_level selector_level place_level tail_level (Argument-F.Output a n b p)

pub expression_of-Int : {A : Type 0} (a : A) (digits : List ℕ) → expression_of (code.Int a digits) ≡ Int a digits
unfolding argument_of expression_of selector_of place_of tail_of
expression_of-Int {A = A} a digits = ap (expression_of {A = A}) (sym (code.rolls-Int a digits)) ∙ fold-roll-Expr A _ _ _ _ _ argument_level expression_level selector_level place_level tail_level (Expr-F.Int a digits)

pub expression_of-Typed : {A : Type 0} (a : A) (k : Elem) (l : Literal) → expression_of (code.Typed a k l) ≡ Typed a k l
unfolding argument_of expression_of selector_of place_of tail_of
expression_of-Typed {A = A} a k l = ap (expression_of {A = A}) (sym (code.rolls-Typed a k l)) ∙ fold-roll-Expr A _ _ _ _ _ argument_level expression_level selector_level place_level tail_level (Expr-F.Typed a k l)

pub expression_of-Time : {A : Type 0} (a : A) (text : List ℕ) → expression_of (code.Time a text) ≡ Time a text
unfolding argument_of expression_of selector_of place_of tail_of
expression_of-Time {A = A} a text = ap (expression_of {A = A}) (sym (code.rolls-Time a text)) ∙ fold-roll-Expr A _ _ _ _ _ argument_level expression_level selector_level place_level tail_level (Expr-F.Time a text)

pub expression_of-True : {A : Type 0} (a : A) → expression_of (code.True a) ≡ True a
unfolding argument_of expression_of selector_of place_of tail_of
expression_of-True {A = A} a = ap (expression_of {A = A}) (sym (code.rolls-True a)) ∙ fold-roll-Expr A _ _ _ _ _ argument_level expression_level selector_level place_level tail_level (Expr-F.True a)

pub expression_of-False : {A : Type 0} (a : A) → expression_of (code.False a) ≡ False a
unfolding argument_of expression_of selector_of place_of tail_of
expression_of-False {A = A} a = ap (expression_of {A = A}) (sym (code.rolls-False a)) ∙ fold-roll-Expr A _ _ _ _ _ argument_level expression_level selector_level place_level tail_level (Expr-F.False a)

pub expression_of-Null : {A : Type 0} (a : A) → expression_of (code.Null a) ≡ Null a
unfolding argument_of expression_of selector_of place_of tail_of
expression_of-Null {A = A} a = ap (expression_of {A = A}) (sym (code.rolls-Null a)) ∙ fold-roll-Expr A _ _ _ _ _ argument_level expression_level selector_level place_level tail_level (Expr-F.Null a)

pub expression_of-Place : {A : Type 0} (a : A) (p : CodePlace A) → expression_of (code.Place a p) ≡ Place a (place_of p).0 (place_of p).1
unfolding argument_of expression_of selector_of place_of tail_of
expression_of-Place {A = A} a p = ap (expression_of {A = A}) (sym (code.rolls-Place a p)) ∙ fold-roll-Expr A _ _ _ _ _ argument_level expression_level selector_level place_level tail_level (Expr-F.Place a p)

pub expression_of-Call : {A : Type 0} (a : A) (p : CodePlace A) (xs : List (CodeArgument A)) → expression_of (code.Call a p xs) ≡ Call a (place_of p).0 (place_of p).1 (arguments_of xs)
unfolding argument_of expression_of selector_of place_of tail_of
expression_of-Call {A = A} a p xs = ap (expression_of {A = A}) (sym (code.rolls-Call a p xs)) ∙ fold-roll-Expr A _ _ _ _ _ argument_level expression_level selector_level place_level tail_level (Expr-F.Call a p xs)

pub expression_of-Enumerator : {A : Type 0} (a : A) (t : List ℕ) (b : A) (n : List ℕ) → expression_of (code.Enumerator a t b n) ≡ Enumerator a t b n
unfolding argument_of expression_of selector_of place_of tail_of
expression_of-Enumerator {A = A} a t b n = ap (expression_of {A = A}) (sym (code.rolls-Enumerator a t b n)) ∙ fold-roll-Expr A _ _ _ _ _ argument_level expression_level selector_level place_level tail_level (Expr-F.Enumerator a t b n)

pub expression_of-Ref : {A : Type 0} (a : A) (p : CodePlace A) → expression_of (code.Ref a p) ≡ Ref a (place_of p).0 (place_of p).1
unfolding argument_of expression_of selector_of place_of tail_of
expression_of-Ref {A = A} a p = ap (expression_of {A = A}) (sym (code.rolls-Ref a p)) ∙ fold-roll-Expr A _ _ _ _ _ argument_level expression_level selector_level place_level tail_level (Expr-F.Ref a p)

pub expression_of-Now : {A : Type 0} (a : A) → expression_of (code.Now a) ≡ Now a
unfolding argument_of expression_of selector_of place_of tail_of
expression_of-Now {A = A} a = ap (expression_of {A = A}) (sym (code.rolls-Now a)) ∙ fold-roll-Expr A _ _ _ _ _ argument_level expression_level selector_level place_level tail_level (Expr-F.Now a)

pub expression_of-Paren : {A : Type 0} (a : A) (e : Expr A) → expression_of (code.Paren a e) ≡ Paren a (expression_of e)
unfolding argument_of expression_of selector_of place_of tail_of
expression_of-Paren {A = A} a e = ap (expression_of {A = A}) (sym (code.rolls-Paren a e)) ∙ fold-roll-Expr A _ _ _ _ _ argument_level expression_level selector_level place_level tail_level (Expr-F.Paren a e)

pub expression_of-Not : {A : Type 0} (a : A) (e : Expr A) → expression_of (code.Not a e) ≡ Not a (expression_of e)
unfolding argument_of expression_of selector_of place_of tail_of
expression_of-Not {A = A} a e = ap (expression_of {A = A}) (sym (code.rolls-Not a e)) ∙ fold-roll-Expr A _ _ _ _ _ argument_level expression_level selector_level place_level tail_level (Expr-F.Not a e)

pub expression_of-Negate : {A : Type 0} (a : A) (e : Expr A) → expression_of (code.Negate a e) ≡ Negate a (expression_of e)
unfolding argument_of expression_of selector_of place_of tail_of
expression_of-Negate {A = A} a e = ap (expression_of {A = A}) (sym (code.rolls-Negate a e)) ∙ fold-roll-Expr A _ _ _ _ _ argument_level expression_level selector_level place_level tail_level (Expr-F.Negate a e)

pub expression_of-Chain : {A : Type 0} (a : A) (e : Expr A) (ts : List (Tail A)) → expression_of (code.Chain a e ts) ≡ Chain a (expression_of e) (tails_of ts)
unfolding argument_of expression_of selector_of place_of tail_of
expression_of-Chain {A = A} a e ts = ap (expression_of {A = A}) (sym (code.rolls-Chain a e ts)) ∙ fold-roll-Expr A _ _ _ _ _ argument_level expression_level selector_level place_level tail_level (Expr-F.Chain a e ts)

pub selector_of-Field : {A : Type 0} (a : A) (n : List ℕ) → selector_of (selection.Field a n) ≡ Field a n
unfolding argument_of expression_of selector_of place_of tail_of
selector_of-Field {A = A} a n = ap (selector_of {A = A}) (sym (selection.rolls-Field a n)) ∙ fold-roll-Selector A _ _ _ _ _ argument_level expression_level selector_level place_level tail_level (Selector-F.Field a n)

pub selector_of-Index : {A : Type 0} (a : A) (es : List (Expr A)) → selector_of (selection.Index a es) ≡ Index a (expressions_of es)
unfolding argument_of expression_of selector_of place_of tail_of
selector_of-Index {A = A} a es = ap (selector_of {A = A}) (sym (selection.rolls-Index a es)) ∙ fold-roll-Selector A _ _ _ _ _ argument_level expression_level selector_level place_level tail_level (Selector-F.Index a es)

pub selector_of-Target : {A : Type 0} (a : A) → selector_of (selection.Target a) ≡ Target a
unfolding argument_of expression_of selector_of place_of tail_of
selector_of-Target {A = A} a = ap (selector_of {A = A}) (sym (selection.rolls-Target a)) ∙ fold-roll-Selector A _ _ _ _ _ argument_level expression_level selector_level place_level tail_level (Selector-F.Target a)

pub place_of-is : {A : Type 0} (x : CodePlace A) → place_of x ≡ (x.root, (selectors_of x.selectors))
unfolding argument_of expression_of selector_of place_of tail_of
place_of-is {A = A} x = fold_out-Place A _ _ _ _ _ argument_level expression_level selector_level place_level tail_level x

pub place_of-root : {A : Type 0} (x : CodePlace A) → (place_of x).0 ≡ x.root
place_of-root x = ap (λ p. p.0) (place_of-is x)

pub place_of-selectors : {A : Type 0} (x : CodePlace A) → (place_of x).1 ≡ (selectors_of x.selectors)
place_of-selectors x = ap (λ p. p.1) (place_of-is x)

pub tail_of-is : {A : Type 0} (x : Tail A) → tail_of x ≡ (x.note, x.operator, (expression_of x.operand))
unfolding argument_of expression_of selector_of place_of tail_of
tail_of-is {A = A} x = fold_out-Tail A _ _ _ _ _ argument_level expression_level selector_level place_level tail_level x

pub tail_of-note : {A : Type 0} (x : Tail A) → (tail_of x).0 ≡ x.note
tail_of-note x = ap (λ p. p.0) (tail_of-is x)

pub tail_of-operator : {A : Type 0} (x : Tail A) → (tail_of x).1 ≡ x.operator
tail_of-operator x = ap (λ p. p.1) (tail_of-is x)

pub tail_of-operand : {A : Type 0} (x : Tail A) → (tail_of x).2 ≡ (expression_of x.operand)
tail_of-operand x = ap (λ p. p.2) (tail_of-is x)

pub ruleset expression_views = (argument_of-Positional, argument_of-Input, argument_of-Output, expression_of-Int, expression_of-Typed, expression_of-Time, expression_of-True, expression_of-False, expression_of-Null, expression_of-Place, expression_of-Call, expression_of-Enumerator, expression_of-Ref, expression_of-Now, expression_of-Paren, expression_of-Not, expression_of-Negate, expression_of-Chain, selector_of-Field, selector_of-Index, selector_of-Target, place_of-root, place_of-selectors, tail_of-note, tail_of-operator, tail_of-operand)
