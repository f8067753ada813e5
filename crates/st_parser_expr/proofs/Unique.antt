-- Lexemes spell at most one expression.
use Rattle.std.proofs.Common.{◌≡◌, ℕ, suc, ◌<◌, ◌≤◌, inl, inr, List, [], ◌∷◌, Option, Some, None, refl, sym, ◌∙◌, ap, subst, arith}
use Rattle.st_types.specs.declared.elem.Elem.{Elem}
use Rattle.st_types.specs.declared.elem.Elem.TheVariants as kind
use Rattle.st_tree.specs.declared.terminal.Terminal.{Terminal}
use Rattle.st_tree.specs.declared.terminal.Terminal.TheVariants as x
use Rattle.st_tree.specs.declared.expression.Operator.{Operator}
use Rattle.st_tree.specs.declared.expression.Literal.{Literal}
use Rattle.st_tree.specs.declared.expression.Literal.TheVariants as literals
use Rattle.st_tree.specs.declared.expression.Root.{Root}
use Rattle.st_tree.specs.declared.expression.Root.TheVariants as roots
use Rattle.st_tree.specs.Expression as expr
use Rattle.st_tree.specs.Expression.{Expression, Expressions, no_expressions, expression_then, Selector, Selectors, no_selectors, selector_then, Argument, Arguments, no_arguments, argument_then, Tails, no_tails, tail_then}
use Rattle.st_tree.specs.Grammar.{Lexeme, At, NotNext, lexeme, sign, spelled, word, operator_of, level, operator_at, literal, root, expression, first_tail, tails, selectors, selector, first_expression, more_expressions, arguments, more_arguments, argument}
use Rattle.st_parser_expr.specs.Private.Machine.{NoOperator, NoStep, IsNoStep, NoSelector, IsNoSelector, NoNaming, Looser}
use Rattle.st_parser_expr.proofs.MachineLaws.{signed, no_selector}
use Rattle.st_parser_expr.proofs.Groups.{lt_or_le, level-small}
use Rattle.st_parser_expr.proofs.Passes.{is_sign, no_step-sign, first_tail-tails, NoStep-tails, NoStep-not_hash, not_hash-selectors, not_close-argument, positional-expression, rest-no_naming}

-- ---- single lexemes

unfoldable rest_of : List Lexeme → List Lexeme
rest_of [] = []
rest_of (t ∷ ts) = ts

abbrev pub next : List Lexeme → Option Terminal
next [] = None
next (t ∷ ts) = Some t.terminal

abbrev text_at : List Lexeme → List ℕ
text_at [] = []
text_at (t ∷ ts) = t.text

pub lexeme-rest : (P Q : Lexeme → Type 0) (ts r r' : List Lexeme) → lexeme P ts r → lexeme Q ts r' → r ≡ r'
unfolding rest_of
lexeme-rest P Q ts r r' (t, p, w) (t', q, w') = ap rest_of (sym w ∙ w')

pub sign-rest : (s u : Terminal) (ts r r' : List Lexeme) → sign s ts r → sign u ts r' → r ≡ r'
sign-rest s u ts r r' h h' = lexeme-rest (λ t. t.terminal ≡ s) (λ t. t.terminal ≡ u) ts r r' h h'

pub sign-next : (s : Terminal) (ts r : List Lexeme) → sign s ts r → next ts ≡ Some s
sign-next s ts r (t, is, w) = rw w (ap Some is)

pub sign-mismatch : (s u : Terminal) (ts r r' : List Lexeme) → sign s ts r → sign u ts r' → s ≡ u
sign-mismatch s u ts r r' h h' = let both : Some s ≡ Some u = sym (sign-next s ts r h) ∙ sign-next u ts r' h' in cc

pub spelled-same : (s : Terminal) (n n' : List ℕ) (ts r r' : List Lexeme) → spelled s n ts r → spelled s n' ts r' → (n ≡ n') × (r ≡ r')
spelled-same s n n' ts r r' (t, is, w) (t', is', w') =
    (sym is.1 ∙ ap text_at (sym w ∙ w') ∙ is'.1, lexeme-rest (λ t. (t.terminal ≡ s) × (t.text ≡ n)) (λ t. (t.terminal ≡ s) × (t.text ≡ n')) ts r r' (t, is, w) (t', is', w'))

pub line-same : (l l' : ℕ) (ts : List Lexeme) → At l ts → At l' ts → l ≡ l'
line-same l l' [] a a' = absurd a
line-same l l' (t ∷ ts) a a' = sym a ∙ a'

-- ---- how a phrase begins

data Sort : Type 0 where
  number : Sort
  kinds : Sort
  duration : Sort
  truth : Sort
  falsehood : Sort
  nothing_at_all : Sort
  places : Sort
  references : Sort
  parens : Sort
  complements : Sort
  signs : Sort

abbrev sort_of : Terminal → Option Sort
sort_of x.Int = Some number
sort_of (x.Kind e) = Some kinds
sort_of x.Duration = Some duration
sort_of x.True = Some truth
sort_of x.False = Some falsehood
sort_of x.Null = Some nothing_at_all
sort_of x.Word = Some places
sort_of x.This = Some places
sort_of x.Super = Some places
sort_of x.Ref = Some references
sort_of x.Open = Some parens
sort_of x.Not = Some complements
sort_of x.Minus = Some signs
sort_of _ = None

abbrev sort_at : List Lexeme → Option Sort
sort_at [] = None
sort_at (t ∷ ts) = sort_of t.terminal

abbrev sort : Expression ℕ → Sort
sort (expr.Int line n) = number
sort (expr.Typed line k v) = kinds
sort (expr.Time line n) = duration
sort (expr.True line) = truth
sort (expr.False line) = falsehood
sort (expr.Null line) = nothing_at_all
sort (expr.Place line r s) = places
sort (expr.Call line r s xs) = places
sort (expr.Enumerator line t later n) = places
sort (expr.Ref line r s) = references
sort (expr.Now line) = kinds
sort (expr.Paren line e) = parens
sort (expr.Not line e) = complements
sort (expr.Negate line e) = signs
sort (expr.Chain line e t) = sort e

sort-sign : (s : Terminal) (ts r : List Lexeme) → sign s ts r → sort_at ts ≡ sort_of s
sort-sign s ts r (t, is, w) = rw w (ap sort_of is)

sort-root : (r : Root ℕ) (ts m : List Lexeme) → root r ts m → sort_at ts ≡ Some places
sort-root (roots.Name line n) ts m (a, h) = sort-sign x.Word ts m (signed x.Word n ts m h)
sort-root (roots.This line) ts m (a, h) = sort-sign x.This ts m h
sort-root (roots.Super line) ts m (a, h) = sort-sign x.Super ts m h

begins : (e : Expression ℕ) (l : ℕ) (ts rest : List Lexeme) → expression e l ts rest → sort_at ts ≡ Some (sort e)
begins (expr.Int line n) l ts rest (a, h) = sort-sign x.Int ts rest (signed x.Int n ts rest h)
begins (expr.Typed line k v) l ts rest (a, (m, h, more)) = sort-sign (x.Kind k) ts m h
begins (expr.Time line n) l ts rest (a, h) = sort-sign x.Duration ts rest (signed x.Duration n ts rest h)
begins (expr.True line) l ts rest (a, h) = sort-sign x.True ts rest h
begins (expr.False line) l ts rest (a, h) = sort-sign x.False ts rest h
begins (expr.Null line) l ts rest (a, h) = sort-sign x.Null ts rest h
begins (expr.Place line r s) l ts rest (a, (m, h, more)) = sort-root r ts m h
begins (expr.Call line r s xs) l ts rest (a, (m, h, more)) = sort-root r ts m h
begins (expr.Enumerator line t later n) l ts rest (a, (m, h, more)) = sort-sign x.Word ts m (signed x.Word t ts m h)
begins (expr.Ref line r s) l ts rest (a, (m, h, more)) = sort-sign x.Ref ts m h
begins (expr.Now line) l ts rest (a, (m, h, more)) = sort-sign (x.Kind kind.Time) ts m h
begins (expr.Paren line e) l ts rest (a, (m, h, more)) = sort-sign x.Open ts m h
begins (expr.Not line e) l ts rest (a, (m, h, more)) = sort-sign x.Not ts m h
begins (expr.Negate line e) l ts rest (a, (m, h, more)) = sort-sign x.Minus ts m h
begins (expr.Chain line e t) l ts rest (a, (j, lower, upper, (m, h, ht))) = begins e (suc j) ts m h

mismatch : (e e' : Expression ℕ) (ts r r' : List Lexeme) → expression e 7 ts r → expression e' 7 ts r' → Some (sort e) ≡ Some (sort e')
mismatch e e' ts r r' h h' = sym (begins e 7 ts r h) ∙ begins e' 7 ts r' h'

-- ---- where a phrase may end

abbrev pub Closed : ℕ → List Lexeme → Type 0
Closed l r = Looser l r × NoStep r

looser-more : (l l' : ℕ) (r : List Lexeme) → l ≤ l' → Looser l r → Looser l' r
looser-more l l' [] le h = tt
looser-more l l' (t ∷ ts) le h = λ p is. let below = h p is in omega arith

looser-none : (l : ℕ) (r : List Lexeme) → NoOperator r → Looser l r
looser-none l [] h = tt
looser-none l (t ∷ ts) h = λ p is. absurd (let bad : None ≡ Some p = sym h ∙ is in cc)

-- an operator of level j stands at m, so the phrase before it ends above j, and not where only looser ones may come
operator-closed : (j : ℕ) (p : Operator) (m rest : List Lexeme) → operator_at j p m rest → Looser (suc j) m
operator-closed j p m rest (u, is, w) =
    rw w (λ q is'. let some : Some p ≡ Some q = sym is.0 ∙ is' in let both : p ≡ q = cc in let l : level q ≡ j = ap level (sym both) ∙ is.1 in omega arith)

operator-no_end : (l j : ℕ) (p : Operator) (m rest : List Lexeme) → l ≤ j → operator_at j p m rest → Looser l m → ⊥
operator-no_end l j p m rest le (u, is, w) h = let h' = rw w at h in let below = h' p is.0 in let same = is.1 in omega arith

some-first : (t : Tails ℕ) (row j : ℕ) (m rest : List Lexeme) → first_tail t row j m rest → (p : Operator) × (m' : List Lexeme) × operator_at j p m m'
some-first no_tails row j m rest h = absurd h
some-first (tail_then line p e t) row j m rest (same, (m', o, h)) = (p, m', o)

some-closed : (t : Tails ℕ) (row j : ℕ) (m rest : List Lexeme) → NoStep rest → first_tail t row j m rest → Closed (suc j) m
some-closed t row j m rest ok h =
    let f = some-first t row j m rest h in
    (operator-closed j f.0 m f.1 f.2, NoStep-tails t row j m rest (first_tail-tails t row j m rest h) ok)

some-no_end : (t : Tails ℕ) (row l j : ℕ) (m rest : List Lexeme) → l ≤ j → first_tail t row j m rest → Looser l m → ⊥
some-no_end t row l j m rest le h loose = let f = some-first t row j m rest h in operator-no_end l j f.0 m f.1 le f.2 loose

-- ---- one expression

abbrev pub Same : Expression ℕ → Expression ℕ → List Lexeme → List Lexeme → Type 0
Same e e' r r' = (e ≡ e') × (r ≡ r')

abbrev IsOperand : Expression ℕ → Type 0
IsOperand (expr.Chain line e t) = ⊥
IsOperand _ = Unit {0}

abbrev Alone : Expression ℕ → List Lexeme → List Lexeme → Type 0
Alone e ts r = (e' : Expression ℕ) (r' : List Lexeme) → IsOperand e' → ((l : ℕ) → expression e' l ts r') → NoStep r → NoStep r' → Same e e' r r'

-- an operand that equals each operand at its place is no front of a chain there
operand_alone : (e : Expression ℕ) (ts r : List Lexeme) → ((l : ℕ) → expression e l ts r) → Alone e ts r
    → (l : ℕ) (e' : Expression ℕ) (r' : List Lexeme) → expression e' l ts r' → Closed l r → Closed l r' → Same e e' r r'
operand_alone e ts r he op l (expr.Chain line e' t) r' (a, (j, lower, upper, (m, h, ht))) ends ends' =
    let same = operand_alone e ts r he op (suc j) e' m h (looser-more l (suc j) r (omega arith) ends.0, ends.1) (some-closed t line j m r' ends'.1 ht) in
    absurd (some-no_end t line l j m r' lower ht (subst (Looser l) same.1 ends.0))
operand_alone e ts r he op l e' r' h ends ends' = op e' r' tt (λ _. h) ends.1 ends'.1

-- no operand takes a whole chain
chain_operand : (line : ℕ) (e : Expression ℕ) (t : Tails ℕ) (k : ℕ) (ts m r : List Lexeme) → first_tail t line k m r
    → ((e' : Expression ℕ) (r' : List Lexeme) → expression e' (suc k) ts r' → Closed (suc k) m → Closed (suc k) r' → Same e e' m r')
    → (l : ℕ) → l ≤ k → (e' : Expression ℕ) (r' : List Lexeme) → ((l : ℕ) → expression e' l ts r') → Closed l r → Closed l r' → Same (expr.Chain line e t) e' r r'
chain_operand line e t k ts m r ht one l le e' r' h ends ends' =
    let same = one e' r' (h (suc k)) (some-closed t line k m r ends.1 ht) (looser-more l (suc k) r' (omega arith) ends'.0, ends'.1) in
    absurd (some-no_end t line l k m r le ht (subst (Looser l) (sym same.1) ends'.0))

-- the same of a chain, whose first operand and tails are known to be alone
chain_alone : (line : ℕ) (e : Expression ℕ) (t : Tails ℕ) (k : ℕ) (ts m r : List Lexeme) → k < 7 → At line ts → expression e (suc k) ts m → first_tail t line k m r
    → ((e' : Expression ℕ) (r' : List Lexeme) → expression e' (suc k) ts r' → Closed (suc k) m → Closed (suc k) r' → Same e e' m r')
    → ((t' : Tails ℕ) (r' : List Lexeme) → tails t' line k m r' → Looser k r → NoStep r → Looser k r' → NoStep r' → (t ≡ t') × (r ≡ r'))
    → (l : ℕ) → l ≤ k → (e' : Expression ℕ) (r' : List Lexeme) → expression e' l ts r' → Closed l r → Closed l r' → Same (expr.Chain line e t) e' r r'
chain_alone line e t k ts m r small a he ht one rest l le (expr.Chain line' e' t') r' (a', (j, lower, upper, (m', he', ht'))) ends ends' =
    elim (lt_or_le k j) [
      | inl below ↦
          let same = one (expr.Chain line' e' t') r' (a', (j, below, upper, (m', he', ht'))) (some-closed t line k m r ends.1 ht) (looser-more l (suc k) r' (omega arith) ends'.0, ends'.1) in
          absurd (some-no_end t line l k m r le ht (subst (Looser l) (sym same.1) ends'.0))
      | inr above ↦ elim (lt_or_le j k) [
        | inl below ↦
            let same = chain_alone line e t k ts m r small a he ht one rest (suc j) below e' m' he' (looser-more l (suc j) r (omega arith) ends.0, ends.1) (some-closed t' line' j m' r' ends'.1 ht') in
            absurd (some-no_end t' line' l j m' r' lower ht' (subst (Looser l) same.1 ends.0))
        | inr above' ↦
            let level_same : j ≡ k = omega arith in
            let row_same : line' ≡ line = line-same line' line ts a' a in
            let he'' = rw level_same at he' in
            let ht'' = rw (level_same, row_same) at ht' in
            let same = one e' m' he'' (some-closed t line k m r ends.1 ht) (some-closed t' line k m' r' ends'.1 ht'') in
            let same' = rest t' r' (subst (λ u. tails t' line k u r') (sym same.1) (first_tail-tails t' line k m' r' ht'')) (looser-more l k r le ends.0) ends.1 (looser-more l k r' le ends'.0) ends'.1 in
            ((let i = same.0 in let j = same'.0 in cc), same'.1)
      ]
    ]
chain_alone line e t k ts m r small a he ht one rest l le e' r' h ends ends' = chain_operand line e t k ts m r ht one l le e' r' (λ _. h) ends ends'

-- ---- operands, given their parts

abbrev pub OneSelectors : Selectors ℕ → Type 0
OneSelectors s = (s' : Selectors ℕ) (ts r r' : List Lexeme) → selectors s ts r → selectors s' ts r' → NoSelector r → NoSelector r' → (s ≡ s') × (r ≡ r')

abbrev pub OneList : Arguments ℕ → Type 0
OneList xs = (xs' : Arguments ℕ) (ts m r m' r' : List Lexeme) → arguments xs ts m → sign x.Close m r → arguments xs' ts m' → sign x.Close m' r' → (xs ≡ xs') × (r ≡ r')

abbrev pub OneExpression : Expression ℕ → Type 0
OneExpression e = (l : ℕ) (e' : Expression ℕ) (ts r r' : List Lexeme) → expression e l ts r → expression e' l ts r' → Closed l r → Closed l r' → Same e e' r r'

pub selector-sign : (s : Terminal) (ts rest : List Lexeme) → IsNoSelector s → sign s ts rest → NoSelector ts
selector-sign s ts rest h (t, is, w) = rw w (is_sign IsNoSelector s t.terminal is h)

-- two phrases, of which the one ends before `(` or `#`, and the other where no step follows
open-step : (m r : List Lexeme) → sign x.Open m r → NoStep m → ⊥
open-step m r (t, is, w) h = (rw (w, is) at h)

hash-not : (m r : List Lexeme) → sign x.Hash m r → NotNext x.Hash m → ⊥
hash-not m r (t, is, w) h = (rw w at h) is

open-not_hash : (u w : List Lexeme) → sign x.Open u w → NotNext x.Hash u
open-not_hash u w (t, is, e) = rw e (λ bad. let both : x.Open ≡ x.Hash = sym is ∙ bad in cc)

close-not : (m r : List Lexeme) → sign x.Close m r → NotNext x.Close m → ⊥
close-not m r (t, is, w) h = (rw w at h) is

pub one-literal : (v v' : Literal) (ts r r' : List Lexeme) → literal v ts r → literal v' ts r' → (v ≡ v') × (r ≡ r')
one-literal (literals.Int n) (literals.Int n') ts r r' h h' = let both = spelled-same x.Int n n' ts r r' h h' in (ap literals.Int both.0, both.1)
one-literal (literals.Int n) (literals.Negative n') ts r r' h (m', h', d') = absurd (let bad = sign-mismatch x.Int x.Minus ts r m' (signed x.Int n ts r h) h' in cc)
one-literal (literals.Int n) literals.True ts r r' h h' = absurd (let bad = sign-mismatch x.Int x.True ts r r' (signed x.Int n ts r h) h' in cc)
one-literal (literals.Int n) literals.False ts r r' h h' = absurd (let bad = sign-mismatch x.Int x.False ts r r' (signed x.Int n ts r h) h' in cc)
one-literal (literals.Negative n) (literals.Int n') ts r r' (m, h, d) h' = absurd (let bad = sign-mismatch x.Minus x.Int ts m r' h (signed x.Int n' ts r' h') in cc)
one-literal (literals.Negative n) (literals.Negative n') ts r r' (m, h, d) (m', h', d') =
    let same = sign-rest x.Minus x.Minus ts m m' h h' in
    let both = spelled-same x.Int n n' m r r' d (subst (λ u. spelled x.Int n' u r') (sym same) d') in
    (ap literals.Negative both.0, both.1)
one-literal (literals.Negative n) literals.True ts r r' (m, h, d) h' = absurd (let bad = sign-mismatch x.Minus x.True ts m r' h h' in cc)
one-literal (literals.Negative n) literals.False ts r r' (m, h, d) h' = absurd (let bad = sign-mismatch x.Minus x.False ts m r' h h' in cc)
one-literal literals.True (literals.Int n') ts r r' h h' = absurd (let bad = sign-mismatch x.True x.Int ts r r' h (signed x.Int n' ts r' h') in cc)
one-literal literals.True (literals.Negative n') ts r r' h (m', h', d') = absurd (let bad = sign-mismatch x.True x.Minus ts r m' h h' in cc)
one-literal literals.True literals.True ts r r' h h' = (refl, sign-rest x.True x.True ts r r' h h')
one-literal literals.True literals.False ts r r' h h' = absurd (let bad = sign-mismatch x.True x.False ts r r' h h' in cc)
one-literal literals.False (literals.Int n') ts r r' h h' = absurd (let bad = sign-mismatch x.False x.Int ts r r' h (signed x.Int n' ts r' h') in cc)
one-literal literals.False (literals.Negative n') ts r r' h (m', h', d') = absurd (let bad = sign-mismatch x.False x.Minus ts r m' h h' in cc)
one-literal literals.False literals.True ts r r' h h' = absurd (let bad = sign-mismatch x.False x.True ts r r' h h' in cc)
one-literal literals.False literals.False ts r r' h h' = (refl, sign-rest x.False x.False ts r r' h h')

pub one-root : (p p' : Root ℕ) (ts r r' : List Lexeme) → root p ts r → root p' ts r' → (p ≡ p') × (r ≡ r')
one-root (roots.Name l n) (roots.Name l' n') ts r r' (a, h) (a', h') =
    let both = spelled-same x.Word n n' ts r r' h h' in
    ((let i = line-same l l' ts a a' in let j = both.0 in cc), both.1)
one-root (roots.Name l n) (roots.This l') ts r r' (a, h) (a', h') = absurd (let bad = sign-mismatch x.Word x.This ts r r' (signed x.Word n ts r h) h' in cc)
one-root (roots.Name l n) (roots.Super l') ts r r' (a, h) (a', h') = absurd (let bad = sign-mismatch x.Word x.Super ts r r' (signed x.Word n ts r h) h' in cc)
one-root (roots.This l) (roots.Name l' n') ts r r' (a, h) (a', h') = absurd (let bad = sign-mismatch x.This x.Word ts r r' h (signed x.Word n' ts r' h') in cc)
one-root (roots.This l) (roots.This l') ts r r' (a, h) (a', h') = (ap roots.This (line-same l l' ts a a'), sign-rest x.This x.This ts r r' h h')
one-root (roots.This l) (roots.Super l') ts r r' (a, h) (a', h') = absurd (let bad = sign-mismatch x.This x.Super ts r r' h h' in cc)
one-root (roots.Super l) (roots.Name l' n') ts r r' (a, h) (a', h') = absurd (let bad = sign-mismatch x.Super x.Word ts r r' h (signed x.Word n' ts r' h') in cc)
one-root (roots.Super l) (roots.This l') ts r r' (a, h) (a', h') = absurd (let bad = sign-mismatch x.Super x.This ts r r' h h' in cc)
one-root (roots.Super l) (roots.Super l') ts r r' (a, h) (a', h') = (ap roots.Super (line-same l l' ts a a'), sign-rest x.Super x.Super ts r r' h h')

-- a name and what begins a place take one lexeme
root-word : (p : Root ℕ) (n : List ℕ) (ts r r' : List Lexeme) → root p ts r → word n ts r' → r ≡ r'
root-word (roots.Name l n) n' ts r r' (a, h) h' = (spelled-same x.Word n n' ts r r' h h').1
root-word (roots.This l) n' ts r r' (a, h) h' = sign-rest x.This x.Word ts r r' h (signed x.Word n' ts r' h')
root-word (roots.Super l) n' ts r r' (a, h) h' = sign-rest x.Super x.Word ts r r' h (signed x.Word n' ts r' h')

one-int : (line : ℕ) (n : List ℕ) (ts r : List Lexeme) → expression (expr.Int line n) 7 ts r → Alone (expr.Int line n) ts r
one-int line n ts r (a, h) (expr.Int line' n') r' is h' s s' =
    let g = h' 7 in
    let both = spelled-same x.Int n n' ts r r' h g.1 in
    ((let i = line-same line line' ts a g.0 in let j = both.0 in cc), both.1)
one-int line n ts r h (expr.Chain line' e t) r' is h' s s' = absurd is
one-int line n ts r h e' r' is h' s s' = absurd (let bad = mismatch (expr.Int line n) e' ts r r' h (h' 7) in cc)

one-time : (line : ℕ) (n : List ℕ) (ts r : List Lexeme) → expression (expr.Time line n) 7 ts r → Alone (expr.Time line n) ts r
one-time line n ts r (a, h) (expr.Time line' n') r' is h' s s' =
    let g = h' 7 in
    let both = spelled-same x.Duration n n' ts r r' h g.1 in
    ((let i = line-same line line' ts a g.0 in let j = both.0 in cc), both.1)
one-time line n ts r h (expr.Chain line' e t) r' is h' s s' = absurd is
one-time line n ts r h e' r' is h' s s' = absurd (let bad = mismatch (expr.Time line n) e' ts r r' h (h' 7) in cc)

one-true : (line : ℕ) (ts r : List Lexeme) → expression (expr.True line) 7 ts r → Alone (expr.True line) ts r
one-true line ts r (a, h) (expr.True line') r' is h' s s' = let g = h' 7 in (ap expr.True (line-same line line' ts a g.0), sign-rest x.True x.True ts r r' h g.1)
one-true line ts r h (expr.Chain line' e t) r' is h' s s' = absurd is
one-true line ts r h e' r' is h' s s' = absurd (let bad = mismatch (expr.True line) e' ts r r' h (h' 7) in cc)

one-false : (line : ℕ) (ts r : List Lexeme) → expression (expr.False line) 7 ts r → Alone (expr.False line) ts r
one-false line ts r (a, h) (expr.False line') r' is h' s s' = let g = h' 7 in (ap expr.False (line-same line line' ts a g.0), sign-rest x.False x.False ts r r' h g.1)
one-false line ts r h (expr.Chain line' e t) r' is h' s s' = absurd is
one-false line ts r h e' r' is h' s s' = absurd (let bad = mismatch (expr.False line) e' ts r r' h (h' 7) in cc)

one-null : (line : ℕ) (ts r : List Lexeme) → expression (expr.Null line) 7 ts r → Alone (expr.Null line) ts r
one-null line ts r (a, h) (expr.Null line') r' is h' s s' = let g = h' 7 in (ap expr.Null (line-same line line' ts a g.0), sign-rest x.Null x.Null ts r r' h g.1)
one-null line ts r h (expr.Chain line' e t) r' is h' s s' = absurd is
one-null line ts r h e' r' is h' s s' = absurd (let bad = mismatch (expr.Null line) e' ts r r' h (h' 7) in cc)

one-typed : (line : ℕ) (k : Elem) (v : Literal) (ts r : List Lexeme) → expression (expr.Typed line k v) 7 ts r → Alone (expr.Typed line k v) ts r
one-typed line k v ts r (a, (m, h, (m2, hash, hv))) (expr.Typed line' k' v') r' is h' s s' =
    let g = h' 7 in
    let kinds' = sign-mismatch (x.Kind k) (x.Kind k') ts m g.1.0 h g.1.1 in
    let same = sign-rest (x.Kind k) (x.Kind k') ts m g.1.0 h g.1.1 in
    let same2 = sign-rest x.Hash x.Hash m m2 g.1.2.0 hash (subst (λ u. sign x.Hash u g.1.2.0) (sym same) g.1.2.1) in
    let values = one-literal v v' m2 r r' hv (subst (λ u. literal v' u r') (sym same2) g.1.2.2) in
    ((let i = line-same line line' ts a g.0 in let j = values.0 in cc), values.1)
one-typed line k v ts r (a, (m, h, (m2, hash, hv))) (expr.Now line') r' is h' s s' =
    let g = h' 7 in
    let same = sign-rest (x.Kind k) (x.Kind kind.Time) ts m g.1.0 h g.1.1 in
    absurd (let bad = sign-mismatch x.Hash x.Open m m2 g.1.2.0 hash (subst (λ u. sign x.Open u g.1.2.0) (sym same) g.1.2.1) in cc)
one-typed line k v ts r h (expr.Chain line' e t) r' is h' s s' = absurd is
one-typed line k v ts r h e' r' is h' s s' = absurd (let bad = mismatch (expr.Typed line k v) e' ts r r' h (h' 7) in cc)

one-now : (line : ℕ) (ts r : List Lexeme) → expression (expr.Now line) 7 ts r → Alone (expr.Now line) ts r
one-now line ts r (a, (m, h, (m2, o, c))) (expr.Now line') r' is h' s s' =
    let g = h' 7 in
    let same = sign-rest (x.Kind kind.Time) (x.Kind kind.Time) ts m g.1.0 h g.1.1 in
    let same2 = sign-rest x.Open x.Open m m2 g.1.2.0 o (subst (λ u. sign x.Open u g.1.2.0) (sym same) g.1.2.1) in
    (ap expr.Now (line-same line line' ts a g.0), sign-rest x.Close x.Close m2 r r' c (subst (λ u. sign x.Close u r') (sym same2) g.1.2.2))
one-now line ts r (a, (m, h, (m2, o, c))) (expr.Typed line' k' v') r' is h' s s' =
    let g = h' 7 in
    let same = sign-rest (x.Kind kind.Time) (x.Kind k') ts m g.1.0 h g.1.1 in
    absurd (let bad = sign-mismatch x.Open x.Hash m m2 g.1.2.0 o (subst (λ u. sign x.Hash u g.1.2.0) (sym same) g.1.2.1) in cc)
one-now line ts r h (expr.Chain line' e t) r' is h' s s' = absurd is
one-now line ts r h e' r' is h' s s' = absurd (let bad = mismatch (expr.Now line) e' ts r r' h (h' 7) in cc)

one-enumerator : (line : ℕ) (n : List ℕ) (later : ℕ) (v : List ℕ) (ts r : List Lexeme) → expression (expr.Enumerator line n later v) 7 ts r → Alone (expr.Enumerator line n later v) ts r
one-enumerator line n later v ts r (a, (m, h, (m2, hash, (b, hv)))) (expr.Enumerator line' n' later' v') r' is h' s s' =
    let g = h' 7 in
    let both = spelled-same x.Word n n' ts m g.1.0 h g.1.1 in
    let same2 = sign-rest x.Hash x.Hash m m2 g.1.2.0 hash (subst (λ u. sign x.Hash u g.1.2.0) (sym both.1) g.1.2.1) in
    let values = spelled-same x.Word v v' m2 r r' hv (subst (λ u. word v' u r') (sym same2) g.1.2.2.1) in
    let lines = line-same later later' m2 b (subst (At later') (sym same2) g.1.2.2.0) in
    ((let i = line-same line line' ts a g.0 in let j = values.0 in let k = both.0 in cc), values.1)
one-enumerator line n later v ts r (a, (m, h, (m2, hash, hv))) (expr.Place line' p s0) r' is h' s s' =
    let g = h' 7 in
    let same = root-word p n ts g.1.0 m g.1.1 h in
    absurd (hash-not m m2 hash (subst (NotNext x.Hash) same (not_hash-selectors s0 g.1.0 r' g.1.2 (NoStep-not_hash r' s'))))
one-enumerator line n later v ts r (a, (m, h, (m2, hash, hv))) (expr.Call line' p s0 xs) r' is h' s s' =
    let g = h' 7 in
    let same = root-word p n ts g.1.0 m g.1.1 h in
    absurd (hash-not m m2 hash (subst (NotNext x.Hash) same (not_hash-selectors s0 g.1.0 g.1.2.0 g.1.2.1 (open-not_hash g.1.2.0 g.1.2.2.0 g.1.2.2.1))))
one-enumerator line n later v ts r h (expr.Chain line' e t) r' is h' s s' = absurd is
one-enumerator line n later v ts r h e' r' is h' s s' = absurd (let bad = mismatch (expr.Enumerator line n later v) e' ts r r' h (h' 7) in cc)

one-place : (line : ℕ) (p : Root ℕ) (q : Selectors ℕ) (ts r : List Lexeme) → expression (expr.Place line p q) 7 ts r → OneSelectors q → Alone (expr.Place line p q) ts r
one-place line p q ts r (a, (m, w, hq)) one (expr.Place line' p' q') r' is h' s s' =
    let g = h' 7 in
    let both = one-root p p' ts m g.1.0 w g.1.1 in
    let qs = one q' m r r' hq (subst (λ u. selectors q' u r') (sym both.1) g.1.2) (no_selector r s) (no_selector r' s') in
    ((let i = line-same line line' ts a g.0 in let j = both.0 in let k = qs.0 in cc), qs.1)
one-place line p q ts r (a, (m, w, hq)) one (expr.Call line' p' q' xs') r' is h' s s' =
    let g = h' 7 in
    let both = one-root p p' ts m g.1.0 w g.1.1 in
    let qs = one q' m r g.1.2.0 hq (subst (λ u. selectors q' u g.1.2.0) (sym both.1) g.1.2.1) (no_selector r s) (selector-sign x.Open g.1.2.0 g.1.2.2.0 tt g.1.2.2.1) in
    absurd (open-step g.1.2.0 g.1.2.2.0 g.1.2.2.1 (subst NoStep qs.1 s))
one-place line p q ts r (a, (m, w, hq)) one (expr.Enumerator line' n' later' v') r' is h' s s' =
    let g = h' 7 in
    let same = root-word p n' ts m g.1.0 w g.1.1 in
    absurd (hash-not g.1.0 g.1.2.0 g.1.2.1 (subst (NotNext x.Hash) same (not_hash-selectors q m r hq (NoStep-not_hash r s))))
one-place line p q ts r h one (expr.Chain line' e t) r' is h' s s' = absurd is
one-place line p q ts r h one e' r' is h' s s' = absurd (let bad = mismatch (expr.Place line p q) e' ts r r' h (h' 7) in cc)

one-call : (line : ℕ) (p : Root ℕ) (q : Selectors ℕ) (xs : Arguments ℕ) (ts r : List Lexeme) → expression (expr.Call line p q xs) 7 ts r → OneSelectors q → OneList xs → Alone (expr.Call line p q xs) ts r
one-call line p q xs ts r (a, (m, w, (m2, hq, (m3, o, (m4, ha, hc))))) one list (expr.Call line' p' q' xs') r' is h' s s' =
    let g = h' 7 in
    let both = one-root p p' ts m g.1.0 w g.1.1 in
    let qs = one q' m m2 g.1.2.0 hq (subst (λ u. selectors q' u g.1.2.0) (sym both.1) g.1.2.1) (selector-sign x.Open m2 m3 tt o) (selector-sign x.Open g.1.2.0 g.1.2.2.0 tt g.1.2.2.1) in
    let os = sign-rest x.Open x.Open m2 m3 g.1.2.2.0 o (subst (λ u. sign x.Open u g.1.2.2.0) (sym qs.1) g.1.2.2.1) in
    let as' = list xs' m3 m4 r g.1.2.2.2.0 r' ha hc (subst (λ u. arguments xs' u g.1.2.2.2.0) (sym os) g.1.2.2.2.1) g.1.2.2.2.2 in
    ((let i = line-same line line' ts a g.0 in let j = both.0 in let k = qs.0 in let l = as'.0 in cc), as'.1)
one-call line p q xs ts r (a, (m, w, (m2, hq, (m3, o, hc)))) one list (expr.Place line' p' q') r' is h' s s' =
    let g = h' 7 in
    let both = one-root p p' ts m g.1.0 w g.1.1 in
    let qs = one q' m m2 r' hq (subst (λ u. selectors q' u r') (sym both.1) g.1.2) (selector-sign x.Open m2 m3 tt o) (no_selector r' s') in
    absurd (open-step m2 m3 o (subst NoStep (sym qs.1) s'))
one-call line p q xs ts r (a, (m, w, (m2, hq, (m3, o, hc)))) one list (expr.Enumerator line' n' later' v') r' is h' s s' =
    let g = h' 7 in
    let same = root-word p n' ts m g.1.0 w g.1.1 in
    absurd (hash-not g.1.0 g.1.2.0 g.1.2.1 (subst (NotNext x.Hash) same (not_hash-selectors q m m2 hq (open-not_hash m2 m3 o))))
one-call line p q xs ts r h one list (expr.Chain line' e t) r' is h' s s' = absurd is
one-call line p q xs ts r h one list e' r' is h' s s' = absurd (let bad = mismatch (expr.Call line p q xs) e' ts r r' h (h' 7) in cc)

one-ref : (line : ℕ) (p : Root ℕ) (q : Selectors ℕ) (ts r : List Lexeme) → expression (expr.Ref line p q) 7 ts r → OneSelectors q → Alone (expr.Ref line p q) ts r
one-ref line p q ts r (a, (m, h, (m2, o, (m3, hp, (m4, hq, c))))) one (expr.Ref line' p' q') r' is h' s s' =
    let g = h' 7 in
    let same = sign-rest x.Ref x.Ref ts m g.1.0 h g.1.1 in
    let same2 = sign-rest x.Open x.Open m m2 g.1.2.0 o (subst (λ u. sign x.Open u g.1.2.0) (sym same) g.1.2.1) in
    let both = one-root p p' m2 m3 g.1.2.2.0 hp (subst (λ u. root p' u g.1.2.2.0) (sym same2) g.1.2.2.1) in
    let qs = one q' m3 m4 g.1.2.2.2.0 hq (subst (λ u. selectors q' u g.1.2.2.2.0) (sym both.1) g.1.2.2.2.1) (selector-sign x.Close m4 r tt c) (selector-sign x.Close g.1.2.2.2.0 r' tt g.1.2.2.2.2) in
    ((let i = line-same line line' ts a g.0 in let j = both.0 in let k = qs.0 in cc), sign-rest x.Close x.Close m4 r r' c (subst (λ u. sign x.Close u r') (sym qs.1) g.1.2.2.2.2))
one-ref line p q ts r h one (expr.Chain line' e t) r' is h' s s' = absurd is
one-ref line p q ts r h one e' r' is h' s s' = absurd (let bad = mismatch (expr.Ref line p q) e' ts r r' h (h' 7) in cc)

closed-sign : (l : ℕ) (s : Terminal) (m r : List Lexeme) → IsNoStep s → operator_of s ≡ None → sign s m r → Closed l m
closed-sign l s m r step o h = (loose l s m r o h, no_step-sign s m r step h)
  where
    loose : (l : ℕ) (s : Terminal) (m r : List Lexeme) → operator_of s ≡ None → sign s m r → Looser l m
    loose l s m r o (t, is, w) = rw w (λ p is'. absurd (let bad : None ≡ Some p = sym o ∙ ap operator_of (sym is) ∙ is' in cc))

small : (u : List Lexeme) → Looser 7 u
small [] = tt
small (t ∷ ts) = λ p i. below p
  where
    below : (p : Operator) → level p < 7
    below p = level-small p

one-complement : (line : ℕ) (e : Expression ℕ) (ts r : List Lexeme) → expression (expr.Not line e) 7 ts r → OneExpression e → Alone (expr.Not line e) ts r
one-complement line e ts r (a, (m, w, h)) one (expr.Not line' e') r' is h' s s' =
    let g = h' 7 in
    let same = sign-rest x.Not x.Not ts m g.1.0 w g.1.1 in
    let found = one 7 e' m r r' h (subst (λ u. expression e' 7 u r') (sym same) g.1.2) (small r, s) (small r', s') in
    ((let i = line-same line line' ts a g.0 in let j = found.0 in cc), found.1)
one-complement line e ts r h one (expr.Chain line' e1 t) r' is h' s s' = absurd is
one-complement line e ts r h one e' r' is h' s s' = absurd (let bad = mismatch (expr.Not line e) e' ts r r' h (h' 7) in cc)

one-minus : (line : ℕ) (e : Expression ℕ) (ts r : List Lexeme) → expression (expr.Negate line e) 7 ts r → OneExpression e → Alone (expr.Negate line e) ts r
one-minus line e ts r (a, (m, w, h)) one (expr.Negate line' e') r' is h' s s' =
    let g = h' 7 in
    let same = sign-rest x.Minus x.Minus ts m g.1.0 w g.1.1 in
    let found = one 7 e' m r r' h (subst (λ u. expression e' 7 u r') (sym same) g.1.2) (small r, s) (small r', s') in
    ((let i = line-same line line' ts a g.0 in let j = found.0 in cc), found.1)
one-minus line e ts r h one (expr.Chain line' e1 t) r' is h' s s' = absurd is
one-minus line e ts r h one e' r' is h' s s' = absurd (let bad = mismatch (expr.Negate line e) e' ts r r' h (h' 7) in cc)

one-paren : (line : ℕ) (e : Expression ℕ) (ts r : List Lexeme) → expression (expr.Paren line e) 7 ts r → OneExpression e → Alone (expr.Paren line e) ts r
one-paren line e ts r (a, (m, w, (m2, h, c))) one (expr.Paren line' e') r' is h' s s' =
    let g = h' 7 in
    let same = sign-rest x.Open x.Open ts m g.1.0 w g.1.1 in
    let found = one 0 e' m m2 g.1.2.0 h (subst (λ u. expression e' 0 u g.1.2.0) (sym same) g.1.2.1) (closed-sign 0 x.Close m2 r tt refl c) (closed-sign 0 x.Close g.1.2.0 r' tt refl g.1.2.2) in
    ((let i = line-same line line' ts a g.0 in let j = found.0 in cc), sign-rest x.Close x.Close m2 r r' c (subst (λ u. sign x.Close u r') (sym found.1) g.1.2.2))
one-paren line e ts r h one (expr.Chain line' e1 t) r' is h' s s' = absurd is
one-paren line e ts r h one e' r' is h' s s' = absurd (let bad = mismatch (expr.Paren line e) e' ts r r' h (h' 7) in cc)

-- ---- lists, given their elements

more-closed : (l : ℕ) (es : Expressions ℕ) (ts m r : List Lexeme) → more_expressions es ts m → sign x.CloseBracket m r → Closed l ts
more-closed l no_expressions ts m r h c = subst (Closed l) (sym h) (closed-sign l x.CloseBracket m r tt refl c)
more-closed l (expression_then e es) ts m r (m1, comma, h) c = closed-sign l x.Comma ts m1 tt refl comma

rest-closed : (l : ℕ) (xs : Arguments ℕ) (ts m r : List Lexeme) → more_arguments xs ts m → sign x.Close m r → Closed l ts
rest-closed l no_arguments ts m r h c = subst (Closed l) (sym h) (closed-sign l x.Close m r tt refl c)
rest-closed l (argument_then a xs) ts m r (m1, comma, h) c = closed-sign l x.Comma ts m1 tt refl comma

abbrev OneMore : Expressions ℕ → Type 0
OneMore es = (es' : Expressions ℕ) (ts m r m' r' : List Lexeme)
    → more_expressions es ts m → sign x.CloseBracket m r → more_expressions es' ts m' → sign x.CloseBracket m' r' → (es ≡ es') × (r ≡ r')

abbrev OneRest : Arguments ℕ → Type 0
OneRest xs = (xs' : Arguments ℕ) (ts m r m' r' : List Lexeme)
    → more_arguments xs ts m → sign x.Close m r → more_arguments xs' ts m' → sign x.Close m' r' → (xs ≡ xs') × (r ≡ r')

abbrev OneTails : Tails ℕ → Type 0
OneTails t = (row j : ℕ) (t' : Tails ℕ) (ts r r' : List Lexeme) → tails t row j ts r → tails t' row j ts r' → Looser j r → NoStep r → Looser j r' → NoStep r' → (t ≡ t') × (r ≡ r')

tails-closed : (t : Tails ℕ) (row j : ℕ) (ts r : List Lexeme) → tails t row j ts r → Looser j r → NoStep r → Closed (suc j) ts
tails-closed no_tails row j ts r h loose s = subst (Closed (suc j)) (sym h) (looser-more j (suc j) r (omega arith) loose, s)
tails-closed (tail_then line p e t) row j ts r h loose s = some-closed (tail_then line p e t) row j ts r s h

operator_next : List Lexeme → Option Operator
operator_next [] = None
operator_next (t ∷ ts) = operator_of t.terminal

operator-same : (j : ℕ) (p p' : Operator) (ts m m' : List Lexeme) → operator_at j p ts m → operator_at j p' ts m' → (p ≡ p') × (m ≡ m')
unfolding operator_next
operator-same j p p' ts m m' (t, is, w) (t', is', w') =
    let both : Some p ≡ Some p' = sym is.0 ∙ ap operator_next (sym w ∙ w') ∙ is'.0 in
    (cc, lexeme-rest (λ t. (operator_of t.terminal ≡ Some p) × (level p ≡ j)) (λ t. (operator_of t.terminal ≡ Some p') × (level p' ≡ j)) ts m m' (t, is, w) (t', is', w'))

selector-no_selector : (s : Selector ℕ) (ts m : List Lexeme) → selector s ts m → NoSelector ts → ⊥
selector-no_selector (expr.Field line n) ts m (m1, (t, is, w), h) ends = (rw (w, is) at ends)
selector-no_selector (expr.Index line es) ts m (a, (m1, (t, is, w), h)) ends = (rw (w, is) at ends)
selector-no_selector (expr.Target line) ts m (a, (t, is, w)) ends = (rw (w, is) at ends)

-- a name and `:=` or `=>` begin no expression
named-not : (e : Expression ℕ) (n : List ℕ) (s : Terminal) (ts r m m' : List Lexeme) → expression e 0 ts r → NoNaming r → word n ts m → sign s m m' → (NoNaming m → ⊥) → ⊥
named-not e n s ts r m m' h ok (t, is, w) h' bad = let p = rw w at (positional-expression e 0 ts r h ok) in bad (p is.0)

assign-naming : (m r : List Lexeme) → sign x.Assign m r → NoNaming m → ⊥
assign-naming m r (t, is, w) h = (rw (w, is) at h)

sends-naming : (m r : List Lexeme) → sign x.Sends m r → NoNaming m → ⊥
sends-naming m r (t, is, w) h = (rw (w, is) at h)

abbrev OneArgument : Argument ℕ → Type 0
OneArgument a = (a' : Argument ℕ) (ts r r' : List Lexeme) → argument a ts r → argument a' ts r' → Closed 0 r → NoNaming r → Closed 0 r' → NoNaming r' → (a ≡ a') × (r ≡ r')

one-input : (line : ℕ) (n : List ℕ) (e : Expression ℕ) → OneExpression e → OneArgument (expr.Input line n e)
one-input line n e one (expr.Positional e') ts r r' (m, (a, w), (m2, assign, h)) h' c ok c' ok' =
    absurd (named-not e' n x.Assign ts r' m m2 h' ok' w assign (assign-naming m m2 assign))
one-input line n e one (expr.Input line' n' e') ts r r' (m, (a, w), (m2, assign, h)) (m', (a', w'), (m2', assign', h')) c ok c' ok' =
    let both = spelled-same x.Word n n' ts m m' w w' in
    let same = sign-rest x.Assign x.Assign m m2 m2' assign (subst (λ u. sign x.Assign u m2') (sym both.1) assign') in
    let found = one 0 e' m2 r r' h (subst (λ u. expression e' 0 u r') (sym same) h') c c' in
    ((let i = line-same line line' ts a a' in let j = both.0 in let k = found.0 in cc), found.1)
one-input line n e one (expr.Output line' n' later' p' q') ts r r' (m, (a, w), (m2, assign, h)) (m', (a', w'), (m2', sends, h')) c ok c' ok' =
    let both = spelled-same x.Word n n' ts m m' w w' in
    absurd (let bad = sign-mismatch x.Assign x.Sends m m2 m2' assign (subst (λ u. sign x.Sends u m2') (sym both.1) sends) in cc)

one-output : (line : ℕ) (n : List ℕ) (later : ℕ) (p : Root ℕ) (q : Selectors ℕ) → OneSelectors q → OneArgument (expr.Output line n later p q)
one-output line n later p q one (expr.Positional e') ts r r' (m, (a, w), (m2, sends, h)) h' c ok c' ok' =
    absurd (named-not e' n x.Sends ts r' m m2 h' ok' w sends (sends-naming m m2 sends))
one-output line n later p q one (expr.Input line' n' e') ts r r' (m, (a, w), (m2, sends, h)) (m', (a', w'), (m2', assign, h')) c ok c' ok' =
    let both = spelled-same x.Word n n' ts m m' w w' in
    absurd (let bad = sign-mismatch x.Sends x.Assign m m2 m2' sends (subst (λ u. sign x.Assign u m2') (sym both.1) assign) in cc)
one-output line n later p q one (expr.Output line' n' later' p' q') ts r r' (m, (a, w), (m2, sends, (b, (m3, hp, hq)))) (m', (a', w'), (m2', sends', (b', (m3', hp', hq')))) c ok c' ok' =
    let both = spelled-same x.Word n n' ts m m' w w' in
    let same = sign-rest x.Sends x.Sends m m2 m2' sends (subst (λ u. sign x.Sends u m2') (sym both.1) sends') in
    let lines = line-same later later' m2 b (subst (At later') (sym same) b') in
    let ps = one-root p p' m2 m3 m3' hp (subst (λ u. root p' u m3') (sym same) hp') in
    let qs = one q' m3 r r' hq (subst (λ u. selectors q' u r') (sym ps.1) hq') (no_selector r c.1) (no_selector r' c'.1) in
    ((let i = line-same line line' ts a a' in let j = both.0 in let k = ps.0 in let l = qs.0 in cc), qs.1)

one-positional : (e : Expression ℕ) → OneExpression e → OneArgument (expr.Positional e)
one-positional e one (expr.Positional e') ts r r' h h' c ok c' ok' = let found = one 0 e' ts r r' h h' c c' in (ap expr.Positional found.0, found.1)
one-positional e one (expr.Input line' n' e') ts r r' h (m, (a, w), (m2, assign, h')) c ok c' ok' =
    absurd (named-not e n' x.Assign ts r m m2 h ok w assign (assign-naming m m2 assign))
one-positional e one (expr.Output line' n' later' p' q') ts r r' h (m, (a, w), (m2, sends, h')) c ok c' ok' =
    absurd (named-not e n' x.Sends ts r m m2 h ok w sends (sends-naming m m2 sends))

mutual
  pub one-expression : (e : Expression ℕ) → OneExpression e
  one-expression (expr.Int line n) l e' ts r r' h h' ends ends' = operand_alone (expr.Int line n) ts r (λ _. h) (one-int line n ts r h) l e' r' h' ends ends'
  one-expression (expr.Typed line k v) l e' ts r r' h h' ends ends' = operand_alone (expr.Typed line k v) ts r (λ _. h) (one-typed line k v ts r h) l e' r' h' ends ends'
  one-expression (expr.Time line n) l e' ts r r' h h' ends ends' = operand_alone (expr.Time line n) ts r (λ _. h) (one-time line n ts r h) l e' r' h' ends ends'
  one-expression (expr.True line) l e' ts r r' h h' ends ends' = operand_alone (expr.True line) ts r (λ _. h) (one-true line ts r h) l e' r' h' ends ends'
  one-expression (expr.False line) l e' ts r r' h h' ends ends' = operand_alone (expr.False line) ts r (λ _. h) (one-false line ts r h) l e' r' h' ends ends'
  one-expression (expr.Null line) l e' ts r r' h h' ends ends' = operand_alone (expr.Null line) ts r (λ _. h) (one-null line ts r h) l e' r' h' ends ends'
  one-expression (expr.Place line p q) l e' ts r r' h h' ends ends' = operand_alone (expr.Place line p q) ts r (λ _. h) (one-place line p q ts r h (one-selectors q)) l e' r' h' ends ends'
  one-expression (expr.Call line p q xs) l e' ts r r' h h' ends ends' =
      operand_alone (expr.Call line p q xs) ts r (λ _. h) (one-call line p q xs ts r h (one-selectors q) (one-arguments xs)) l e' r' h' ends ends'
  one-expression (expr.Enumerator line t later n) l e' ts r r' h h' ends ends' = operand_alone (expr.Enumerator line t later n) ts r (λ _. h) (one-enumerator line t later n ts r h) l e' r' h' ends ends'
  one-expression (expr.Ref line p q) l e' ts r r' h h' ends ends' = operand_alone (expr.Ref line p q) ts r (λ _. h) (one-ref line p q ts r h (one-selectors q)) l e' r' h' ends ends'
  one-expression (expr.Now line) l e' ts r r' h h' ends ends' = operand_alone (expr.Now line) ts r (λ _. h) (one-now line ts r h) l e' r' h' ends ends'
  one-expression (expr.Paren line e) l e' ts r r' h h' ends ends' = operand_alone (expr.Paren line e) ts r (λ _. h) (one-paren line e ts r h (one-expression e)) l e' r' h' ends ends'
  one-expression (expr.Not line e) l e' ts r r' h h' ends ends' = operand_alone (expr.Not line e) ts r (λ _. h) (one-complement line e ts r h (one-expression e)) l e' r' h' ends ends'
  one-expression (expr.Negate line e) l e' ts r r' h h' ends ends' = operand_alone (expr.Negate line e) ts r (λ _. h) (one-minus line e ts r h (one-expression e)) l e' r' h' ends ends'
  one-expression (expr.Chain line e t) l e' ts r r' (a, (k, lower, upper, (m, h, ht))) h' ends ends' =
      chain_alone line e t k ts m r upper a h ht
      (λ e2 r2 g c c2. one-expression e (suc k) e2 ts m r2 h g c c2)
      (λ t2 r2 g loose s loose2 s2. one-tails t line k t2 m r r2 (first_tail-tails t line k m r ht) g loose s loose2 s2)
      l lower e' r' h' ends ends'

  one-tails : (t : Tails ℕ) → OneTails t
  one-tails no_tails row j no_tails ts r r' h h' loose s loose' s' = (refl, sym h ∙ h')
  one-tails no_tails row j (tail_then line p e t) ts r r' h h' loose s loose' s' =
      absurd (some-no_end (tail_then line p e t) row j j ts r' (omega arith) h' (subst (Looser j) (sym h) loose))
  one-tails (tail_then line p e t) row j no_tails ts r r' h h' loose s loose' s' =
      absurd (some-no_end (tail_then line p e t) row j j ts r (omega arith) h (subst (Looser j) (sym h') loose'))
  one-tails (tail_then line p e t) row j (tail_then line' p' e' t') ts r r' (same, (m, o, (m2, h, ht))) (same', (m', o', (m2', h', ht'))) loose s loose' s' =
      let ops = operator-same j p p' ts m m' o o' in
      let es = one-expression e (suc j) e' m m2 m2' h (subst (λ u. expression e' (suc j) u m2') (sym ops.1) h') (tails-closed t row j m2 r ht loose s) (tails-closed t' row j m2' r' ht' loose' s') in
      let more = one-tails t row j t' m2 r r' ht (subst (λ u. tails t' row j u r') (sym es.1) ht') loose s loose' s' in
      ((let i = same ∙ sym same' in let k = ops.0 in let q = es.0 in let w = more.0 in cc), more.1)

  pub one-selectors : (s : Selectors ℕ) → OneSelectors s
  one-selectors no_selectors no_selectors ts r r' h h' ends ends' = (refl, sym h ∙ h')
  one-selectors no_selectors (selector_then i s) ts r r' h (m, h', hs) ends ends' = absurd (selector-no_selector i ts m h' (subst NoSelector (sym h) ends))
  one-selectors (selector_then i s) no_selectors ts r r' (m, h, hs) h' ends ends' = absurd (selector-no_selector i ts m h (subst NoSelector (sym h') ends'))
  one-selectors (selector_then i s) (selector_then i' s') ts r r' (m, h, hs) (m', h', hs') ends ends' =
      let first = one-selector i i' ts m m' h h' in
      let more = one-selectors s s' m r r' hs (subst (λ u. selectors s' u r') (sym first.1) hs') ends ends' in
      ((let j = first.0 in let k = more.0 in cc), more.1)

  one-selector : (i i' : Selector ℕ) (ts m m' : List Lexeme) → selector i ts m → selector i' ts m' → (i ≡ i') × (m ≡ m')
  one-selector (expr.Field l n) (expr.Field l' n') ts m m' (m1, d, (a, w)) (m1', d', (a', w')) =
      let same = sign-rest x.Dot x.Dot ts m1 m1' d d' in
      let both = spelled-same x.Word n n' m1 m m' w (subst (λ u. word n' u m') (sym same) w') in
      let lines = line-same l l' m1 a (subst (At l') (sym same) a') in
      ((let i = both.0 in cc), both.1)
  one-selector (expr.Field l n) (expr.Index l' es') ts m m' (m1, d, w) (a', (m1', d', w')) = absurd (let bad = sign-mismatch x.Dot x.OpenBracket ts m1 m1' d d' in cc)
  one-selector (expr.Field l n) (expr.Target l') ts m m' (m1, d, w) (a', d') = absurd (let bad = sign-mismatch x.Dot x.Caret ts m1 m' d d' in cc)
  one-selector (expr.Index l es) (expr.Field l' n') ts m m' (a, (m1, d, w)) (m1', d', w') = absurd (let bad = sign-mismatch x.OpenBracket x.Dot ts m1 m1' d d' in cc)
  one-selector (expr.Index l es) (expr.Index l' es') ts m m' (a, (m1, d, (m2, h, c))) (a', (m1', d', (m2', h', c'))) =
      let same = sign-rest x.OpenBracket x.OpenBracket ts m1 m1' d d' in
      let both = one-first es es' m1 m2 m m2' m' h c (subst (λ u. first_expression es' u m2') (sym same) h') c' in
      ((let i = both.0 in let j = line-same l l' ts a a' in cc), both.1)
  one-selector (expr.Index l es) (expr.Target l') ts m m' (a, (m1, d, w)) (a', d') = absurd (let bad = sign-mismatch x.OpenBracket x.Caret ts m1 m' d d' in cc)
  one-selector (expr.Target l) (expr.Field l' n') ts m m' (a, d) (m1', d', w') = absurd (let bad = sign-mismatch x.Caret x.Dot ts m m1' d d' in cc)
  one-selector (expr.Target l) (expr.Index l' es') ts m m' (a, d) (a', (m1', d', w')) = absurd (let bad = sign-mismatch x.Caret x.OpenBracket ts m m1' d d' in cc)
  one-selector (expr.Target l) (expr.Target l') ts m m' (a, d) (a', d') = (ap expr.Target (line-same l l' ts a a'), sign-rest x.Caret x.Caret ts m m' d d')

  one-first : (es es' : Expressions ℕ) (ts m r m' r' : List Lexeme) → first_expression es ts m → sign x.CloseBracket m r → first_expression es' ts m' → sign x.CloseBracket m' r' → (es ≡ es') × (r ≡ r')
  one-first no_expressions es' ts m r m' r' h c h' c' = absurd h
  one-first (expression_then e es) no_expressions ts m r m' r' h c h' c' = absurd h'
  one-first (expression_then e es) (expression_then e' es') ts m r m' r' (m1, h, hm) c (m1', h', hm') c' =
      let ex = one-expression e 0 e' ts m1 m1' h h' (more-closed 0 es m1 m r hm c) (more-closed 0 es' m1' m' r' hm' c') in
      let rest = one-more es es' m1 m r m' r' hm c (subst (λ u. more_expressions es' u m') (sym ex.1) hm') c' in
      ((let k = ex.0 in let l = rest.0 in cc), rest.1)

  one-more : (es : Expressions ℕ) → OneMore es
  one-more no_expressions no_expressions ts m r m' r' h c h' c' = (refl, sign-rest x.CloseBracket x.CloseBracket m r r' c (subst (λ u. sign x.CloseBracket u r') (sym h' ∙ h) c'))
  one-more no_expressions (expression_then e es) ts m r m' r' h c (m1, comma, g) c' =
      absurd (let bad = sign-mismatch x.CloseBracket x.Comma m r m1 c (subst (λ u. sign x.Comma u m1) h comma) in cc)
  one-more (expression_then e es) no_expressions ts m r m' r' (m1, comma, g) c h' c' =
      absurd (let bad = sign-mismatch x.CloseBracket x.Comma m' r' m1 c' (subst (λ u. sign x.Comma u m1) h' comma) in cc)
  one-more (expression_then e es) (expression_then e' es') ts m r m' r' (m1, k, (m2, h, hm)) c (m1', k', (m2', h', hm')) c' =
      let cm = sign-rest x.Comma x.Comma ts m1 m1' k k' in
      let ex = one-expression e 0 e' m1 m2 m2' h (subst (λ u. expression e' 0 u m2') (sym cm) h') (more-closed 0 es m2 m r hm c) (more-closed 0 es' m2' m' r' hm' c') in
      let rest = one-more es es' m2 m r m' r' hm c (subst (λ u. more_expressions es' u m') (sym ex.1) hm') c' in
      ((let i = ex.0 in let l = rest.0 in cc), rest.1)

  pub one-arguments : (xs : Arguments ℕ) → OneList xs
  one-arguments no_arguments no_arguments ts m r m' r' h c h' c' = (refl, sign-rest x.Close x.Close m r r' c (subst (λ u. sign x.Close u r') (sym h' ∙ h) c'))
  one-arguments no_arguments (argument_then a xs) ts m r m' r' h c (m1, h', hm) c' =
      absurd (close-not m r c (subst (NotNext x.Close) h (not_close-argument a ts m1 h')))
  one-arguments (argument_then a xs) no_arguments ts m r m' r' (m1, h, hm) c h' c' =
      absurd (close-not m' r' c' (subst (NotNext x.Close) h' (not_close-argument a ts m1 h)))
  one-arguments (argument_then a xs) (argument_then a' xs') ts m r m' r' (m1, h, hm) c (m1', h', hm') c' =
      let ex = one-argument a a' ts m1 m1' h h' (rest-closed 0 xs m1 m r hm c) (rest-no_naming xs m1 m r hm c) (rest-closed 0 xs' m1' m' r' hm' c') (rest-no_naming xs' m1' m' r' hm' c') in
      let rest = one-rest xs xs' m1 m r m' r' hm c (subst (λ u. more_arguments xs' u m') (sym ex.1) hm') c' in
      ((let k = ex.0 in let l = rest.0 in cc), rest.1)

  one-rest : (xs : Arguments ℕ) → OneRest xs
  one-rest no_arguments no_arguments ts m r m' r' h c h' c' = (refl, sign-rest x.Close x.Close m r r' c (subst (λ u. sign x.Close u r') (sym h' ∙ h) c'))
  one-rest no_arguments (argument_then a xs) ts m r m' r' h c (m1, comma, g) c' =
      absurd (let bad = sign-mismatch x.Close x.Comma m r m1 c (subst (λ u. sign x.Comma u m1) h comma) in cc)
  one-rest (argument_then a xs) no_arguments ts m r m' r' (m1, comma, g) c h' c' =
      absurd (let bad = sign-mismatch x.Close x.Comma m' r' m1 c' (subst (λ u. sign x.Comma u m1) h' comma) in cc)
  one-rest (argument_then a xs) (argument_then a' xs') ts m r m' r' (m1, k, (m2, h, hm)) c (m1', k', (m2', h', hm')) c' =
      let cm = sign-rest x.Comma x.Comma ts m1 m1' k k' in
      let ex = one-argument a a' m1 m2 m2' h (subst (λ u. argument a' u m2') (sym cm) h') (rest-closed 0 xs m2 m r hm c) (rest-no_naming xs m2 m r hm c) (rest-closed 0 xs' m2' m' r' hm' c') (rest-no_naming xs' m2' m' r' hm' c') in
      let rest = one-rest xs xs' m2 m r m' r' hm c (subst (λ u. more_arguments xs' u m') (sym ex.1) hm') c' in
      ((let i = ex.0 in let l = rest.0 in cc), rest.1)

  one-argument : (a : Argument ℕ) → OneArgument a
  one-argument (expr.Positional e) = one-positional e (one-expression e)
  one-argument (expr.Input line n e) = one-input line n e (one-expression e)
  one-argument (expr.Output line n later p q) = one-output line n later p q (one-selectors q)

-- lexemes spell at most one expression
pub expression-one : (ts : List Lexeme) (e e' : Expression ℕ) → expression e 0 ts [] → expression e' 0 ts [] → e ≡ e'
expression-one ts e e' h h' = (one-expression e 0 e' ts [] [] h h' (tt, tt) (tt, tt)).0
