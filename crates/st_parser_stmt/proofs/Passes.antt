-- What the grammar spells, the machine passes.
use Rattle.std.proofs.Common.{◌≡◌, ℕ, suc, Bool, true, false, ◌&&◌, List, [], ◌∷◌, Option, Some, None, length, drop, refl, sym, ◌∙◌, ap, subst}
use borrow.Author.Tests.{clash}
use Rattle.st_tree.specs.declared.terminal.Terminal.{Terminal}
use Rattle.st_tree.specs.declared.terminal.Terminal.TheVariants as x
use Rattle.st_tree.specs.declared.expression.Literal.{Literal}
use Rattle.st_tree.specs.declared.expression.Root.{Root}
use Rattle.st_tree.specs.declared.expression.Root.TheVariants as roots
use Rattle.st_tree.specs.declared.statement.Label.{Label}
use Rattle.st_tree.specs.declared.statement.LabelEnd.{LabelEnd}
use Rattle.st_tree.specs.declared.statement.LabelEnd.TheVariants as labels
use Rattle.st_tree.specs.Expression as expr
use Rattle.st_tree.specs.Expression.{Expression, Selectors, no_selectors, selector_then, Arguments}
use Rattle.st_tree.specs.Statement as stmt
use Rattle.st_tree.specs.Statement.{Statement, Statements, no_statements, statement_then, Branches, no_branches, branch_then, Cases, no_cases, case_then, Otherwise}
use Rattle.st_tree.specs.Grammar as g
use Rattle.st_tree.specs.Grammar.{Lexeme, Phrase, ◌⋆◌, sign, word, operator_of, root, selectors, selector, arguments, expression, literal, label_end, range_end, label, more_labels, first_label, step_by, statement, first_branch, more_branches, otherwise, cases}
use Rattle.st_parser_expr.specs.Private.Machine as e
use Rattle.st_parser_expr.specs.Private.Machine.{IsNoStep, NoStep, IsNoSelector, NoSelector, NoOperator}
use Rattle.st_parser_expr.specs.Private.Promises.{next_terminal}
use Rattle.st_parser_expr.proofs.MachineLaws as l
use Rattle.st_parser_expr.proofs.MachineLaws.{signed}
use Rattle.st_parser_expr.proofs.Passes as p
use Rattle.st_parser_expr.proofs.Unique.{selector-sign}
use Rattle.st_parser_expr.proofs.Viable.{machine-expression}
use Rattle.st_parser_expr.proofs.Fronts as f
use Rattle.st_parser_expr.proofs.Fronts.{IsFront, front, both_fronts}
use Rattle.st_parser_stmt.specs.Private.Numbers.{same_terminal}
use Rattle.st_parser_stmt.specs.Private.Machine.{Ender, branches_end, until, Quiet, IsNoStatement, inside, need, word_next, place_state, body, statement_next, behind_place, by_or_do, branch_next, otherwise_next, first_case, case_body, case_word, case_dot, case_field, const_next, const_tail, behind_label, label_more, State, on_need, on_inside, on_otherwise, on_branch, on_case_end, on_ender, on_statement, on_placed, on_place, on_const, on_const_word, on_const_tail, on_behind_label, on_case_word, on_case_dot, on_case_body, advance, accepts, go_on, machine, NoStatement}
use Rattle.st_parser_stmt.specs.Private.Promises.{starts_statement, starts_const, ends_const, is_word, label_behind, label_by, label_at}
use Rattle.st_parser_stmt.proofs.MachineLaws.{on-sign, on-need, on-end, on-otherwise, on_statement-other, inside-passes}

-- ---- what the machine of expressions passes

ended : (ts : List Lexeme) → e.machine [] ts ≡ (true, length ts)
ended [] = refl
ended (t ∷ ts) = refl

-- a phrase that the machine of expressions passes from k to nothing
pub passes-inside : (P : Phrase) → IsFront P → (k : e.State) (K : State) (ts rest : List Lexeme) → P ts rest → e.machine k ts ≡ e.machine [] rest → machine (inside k ∷ K) ts ≡ machine K rest
passes-inside P of k K ts rest h run =
    let b = of ts rest h in
    ap (machine (inside k ∷ K)) b.whole ∙ inside-passes b.tokens rest k K (ap (e.machine k) (sym b.whole) ∙ run ∙ ended rest)

-- where no expression goes on
abbrev pub Closed : List Lexeme → Type 0
Closed ts = NoStep ts × NoOperator ts

pub closed-sign : (s : Terminal) (ts rest : List Lexeme) → IsNoStep s → operator_of s ≡ None → sign s ts rest → Closed ts
closed-sign s ts rest free none h = (p.no_step-sign s ts rest free h, p.no_operator-sign s ts rest none h)

pub passes-expression : (v : Expression ℕ) (K : State) (ts rest : List Lexeme) → expression v 0 ts rest → Closed rest → machine (inside e.start ∷ K) ts ≡ machine K rest
passes-expression v K ts rest h c = passes-inside (expression v 0) (front _ (f.of_expression v 0)) e.start K ts rest h (machine-expression v ts rest h c.0 c.1)

pub passes-selectors : (s : Selectors ℕ) (K : State) (ts rest : List Lexeme) → selectors s ts rest → NoSelector rest → machine (inside place_state ∷ K) ts ≡ machine K rest
passes-selectors s K ts rest h free = passes-inside (selectors s) (f.of_selectors s) place_state K ts rest h (p.passes-selectors s e.elsewhere ts rest [] h ∙ l.machine-elsewhere [] rest free)

pub passes-arguments : (xs : Arguments ℕ) (K : State) (ts rest : List Lexeme) → (arguments xs ⋆ sign x.Close) ts rest → machine (inside (e.first_argument ∷ []) ∷ K) ts ≡ machine K rest
passes-arguments xs K ts rest h =
    passes-inside (arguments xs ⋆ sign x.Close) (both_fronts _ _ (f.of_arguments xs) (front _ (f.of_sign x.Close))) (e.first_argument ∷ []) K ts rest h
    (p.passes-arguments xs ts h.0 rest [] h.1 h.2)

pub passes-literal : (v : Literal) (K : State) (ts rest : List Lexeme) → literal v ts rest → machine (inside (e.literal_next ∷ []) ∷ K) ts ≡ machine K rest
passes-literal v K ts rest h = passes-inside (literal v) (front _ (f.of_literal v)) (e.literal_next ∷ []) K ts rest h (p.passes-literal v ts rest [] h)

-- ---- how phrases begin

pub next-sign : (s : Terminal) (ts rest : List Lexeme) → sign s ts rest → next_terminal ts ≡ Some s
next-sign s ts rest (t, is, w) = ap next_terminal w ∙ ap Some is

pub not_started : (t : Terminal) → starts_statement (Some t) ≡ false → IsNoStatement t
not_started x.Semicolon h = cc
not_started x.Word h = cc
not_started x.This h = cc
not_started x.Super h = cc
not_started x.Exit h = cc
not_started x.Continue h = cc
not_started x.Return h = cc
not_started x.If h = cc
not_started x.Case h = cc
not_started x.For h = cc
not_started x.While h = cc
not_started x.Repeat h = cc
not_started _ h = tt

started-same : (t : Terminal) (K : State) (o o' : Option State) → starts_statement (Some t) ≡ true → on_statement t K o ≡ on_statement t K o'
started-same x.Semicolon K o o' h = refl
started-same x.Word K o o' h = refl
started-same x.This K o o' h = refl
started-same x.Super K o o' h = refl
started-same x.Exit K o o' h = refl
started-same x.Continue K o o' h = refl
started-same x.Return K o o' h = refl
started-same x.If K o o' h = refl
started-same x.Case K o o' h = refl
started-same x.For K o o' h = refl
started-same x.While K o o' h = refl
started-same x.Repeat K o o' h = refl
started-same _ K o o' h = absurd (clash h)

no_statement : (ts : List Lexeme) → starts_statement (next_terminal ts) ≡ false → NoStatement ts
no_statement [] h = tt
no_statement (t ∷ ts) h = not_started t.terminal h

-- ---- where statements may begin

pub machine-started : (b : Ender) (K : State) (ts : List Lexeme) → starts_statement (next_terminal ts) ≡ true → machine (body b ∷ K) ts ≡ machine (statement_next ∷ body b ∷ K) ts
machine-started b K [] h = cc
machine-started b K (t ∷ ts) h = ap (λ o. go_on o (λ K'. machine K' ts) (false, suc (length ts))) (started-same t.terminal (body b ∷ K) (on_ender b t.terminal K) None h)

pub machine-until : (K : State) (s : Terminal) (free : IsNoStatement s) (q : Quiet s) (ts : List Lexeme) → starts_statement (next_terminal ts) ≡ false → machine (body (until s free q) ∷ K) ts ≡ machine (need s q ∷ K) ts
machine-until K s free q [] h = refl
machine-until K s free q (t ∷ ts) h =
    ap (λ o. go_on o (λ K'. machine K' ts) (false, suc (length ts))) (on_statement-other t.terminal (body (until s free q) ∷ K) (on_need (same_terminal s t.terminal) K) (not_started t.terminal h))

pub machine-branches : (K : State) (ts : List Lexeme) → starts_statement (next_terminal ts) ≡ false → machine (body branches_end ∷ K) ts ≡ machine (branch_next ∷ K) ts
machine-branches K [] h = refl
machine-branches K (t ∷ ts) h =
    ap (λ o. go_on o (λ K'. machine K' ts) (false, suc (length ts))) (on_statement-other t.terminal (body branches_end ∷ K) (on_branch t.terminal K) (not_started t.terminal h))

pub machine-otherwise : (K : State) (ts : List Lexeme) → (next_terminal ts ≡ Some x.Elsif → ⊥) → machine (branch_next ∷ K) ts ≡ machine (otherwise_next x.EndIf tt (refl, tt) ∷ K) ts
machine-otherwise K [] h = refl
machine-otherwise K (t ∷ ts) h = at t.terminal h
  where
    at : (u : Terminal) → (Some u ≡ Some x.Elsif → ⊥) → go_on (on_branch u K) (λ K'. machine K' ts) (false, suc (length ts)) ≡ go_on (on_otherwise x.EndIf tt (refl, tt) u K) (λ K'. machine K' ts) (false, suc (length ts))
    at x.Elsif h = absurd (h refl)
    at _ h = refl

-- ---- a label or a statement

field-statement : (K : State) (ts : List Lexeme) → ends_const (next_terminal ts) ≡ false → machine (case_field ∷ K) ts ≡ machine (inside place_state ∷ behind_place ∷ case_body ∷ K) ts
field-statement K [] h = refl
field-statement K (t ∷ ts) h = at t.terminal h
  where
    at : (u : Terminal) → ends_const (Some u) ≡ false
        → go_on (on_behind_label u K (on_place u (case_body ∷ K))) (λ K'. machine K' ts) (false, suc (length ts)) ≡ go_on (on_place u (case_body ∷ K)) (λ K'. machine K' ts) (false, suc (length ts))
    at x.Range h = cc
    at x.Comma h = cc
    at x.Colon h = cc
    at _ h = refl

dot-statement : (K : State) (ts : List Lexeme) → is_word (next_terminal ts) && ends_const (next_terminal (drop 1 ts)) ≡ false
    → machine (case_dot ∷ K) ts ≡ machine (inside (e.name_next ∷ place_state) ∷ behind_place ∷ case_body ∷ K) ts
dot-statement K [] h = refl
dot-statement K (t ∷ ts) h = at t.terminal h
  where
    at : (u : Terminal) → is_word (Some u) && ends_const (next_terminal ts) ≡ false
        → go_on (on_case_dot u K) (λ K'. machine K' ts) (false, suc (length ts))
        ≡ go_on (on_inside (e.on_name u place_state) false (behind_place ∷ case_body ∷ K) (on_placed u (case_body ∷ K))) (λ K'. machine K' ts) (false, suc (length ts))
    at x.Word h = field-statement K ts h
    at _ h = refl

word-statement : (K : State) (ts : List Lexeme) → label_behind (next_terminal ts) (next_terminal (drop 1 ts)) (next_terminal (drop 2 ts)) ≡ false
    → machine (case_word ∷ K) ts ≡ machine (inside place_state ∷ behind_place ∷ case_body ∷ K) ts
word-statement K [] h = refl
word-statement K (t ∷ ts) h = at t.terminal h
  where
    at : (u : Terminal) → label_behind (Some u) (next_terminal ts) (next_terminal (drop 1 ts)) ≡ false
        → go_on (on_case_word u K (on_place u (case_body ∷ K))) (λ K'. machine K' ts) (false, suc (length ts)) ≡ go_on (on_place u (case_body ∷ K)) (λ K'. machine K' ts) (false, suc (length ts))
    at x.Hash h = cc
    at x.Dot h = dot-statement K ts h
    at x.Range h = cc
    at x.Comma h = cc
    at x.Colon h = cc
    at _ h = refl

pub case-statement : (K : State) (ts : List Lexeme) → starts_statement (next_terminal ts) ≡ true → label_at ts ≡ false → machine (case_body ∷ K) ts ≡ machine (statement_next ∷ case_body ∷ K) ts
case-statement K [] h free = cc
case-statement K (t ∷ ts) h free = at t.terminal h free
  where
    at : (u : Terminal) → starts_statement (Some u) ≡ true → label_by (Some u) (next_terminal ts) (next_terminal (drop 1 ts)) (next_terminal (drop 2 ts)) ≡ false
        → go_on (on_case_body u K) (λ K'. machine K' ts) (false, suc (length ts)) ≡ go_on (on_statement u (case_body ∷ K) None) (λ K'. machine K' ts) (false, suc (length ts))
    at x.Word h free = word-statement K ts free
    at x.Semicolon h free = refl
    at x.This h free = refl
    at x.Super h free = refl
    at x.Exit h free = refl
    at x.Continue h free = refl
    at x.Return h free = refl
    at x.If h free = refl
    at x.Case h free = refl
    at x.For h free = refl
    at x.While h free = refl
    at x.Repeat h free = refl
    at _ h free = absurd (clash h)

field-label : (K : State) (ts : List Lexeme) → ends_const (next_terminal ts) ≡ true → machine (case_field ∷ K) ts ≡ machine (behind_label ∷ K) ts
field-label K [] h = cc
field-label K (t ∷ ts) h = at t.terminal h
  where
    at : (u : Terminal) → ends_const (Some u) ≡ true
        → go_on (on_behind_label u K (on_place u (case_body ∷ K))) (λ K'. machine K' ts) (false, suc (length ts)) ≡ go_on (on_behind_label u K None) (λ K'. machine K' ts) (false, suc (length ts))
    at x.Range h = refl
    at x.Comma h = refl
    at x.Colon h = refl
    at _ h = absurd (clash h)

pub tail-end : (K : State) (ts : List Lexeme) → ends_const (next_terminal ts) ≡ true → machine (const_tail ∷ K) ts ≡ machine K ts
tail-end K [] h = cc
tail-end K (t ∷ ts) h = ap (λ o. go_on o (λ K'. machine K' ts) (accepts K, suc (length ts))) (at t.terminal h (advance K t.terminal))
  where
    at : (u : Terminal) → ends_const (Some u) ≡ true → (other : Option State) → on_const_tail u K other ≡ other
    at x.Range h other = refl
    at x.Comma h other = refl
    at x.Colon h other = refl
    at _ h other = absurd (clash h)

dot-label : (K : State) (ts : List Lexeme) → is_word (next_terminal ts) && ends_const (next_terminal (drop 1 ts)) ≡ true → machine (case_dot ∷ K) ts ≡ machine (word_next ∷ behind_label ∷ K) ts
dot-label K [] h = cc
dot-label K (t ∷ ts) h = at t refl h
  where
    at : (u : Lexeme) → t ≡ u → is_word (Some u.terminal) && ends_const (next_terminal ts) ≡ true → machine (case_dot ∷ K) (u ∷ ts) ≡ machine (word_next ∷ behind_label ∷ K) (u ∷ ts)
    at u same h = by u.terminal refl h
      where
        by : (v : Terminal) → u.terminal ≡ v → is_word (Some v) && ends_const (next_terminal ts) ≡ true → machine (case_dot ∷ K) (u ∷ ts) ≡ machine (word_next ∷ behind_label ∷ K) (u ∷ ts)
        by x.Word is h = on-sign (case_dot ∷ K) x.Word (u ∷ ts) ts (u, is, refl) ∙ field-label K ts h ∙ sym (on-need (behind_label ∷ K) x.Word (refl, tt) (u ∷ ts) ts (u, is, refl))
        by _ is h = absurd (clash h)

word-label : (K : State) (ts : List Lexeme) → label_behind (next_terminal ts) (next_terminal (drop 1 ts)) (next_terminal (drop 2 ts)) ≡ true → machine (case_word ∷ K) ts ≡ machine (const_tail ∷ behind_label ∷ K) ts
word-label K [] h = cc
word-label K (t ∷ ts) h = at t.terminal h
  where
    at : (u : Terminal) → label_behind (Some u) (next_terminal ts) (next_terminal (drop 1 ts)) ≡ true
        → go_on (on_case_word u K (on_place u (case_body ∷ K))) (λ K'. machine K' ts) (false, suc (length ts))
        ≡ go_on (on_const_tail u (behind_label ∷ K) (on_behind_label u K None)) (λ K'. machine K' ts) (false, suc (length ts))
    at x.Hash h = refl
    at x.Dot h = dot-label K ts h
    at x.Range h = refl
    at x.Comma h = refl
    at x.Colon h = refl
    at _ h = absurd (clash h)

pub case-label : (K : State) (ts : List Lexeme) → label_at ts ≡ true → machine (case_body ∷ K) ts ≡ machine (const_next ∷ behind_label ∷ K) ts
case-label K [] h = cc
case-label K (t ∷ ts) h = at t.terminal h
  where
    at : (u : Terminal) → label_by (Some u) (next_terminal ts) (next_terminal (drop 1 ts)) (next_terminal (drop 2 ts)) ≡ true
        → go_on (on_case_body u K) (λ K'. machine K' ts) (false, suc (length ts)) ≡ go_on (on_const u (behind_label ∷ K) (on_const_word u (behind_label ∷ K) None)) (λ K'. machine K' ts) (false, suc (length ts))
    at x.Word h = word-label K ts h
    at x.Int h = refl
    at x.Minus h = refl
    at (x.Kind k) h = refl
    at _ h = absurd (clash h)

pub first-label : (K : State) (ts : List Lexeme) → starts_const (next_terminal ts) ≡ true → machine (first_case ∷ K) ts ≡ machine (const_next ∷ behind_label ∷ K) ts
first-label K [] h = cc
first-label K (t ∷ ts) h = at t.terminal h
  where
    at : (u : Terminal) → starts_const (Some u) ≡ true
        → go_on (on_const u (behind_label ∷ K) (on_const_word u (behind_label ∷ K) (on_case_end u K))) (λ K'. machine K' ts) (false, suc (length ts))
        ≡ go_on (on_const u (behind_label ∷ K) (on_const_word u (behind_label ∷ K) None)) (λ K'. machine K' ts) (false, suc (length ts))
    at x.Word h = refl
    at x.Int h = refl
    at x.Minus h = refl
    at (x.Kind k) h = refl
    at _ h = absurd (clash h)

pub first-end : (K : State) (ts : List Lexeme) → starts_const (next_terminal ts) ≡ false → machine (first_case ∷ K) ts ≡ machine (otherwise_next x.EndCase tt (refl, tt) ∷ K) ts
first-end K [] h = refl
first-end K (t ∷ ts) h = at t.terminal h
  where
    at : (u : Terminal) → starts_const (Some u) ≡ false
        → go_on (on_const u (behind_label ∷ K) (on_const_word u (behind_label ∷ K) (on_case_end u K))) (λ K'. machine K' ts) (false, suc (length ts))
        ≡ go_on (on_case_end u K) (λ K'. machine K' ts) (false, suc (length ts))
    at x.Word h = cc
    at x.Int h = cc
    at x.Minus h = cc
    at (x.Kind k) h = cc
    at _ h = refl

pub case-end : (K : State) (ts : List Lexeme) → starts_statement (next_terminal ts) ≡ false → label_at ts ≡ false → machine (case_body ∷ K) ts ≡ machine (otherwise_next x.EndCase tt (refl, tt) ∷ K) ts
case-end K [] h free = refl
case-end K (t ∷ ts) h free = at t.terminal h free
  where
    other : (u : Terminal) → label_by (Some u) (next_terminal ts) (next_terminal (drop 1 ts)) (next_terminal (drop 2 ts)) ≡ false → starts_statement (Some u) ≡ false → on_const u (behind_label ∷ K) (on_case_end u K) ≡ on_case_end u K
    other x.Int free h = cc
    other x.Minus free h = cc
    other (x.Kind k) free h = cc
    other _ free h = refl

    at : (u : Terminal) → starts_statement (Some u) ≡ false → label_by (Some u) (next_terminal ts) (next_terminal (drop 1 ts)) (next_terminal (drop 2 ts)) ≡ false
        → go_on (on_case_body u K) (λ K'. machine K' ts) (false, suc (length ts)) ≡ go_on (on_case_end u K) (λ K'. machine K' ts) (false, suc (length ts))
    at x.Word h free = cc
    at u h free = ap (λ o. go_on o (λ K'. machine K' ts) (false, suc (length ts))) (on_statement-other u (case_body ∷ K) (on_const u (behind_label ∷ K) (on_case_end u K)) (not_started u h) ∙ other u free h)

-- ---- how phrases begin, and where labels and statements differ

abbrev ends_place : Option Terminal → Bool
ends_place (Some x.Assign) = true
ends_place (Some x.Attempt) = true
ends_place (Some x.Open) = true
ends_place _ = false

place_no_const : (o : Option Terminal) → ends_place o ≡ true → ends_const o ≡ false
place_no_const (Some x.Assign) h = refl
place_no_const (Some x.Attempt) h = refl
place_no_const (Some x.Open) h = refl
place_no_const _ h = absurd (clash h)

place_no_label : (o b c : Option Terminal) → ends_place o ≡ true → label_behind o b c ≡ false
place_no_label (Some x.Assign) b c h = refl
place_no_label (Some x.Attempt) b c h = refl
place_no_label (Some x.Open) b c h = refl
place_no_label _ b c h = absurd (clash h)

const_label : (o b c : Option Terminal) → ends_const o ≡ true → label_behind o b c ≡ true
const_label (Some x.Range) b c h = refl
const_label (Some x.Comma) b c h = refl
const_label (Some x.Colon) b c h = refl
const_label _ b c h = absurd (clash h)

-- past one lexeme
label-first : (s : Terminal) (ts m : List Lexeme) → sign s ts m → label_at ts ≡ label_by (Some s) (next_terminal m) (next_terminal (drop 1 m)) (next_terminal (drop 2 m))
label-first s ts m (t, is, w) = ap label_at w ∙ ap (λ u. label_by (Some u) (next_terminal m) (next_terminal (drop 1 m)) (next_terminal (drop 2 m))) is

abbrev behind_at : List Lexeme → Bool
behind_at ts = label_behind (next_terminal ts) (next_terminal (drop 1 ts)) (next_terminal (drop 2 ts))

behind-first : (s : Terminal) (ts m : List Lexeme) → sign s ts m → behind_at ts ≡ label_behind (Some s) (next_terminal m) (next_terminal (drop 1 m))
behind-first s ts m (t, is, w) = ap behind_at w ∙ ap (λ u. label_behind (Some u) (next_terminal m) (next_terminal (drop 1 m))) is

field-first : (s : Terminal) (ts m : List Lexeme) → sign s ts m → is_word (next_terminal ts) && ends_const (next_terminal (drop 1 ts)) ≡ is_word (Some s) && ends_const (next_terminal m)
field-first s ts m (t, is, w) =
    ap (λ u. is_word (next_terminal u) && ends_const (next_terminal (drop 1 u))) w ∙ ap (λ u. is_word (Some u) && ends_const (next_terminal m)) is

selectors-no_const : (s : Selectors ℕ) (ts rest : List Lexeme) → selectors s ts rest → ends_place (next_terminal rest) ≡ true → ends_const (next_terminal ts) ≡ false
selectors-no_const no_selectors ts rest h ok = ap (λ u. ends_const (next_terminal u)) h ∙ place_no_const (next_terminal rest) ok
selectors-no_const (selector_then (expr.Field line n) s) ts rest (m, (m', h, w), more) ok = ap ends_const (next-sign x.Dot ts m' h)
selectors-no_const (selector_then (expr.Index line es) s) ts rest (m, (a, (m', h, w)), more) ok = ap ends_const (next-sign x.OpenBracket ts m' h)
selectors-no_const (selector_then (expr.Target line) s) ts rest (m, (a, h), more) ok = ap ends_const (next-sign x.Caret ts m h)

selectors-no_label : (s : Selectors ℕ) (ts rest : List Lexeme) → selectors s ts rest → ends_place (next_terminal rest) ≡ true → behind_at ts ≡ false
selectors-no_label no_selectors ts rest h ok = ap behind_at h ∙ place_no_label (next_terminal rest) (next_terminal (drop 1 rest)) (next_terminal (drop 2 rest)) ok
selectors-no_label (selector_then (expr.Field line n) s) ts rest (m, (m', h, (a, w)), more) ok =
    behind-first x.Dot ts m' h ∙ field-first x.Word m' m (signed x.Word n m' m w) ∙ selectors-no_const s m rest more ok
selectors-no_label (selector_then (expr.Index line es) s) ts rest (m, (a, (m', h, w)), more) ok = behind-first x.OpenBracket ts m' h
selectors-no_label (selector_then (expr.Target line) s) ts rest (m, (a, h), more) ok = behind-first x.Caret ts m h

place-no_label : (r : Root ℕ) (s : Selectors ℕ) (ts rest : List Lexeme) → (root r ⋆ selectors s) ts rest → ends_place (next_terminal rest) ≡ true → label_at ts ≡ false
place-no_label (roots.Name line n) s ts rest (m, (a, w), h) ok = label-first x.Word ts m (signed x.Word n ts m w) ∙ selectors-no_label s m rest h ok
place-no_label (roots.This line) s ts rest (m, (a, w), h) ok = label-first x.This ts m w
place-no_label (roots.Super line) s ts rest (m, (a, w), h) ok = label-first x.Super ts m w

root-starts : (r : Root ℕ) (ts m : List Lexeme) → root r ts m → starts_statement (next_terminal ts) ≡ true
root-starts (roots.Name line n) ts m (a, w) = ap starts_statement (next-sign x.Word ts m (signed x.Word n ts m w))
root-starts (roots.This line) ts m (a, w) = ap starts_statement (next-sign x.This ts m w)
root-starts (roots.Super line) ts m (a, w) = ap starts_statement (next-sign x.Super ts m w)

pub statement-starts : (s : Statement ℕ) (ts rest : List Lexeme) → statement s ts rest → starts_statement (next_terminal ts) ≡ true
statement-starts (stmt.Empty line) ts rest (a, h) = ap starts_statement (next-sign x.Semicolon ts rest h)
statement-starts (stmt.Assign line note r s v) ts rest (a, (m, (b, (m', h, hs)), more)) = root-starts r ts m' h
statement-starts (stmt.Attempt line note r s v) ts rest (a, (m, (b, (m', h, hs)), more)) = root-starts r ts m' h
statement-starts (stmt.Call line note r s xs) ts rest (a, (m, (b, (m', h, hs)), more)) = root-starts r ts m' h
statement-starts (stmt.Exit line) ts rest (a, (m, h, more)) = ap starts_statement (next-sign x.Exit ts m h)
statement-starts (stmt.Continue line) ts rest (a, (m, h, more)) = ap starts_statement (next-sign x.Continue ts m h)
statement-starts (stmt.Return line) ts rest (a, (m, h, more)) = ap starts_statement (next-sign x.Return ts m h)
statement-starts (stmt.If line bs o) ts rest (a, (m, h, more)) = ap starts_statement (next-sign x.If ts m h)
statement-starts (stmt.Case line v cs o) ts rest (a, (m, h, more)) = ap starts_statement (next-sign x.Case ts m h)
statement-starts (stmt.For line note n from to by ss) ts rest (a, (m, h, more)) = ap starts_statement (next-sign x.For ts m h)
statement-starts (stmt.While line v ss) ts rest (a, (m, h, more)) = ap starts_statement (next-sign x.While ts m h)
statement-starts (stmt.Repeat line ss v) ts rest (a, (m, h, more)) = ap starts_statement (next-sign x.Repeat ts m h)

pub statement-no_label : (s : Statement ℕ) (ts rest : List Lexeme) → statement s ts rest → label_at ts ≡ false
statement-no_label (stmt.Empty line) ts rest (a, h) = label-first x.Semicolon ts rest h
statement-no_label (stmt.Assign line note r s v) ts rest (a, (m, (b, h), (m', c, more))) = place-no_label r s ts m h (ap ends_place (next-sign x.Assign m m' c))
statement-no_label (stmt.Attempt line note r s v) ts rest (a, (m, (b, h), (m', c, more))) = place-no_label r s ts m h (ap ends_place (next-sign x.Attempt m m' c))
statement-no_label (stmt.Call line note r s xs) ts rest (a, (m, (b, h), (m', c, more))) = place-no_label r s ts m h (ap ends_place (next-sign x.Open m m' c))
statement-no_label (stmt.Exit line) ts rest (a, (m, h, more)) = label-first x.Exit ts m h
statement-no_label (stmt.Continue line) ts rest (a, (m, h, more)) = label-first x.Continue ts m h
statement-no_label (stmt.Return line) ts rest (a, (m, h, more)) = label-first x.Return ts m h
statement-no_label (stmt.If line bs o) ts rest (a, (m, h, more)) = label-first x.If ts m h
statement-no_label (stmt.Case line v cs o) ts rest (a, (m, h, more)) = label-first x.Case ts m h
statement-no_label (stmt.For line note n from to by ss) ts rest (a, (m, h, more)) = label-first x.For ts m h
statement-no_label (stmt.While line v ss) ts rest (a, (m, h, more)) = label-first x.While ts m h
statement-no_label (stmt.Repeat line ss v) ts rest (a, (m, h, more)) = label-first x.Repeat ts m h

pub const-starts : (c : LabelEnd ℕ) (ts rest : List Lexeme) → label_end c ts rest → starts_const (next_terminal ts) ≡ true
const-starts (labels.Int line n) ts rest (a, h) = ap starts_const (next-sign x.Int ts rest (signed x.Int n ts rest h))
const-starts (labels.Negative line n) ts rest (a, (m, h, more)) = ap starts_const (next-sign x.Minus ts m h)
const-starts (labels.Typed line k v) ts rest (a, (m, h, more)) = ap starts_const (next-sign (x.Kind k) ts m h)
const-starts (labels.Name line n) ts rest (a, h) = ap starts_const (next-sign x.Word ts rest (signed x.Word n ts rest h))
const-starts (labels.Enumerator line n later v) ts rest (a, (m, h, more)) = ap starts_const (next-sign x.Word ts m (signed x.Word n ts m h))
const-starts (labels.Field line n later v) ts rest (a, (m, h, more)) = ap starts_const (next-sign x.Word ts m (signed x.Word n ts m h))

const-label : (c : LabelEnd ℕ) (ts rest : List Lexeme) → label_end c ts rest → ends_const (next_terminal rest) ≡ true → label_at ts ≡ true
const-label (labels.Int line n) ts rest (a, h) ok = label-first x.Int ts rest (signed x.Int n ts rest h)
const-label (labels.Negative line n) ts rest (a, (m, h, more)) ok = label-first x.Minus ts m h
const-label (labels.Typed line k v) ts rest (a, (m, h, more)) ok = label-first (x.Kind k) ts m h
const-label (labels.Name line n) ts rest (a, h) ok = label-first x.Word ts rest (signed x.Word n ts rest h) ∙ const_label (next_terminal rest) (next_terminal (drop 1 rest)) (next_terminal (drop 2 rest)) ok
const-label (labels.Enumerator line n later v) ts rest (a, (m, h, (m', w, more))) ok = label-first x.Word ts m (signed x.Word n ts m h) ∙ behind-first x.Hash m m' w
const-label (labels.Field line n later v) ts rest (a, (m, h, (m', w, (b, h')))) ok =
    label-first x.Word ts m (signed x.Word n ts m h) ∙ behind-first x.Dot m m' w ∙ field-first x.Word m' rest (signed x.Word v m' rest h') ∙ ok

-- before the colon behind labels
labels-end : (ls : List (Label ℕ)) (ts mid rest : List Lexeme) → more_labels ls ts mid → sign x.Colon mid rest → (next_terminal ts ≡ Some x.Comma → ends_const (next_terminal ts) ≡ true) → ends_const (next_terminal ts) ≡ true
labels-end [] ts mid rest h c k = ap (λ u. ends_const (next_terminal u)) h ∙ ap ends_const (next-sign x.Colon mid rest c)
labels-end (a ∷ ls) ts mid rest (m, h, more) c k = ap ends_const (next-sign x.Comma ts m h)

pub more-ends : (ls : List (Label ℕ)) (ts mid rest : List Lexeme) → more_labels ls ts mid → sign x.Colon mid rest → ends_const (next_terminal ts) ≡ true
more-ends ls ts mid rest h c = labels-end ls ts mid rest h c (λ e. ap ends_const e)

pub range-ends : (o : Option (LabelEnd ℕ)) (ts rest : List Lexeme) → range_end o ts rest → ends_const (next_terminal rest) ≡ true → ends_const (next_terminal ts) ≡ true
range-ends None ts rest h ok = ap (λ u. ends_const (next_terminal u)) h ∙ ok
range-ends (Some c) ts rest (m, h, more) ok = ap ends_const (next-sign x.Range ts m h)

pub labels-label : (ls : List (Label ℕ)) (ts mid rest : List Lexeme) → first_label ls ts mid → sign x.Colon mid rest → label_at ts ≡ true
labels-label [] ts mid rest h c = absurd h
labels-label (a ∷ ls) ts mid rest (m, (m', h, hr), hm) c = const-label a.first ts m' h (range-ends a.last m' m hr (more-ends ls m mid rest hm c))

pub labels-starts : (ls : List (Label ℕ)) (ts mid : List Lexeme) → first_label ls ts mid → starts_const (next_terminal ts) ≡ true
labels-starts [] ts mid h = absurd h
labels-starts (a ∷ ls) ts mid (m, (m', h, hr), hm) = const-starts a.first ts m' h

-- ---- how they go on

pub passes-const : (c : LabelEnd ℕ) (K : State) (ts rest : List Lexeme) → label_end c ts rest → ends_const (next_terminal rest) ≡ true → machine (const_next ∷ K) ts ≡ machine K rest
passes-const (labels.Int line n) K ts rest (a, h) ok = on-sign (const_next ∷ K) x.Int ts rest (signed x.Int n ts rest h)
passes-const (labels.Negative line n) K ts rest (a, (m, h, d)) ok = on-sign (const_next ∷ K) x.Minus ts m h ∙ on-need K x.Int (refl, tt) m rest (signed x.Int n m rest d)
passes-const (labels.Typed line k v) K ts rest (a, (m, h, (m', w, hv))) ok =
    on-sign (const_next ∷ K) (x.Kind k) ts m h ∙ on-need (inside (e.literal_next ∷ []) ∷ K) x.Hash (refl, tt) m m' w ∙ passes-literal v K m' rest hv
passes-const (labels.Name line n) K ts rest (a, h) ok = on-sign (const_next ∷ K) x.Word ts rest (signed x.Word n ts rest h) ∙ tail-end K rest ok
passes-const (labels.Enumerator line n later v) K ts rest (a, (m, h, (m', w, (b, h')))) ok =
    on-sign (const_next ∷ K) x.Word ts m (signed x.Word n ts m h) ∙ on-sign (const_tail ∷ K) x.Hash m m' w ∙ on-need K x.Word (refl, tt) m' rest (signed x.Word v m' rest h')
passes-const (labels.Field line n later v) K ts rest (a, (m, h, (m', w, (b, h')))) ok =
    on-sign (const_next ∷ K) x.Word ts m (signed x.Word n ts m h) ∙ on-sign (const_tail ∷ K) x.Dot m m' w ∙ on-need K x.Word (refl, tt) m' rest (signed x.Word v m' rest h')

-- a comma or a colon
abbrev pub label_over : Option Terminal → Bool
label_over (Some x.Comma) = true
label_over (Some x.Colon) = true
label_over _ = false

over-ends : (o : Option Terminal) → label_over o ≡ true → ends_const o ≡ true
over-ends (Some x.Comma) h = refl
over-ends (Some x.Colon) h = refl
over-ends _ h = absurd (clash h)

pub machine-over : (K : State) (ts : List Lexeme) → label_over (next_terminal ts) ≡ true → machine (behind_label ∷ K) ts ≡ machine (label_more ∷ K) ts
machine-over K [] h = cc
machine-over K (t ∷ ts) h = at t.terminal h
  where
    at : (u : Terminal) → label_over (Some u) ≡ true → go_on (on_behind_label u K None) (λ K'. machine K' ts) (false, suc (length ts)) ≡ go_on (advance (label_more ∷ K) u) (λ K'. machine K' ts) (false, suc (length ts))
    at x.Comma h = refl
    at x.Colon h = refl
    at _ h = absurd (clash h)

pub passes-label : (c : Label ℕ) (K : State) (ts rest : List Lexeme) → label c ts rest → label_over (next_terminal rest) ≡ true → machine (const_next ∷ behind_label ∷ K) ts ≡ machine (label_more ∷ K) rest
passes-label c K ts rest (m, h, hr) ok = passes-const c.first (behind_label ∷ K) ts m h (range-ends c.last m rest hr (over-ends (next_terminal rest) ok)) ∙ at c.last hr
  where
    at : (o : Option (LabelEnd ℕ)) → range_end o m rest → machine (behind_label ∷ K) m ≡ machine (label_more ∷ K) rest
    at None hr = ap (machine (behind_label ∷ K)) hr ∙ machine-over K rest ok
    at (Some d) (m', w, hd) = on-sign (behind_label ∷ K) x.Range m m' w ∙ passes-const d (label_more ∷ K) m' rest hd (over-ends (next_terminal rest) ok)

more-over : (ls : List (Label ℕ)) (ts mid rest : List Lexeme) → more_labels ls ts mid → sign x.Colon mid rest → label_over (next_terminal ts) ≡ true
more-over [] ts mid rest h c = ap (λ u. label_over (next_terminal u)) h ∙ ap label_over (next-sign x.Colon mid rest c)
more-over (a ∷ ls) ts mid rest (m, h, more) c = ap label_over (next-sign x.Comma ts m h)

pub passes-more_labels : (ls : List (Label ℕ)) (K : State) (ts mid rest : List Lexeme) → more_labels ls ts mid → sign x.Colon mid rest → machine (label_more ∷ K) ts ≡ machine (case_body ∷ K) rest
passes-more_labels [] K ts mid rest h c = ap (machine (label_more ∷ K)) h ∙ on-sign (label_more ∷ K) x.Colon mid rest c
passes-more_labels (a ∷ ls) K ts mid rest (m, h, (m', ha, hm)) c =
    on-sign (label_more ∷ K) x.Comma ts m h ∙ passes-label a K m m' ha (more-over ls m' mid rest hm c) ∙ passes-more_labels ls K m' mid rest hm c

pub passes-labels : (ls : List (Label ℕ)) (K : State) (ts mid rest : List Lexeme) → first_label ls ts mid → sign x.Colon mid rest → machine (const_next ∷ behind_label ∷ K) ts ≡ machine (case_body ∷ K) rest
passes-labels [] K ts mid rest h c = absurd h
passes-labels (a ∷ ls) K ts mid rest (m, h, hm) c = passes-label a K ts m h (more-over ls m mid rest hm c) ∙ passes-more_labels ls K m mid rest hm c

pub passes-place : (r : Root ℕ) (s : Selectors ℕ) (K : State) (ts rest : List Lexeme) → (root r ⋆ selectors s) ts rest → NoSelector rest → machine (statement_next ∷ K) ts ≡ machine (behind_place ∷ K) rest
passes-place r s K ts rest (m, h, hs) free = at r h ∙ passes-selectors s (behind_place ∷ K) m rest hs free
  where
    at : (r : Root ℕ) → root r ts m → machine (statement_next ∷ K) ts ≡ machine (inside place_state ∷ behind_place ∷ K) m
    at (roots.Name line n) (a, h) = on-sign (statement_next ∷ K) x.Word ts m (signed x.Word n ts m h)
    at (roots.This line) (a, h) = on-sign (statement_next ∷ K) x.This ts m h
    at (roots.Super line) (a, h) = on-sign (statement_next ∷ K) x.Super ts m h

-- how what follows begins
pub else-no_statement : (o : Otherwise ℕ) (s : Terminal) (ts mid rest : List Lexeme) → starts_statement (Some s) ≡ false → otherwise o ts mid → sign s mid rest → starts_statement (next_terminal ts) ≡ false
else-no_statement stmt.Nothing s ts mid rest free h c = ap (λ u. starts_statement (next_terminal u)) h ∙ ap starts_statement (next-sign s mid rest c) ∙ free
else-no_statement (stmt.Else ss) s ts mid rest free (m, h, more) c = ap starts_statement (next-sign x.Else ts m h)

pub else-no_const : (o : Otherwise ℕ) (ts mid rest : List Lexeme) → otherwise o ts mid → sign x.EndCase mid rest → starts_const (next_terminal ts) ≡ false
else-no_const stmt.Nothing ts mid rest h c = ap (λ u. starts_const (next_terminal u)) h ∙ ap starts_const (next-sign x.EndCase mid rest c)
else-no_const (stmt.Else ss) ts mid rest (m, h, more) c = ap starts_const (next-sign x.Else ts m h)

pub else-no_label : (o : Otherwise ℕ) (ts mid rest : List Lexeme) → otherwise o ts mid → sign x.EndCase mid rest → label_at ts ≡ false
else-no_label stmt.Nothing ts mid rest h c = ap label_at h ∙ label-first x.EndCase mid rest c
else-no_label (stmt.Else ss) ts mid rest (m, h, more) c = label-first x.Else ts m h

pub branches-no_statement : (bs : Branches ℕ) (ts m : List Lexeme) → more_branches bs ts m → starts_statement (next_terminal m) ≡ false → starts_statement (next_terminal ts) ≡ false
branches-no_statement no_branches ts m h free = ap (λ u. starts_statement (next_terminal u)) h ∙ free
branches-no_statement (branch_then v ss bs) ts m (m', h, more) free = ap starts_statement (next-sign x.Elsif ts m' h)

pub else-no_elsif : (o : Otherwise ℕ) (ts mid rest : List Lexeme) → otherwise o ts mid → sign x.EndIf mid rest → next_terminal ts ≡ Some x.Elsif → ⊥
else-no_elsif stmt.Nothing ts mid rest h c is = let bad : Some x.EndIf ≡ Some x.Elsif = sym (next-sign x.EndIf mid rest c) ∙ ap next_terminal (sym h) ∙ is in cc
else-no_elsif (stmt.Else ss) ts mid rest (m, h, more) c is = let bad : Some x.Else ≡ Some x.Elsif = sym (next-sign x.Else ts m h) ∙ is in cc

pub step-closed : (by : Option (Expression ℕ)) (ts m rest : List Lexeme) → step_by by ts m → sign x.Do m rest → Closed ts
step-closed None ts m rest h d = let c = closed-sign x.Do m rest tt refl d in subst Closed (sym h) c
step-closed (Some v) ts m rest (m', h, more) d = closed-sign x.By ts m' tt refl h

pub passes-step : (by : Option (Expression ℕ)) (K : State) (ts m rest : List Lexeme) → step_by by ts m → sign x.Do m rest → machine (by_or_do ∷ K) ts ≡ machine (body (until x.EndFor tt (refl, tt)) ∷ K) rest
passes-step None K ts m rest h d = ap (machine (by_or_do ∷ K)) h ∙ on-sign (by_or_do ∷ K) x.Do m rest d
passes-step (Some v) K ts m rest (m', h, hv) d =
    on-sign (by_or_do ∷ K) x.By ts m' h ∙ passes-expression v (need x.Do (refl, tt) ∷ body (until x.EndFor tt (refl, tt)) ∷ K) m' m hv (closed-sign x.Do m rest tt refl d)
    ∙ on-need (body (until x.EndFor tt (refl, tt)) ∷ K) x.Do (refl, tt) m rest d

mutual
  pub passes-statement : (s : Statement ℕ) (K : State) (ts rest : List Lexeme) → statement s ts rest → machine (statement_next ∷ K) ts ≡ machine K rest
  passes-statement (stmt.Empty line) K ts rest (a, h) = on-sign (statement_next ∷ K) x.Semicolon ts rest h
  passes-statement (stmt.Assign line note r s v) K ts rest (a, (m, (b, h), (m2, w, (m3, hv, c)))) =
      passes-place r s K ts m h (selector-sign x.Assign m m2 tt w) ∙ on-sign (behind_place ∷ K) x.Assign m m2 w
      ∙ passes-expression v (need x.Semicolon (refl, tt) ∷ K) m2 m3 hv (closed-sign x.Semicolon m3 rest tt refl c) ∙ on-need K x.Semicolon (refl, tt) m3 rest c
  passes-statement (stmt.Attempt line note r s v) K ts rest (a, (m, (b, h), (m2, w, (m3, hv, c)))) =
      passes-place r s K ts m h (selector-sign x.Attempt m m2 tt w) ∙ on-sign (behind_place ∷ K) x.Attempt m m2 w
      ∙ passes-expression v (need x.Semicolon (refl, tt) ∷ K) m2 m3 hv (closed-sign x.Semicolon m3 rest tt refl c) ∙ on-need K x.Semicolon (refl, tt) m3 rest c
  passes-statement (stmt.Call line note r s xs) K ts rest (a, (m, (b, h), (m2, w, (m3, ha, (m4, hc, c))))) =
      passes-place r s K ts m h (selector-sign x.Open m m2 tt w) ∙ on-sign (behind_place ∷ K) x.Open m m2 w
      ∙ passes-arguments xs (need x.Semicolon (refl, tt) ∷ K) m2 m4 (m3, ha, hc) ∙ on-need K x.Semicolon (refl, tt) m4 rest c
  passes-statement (stmt.Exit line) K ts rest (a, (m, h, c)) = on-sign (statement_next ∷ K) x.Exit ts m h ∙ on-need K x.Semicolon (refl, tt) m rest c
  passes-statement (stmt.Continue line) K ts rest (a, (m, h, c)) = on-sign (statement_next ∷ K) x.Continue ts m h ∙ on-need K x.Semicolon (refl, tt) m rest c
  passes-statement (stmt.Return line) K ts rest (a, (m, h, c)) = on-sign (statement_next ∷ K) x.Return ts m h ∙ on-need K x.Semicolon (refl, tt) m rest c
  passes-statement (stmt.If line bs o) K ts rest (a, (m, h, (m2, hb, (m3, ho, c)))) =
      on-sign (statement_next ∷ K) x.If ts m h ∙ passes-first_branch bs K m m2 hb (else-no_statement o x.EndIf m2 m3 rest refl ho c)
      ∙ machine-otherwise K m2 (else-no_elsif o m2 m3 rest ho c) ∙ passes-otherwise o x.EndIf tt (refl, tt) K m2 m3 rest (λ e. cc) ho c
  passes-statement (stmt.Case line v cs o) K ts rest (a, (m, h, (m2, hv, (m3, w, (m4, hc, (m5, ho, c)))))) =
      on-sign (statement_next ∷ K) x.Case ts m h ∙ passes-expression v (need x.Of (refl, tt) ∷ first_case ∷ K) m m2 hv (closed-sign x.Of m2 m3 tt refl w)
      ∙ on-need (first_case ∷ K) x.Of (refl, tt) m2 m3 w ∙ passes-first_case cs K m3 m4 hc (else-no_statement o x.EndCase m4 m5 rest refl ho c) (else-no_label o m4 m5 rest ho c) (else-no_const o m4 m5 rest ho c)
      ∙ passes-otherwise o x.EndCase tt (refl, tt) K m4 m5 rest (λ e. cc) ho c
  passes-statement (stmt.For line note n from to by ss) K ts rest (a, (m, h, (m2, (b, hn), (m3, w, (m4, hf, (m5, u, (m6, ht, (m7, hb, (m8, d, (m9, hs, c)))))))))) =
      on-sign (statement_next ∷ K) x.For ts m h ∙ on-need _ x.Word (refl, tt) m m2 (signed x.Word n m m2 hn) ∙ on-need _ x.Assign (refl, tt) m2 m3 w
      ∙ passes-expression from (need x.To (refl, tt) ∷ inside e.start ∷ by_or_do ∷ K) m3 m4 hf (closed-sign x.To m4 m5 tt refl u) ∙ on-need (inside e.start ∷ by_or_do ∷ K) x.To (refl, tt) m4 m5 u
      ∙ passes-expression to (by_or_do ∷ K) m5 m6 ht (step-closed by m6 m7 m8 hb d) ∙ passes-step by K m6 m7 m8 hb d
      ∙ passes-body ss (until x.EndFor tt (refl, tt)) K m8 m9 hs ∙ on-end K x.EndFor tt (refl, tt) m9 rest c
  passes-statement (stmt.While line v ss) K ts rest (a, (m, h, (m2, hv, (m3, d, (m4, hs, c))))) =
      on-sign (statement_next ∷ K) x.While ts m h ∙ passes-expression v (need x.Do (refl, tt) ∷ body (until x.EndWhile tt (refl, tt)) ∷ K) m m2 hv (closed-sign x.Do m2 m3 tt refl d)
      ∙ on-need (body (until x.EndWhile tt (refl, tt)) ∷ K) x.Do (refl, tt) m2 m3 d ∙ passes-body ss (until x.EndWhile tt (refl, tt)) K m3 m4 hs ∙ on-end K x.EndWhile tt (refl, tt) m4 rest c
  passes-statement (stmt.Repeat line ss v) K ts rest (a, (m, h, (m2, hs, (m3, u, (m4, hv, c))))) =
      on-sign (statement_next ∷ K) x.Repeat ts m h ∙ passes-body ss (until x.Until tt (refl, tt)) (inside e.start ∷ need x.EndRepeat (refl, tt) ∷ K) m m2 hs
      ∙ on-end (inside e.start ∷ need x.EndRepeat (refl, tt) ∷ K) x.Until tt (refl, tt) m2 m3 u
      ∙ passes-expression v (need x.EndRepeat (refl, tt) ∷ K) m3 m4 hv (closed-sign x.EndRepeat m4 rest tt refl c) ∙ on-need K x.EndRepeat (refl, tt) m4 rest c

  pub passes-body : (ss : Statements ℕ) (b : Ender) (K : State) (ts rest : List Lexeme) → g.body ss ts rest → machine (body b ∷ K) ts ≡ machine (body b ∷ K) rest
  passes-body no_statements b K ts rest h = ap (machine (body b ∷ K)) h
  passes-body (statement_then s ss) b K ts rest (m, h, hs) =
      machine-started b K ts (statement-starts s ts m h) ∙ passes-statement s (body b ∷ K) ts m h ∙ passes-body ss b K m rest hs

  passes-case_body : (ss : Statements ℕ) (K : State) (ts rest : List Lexeme) → g.body ss ts rest → machine (case_body ∷ K) ts ≡ machine (case_body ∷ K) rest
  passes-case_body no_statements K ts rest h = ap (machine (case_body ∷ K)) h
  passes-case_body (statement_then s ss) K ts rest (m, h, hs) =
      case-statement K ts (statement-starts s ts m h) (statement-no_label s ts m h) ∙ passes-statement s (case_body ∷ K) ts m h ∙ passes-case_body ss K m rest hs

  passes-otherwise : (o : Otherwise ℕ) (s : Terminal) (free : IsNoStatement s) (q : Quiet s) (K : State) (ts mid rest : List Lexeme) → (s ≡ x.Else → ⊥) → otherwise o ts mid → sign s mid rest → machine (otherwise_next s free q ∷ K) ts ≡ machine K rest
  passes-otherwise stmt.Nothing s free q K ts mid rest other h c = ap (machine (otherwise_next s free q ∷ K)) h ∙ on-otherwise K s free q mid rest other c
  passes-otherwise (stmt.Else ss) s free q K ts mid rest other (m, h, hs) c = on-sign (otherwise_next s free q ∷ K) x.Else ts m h ∙ passes-body ss (until s free q) K m mid hs ∙ on-end K s free q mid rest c

  passes-first_branch : (bs : Branches ℕ) (K : State) (ts m : List Lexeme) → first_branch bs ts m → starts_statement (next_terminal m) ≡ false
      → machine (inside e.start ∷ need x.Then (refl, tt) ∷ body branches_end ∷ K) ts ≡ machine (branch_next ∷ K) m
  passes-first_branch no_branches K ts m h free = absurd h
  passes-first_branch (branch_then v ss bs) K ts m (m1, hv, (m2, w, (m3, hs, hb))) free =
      passes-expression v (need x.Then (refl, tt) ∷ body branches_end ∷ K) ts m1 hv (closed-sign x.Then m1 m2 tt refl w) ∙ on-need (body branches_end ∷ K) x.Then (refl, tt) m1 m2 w
      ∙ passes-body ss branches_end K m2 m3 hs ∙ machine-branches K m3 (branches-no_statement bs m3 m hb free) ∙ passes-more_branches bs K m3 m hb free

  passes-more_branches : (bs : Branches ℕ) (K : State) (ts m : List Lexeme) → more_branches bs ts m → starts_statement (next_terminal m) ≡ false → machine (branch_next ∷ K) ts ≡ machine (branch_next ∷ K) m
  passes-more_branches no_branches K ts m h free = ap (machine (branch_next ∷ K)) h
  passes-more_branches (branch_then v ss bs) K ts m (m0, u, (m1, hv, (m2, w, (m3, hs, hb)))) free =
      on-sign (branch_next ∷ K) x.Elsif ts m0 u
      ∙ passes-expression v (need x.Then (refl, tt) ∷ body branches_end ∷ K) m0 m1 hv (closed-sign x.Then m1 m2 tt refl w) ∙ on-need (body branches_end ∷ K) x.Then (refl, tt) m1 m2 w
      ∙ passes-body ss branches_end K m2 m3 hs ∙ machine-branches K m3 (branches-no_statement bs m3 m hb free) ∙ passes-more_branches bs K m3 m hb free

  passes-first_case : (cs : Cases ℕ) (K : State) (ts m : List Lexeme) → cases cs ts m → starts_statement (next_terminal m) ≡ false → label_at m ≡ false → starts_const (next_terminal m) ≡ false
      → machine (first_case ∷ K) ts ≡ machine (otherwise_next x.EndCase tt (refl, tt) ∷ K) m
  passes-first_case no_cases K ts m h free free' free'' = ap (machine (first_case ∷ K)) h ∙ first-end K m free''
  passes-first_case (case_then ls ss cs) K ts m (m1, hl, (m2, w, (m3, hs, hc))) free free' free'' =
      first-label K ts (labels-starts ls ts m1 hl) ∙ passes-labels ls K ts m1 m2 hl w ∙ passes-case_body ss K m2 m3 hs ∙ passes-cases cs K m3 m hc free free'

  passes-cases : (cs : Cases ℕ) (K : State) (ts m : List Lexeme) → cases cs ts m → starts_statement (next_terminal m) ≡ false → label_at m ≡ false
      → machine (case_body ∷ K) ts ≡ machine (otherwise_next x.EndCase tt (refl, tt) ∷ K) m
  passes-cases no_cases K ts m h free free' = ap (machine (case_body ∷ K)) h ∙ case-end K m free free'
  passes-cases (case_then ls ss cs) K ts m (m1, hl, (m2, w, (m3, hs, hc))) free free' =
      case-label K ts (labels-label ls ts m1 m2 hl w) ∙ passes-labels ls K ts m1 m2 hl w ∙ passes-case_body ss K m2 m3 hs ∙ passes-cases cs K m3 m hc free free'
