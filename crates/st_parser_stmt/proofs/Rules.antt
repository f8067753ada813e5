-- What each rule's function has to show.
use Rattle.std.proofs.Common.{◌≡◌, ℕ, suc, ◌<◌, ◌≤◌, true, false, List, [], ◌∷◌, ◌++◌, Option, Some, None, length, drop, refl, sym, ◌∙◌, ap, subst, arith, length-append}
use borrow.Author.Tests.{clash}
use Rattle.std.specs.Option.{option_map}
use Rattle.st_types.specs.declared.elem.Elem.{Elem}
use Rattle.st_tree.specs.declared.terminal.Terminal.{Terminal}
use Rattle.st_tree.specs.declared.terminal.Terminal.TheVariants as x
use Rattle.st_tree.specs.declared.expression.Literal.{Literal}
use Rattle.st_tree.specs.declared.expression.Root.{Root}
use Rattle.st_tree.specs.declared.expression.Root.TheVariants as roots
use Rattle.st_tree.specs.declared.statement.Label.{Label}
use Rattle.st_tree.specs.declared.statement.LabelEnd.{LabelEnd}
use Rattle.st_tree.specs.declared.statement.LabelEnd.TheVariants as labels
use Rattle.st_tree.specs.declared.statement.Stmt.{Stmt}
use Rattle.st_tree.specs.declared.statement.Branch.{Branch}
use Rattle.st_tree.specs.declared.statement.Case.{Case}
use Rattle.st_tree.specs.Expression.{expression_of}
use Rattle.st_tree.specs.Statement.{statement_of, statements_of, branch_of, branches_of, case_branch_of, cases_of, branch_of-is, case_branch_of-is}
use Rattle.st_tree.specs.Expression.{Expression, Selectors, Arguments}
use Rattle.st_tree.specs.Statement as stmt
use Rattle.st_tree.specs.Statement.{Statement, Statements, no_statements, statement_then, Branches, no_branches, branch_then, Cases, no_cases, case_then, Otherwise}
use Rattle.st_tree.specs.Grammar as g
use Rattle.st_tree.specs.Grammar.{Lexeme, Phrase, ◌⋆◌, At, at, sign, spelled, word, root, selectors, arguments, expression, literal, label_end, range_end, label, more_labels, first_label, step_by, statement, first_branch, more_branches, otherwise, cases}
use Rattle.st_parser_expr.specs.declared.stop.Stop.{Stop}
use Rattle.st_parser_expr.specs.declared.stop.Stop.TheVariants.{Left, NoMemory}
use Rattle.st_parser_expr.specs.Private.Machine as e
use Rattle.st_parser_expr.specs.Private.Machine.{NoSelector, Looser}
use Rattle.st_parser_expr.specs.Private.Promises as ep
use Rattle.st_parser_expr.specs.Private.Promises.{next_terminal, LineOf, TextTaken, is_root, Selects, SelectFails}
use Rattle.st_parser_expr.proofs.MachineLaws as l
use Rattle.st_parser_expr.proofs.MachineLaws.{signed}
use Rattle.st_parser_expr.proofs.Rules as r
use Rattle.st_parser_expr.proofs.Rules.{sign_at, taken, sign-shorter, spelled-shorter, line_sign, line_spelled, line_root}
use Rattle.st_parser_expr.proofs.Fronts as f
use Rattle.st_parser_expr.proofs.Fronts.{front, both_fronts, IsHead}
use Rattle.st_parser_stmt.specs.Private.Numbers.{same_terminal}
use Rattle.st_parser_stmt.specs.declared.statement.Control.{Control}
use Rattle.st_parser_stmt.specs.Private.Machine.{Ender, branches_end, until, Quiet, IsNoStatement, inside, need, word_next, place_state, body, statement_next, behind_place, by_or_do, branch_next, otherwise_next, first_case, case_body, const_next, const_tail, behind_label, label_more, State, on_need, on_statement, on_placed, on_step, on_label_more, on_behind_label, on_const, on_const_word, on_const_tail, on_otherwise, accepts, advance, go_on, machine}
use Rattle.st_parser_stmt.specs.Private.Promises.{starts_statement, is_jump, is_behind_place, starts_const, label_at, Fails, Parses, same, for_expression, for_arguments, for_literal, for_word, for_statement, for_placed, for_const, for_label, for_more_labels, for_case_body, for_cases, for_case_end, for_branch, for_condition, for_control, for_turns, for_step, Controlled, ReadsSign, SignFails, ReadsBody, BodyFails, ReadsOtherwise, OtherwiseFails, ReadsThen, ThenFails, ReadsUntil, UntilFails, Ends}
use Rattle.st_parser_stmt.proofs.NumberLaws.{same-not}
use Rattle.st_parser_stmt.proofs.MachineLaws.{on-sign, on-need, on_statement-other, inside-fails}
use Rattle.st_parser_stmt.proofs.Fronts.{of_statement, of_first_label}
use Rattle.st_parser_stmt.proofs.Passes.{not_started, passes-inside, passes-place, machine-started, machine-until, machine-branches, machine-otherwise, case-statement, case-label, first-label, first-end, case-end}

-- ---- exits

pub fails-after : (w w' : State → State) (ts m : List Lexeme) (stop : Stop) → ((K : State) → machine (w K) ts ≡ machine (w' K) m) → Fails w' m stop → Fails w ts stop
fails-after w w' ts m (Left n) p h = λ K. p K ∙ h K
fails-after w w' ts m NoMemory p h = tt

-- behind more that is wanted
pub fails-under : (w g : State → State) (ts : List Lexeme) (stop : Stop) → Fails w ts stop → Fails (λ K. w (g K)) ts stop
fails-under w g ts (Left n) h = λ K. h (g K)
fails-under w g ts NoMemory h = tt

pub under : (P : Phrase) (w v g : State → State) (ts rest : List Lexeme) → Parses P w v ts rest → Parses P (λ K. w (g K)) (λ K. v (g K)) ts rest
under P w v g ts rest h = record { spelled = h.spelled; passes = λ K. h.passes (g K); shorter = h.shorter }

-- ---- single lexemes

pub reads-sign : (s : Terminal) (ts us : List Lexeme) → next_terminal ts ≡ Some s → us ≡ drop 1 ts → ReadsSign (sign s) s ts us
reads-sign s ts us h is q =
    let w = sign_at s ts us h is in
    record { spelled = w; passes = λ K. on-need K s q ts us w; shorter = omega (arith, sign-shorter s ts us w) }

pub sign-fails : (s : Terminal) (ts : List Lexeme) → (next_terminal ts ≡ Some s → ⊥) → SignFails s ts (Left (length ts))
sign-fails s [] h q K = refl
sign-fails s (t ∷ ts) h q K =
    let other : s ≡ t.terminal → ⊥ = λ e. h (ap Some (sym e)) in
    ap (λ b. go_on (on_need b K) (λ K'. machine K' ts) (false, suc (length ts))) (same-not s t.terminal other)

pub next-shorter : (s : Terminal) (ts us : List Lexeme) → next_terminal ts ≡ Some s → us ≡ drop 1 ts → length us < length ts
next-shorter s ts us h is = omega (arith, sign-shorter s ts us (sign_at s ts us h is))

pub some-next : (s : Terminal) (ts : List Lexeme) → next_terminal ts ≡ Some s → 0 < length ts
some-next s ts h = r.some-next s ts h

pub reads-word : (n : List ℕ) (ts us : List Lexeme) → next_terminal ts ≡ Some x.Word → TextTaken n ts us → Parses (word n) for_word same ts us
reads-word n ts us h t =
    let w = taken x.Word n ts us h t in
    record { spelled = w; passes = λ K. on-need K x.Word (refl, tt) ts us (signed x.Word n ts us w); shorter = omega (arith, spelled-shorter x.Word n ts us w) }

pub word-fails : (ts : List Lexeme) → (next_terminal ts ≡ Some x.Word → ⊥) → Fails for_word ts (Left (length ts))
word-fails ts h = sign-fails x.Word ts h (refl, tt)

-- ---- what the rules of expressions read

pub reads-expression : (v : Expression ℕ) (ts rest : List Lexeme) → ep.Parses (expression v 0) ep.for_expr ep.for_tails ts rest → Looser 0 rest → Parses (expression v 0) for_expression same ts rest
reads-expression v ts rest h loose = record {
  spelled = h.spelled;
  passes = λ K. passes-inside (expression v 0) (front _ (f.of_expression v 0)) e.start K ts rest h.spelled (h.passes [] ∙ l.machine-more_tails [] rest (r.no_operator rest loose));
  shorter = h.shorter;
}

pub expression-fails : (ts : List Lexeme) (stop : Stop) → ep.Fails ep.for_expr ts stop → Fails for_expression ts stop
expression-fails ts (Left n) h = λ K. inside-fails ts e.start K n (h [])
expression-fails ts NoMemory h = tt

pub reads-arguments : (xs : Arguments ℕ) (ts rest : List Lexeme) → ep.Parses (arguments xs ⋆ sign x.Close) ep.for_arguments ep.same ts rest → Parses (arguments xs ⋆ sign x.Close) for_arguments same ts rest
reads-arguments xs ts rest h = record {
  spelled = h.spelled;
  passes = λ K. passes-inside (arguments xs ⋆ sign x.Close) (both_fronts _ _ (f.of_arguments xs) (front _ (f.of_sign x.Close))) (e.first_argument ∷ []) K ts rest h.spelled (h.passes []);
  shorter = h.shorter;
}

pub arguments-fail : (ts : List Lexeme) (stop : Stop) → ep.Fails ep.for_arguments ts stop → Fails for_arguments ts stop
arguments-fail ts (Left n) h = λ K. inside-fails ts (e.first_argument ∷ []) K n (h [])
arguments-fail ts NoMemory h = tt

pub reads-literal : (v : Literal) (ts rest : List Lexeme) → ep.Parses (literal v) ep.for_literal ep.same ts rest → Parses (literal v) for_literal same ts rest
reads-literal v ts rest h = record {
  spelled = h.spelled;
  passes = λ K. passes-inside (literal v) (front _ (f.of_literal v)) (e.literal_next ∷ []) K ts rest h.spelled (h.passes []);
  shorter = h.shorter;
}

pub literal-fails : (ts : List Lexeme) (stop : Stop) → ep.Fails ep.for_literal ts stop → Fails for_literal ts stop
literal-fails ts (Left n) h = λ K. inside-fails ts (e.literal_next ∷ []) K n (h [])
literal-fails ts NoMemory h = tt

pub reads-place : (p : Root ℕ) (s : Selectors ℕ) (ts m rest : List Lexeme) → ep.Parses (root p) ep.for_root ep.same ts m → Selects (selectors s) m rest → NoSelector rest → Parses (root p ⋆ selectors s) for_statement for_placed ts rest
reads-place p s ts m rest rr rs ends = record {
  spelled = (m, rr.spelled, (rs e.calls).spelled);
  passes = λ K. passes-place p s K ts rest (m, rr.spelled, (rs e.calls).spelled) ends;
  shorter = omega (arith, rr.shorter, (rs e.calls).shorter);
}

passes-root : (p : Root ℕ) (K : State) (ts m : List Lexeme) → root p ts m → machine (statement_next ∷ K) ts ≡ machine (inside place_state ∷ behind_place ∷ K) m
passes-root (roots.Name line n) K ts m (a, h) = on-sign (statement_next ∷ K) x.Word ts m (signed x.Word n ts m h)
passes-root (roots.This line) K ts m (a, h) = on-sign (statement_next ∷ K) x.This ts m h
passes-root (roots.Super line) K ts m (a, h) = on-sign (statement_next ∷ K) x.Super ts m h

pub root-fails : (ts : List Lexeme) (stop : Stop) → is_root (next_terminal ts) ≡ true → ep.Fails ep.for_root ts stop → Fails for_statement ts stop
root-fails ts NoMemory h z = tt
root-fails [] (Left n) h z = cc
root-fails (t ∷ ts) (Left n) h z = absurd (at t.terminal h (z []))
  where
    at : (u : Terminal) → is_root (Some u) ≡ true → e.go_on (e.on_root u []) (λ k'. e.machine k' ts) (false, suc (length ts)) ≡ (false, n) → ⊥
    at x.Word h z = let bad : true ≡ false = ap (λ q. q.0) (sym (r.machine-done ts) ∙ z) in cc
    at x.This h z = let bad : true ≡ false = ap (λ q. q.0) (sym (r.machine-done ts) ∙ z) in cc
    at x.Super h z = let bad : true ≡ false = ap (λ q. q.0) (sym (r.machine-done ts) ∙ z) in cc
    at _ h z = absurd (clash h)

pub place-fails : (p : Root ℕ) (ts m : List Lexeme) (stop : Stop) → ep.Parses (root p) ep.for_root ep.same ts m → SelectFails m stop → Fails for_statement ts stop
place-fails p ts m (Left n) rr h = λ K. passes-root p K ts m rr.spelled ∙ inside-fails m place_state (behind_place ∷ K) n (h e.elsewhere [])
place-fails p ts m NoMemory rr h = tt

-- ---- an expression and a terminal

pub reads-then : (v : Expression ℕ) (s : Terminal) (ts m rest : List Lexeme) → Parses (expression v 0) for_expression same ts m → ReadsSign (sign s) s m rest → ReadsThen (expression v 0 ⋆ sign s) s ts rest
reads-then v s ts m rest h c q =
    let c' = c q in
    record { spelled = (m, h.spelled, c'.spelled); passes = λ K. h.passes (need s q ∷ K) ∙ c'.passes K; shorter = omega (arith, h.shorter, c'.shorter) }

pub then-fails : (s : Terminal) (ts : List Lexeme) (stop : Stop) → Fails for_expression ts stop → ThenFails s ts stop
then-fails s ts (Left n) h = λ q K. h (need s q ∷ K)
then-fails s ts NoMemory h = λ q. tt

pub then-sign-fails : (v : Expression ℕ) (s : Terminal) (ts m : List Lexeme) (stop : Stop) → Parses (expression v 0) for_expression same ts m → SignFails s m stop → ThenFails s ts stop
then-sign-fails v s ts m (Left n) h z = λ q K. h.passes (need s q ∷ K) ∙ z q K
then-sign-fails v s ts m NoMemory h z = λ q. tt

-- ---- labels

pub tail-over : (K : State) (ts : List Lexeme) → (next_terminal ts ≡ Some x.Hash → ⊥) → (next_terminal ts ≡ Some x.Dot → ⊥) → machine (const_tail ∷ K) ts ≡ machine K ts
tail-over K [] h d = refl
tail-over K (t ∷ ts) h d = ap (λ o. go_on o (λ K'. machine K' ts) (accepts K, suc (length ts))) (at t.terminal h d (advance K t.terminal))
  where
    at : (u : Terminal) → (Some u ≡ Some x.Hash → ⊥) → (Some u ≡ Some x.Dot → ⊥) → (other : Option State) → on_const_tail u K other ≡ other
    at x.Hash h d other = absurd (h refl)
    at x.Dot h d other = absurd (d refl)
    at _ h d other = refl

pub reads-const_int : (line : ℕ) (n : List ℕ) (ts us : List Lexeme) → LineOf ts line → next_terminal ts ≡ Some x.Int → TextTaken n ts us → Parses (label_end (labels.Int line n)) for_const same ts us
reads-const_int line n ts us a h t =
    let w = taken x.Int n ts us h t in
    record { spelled = (line_spelled x.Int n line ts us a w, w); passes = λ K. on-sign (const_next ∷ K) x.Int ts us (signed x.Int n ts us w); shorter = omega (arith, spelled-shorter x.Int n ts us w) }

pub reads-const_minus : (line : ℕ) (n : List ℕ) (ts m us : List Lexeme) → LineOf ts line → next_terminal ts ≡ Some x.Minus → m ≡ drop 1 ts → next_terminal m ≡ Some x.Int → TextTaken n m us
    → Parses (label_end (labels.Negative line n)) for_const same ts us
reads-const_minus line n ts m us a h is h' t =
    let w = sign_at x.Minus ts m h is in
    let w' = taken x.Int n m us h' t in
    record {
      spelled = (line_sign x.Minus line ts m a w, (m, w, w'));
      passes = λ K. on-sign (const_next ∷ K) x.Minus ts m w ∙ on-need K x.Int (refl, tt) m us (signed x.Int n m us w');
      shorter = omega (arith, sign-shorter x.Minus ts m w, spelled-shorter x.Int n m us w');
    }

pub const_minus-fails : (ts m : List Lexeme) → next_terminal ts ≡ Some x.Minus → m ≡ drop 1 ts → (next_terminal m ≡ Some x.Int → ⊥) → Fails for_const ts (Left (length m))
const_minus-fails ts m h is z K = on-sign (const_next ∷ K) x.Minus ts m (sign_at x.Minus ts m h is) ∙ sign-fails x.Int m z (refl, tt) K

abbrev pub for_kind : State → State
for_kind K = need x.Hash (refl, tt) ∷ inside (e.literal_next ∷ []) ∷ K

pub passes-const_kind : (k : Elem) (ts m : List Lexeme) → next_terminal ts ≡ Some (x.Kind k) → m ≡ drop 1 ts → (K : State) → machine (const_next ∷ K) ts ≡ machine (for_kind K) m
passes-const_kind k ts m h is K = on-sign (const_next ∷ K) (x.Kind k) ts m (sign_at (x.Kind k) ts m h is)

pub const_kind-fails : (k : Elem) (ts m : List Lexeme) (stop : Stop) → next_terminal ts ≡ Some (x.Kind k) → m ≡ drop 1 ts → SignFails x.Hash m stop → Fails for_const ts stop
const_kind-fails k ts m (Left n) h is z = λ K. passes-const_kind k ts m h is K ∙ z (refl, tt) (inside (e.literal_next ∷ []) ∷ K)
const_kind-fails k ts m NoMemory h is z = tt

pub const_typed-fails : (k : Elem) (ts m m2 : List Lexeme) (stop : Stop) → next_terminal ts ≡ Some (x.Kind k) → m ≡ drop 1 ts → ReadsSign (sign x.Hash) x.Hash m m2 → Fails for_literal m2 stop → Fails for_const ts stop
const_typed-fails k ts m m2 (Left n) h is w z = λ K. passes-const_kind k ts m h is K ∙ (w (refl, tt)).passes (inside (e.literal_next ∷ []) ∷ K) ∙ z K
const_typed-fails k ts m m2 NoMemory h is w z = tt

pub reads-const_typed : (line : ℕ) (k : Elem) (v : Literal) (ts m m2 us : List Lexeme) → LineOf ts line → next_terminal ts ≡ Some (x.Kind k) → m ≡ drop 1 ts → ReadsSign (sign x.Hash) x.Hash m m2
    → Parses (literal v) for_literal same m2 us → Parses (label_end (labels.Typed line k v)) for_const same ts us
reads-const_typed line k v ts m m2 us a h is c rv =
    let w = sign_at (x.Kind k) ts m h is in
    let c' = c (refl, tt) in
    record {
      spelled = (line_sign (x.Kind k) line ts m a w, (m, w, (m2, c'.spelled, rv.spelled)));
      passes = λ K. passes-const_kind k ts m h is K ∙ c'.passes (inside (e.literal_next ∷ []) ∷ K) ∙ rv.passes K;
      shorter = omega (arith, sign-shorter (x.Kind k) ts m w, c'.shorter, rv.shorter);
    }

pub const_fails : (ts : List Lexeme) → starts_const (next_terminal ts) ≡ false → Fails for_const ts (Left (length ts))
const_fails [] h K = refl
const_fails (t ∷ ts) h K = ap (λ o. go_on o (λ K'. machine K' ts) (false, suc (length ts))) (at t.terminal h)
  where
    at : (u : Terminal) → starts_const (Some u) ≡ false → on_const u K (on_const_word u K None) ≡ None
    at x.Int h = cc
    at x.Minus h = cc
    at (x.Kind k) h = cc
    at x.Word h = cc
    at _ h = refl

passes-const_word : (n : List ℕ) (ts m : List Lexeme) → next_terminal ts ≡ Some x.Word → TextTaken n ts m → (K : State) → machine (const_next ∷ K) ts ≡ machine (const_tail ∷ K) m
passes-const_word n ts m h t K = on-sign (const_next ∷ K) x.Word ts m (signed x.Word n ts m (taken x.Word n ts m h t))

pub reads-const_name : (line : ℕ) (n : List ℕ) (ts m : List Lexeme) → LineOf ts line → next_terminal ts ≡ Some x.Word → TextTaken n ts m → (next_terminal m ≡ Some x.Hash → ⊥) → (next_terminal m ≡ Some x.Dot → ⊥)
    → Parses (label_end (labels.Name line n)) for_const same ts m
reads-const_name line n ts m a h t free free' =
    let w = taken x.Word n ts m h t in
    record { spelled = (line_spelled x.Word n line ts m a w, w); passes = λ K. passes-const_word n ts m h t K ∙ tail-over K m free free'; shorter = omega (arith, spelled-shorter x.Word n ts m w) }

pub passes-const_hash : (n : List ℕ) (ts m m2 : List Lexeme) → next_terminal ts ≡ Some x.Word → TextTaken n ts m → sign x.Hash m m2 → (K : State) → machine (const_next ∷ K) ts ≡ machine (word_next ∷ K) m2
passes-const_hash n ts m m2 h t c K = passes-const_word n ts m h t K ∙ on-sign (const_tail ∷ K) x.Hash m m2 c

pub passes-const_dot : (n : List ℕ) (ts m m2 : List Lexeme) → next_terminal ts ≡ Some x.Word → TextTaken n ts m → sign x.Dot m m2 → (K : State) → machine (const_next ∷ K) ts ≡ machine (word_next ∷ K) m2
passes-const_dot n ts m m2 h t c K = passes-const_word n ts m h t K ∙ on-sign (const_tail ∷ K) x.Dot m m2 c

pub reads-const_enumerator : (line : ℕ) (n : List ℕ) (later : ℕ) (v : List ℕ) (ts m m2 us : List Lexeme) → LineOf ts line → next_terminal ts ≡ Some x.Word → TextTaken n ts m → sign x.Hash m m2 → LineOf m2 later
    → Parses (word v) for_word same m2 us → Parses (label_end (labels.Enumerator line n later v)) for_const same ts us
reads-const_enumerator line n later v ts m m2 us a h t c a' rv =
    let w = taken x.Word n ts m h t in
    record {
      spelled = (line_spelled x.Word n line ts m a w, (m, w, (m2, c, (line_spelled x.Word v later m2 us a' rv.spelled, rv.spelled))));
      passes = λ K. passes-const_hash n ts m m2 h t c K ∙ rv.passes K;
      shorter = omega (arith, spelled-shorter x.Word n ts m w, sign-shorter x.Hash m m2 c, rv.shorter);
    }

pub reads-const_field : (line : ℕ) (n : List ℕ) (later : ℕ) (v : List ℕ) (ts m m2 us : List Lexeme) → LineOf ts line → next_terminal ts ≡ Some x.Word → TextTaken n ts m → sign x.Dot m m2 → LineOf m2 later
    → Parses (word v) for_word same m2 us → Parses (label_end (labels.Field line n later v)) for_const same ts us
reads-const_field line n later v ts m m2 us a h t c a' rv =
    let w = taken x.Word n ts m h t in
    record {
      spelled = (line_spelled x.Word n line ts m a w, (m, w, (m2, c, (line_spelled x.Word v later m2 us a' rv.spelled, rv.spelled))));
      passes = λ K. passes-const_dot n ts m m2 h t c K ∙ rv.passes K;
      shorter = omega (arith, spelled-shorter x.Word n ts m w, sign-shorter x.Dot m m2 c, rv.shorter);
    }

range-over : (K : State) (ts : List Lexeme) → (next_terminal ts ≡ Some x.Range → ⊥) → machine (behind_label ∷ K) ts ≡ machine (label_more ∷ K) ts
range-over K [] h = refl
range-over K (t ∷ ts) h = ap (λ o. go_on o (λ K'. machine K' ts) (false, suc (length ts))) (at t.terminal h)
  where
    at : (u : Terminal) → (Some u ≡ Some x.Range → ⊥) → on_behind_label u K None ≡ on_label_more u K None
    at x.Range h = absurd (h refl)
    at _ h = refl

pub label-fails : (ts : List Lexeme) (stop : Stop) → Fails for_const ts stop → Fails for_label ts stop
label-fails ts (Left n) h = λ K. h (behind_label ∷ K)
label-fails ts NoMemory h = tt

pub passes-label_range : (c : LabelEnd ℕ) (ts m m2 : List Lexeme) → Parses (label_end c) for_const same ts m → sign x.Range m m2 → (K : State) → machine (for_label K) ts ≡ machine (const_next ∷ label_more ∷ K) m2
passes-label_range c ts m m2 h w K = h.passes (behind_label ∷ K) ∙ on-sign (behind_label ∷ K) x.Range m m2 w

pub label-range-fails : (c : LabelEnd ℕ) (ts m m2 : List Lexeme) (stop : Stop) → Parses (label_end c) for_const same ts m → sign x.Range m m2 → Fails for_const m2 stop → Fails for_label ts stop
label-range-fails c ts m m2 (Left n) h w z = λ K. passes-label_range c ts m m2 h w K ∙ z (label_more ∷ K)
label-range-fails c ts m m2 NoMemory h w z = tt

pub reads-label_range : (c d : LabelEnd ℕ) (ts m m2 us : List Lexeme) → Parses (label_end c) for_const same ts m → sign x.Range m m2 → Parses (label_end d) for_const same m2 us
    → Parses (label (record { first = c; last = Some d })) for_label for_more_labels ts us
reads-label_range c d ts m m2 us h w h' = record {
  spelled = (m, h.spelled, (m2, w, h'.spelled));
  passes = λ K. passes-label_range c ts m m2 h w K ∙ h'.passes (label_more ∷ K);
  shorter = omega (arith, h.shorter, sign-shorter x.Range m m2 w, h'.shorter);
}

pub reads-label : (c : LabelEnd ℕ) (ts m : List Lexeme) → Parses (label_end c) for_const same ts m → (next_terminal m ≡ Some x.Range → ⊥) → Parses (label (record { first = c; last = None })) for_label for_more_labels ts m
reads-label c ts m h free = record { spelled = (m, h.spelled, refl); passes = λ K. h.passes (behind_label ∷ K) ∙ range-over K m free; shorter = h.shorter }

-- labels so far, and whatever follows
abbrev pub labels_onto : List (Label ℕ) → List (Label ℕ) → List (Label ℕ)
labels_onto [] ls = ls
labels_onto (c ∷ cs) ls = c ∷ labels_onto cs ls

labels_onto-push : (cs : List (Label ℕ)) (c : Label ℕ) (ls : List (Label ℕ)) → labels_onto (cs ++ c ∷ []) ls ≡ labels_onto cs (c ∷ ls)
labels_onto-push [] c ls = refl
labels_onto-push (d ∷ cs) c ls = ap (λ u. d ∷ u) (labels_onto-push cs c ls)

labels_onto-none : (cs : List (Label ℕ)) → labels_onto cs [] ≡ cs
labels_onto-none [] = refl
labels_onto-none (d ∷ cs) = ap (λ u. d ∷ u) (labels_onto-none cs)

pub record LabelsSoFar (found : List (Label ℕ)) (old now : List Lexeme) : Type 0 where
  pub spelled : (ls : List (Label ℕ)) (rest : List Lexeme) → more_labels ls now rest → first_label (labels_onto found ls) old rest
  pub passes : (K : State) → machine (for_label K) old ≡ machine (label_more ∷ K) now
  pub shorter : length now ≤ length old

pub labels-first : (c : Label ℕ) (old now : List Lexeme) → Parses (label c) for_label for_more_labels old now → LabelsSoFar (c ∷ []) old now
labels-first c old now h = record { spelled = λ ls rest more. (now, h.spelled, more); passes = h.passes; shorter = h.shorter }

pub labels-pushed : (found : List (Label ℕ)) (c : Label ℕ) (old now m next : List Lexeme) → LabelsSoFar found old now → sign x.Comma now m → Parses (label c) for_label for_more_labels m next → LabelsSoFar (found ++ c ∷ []) old next
labels-pushed found c old now m next s w h = record {
  spelled = λ ls rest more. subst (λ u. first_label u old rest) (sym (labels_onto-push found c ls)) (s.spelled (c ∷ ls) rest (m, w, (next, h.spelled, more)));
  passes = λ K. s.passes K ∙ on-sign (label_more ∷ K) x.Comma now m w ∙ h.passes K;
  shorter = omega (arith, s.shorter, sign-shorter x.Comma now m w, h.shorter);
}

pub labels-fail : (found : List (Label ℕ)) (old now m : List Lexeme) (stop : Stop) → LabelsSoFar found old now → sign x.Comma now m → Fails for_label m stop → Fails for_label old stop
labels-fail found old now m (Left n) s w z = λ K. s.passes K ∙ on-sign (label_more ∷ K) x.Comma now m w ∙ z K
labels-fail found old now m NoMemory s w z = tt

pub labels-read : (found : List (Label ℕ)) (old now rest : List Lexeme) → LabelsSoFar found old now → sign x.Colon now rest → Parses (first_label found ⋆ sign x.Colon) for_label for_case_body old rest
labels-read found old now rest s w = record {
  spelled = (now, subst (λ u. first_label u old now) (labels_onto-none found) (s.spelled [] now refl), w);
  passes = λ K. s.passes K ∙ on-sign (label_more ∷ K) x.Colon now rest w;
  shorter = omega (arith, s.shorter, sign-shorter x.Colon now rest w);
}

pub labels-end-fails : (found : List (Label ℕ)) (old now : List Lexeme) → LabelsSoFar found old now → (next_terminal now ≡ Some x.Comma → ⊥) → (next_terminal now ≡ Some x.Colon → ⊥) → Fails for_label old (Left (length now))
labels-end-fails found old now s free free' K = s.passes K ∙ stuck now free free'
  where
    stuck : (ts : List Lexeme) → (next_terminal ts ≡ Some x.Comma → ⊥) → (next_terminal ts ≡ Some x.Colon → ⊥) → machine (label_more ∷ K) ts ≡ (false, length ts)
    stuck [] h c = refl
    stuck (t ∷ ts) h c = ap (λ o. go_on o (λ K'. machine K' ts) (false, suc (length ts))) (at t.terminal h c)
      where
        at : (u : Terminal) → (Some u ≡ Some x.Comma → ⊥) → (Some u ≡ Some x.Colon → ⊥) → on_label_more u K None ≡ None
        at x.Comma h c = absurd (h refl)
        at x.Colon h c = absurd (c refl)
        at _ h c = refl

-- ---- statements without statements in them

pub stated : (s v : Statement ℕ) (ts rest : List Lexeme) → s ≡ v → Parses (statement v) for_statement same ts rest → Parses (statement s) for_statement same ts rest
stated s v ts rest q h = subst (λ u. Parses (statement u) for_statement same ts rest) (sym q) h

pub statement-shorter : (s : Statement ℕ) (ts rest : List Lexeme) → statement s ts rest → length rest < length ts
statement-shorter s ts rest h =
    let a = of_statement s ts rest h in
    omega (arith, ap length a.whole, length-append a.more rest)

pub reads-empty : (line : ℕ) (ts us : List Lexeme) → LineOf ts line → next_terminal ts ≡ Some x.Semicolon → us ≡ drop 1 ts → Parses (statement (stmt.Empty line)) for_statement same ts us
reads-empty line ts us a h is =
    let w = sign_at x.Semicolon ts us h is in
    record { spelled = (line_sign x.Semicolon line ts us a w, w); passes = λ K. on-sign (statement_next ∷ K) x.Semicolon ts us w; shorter = omega (arith, sign-shorter x.Semicolon ts us w) }

-- EXIT, CONTINUE, RETURN
abbrev Short : Terminal → Type 0
Short s = (K : State) → on_statement s K None ≡ Some (need x.Semicolon (refl, tt) ∷ K)

pub passes-short : (s : Terminal) → Short s → (ts m : List Lexeme) → next_terminal ts ≡ Some s → m ≡ drop 1 ts → (K : State) → machine (statement_next ∷ K) ts ≡ machine (need x.Semicolon (refl, tt) ∷ K) m
passes-short s short ts m h is K = on-sign (statement_next ∷ K) s ts m (sign_at s ts m h is) ∙ ap (λ o. go_on o (λ K'. machine K' m) (false, suc (length m))) (short K)

pub short-fails : (s : Terminal) → Short s → (ts m : List Lexeme) (stop : Stop) → next_terminal ts ≡ Some s → m ≡ drop 1 ts → SignFails x.Semicolon m stop → Fails for_statement ts stop
short-fails s short ts m (Left n) h is z = λ K. passes-short s short ts m h is K ∙ z (refl, tt) K
short-fails s short ts m NoMemory h is z = tt

pub reads-short : (s : Terminal) → Short s → (v : ℕ → Statement ℕ) (line : ℕ) → ((ts rest : List Lexeme) → At line ts → (sign s ⋆ sign x.Semicolon) ts rest → statement (v line) ts rest) → (ts m us : List Lexeme) → LineOf ts line
    → next_terminal ts ≡ Some s → m ≡ drop 1 ts → ReadsSign (sign x.Semicolon) x.Semicolon m us → Parses (statement (v line)) for_statement same ts us
reads-short s short v line make ts m us a h is c =
    let w = sign_at s ts m h is in
    let c' = c (refl, tt) in
    record {
      spelled = make ts us (line_sign s line ts m a w) (m, w, c'.spelled);
      passes = λ K. passes-short s short ts m h is K ∙ c'.passes K;
      shorter = omega (arith, sign-shorter s ts m w, c'.shorter);
    }

-- a place and a value
pub place_next_fails : (p : Root ℕ) (s : Selectors ℕ) (ts m : List Lexeme) → Parses (root p ⋆ selectors s) for_statement for_placed ts m
    → (next_terminal m ≡ Some x.Assign → ⊥) → (next_terminal m ≡ Some x.Attempt → ⊥) → (next_terminal m ≡ Some x.Open → ⊥) → Fails for_statement ts (Left (length m))
place_next_fails p s ts m h a b c K = h.passes K ∙ stuck m a b c
  where
    stuck : (ts : List Lexeme) → (next_terminal ts ≡ Some x.Assign → ⊥) → (next_terminal ts ≡ Some x.Attempt → ⊥) → (next_terminal ts ≡ Some x.Open → ⊥) → machine (behind_place ∷ K) ts ≡ (false, length ts)
    stuck [] a b c = refl
    stuck (t ∷ ts) a b c = ap (λ o. go_on o (λ K'. machine K' ts) (false, suc (length ts))) (at t.terminal a b c)
      where
        at : (u : Terminal) → (Some u ≡ Some x.Assign → ⊥) → (Some u ≡ Some x.Attempt → ⊥) → (Some u ≡ Some x.Open → ⊥) → on_placed u K ≡ None
        at x.Assign a b c = absurd (a refl)
        at x.Attempt a b c = absurd (b refl)
        at x.Open a b c = absurd (c refl)
        at _ a b c = refl

abbrev Valued : Terminal → Type 0
Valued s = (K : State) → on_placed s K ≡ Some (inside e.start ∷ need x.Semicolon (refl, tt) ∷ K)

pub passes-valued : (s : Terminal) → Valued s → (p : Root ℕ) (z : Selectors ℕ) (ts m m2 : List Lexeme) → Parses (root p ⋆ selectors z) for_statement for_placed ts m → next_terminal m ≡ Some s → m2 ≡ drop 1 m
    → (K : State) → machine (statement_next ∷ K) ts ≡ machine (inside e.start ∷ need x.Semicolon (refl, tt) ∷ K) m2
passes-valued s valued p z ts m m2 h n is K = h.passes K ∙ on-sign (behind_place ∷ K) s m m2 (sign_at s m m2 n is) ∙ ap (λ o. go_on o (λ K'. machine K' m2) (false, suc (length m2))) (valued K)

pub valued-fails : (s : Terminal) → Valued s → (p : Root ℕ) (z : Selectors ℕ) (ts m m2 : List Lexeme) (stop : Stop) → Parses (root p ⋆ selectors z) for_statement for_placed ts m → next_terminal m ≡ Some s → m2 ≡ drop 1 m
    → ThenFails x.Semicolon m2 stop → Fails for_statement ts stop
valued-fails s valued p z ts m m2 (Left n) h w is f = λ K. passes-valued s valued p z ts m m2 h w is K ∙ f (refl, tt) K
valued-fails s valued p z ts m m2 NoMemory h w is f = tt

at-place : (line : ℕ) (p : Root ℕ) (z : Selectors ℕ) (ts m : List Lexeme) → LineOf ts line → (root p ⋆ selectors z) ts m → At line ts
at-place line p z ts m a (n, h, hs) = line_root p line ts n a h

pub reads-assign : (line : ℕ) (p : Root ℕ) (z : Selectors ℕ) (v : Expression ℕ) (ts m m2 us : List Lexeme) → LineOf ts line → Parses (root p ⋆ selectors z) for_statement for_placed ts m → next_terminal m ≡ Some x.Assign → m2 ≡ drop 1 m
    → ReadsThen (expression v 0 ⋆ sign x.Semicolon) x.Semicolon m2 us → Parses (statement (stmt.Assign line line p z v)) for_statement same ts us
reads-assign line p z v ts m m2 us a h n is rv =
    let w = sign_at x.Assign m m2 n is in
    let v' = rv (refl, tt) in
    record {
      spelled = (at-place line p z ts m a h.spelled, (m, (at-place line p z ts m a h.spelled, h.spelled), (m2, w, v'.spelled)));
      passes = λ K. passes-valued x.Assign (λ K'. refl) p z ts m m2 h n is K ∙ v'.passes K;
      shorter = omega (arith, h.shorter, sign-shorter x.Assign m m2 w, v'.shorter);
    }

pub reads-attempt : (line : ℕ) (p : Root ℕ) (z : Selectors ℕ) (v : Expression ℕ) (ts m m2 us : List Lexeme) → LineOf ts line → Parses (root p ⋆ selectors z) for_statement for_placed ts m → next_terminal m ≡ Some x.Attempt → m2 ≡ drop 1 m
    → ReadsThen (expression v 0 ⋆ sign x.Semicolon) x.Semicolon m2 us → Parses (statement (stmt.Attempt line line p z v)) for_statement same ts us
reads-attempt line p z v ts m m2 us a h n is rv =
    let w = sign_at x.Attempt m m2 n is in
    let v' = rv (refl, tt) in
    record {
      spelled = (at-place line p z ts m a h.spelled, (m, (at-place line p z ts m a h.spelled, h.spelled), (m2, w, v'.spelled)));
      passes = λ K. passes-valued x.Attempt (λ K'. refl) p z ts m m2 h n is K ∙ v'.passes K;
      shorter = omega (arith, h.shorter, sign-shorter x.Attempt m m2 w, v'.shorter);
    }

passes-open : (p : Root ℕ) (z : Selectors ℕ) (ts m m2 : List Lexeme) → Parses (root p ⋆ selectors z) for_statement for_placed ts m → next_terminal m ≡ Some x.Open → m2 ≡ drop 1 m
    → (K : State) → machine (statement_next ∷ K) ts ≡ machine (inside (e.first_argument ∷ []) ∷ need x.Semicolon (refl, tt) ∷ K) m2
passes-open p z ts m m2 h n is K = h.passes K ∙ on-sign (behind_place ∷ K) x.Open m m2 (sign_at x.Open m m2 n is)

pub call-fails : (p : Root ℕ) (z : Selectors ℕ) (ts m m2 : List Lexeme) (stop : Stop) → Parses (root p ⋆ selectors z) for_statement for_placed ts m → next_terminal m ≡ Some x.Open → m2 ≡ drop 1 m
    → Fails for_arguments m2 stop → Fails for_statement ts stop
call-fails p z ts m m2 (Left n) h w is f = λ K. passes-open p z ts m m2 h w is K ∙ f (need x.Semicolon (refl, tt) ∷ K)
call-fails p z ts m m2 NoMemory h w is f = tt

pub called-fails : (p : Root ℕ) (z : Selectors ℕ) (xs : Arguments ℕ) (ts m m2 m3 : List Lexeme) (stop : Stop) → Parses (root p ⋆ selectors z) for_statement for_placed ts m → next_terminal m ≡ Some x.Open → m2 ≡ drop 1 m
    → Parses (arguments xs ⋆ sign x.Close) for_arguments same m2 m3 → SignFails x.Semicolon m3 stop → Fails for_statement ts stop
called-fails p z xs ts m m2 m3 (Left n) h w is ra f = λ K. passes-open p z ts m m2 h w is K ∙ ra.passes (need x.Semicolon (refl, tt) ∷ K) ∙ f (refl, tt) K
called-fails p z xs ts m m2 m3 NoMemory h w is ra f = tt

pub reads-call : (line : ℕ) (p : Root ℕ) (z : Selectors ℕ) (xs : Arguments ℕ) (ts m m2 m3 us : List Lexeme) → LineOf ts line → Parses (root p ⋆ selectors z) for_statement for_placed ts m → next_terminal m ≡ Some x.Open → m2 ≡ drop 1 m
    → Parses (arguments xs ⋆ sign x.Close) for_arguments same m2 m3 → ReadsSign (sign x.Semicolon) x.Semicolon m3 us → Parses (statement (stmt.Call line line p z xs)) for_statement same ts us
reads-call line p z xs ts m m2 m3 us a h n is ra c =
    let w = sign_at x.Open m m2 n is in
    let c' = c (refl, tt) in
    record {
      spelled = (at-place line p z ts m a h.spelled, (m, (at-place line p z ts m a h.spelled, h.spelled), (m2, w, (ra.spelled.0, ra.spelled.1, (m3, ra.spelled.2, c'.spelled)))));
      passes = λ K. passes-open p z ts m m2 h n is K ∙ ra.passes (need x.Semicolon (refl, tt) ∷ K) ∙ c'.passes K;
      shorter = omega (arith, h.shorter, sign-shorter x.Open m m2 w, ra.shorter, c'.shorter);
    }

-- ---- the head of a FOR

pub by-fails : (ts m : List Lexeme) (stop : Stop) → sign x.By ts m → ThenFails x.Do m stop → Fails for_step ts stop
by-fails ts m (Left n) w f = λ K. on-sign (by_or_do ∷ K) x.By ts m w ∙ f (refl, tt) (body (until x.EndFor tt (refl, tt)) ∷ K)
by-fails ts m NoMemory w f = tt

pub reads-by : (v : Expression ℕ) (ts m us : List Lexeme) → sign x.By ts m → ReadsThen (expression v 0 ⋆ sign x.Do) x.Do m us → Parses (step_by (Some v) ⋆ sign x.Do) for_step for_turns ts us
reads-by v ts m us w rv =
    let v' = rv (refl, tt) in
    record {
      spelled = (v'.spelled.0, (m, w, v'.spelled.1), v'.spelled.2);
      passes = λ K. on-sign (by_or_do ∷ K) x.By ts m w ∙ v'.passes (body (until x.EndFor tt (refl, tt)) ∷ K);
      shorter = omega (arith, sign-shorter x.By ts m w, v'.shorter);
    }

pub reads-do : (ts us : List Lexeme) → sign x.Do ts us → Parses (step_by None ⋆ sign x.Do) for_step for_turns ts us
reads-do ts us w = record { spelled = (ts, refl, w); passes = λ K. on-sign (by_or_do ∷ K) x.Do ts us w; shorter = omega (arith, sign-shorter x.Do ts us w) }

pub step-fails : (ts : List Lexeme) → (next_terminal ts ≡ Some x.By → ⊥) → (next_terminal ts ≡ Some x.Do → ⊥) → Fails for_step ts (Left (length ts))
step-fails [] b d K = refl
step-fails (t ∷ ts) b d K = ap (λ o. go_on o (λ K'. machine K' ts) (false, suc (length ts))) (at t.terminal b d)
  where
    at : (u : Terminal) → (Some u ≡ Some x.By → ⊥) → (Some u ≡ Some x.Do → ⊥) → on_step u K ≡ None
    at x.By b d = absurd (b refl)
    at x.Do b d = absurd (d refl)
    at _ b d = refl

abbrev pub for_named : State → State
for_named K = need x.Assign (refl, tt) ∷ inside e.start ∷ need x.To (refl, tt) ∷ inside e.start ∷ by_or_do ∷ K

abbrev pub for_from : State → State
for_from K = inside e.start ∷ need x.To (refl, tt) ∷ inside e.start ∷ by_or_do ∷ K

abbrev pub for_to : State → State
for_to K = inside e.start ∷ by_or_do ∷ K

pub control-named : (n : List ℕ) (ts m : List Lexeme) → Parses (word n) for_word same ts m → (K : State) → machine (for_control K) ts ≡ machine (for_named K) m
control-named n ts m h K = h.passes (for_named K)

pub control-from : (n : List ℕ) (ts m m2 : List Lexeme) → Parses (word n) for_word same ts m → ReadsSign (sign x.Assign) x.Assign m m2 → (K : State) → machine (for_control K) ts ≡ machine (for_from K) m2
control-from n ts m m2 h c K = control-named n ts m h K ∙ (c (refl, tt)).passes (for_from K)

pub control-to : (n : List ℕ) (from : Expression ℕ) (ts m m2 m3 : List Lexeme) → Parses (word n) for_word same ts m → ReadsSign (sign x.Assign) x.Assign m m2 → ReadsThen (expression from 0 ⋆ sign x.To) x.To m2 m3
    → (K : State) → machine (for_control K) ts ≡ machine (for_to K) m3
control-to n from ts m m2 m3 h c rf K = control-from n ts m m2 h c K ∙ (rf (refl, tt)).passes (for_to K)

pub control-fails-name : (ts : List Lexeme) (stop : Stop) → Fails for_word ts stop → Fails for_control ts stop
control-fails-name ts (Left n) h = λ K. h (for_named K)
control-fails-name ts NoMemory h = tt

pub control-fails-assign : (n : List ℕ) (ts m : List Lexeme) (stop : Stop) → Parses (word n) for_word same ts m → SignFails x.Assign m stop → Fails for_control ts stop
control-fails-assign n ts m (Left i) h z = λ K. control-named n ts m h K ∙ z (refl, tt) (for_from K)
control-fails-assign n ts m NoMemory h z = tt

pub control-fails-from : (n : List ℕ) (ts m m2 : List Lexeme) (stop : Stop) → Parses (word n) for_word same ts m → ReadsSign (sign x.Assign) x.Assign m m2 → ThenFails x.To m2 stop → Fails for_control ts stop
control-fails-from n ts m m2 (Left i) h c z = λ K. control-from n ts m m2 h c K ∙ z (refl, tt) (for_to K)
control-fails-from n ts m m2 NoMemory h c z = tt

pub control-fails-to : (n : List ℕ) (from : Expression ℕ) (ts m m2 m3 : List Lexeme) (stop : Stop) → Parses (word n) for_word same ts m → ReadsSign (sign x.Assign) x.Assign m m2 → ReadsThen (expression from 0 ⋆ sign x.To) x.To m2 m3
    → Fails for_expression m3 stop → Fails for_control ts stop
control-fails-to n from ts m m2 m3 (Left i) h c rf z = λ K. control-to n from ts m m2 m3 h c rf K ∙ z (by_or_do ∷ K)
control-fails-to n from ts m m2 m3 NoMemory h c rf z = tt

pub control-fails-step : (n : List ℕ) (from to : Expression ℕ) (ts m m2 m3 m4 : List Lexeme) (stop : Stop) → Parses (word n) for_word same ts m → ReadsSign (sign x.Assign) x.Assign m m2 → ReadsThen (expression from 0 ⋆ sign x.To) x.To m2 m3
    → Parses (expression to 0) for_expression same m3 m4 → Fails for_step m4 stop → Fails for_control ts stop
control-fails-step n from to ts m m2 m3 m4 (Left i) h c rf rt z = λ K. control-to n from ts m m2 m3 h c rf K ∙ rt.passes (by_or_do ∷ K) ∙ z K
control-fails-step n from to ts m m2 m3 m4 NoMemory h c rf rt z = tt

pub reads-control : (c : Control) (ts m m2 m3 m4 us : List Lexeme) → LineOf ts c.note → Parses (word c.name) for_word same ts m → ReadsSign (sign x.Assign) x.Assign m m2
    → ReadsThen (expression (expression_of c.from) 0 ⋆ sign x.To) x.To m2 m3 → Parses (expression (expression_of c.to) 0) for_expression same m3 m4 → Parses (step_by (option_map expression_of c.by) ⋆ sign x.Do) for_step for_turns m4 us
    → Parses (Controlled c) for_control for_turns ts us
reads-control c ts m m2 m3 m4 us a h w rf rt rb =
    let w' = w (refl, tt) in
    let f' = rf (refl, tt) in
    record {
      spelled = (m, (line_spelled x.Word c.name c.note ts m a h.spelled, h.spelled), (m2, w'.spelled, (f'.spelled.0, f'.spelled.1, (m3, f'.spelled.2, (m4, rt.spelled, rb.spelled)))));
      passes = λ K. control-to c.name (expression_of c.from) ts m m2 m3 h w rf K ∙ rt.passes (by_or_do ∷ K) ∙ rb.passes K;
      shorter = omega (arith, h.shorter, w'.shorter, f'.shorter, rt.shorter, rb.shorter);
    }

-- ---- bodies

-- statements so far, and whatever follows
abbrev pub statements_onto : List (Stmt ℕ) → Statements ℕ → Statements ℕ
statements_onto [] ss = ss
statements_onto (s ∷ more) ss = statement_then (statement_of s) (statements_onto more ss)

statements_onto-push : (found : List (Stmt ℕ)) (s : Stmt ℕ) (ss : Statements ℕ) → statements_onto (found ++ s ∷ []) ss ≡ statements_onto found (statement_then (statement_of s) ss)
statements_onto-push [] s ss = refl
statements_onto-push (t ∷ found) s ss = ap (statement_then (statement_of t)) (statements_onto-push found s ss)

statements_onto-none : (found : List (Stmt ℕ)) → statements_onto found no_statements ≡ statements_of found
statements_onto-none [] = refl
statements_onto-none (t ∷ found) = ap (statement_then (statement_of t)) (statements_onto-none found)

abbrev Onto : List (Stmt ℕ) → List Lexeme → List Lexeme → Type 0
Onto found old now = (ss : Statements ℕ) (rest : List Lexeme) → g.body ss now rest → g.body (statements_onto found ss) old rest

pushed : (found : List (Stmt ℕ)) (s : Stmt ℕ) (old now next : List Lexeme) → Onto found old now → statement (statement_of s) now next → Onto (found ++ s ∷ []) old next
pushed found s old now next onto h ss rest more = subst (λ u. g.body u old rest) (sym (statements_onto-push found s ss)) (onto (statement_then (statement_of s) ss) rest (next, h, more))

read : (found : List (Stmt ℕ)) (old now : List Lexeme) → Onto found old now → g.body (statements_of found) old now
read found old now onto = subst (λ u. g.body u old now) (statements_onto-none found) (onto no_statements now refl)

pub record BodySoFar (found : List (Stmt ℕ)) (old now : List Lexeme) : Type 0 where
  pub spelled : Onto found old now
  pub passes : (b : Ender) (K : State) → machine (body b ∷ K) old ≡ machine (body b ∷ K) now
  pub shorter : length now ≤ length old

pub body-first : (old : List Lexeme) → BodySoFar [] old old
body-first old = record { spelled = λ ss rest h. h; passes = λ b K. refl; shorter = omega arith }

pub body-pushed : (found : List (Stmt ℕ)) (s : Stmt ℕ) (old now next : List Lexeme) → BodySoFar found old now → starts_statement (next_terminal now) ≡ true → Parses (statement (statement_of s)) for_statement same now next
    → BodySoFar (found ++ s ∷ []) old next
body-pushed found s old now next so starts h = record {
  spelled = pushed found s old now next so.spelled h.spelled;
  passes = λ b K. so.passes b K ∙ machine-started b K now starts ∙ h.passes (body b ∷ K);
  shorter = omega (arith, so.shorter, h.shorter);
}

pub body-fails : (found : List (Stmt ℕ)) (old now : List Lexeme) (stop : Stop) → BodySoFar found old now → starts_statement (next_terminal now) ≡ true → Fails for_statement now stop → BodyFails old stop
body-fails found old now (Left n) so starts z b = λ K. so.passes b K ∙ machine-started b K now starts ∙ z (body b ∷ K)
body-fails found old now NoMemory so starts z b = tt

pub body-read : (found : List (Stmt ℕ)) (old now : List Lexeme) → BodySoFar found old now → ReadsBody (g.body (statements_of found)) old now
body-read found old now so b = record { spelled = read found old now so.spelled; passes = so.passes b; shorter = so.shorter }

pub until-fails : (s : Terminal) (ts : List Lexeme) (stop : Stop) → BodyFails ts stop → UntilFails s ts stop
until-fails s ts (Left n) h = λ free q K. h (until s free q) K
until-fails s ts NoMemory h = λ free q. tt

pub until-end-fails : (ss : Statements ℕ) (s : Terminal) (ts m : List Lexeme) (stop : Stop) → ReadsBody (g.body ss) ts m → starts_statement (next_terminal m) ≡ false → SignFails s m stop → UntilFails s ts stop
until-end-fails ss s ts m (Left n) h ends z = λ free q K. (h (until s free q)).passes K ∙ machine-until K s free q m ends ∙ z q K
until-end-fails ss s ts m NoMemory h ends z = λ free q. tt

pub reads-until : (ss : Statements ℕ) (s : Terminal) (ts m us : List Lexeme) → ReadsBody (g.body ss) ts m → starts_statement (next_terminal m) ≡ false → ReadsSign (sign s) s m us → ReadsUntil (g.body ss ⋆ sign s) s ts us
reads-until ss s ts m us h ends c free q =
    let h' = h (until s free q) in
    let c' = c q in
    record { spelled = (m, h'.spelled, c'.spelled); passes = λ K. h'.passes K ∙ machine-until K s free q m ends ∙ c'.passes K; shorter = omega (arith, h'.shorter, c'.shorter) }

-- ---- ELSE

pub else-fails : (s : Terminal) (ts m : List Lexeme) (stop : Stop) → sign x.Else ts m → UntilFails s m stop → OtherwiseFails s ts stop
else-fails s ts m (Left n) w z = λ free q K. on-sign (otherwise_next s free q ∷ K) x.Else ts m w ∙ z free q K
else-fails s ts m NoMemory w z = λ free q. tt

pub reads-else : (ss : Statements ℕ) (s : Terminal) (ts m us : List Lexeme) → sign x.Else ts m → ReadsUntil (g.body ss ⋆ sign s) s m us → ReadsOtherwise (otherwise (stmt.Else ss) ⋆ sign s) s ts us
reads-else ss s ts m us w h free q =
    let h' = h free q in
    record {
      spelled = (h'.spelled.0, (m, w, h'.spelled.1), h'.spelled.2);
      passes = λ K. on-sign (otherwise_next s free q ∷ K) x.Else ts m w ∙ h'.passes K;
      shorter = omega (arith, sign-shorter x.Else ts m w, h'.shorter);
    }

no_else-machine : (s : Terminal) (free : IsNoStatement s) (q : Quiet s) (K : State) (ts : List Lexeme) → (next_terminal ts ≡ Some x.Else → ⊥) → machine (otherwise_next s free q ∷ K) ts ≡ machine (need s q ∷ K) ts
no_else-machine s free q K [] h = refl
no_else-machine s free q K (t ∷ ts) h = ap (λ o. go_on o (λ K'. machine K' ts) (false, suc (length ts))) (at t.terminal h)
  where
    at : (u : Terminal) → (Some u ≡ Some x.Else → ⊥) → on_otherwise s free q u K ≡ on_need (same_terminal s u) K
    at x.Else h = absurd (h refl)
    at _ h = refl

pub otherwise-fails : (s : Terminal) (ts : List Lexeme) (stop : Stop) → (next_terminal ts ≡ Some x.Else → ⊥) → SignFails s ts stop → OtherwiseFails s ts stop
otherwise-fails s ts (Left n) h z = λ free q K. no_else-machine s free q K ts h ∙ z q K
otherwise-fails s ts NoMemory h z = λ free q. tt

pub reads-no_else : (s : Terminal) (ts us : List Lexeme) → (next_terminal ts ≡ Some x.Else → ⊥) → ReadsSign (sign s) s ts us → ReadsOtherwise (otherwise stmt.Nothing ⋆ sign s) s ts us
reads-no_else s ts us h c free q = record { spelled = (ts, refl, (c q).spelled); passes = λ K. no_else-machine s free q K ts h ∙ (c q).passes K; shorter = (c q).shorter }

pub othered : (o v : Otherwise ℕ) (s : Terminal) (ts us : List Lexeme) → o ≡ v → ReadsOtherwise (otherwise v ⋆ sign s) s ts us → ReadsOtherwise (otherwise o ⋆ sign s) s ts us
othered o v s ts us q h = subst (λ u. ReadsOtherwise (otherwise u ⋆ sign s) s ts us) (sym q) h

-- ---- IF

abbrev pub branches_onto : List (Branch ℕ) → Branches ℕ → Branches ℕ
branches_onto [] bs = bs
branches_onto (b ∷ more) bs = branch_then (branch_of b).0 (branch_of b).1 (branches_onto more bs)

branches_onto-push : (found : List (Branch ℕ)) (b : Branch ℕ) (bs : Branches ℕ) → branches_onto (found ++ b ∷ []) bs ≡ branches_onto found (branch_then (branch_of b).0 (branch_of b).1 bs)
branches_onto-push [] b bs = refl
branches_onto-push (c ∷ found) b bs = ap (branch_then (branch_of c).0 (branch_of c).1) (branches_onto-push found b bs)

branches_onto-none : (found : List (Branch ℕ)) → branches_onto found no_branches ≡ branches_of found
branches_onto-none [] = refl
branches_onto-none (c ∷ found) = ap (branch_then (branch_of c).0 (branch_of c).1) (branches_onto-none found)

pub record BranchesSoFar (found : List (Branch ℕ)) (old now : List Lexeme) : Type 0 where
  pub spelled : (bs : Branches ℕ) (rest : List Lexeme) → first_branch bs now rest → first_branch (branches_onto found bs) old rest
  pub passes : (K : State) → machine (for_condition K) old ≡ machine (for_condition K) now
  pub shorter : length now ≤ length old

pub branches-first : (old : List Lexeme) → BranchesSoFar [] old old
branches-first old = record { spelled = λ bs rest h. h; passes = λ K. refl; shorter = omega arith }

-- one branch from now on
pub record Branched (b : Branch ℕ) (now next : List Lexeme) : Type 0 where
  pub middle : List Lexeme
  pub condition : ReadsThen (expression (branch_of b).0 0 ⋆ sign x.Then) x.Then now middle
  pub statements : ReadsBody (g.body (branch_of b).1) middle next
  pub ends : starts_statement (next_terminal next) ≡ false

passes-branch : (b : Branch ℕ) (now next : List Lexeme) → Branched b now next → (K : State) → machine (for_condition K) now ≡ machine (branch_next ∷ K) next
passes-branch b now next h K = (h.condition (refl, tt)).passes (body branches_end ∷ K) ∙ (h.statements branches_end).passes K ∙ machine-branches K next h.ends

branch-spelled : (b : Branch ℕ) (now next : List Lexeme) → Branched b now next → (bs : Branches ℕ) (rest : List Lexeme) → more_branches bs next rest → first_branch (branch_then (branch_of b).0 (branch_of b).1 bs) now rest
branch-spelled b now next h bs rest more =
    let c = (h.condition (refl, tt)).spelled in
    (c.0, c.1, (h.middle, c.2, (next, (h.statements branches_end).spelled, more)))

elsif-more : (bs : Branches ℕ) (ts m rest : List Lexeme) → sign x.Elsif ts m → first_branch bs m rest → more_branches bs ts rest
elsif-more no_branches ts m rest w h = absurd h
elsif-more (branch_then v ss bs) ts m rest w h = (m, w, h)

pub branches-pushed : (found : List (Branch ℕ)) (b : Branch ℕ) (old now next m : List Lexeme) → BranchesSoFar found old now → Branched b now next → sign x.Elsif next m → BranchesSoFar (found ++ b ∷ []) old m
branches-pushed found b old now next m so h w = record {
  spelled = λ bs rest more. subst (λ u. first_branch u old rest) (sym (branches_onto-push found b bs)) (so.spelled _ rest (branch-spelled b now next h bs rest (elsif-more bs next m rest w more)));
  passes = λ K. so.passes K ∙ passes-branch b now next h K ∙ on-sign (branch_next ∷ K) x.Elsif next m w;
  shorter = omega (arith, so.shorter, (h.condition (refl, tt)).shorter, (h.statements branches_end).shorter, sign-shorter x.Elsif next m w);
}

pub branches-read : (found : List (Branch ℕ)) (b : Branch ℕ) (old now next : List Lexeme) → BranchesSoFar found old now → Branched b now next → Parses (first_branch (branches_of (found ++ b ∷ []))) for_condition for_branch old next
branches-read found b old now next so h = record {
  spelled = subst (λ u. first_branch u old next) (sym (branches_onto-push found b no_branches) ∙ branches_onto-none (found ++ b ∷ [])) (so.spelled _ next (branch-spelled b now next h no_branches next refl));
  passes = λ K. so.passes K ∙ passes-branch b now next h K;
  shorter = omega (arith, so.shorter, (h.condition (refl, tt)).shorter, (h.statements branches_end).shorter);
}

pub branches-fail : (found : List (Branch ℕ)) (old now : List Lexeme) (stop : Stop) → BranchesSoFar found old now → ThenFails x.Then now stop → Fails for_condition old stop
branches-fail found old now (Left n) so z = λ K. so.passes K ∙ z (refl, tt) (body branches_end ∷ K)
branches-fail found old now NoMemory so z = tt

pub branches-body-fail : (found : List (Branch ℕ)) (v : Expression ℕ) (old now m : List Lexeme) (stop : Stop) → BranchesSoFar found old now → ReadsThen (expression v 0 ⋆ sign x.Then) x.Then now m → BodyFails m stop → Fails for_condition old stop
branches-body-fail found v old now m (Left n) so h z = λ K. so.passes K ∙ (h (refl, tt)).passes (body branches_end ∷ K) ∙ z branches_end K
branches-body-fail found v old now m NoMemory so h z = tt

pub if-fails : (ts m : List Lexeme) (stop : Stop) → next_terminal ts ≡ Some x.If → m ≡ drop 1 ts → Fails for_condition m stop → Fails for_statement ts stop
if-fails ts m (Left n) h is z = λ K. on-sign (statement_next ∷ K) x.If ts m (sign_at x.If ts m h is) ∙ z K
if-fails ts m NoMemory h is z = tt

pub if-end-fails : (bs : Branches ℕ) (ts m m2 : List Lexeme) (stop : Stop) → next_terminal ts ≡ Some x.If → m ≡ drop 1 ts → Parses (first_branch bs) for_condition for_branch m m2 → (next_terminal m2 ≡ Some x.Elsif → ⊥) → OtherwiseFails x.EndIf m2 stop → Fails for_statement ts stop
if-end-fails bs ts m m2 (Left n) h is rb ends z = λ K. on-sign (statement_next ∷ K) x.If ts m (sign_at x.If ts m h is) ∙ rb.passes K ∙ machine-otherwise K m2 ends ∙ z tt (refl, tt) K
if-end-fails bs ts m m2 NoMemory h is rb ends z = tt

pub reads-if : (line : ℕ) (bs : Branches ℕ) (o : Otherwise ℕ) (ts m m2 us : List Lexeme) → LineOf ts line → next_terminal ts ≡ Some x.If → m ≡ drop 1 ts → Parses (first_branch bs) for_condition for_branch m m2 → (next_terminal m2 ≡ Some x.Elsif → ⊥)
    → ReadsOtherwise (otherwise o ⋆ sign x.EndIf) x.EndIf m2 us → Parses (statement (stmt.If line bs o)) for_statement same ts us
reads-if line bs o ts m m2 us a h is rb ends ro =
    let w = sign_at x.If ts m h is in
    let o' = ro tt (refl, tt) in
    record {
      spelled = (line_sign x.If line ts m a w, (m, w, (m2, rb.spelled, o'.spelled)));
      passes = λ K. on-sign (statement_next ∷ K) x.If ts m w ∙ rb.passes K ∙ machine-otherwise K m2 ends ∙ o'.passes K;
      shorter = omega (arith, sign-shorter x.If ts m w, rb.shorter, o'.shorter);
    }

-- ---- CASE

abbrev pub cases_onto : List (Case ℕ) → Cases ℕ → Cases ℕ
cases_onto [] cs = cs
cases_onto (c ∷ more) cs = case_then (case_branch_of c).0 (case_branch_of c).1 (cases_onto more cs)

cases_onto-push : (found : List (Case ℕ)) (c : Case ℕ) (cs : Cases ℕ) → cases_onto (found ++ c ∷ []) cs ≡ cases_onto found (case_then (case_branch_of c).0 (case_branch_of c).1 cs)
cases_onto-push [] c cs = refl
cases_onto-push (d ∷ found) c cs = ap (case_then (case_branch_of d).0 (case_branch_of d).1) (cases_onto-push found c cs)

cases_onto-none : (found : List (Case ℕ)) → cases_onto found no_cases ≡ cases_of found
cases_onto-none [] = refl
cases_onto-none (d ∷ found) = ap (case_then (case_branch_of d).0 (case_branch_of d).1) (cases_onto-none found)

-- where a label comes next
pub record CasesSoFar (found : List (Case ℕ)) (old now : List Lexeme) : Type 0 where
  pub spelled : (cs : Cases ℕ) (rest : List Lexeme) → cases cs now rest → cases (cases_onto found cs) old rest
  pub passes : (K : State) → machine (first_case ∷ K) old ≡ machine (for_label K) now
  pub shorter : length now ≤ length old

pub cases-none : (old : List Lexeme) → starts_const (next_terminal old) ≡ false → Parses (cases no_cases) for_cases for_case_end old old
cases-none old free = record { spelled = refl; passes = λ K. first-end K old free; shorter = omega arith }

pub cases-first : (old : List Lexeme) → starts_const (next_terminal old) ≡ true → CasesSoFar [] old old
cases-first old starts = record { spelled = λ cs rest h. h; passes = λ K. first-label K old starts; shorter = omega arith }

-- one branch from now on
pub record Cased (c : Case ℕ) (now next : List Lexeme) : Type 0 where
  pub middle : List Lexeme
  pub heads : Parses (first_label (case_branch_of c).0 ⋆ sign x.Colon) for_label for_case_body now middle
  pub statements : Parses (g.body (case_branch_of c).1) for_case_body for_case_body middle next

case-spelled : (c : Case ℕ) (now next : List Lexeme) → Cased c now next → (cs : Cases ℕ) (rest : List Lexeme) → cases cs next rest → cases (case_then (case_branch_of c).0 (case_branch_of c).1 cs) now rest
case-spelled c now next h cs rest more = (h.heads.spelled.0, h.heads.spelled.1, (h.middle, h.heads.spelled.2, (next, h.statements.spelled, more)))

pub cases-pushed : (found : List (Case ℕ)) (c : Case ℕ) (old now next : List Lexeme) → CasesSoFar found old now → Cased c now next → label_at next ≡ true → CasesSoFar (found ++ c ∷ []) old next
cases-pushed found c old now next so h is = record {
  spelled = λ cs rest more. subst (λ u. cases u old rest) (sym (cases_onto-push found c cs)) (so.spelled _ rest (case-spelled c now next h cs rest more));
  passes = λ K. so.passes K ∙ h.heads.passes K ∙ h.statements.passes K ∙ case-label K next is;
  shorter = omega (arith, so.shorter, h.heads.shorter, h.statements.shorter);
}

pub cases-read : (found : List (Case ℕ)) (c : Case ℕ) (old now next : List Lexeme) → CasesSoFar found old now → Cased c now next → label_at next ≡ false → Ends next → Parses (cases (cases_of (found ++ c ∷ []))) for_cases for_case_end old next
cases-read found c old now next so h is ends = record {
  spelled = subst (λ u. cases u old next) (sym (cases_onto-push found c no_cases) ∙ cases_onto-none (found ++ c ∷ [])) (so.spelled _ next (case-spelled c now next h no_cases next refl));
  passes = λ K. so.passes K ∙ h.heads.passes K ∙ h.statements.passes K ∙ case-end K next (ends is) is;
  shorter = omega (arith, so.shorter, h.heads.shorter, h.statements.shorter);
}

pub cases-fail : (found : List (Case ℕ)) (old now : List Lexeme) (stop : Stop) → CasesSoFar found old now → Fails for_label now stop → Fails for_cases old stop
cases-fail found old now (Left n) so z = λ K. so.passes K ∙ z K
cases-fail found old now NoMemory so z = tt

pub cases-body-fail : (found : List (Case ℕ)) (ls : List (Label ℕ)) (old now m : List Lexeme) (stop : Stop) → CasesSoFar found old now → Parses (first_label ls ⋆ sign x.Colon) for_label for_case_body now m → Fails for_case_body m stop → Fails for_cases old stop
cases-body-fail found ls old now m (Left n) so h z = λ K. so.passes K ∙ h.passes K ∙ z K
cases-body-fail found ls old now m NoMemory so h z = tt

pub record CaseBodySoFar (found : List (Stmt ℕ)) (old now : List Lexeme) : Type 0 where
  pub spelled : Onto found old now
  pub passes : (K : State) → machine (case_body ∷ K) old ≡ machine (case_body ∷ K) now
  pub shorter : length now ≤ length old

pub case_body-first : (old : List Lexeme) → CaseBodySoFar [] old old
case_body-first old = record { spelled = λ ss rest h. h; passes = λ K. refl; shorter = omega arith }

pub case_body-pushed : (found : List (Stmt ℕ)) (s : Stmt ℕ) (old now next : List Lexeme) → CaseBodySoFar found old now → starts_statement (next_terminal now) ≡ true → label_at now ≡ false → Parses (statement (statement_of s)) for_statement same now next
    → CaseBodySoFar (found ++ s ∷ []) old next
case_body-pushed found s old now next so starts free h = record {
  spelled = pushed found s old now next so.spelled h.spelled;
  passes = λ K. so.passes K ∙ case-statement K now starts free ∙ h.passes (case_body ∷ K);
  shorter = omega (arith, so.shorter, h.shorter);
}

pub case_body-fails : (found : List (Stmt ℕ)) (old now : List Lexeme) (stop : Stop) → CaseBodySoFar found old now → starts_statement (next_terminal now) ≡ true → label_at now ≡ false → Fails for_statement now stop → Fails for_case_body old stop
case_body-fails found old now (Left n) so starts free z = λ K. so.passes K ∙ case-statement K now starts free ∙ z (case_body ∷ K)
case_body-fails found old now NoMemory so starts free z = tt

pub case_body-read : (found : List (Stmt ℕ)) (old now : List Lexeme) → CaseBodySoFar found old now → Parses (g.body (statements_of found)) for_case_body for_case_body old now
case_body-read found old now so = record { spelled = read found old now so.spelled; passes = so.passes; shorter = so.shorter }

abbrev pub for_value : State → State
for_value K = inside e.start ∷ need x.Of (refl, tt) ∷ first_case ∷ K

passes-case : (ts m : List Lexeme) → next_terminal ts ≡ Some x.Case → m ≡ drop 1 ts → (K : State) → machine (statement_next ∷ K) ts ≡ machine (for_value K) m
passes-case ts m h is K = on-sign (statement_next ∷ K) x.Case ts m (sign_at x.Case ts m h is)

pub case-value-fails : (ts m : List Lexeme) (stop : Stop) → next_terminal ts ≡ Some x.Case → m ≡ drop 1 ts → ThenFails x.Of m stop → Fails for_statement ts stop
case-value-fails ts m (Left n) h is z = λ K. passes-case ts m h is K ∙ z (refl, tt) (first_case ∷ K)
case-value-fails ts m NoMemory h is z = tt

pub case-branches-fail : (v : Expression ℕ) (ts m m2 : List Lexeme) (stop : Stop) → next_terminal ts ≡ Some x.Case → m ≡ drop 1 ts → ReadsThen (expression v 0 ⋆ sign x.Of) x.Of m m2 → Fails for_cases m2 stop → Fails for_statement ts stop
case-branches-fail v ts m m2 (Left n) h is rv z = λ K. passes-case ts m h is K ∙ (rv (refl, tt)).passes (first_case ∷ K) ∙ z K
case-branches-fail v ts m m2 NoMemory h is rv z = tt

pub case-end-fails : (v : Expression ℕ) (cs : Cases ℕ) (ts m m2 m3 : List Lexeme) (stop : Stop) → next_terminal ts ≡ Some x.Case → m ≡ drop 1 ts → ReadsThen (expression v 0 ⋆ sign x.Of) x.Of m m2 → Parses (cases cs) for_cases for_case_end m2 m3
    → OtherwiseFails x.EndCase m3 stop → Fails for_statement ts stop
case-end-fails v cs ts m m2 m3 (Left n) h is rv rc z = λ K. passes-case ts m h is K ∙ (rv (refl, tt)).passes (first_case ∷ K) ∙ rc.passes K ∙ z tt (refl, tt) K
case-end-fails v cs ts m m2 m3 NoMemory h is rv rc z = tt

pub reads-case : (line : ℕ) (v : Expression ℕ) (cs : Cases ℕ) (o : Otherwise ℕ) (ts m m2 m3 us : List Lexeme) → LineOf ts line → next_terminal ts ≡ Some x.Case → m ≡ drop 1 ts → ReadsThen (expression v 0 ⋆ sign x.Of) x.Of m m2
    → Parses (cases cs) for_cases for_case_end m2 m3 → ReadsOtherwise (otherwise o ⋆ sign x.EndCase) x.EndCase m3 us → Parses (statement (stmt.Case line v cs o)) for_statement same ts us
reads-case line v cs o ts m m2 m3 us a h is rv rc ro =
    let w = sign_at x.Case ts m h is in
    let v' = rv (refl, tt) in
    let o' = ro tt (refl, tt) in
    record {
      spelled = (line_sign x.Case line ts m a w, (m, w, (v'.spelled.0, v'.spelled.1, (m2, v'.spelled.2, (m3, rc.spelled, o'.spelled)))));
      passes = λ K. passes-case ts m h is K ∙ v'.passes (first_case ∷ K) ∙ rc.passes K ∙ o'.passes K;
      shorter = omega (arith, sign-shorter x.Case ts m w, v'.shorter, rc.shorter, o'.shorter);
    }

-- ---- loops

pub for-fails : (ts m : List Lexeme) (stop : Stop) → next_terminal ts ≡ Some x.For → m ≡ drop 1 ts → Fails for_control m stop → Fails for_statement ts stop
for-fails ts m (Left n) h is z = λ K. on-sign (statement_next ∷ K) x.For ts m (sign_at x.For ts m h is) ∙ z K
for-fails ts m NoMemory h is z = tt

pub for-body-fails : (c : Control) (ts m m2 : List Lexeme) (stop : Stop) → next_terminal ts ≡ Some x.For → m ≡ drop 1 ts → Parses (Controlled c) for_control for_turns m m2 → UntilFails x.EndFor m2 stop → Fails for_statement ts stop
for-body-fails c ts m m2 (Left n) h is rc z = λ K. on-sign (statement_next ∷ K) x.For ts m (sign_at x.For ts m h is) ∙ rc.passes K ∙ z tt (refl, tt) K
for-body-fails c ts m m2 NoMemory h is rc z = tt

pub reads-for : (line : ℕ) (c : Control) (ss : Statements ℕ) (ts m m2 us : List Lexeme) → LineOf ts line → next_terminal ts ≡ Some x.For → m ≡ drop 1 ts → Parses (Controlled c) for_control for_turns m m2
    → ReadsUntil (g.body ss ⋆ sign x.EndFor) x.EndFor m2 us
    → Parses (statement (stmt.For line c.note c.name (expression_of c.from) (expression_of c.to) (option_map expression_of c.by) ss)) for_statement same ts us
reads-for line c ss ts m m2 us a h is rc rb =
    let w = sign_at x.For ts m h is in
    let b' = rb tt (refl, tt) in
    record {
      spelled = spelled w b'.spelled rc.spelled;
      passes = λ K. on-sign (statement_next ∷ K) x.For ts m w ∙ rc.passes K ∙ b'.passes K;
      shorter = omega (arith, sign-shorter x.For ts m w, rc.shorter, b'.shorter);
    }
  where
    spelled : sign x.For ts m → (g.body ss ⋆ sign x.EndFor) m2 us → Controlled c m m2 → statement (stmt.For line c.note c.name (expression_of c.from) (expression_of c.to) (option_map expression_of c.by) ss) ts us
    spelled w b (n1, hn, (n2, c1, (n3, hf, (n4, c2, (n5, ht, (n6, hb, d)))))) = (line_sign x.For line ts m a w, (m, w, (n1, hn, (n2, c1, (n3, hf, (n4, c2, (n5, ht, (n6, hb, (m2, d, b)))))))))

abbrev pub for_while : State → State
for_while K = inside e.start ∷ need x.Do (refl, tt) ∷ body (until x.EndWhile tt (refl, tt)) ∷ K

pub while-fails : (ts m : List Lexeme) (stop : Stop) → next_terminal ts ≡ Some x.While → m ≡ drop 1 ts → ThenFails x.Do m stop → Fails for_statement ts stop
while-fails ts m (Left n) h is z = λ K. on-sign (statement_next ∷ K) x.While ts m (sign_at x.While ts m h is) ∙ z (refl, tt) (body (until x.EndWhile tt (refl, tt)) ∷ K)
while-fails ts m NoMemory h is z = tt

pub while-body-fails : (v : Expression ℕ) (ts m m2 : List Lexeme) (stop : Stop) → next_terminal ts ≡ Some x.While → m ≡ drop 1 ts → ReadsThen (expression v 0 ⋆ sign x.Do) x.Do m m2 → UntilFails x.EndWhile m2 stop → Fails for_statement ts stop
while-body-fails v ts m m2 (Left n) h is rv z =
    λ K. on-sign (statement_next ∷ K) x.While ts m (sign_at x.While ts m h is) ∙ (rv (refl, tt)).passes (body (until x.EndWhile tt (refl, tt)) ∷ K) ∙ z tt (refl, tt) K
while-body-fails v ts m m2 NoMemory h is rv z = tt

pub reads-while : (line : ℕ) (v : Expression ℕ) (ss : Statements ℕ) (ts m m2 us : List Lexeme) → LineOf ts line → next_terminal ts ≡ Some x.While → m ≡ drop 1 ts → ReadsThen (expression v 0 ⋆ sign x.Do) x.Do m m2
    → ReadsUntil (g.body ss ⋆ sign x.EndWhile) x.EndWhile m2 us → Parses (statement (stmt.While line v ss)) for_statement same ts us
reads-while line v ss ts m m2 us a h is rv rb =
    let w = sign_at x.While ts m h is in
    let v' = rv (refl, tt) in
    let b' = rb tt (refl, tt) in
    record {
      spelled = (line_sign x.While line ts m a w, (m, w, (v'.spelled.0, v'.spelled.1, (m2, v'.spelled.2, b'.spelled))));
      passes = λ K. on-sign (statement_next ∷ K) x.While ts m w ∙ v'.passes (body (until x.EndWhile tt (refl, tt)) ∷ K) ∙ b'.passes K;
      shorter = omega (arith, sign-shorter x.While ts m w, v'.shorter, b'.shorter);
    }

pub repeat-fails : (ts m : List Lexeme) (stop : Stop) → next_terminal ts ≡ Some x.Repeat → m ≡ drop 1 ts → UntilFails x.Until m stop → Fails for_statement ts stop
repeat-fails ts m (Left n) h is z = λ K. on-sign (statement_next ∷ K) x.Repeat ts m (sign_at x.Repeat ts m h is) ∙ z tt (refl, tt) (inside e.start ∷ need x.EndRepeat (refl, tt) ∷ K)
repeat-fails ts m NoMemory h is z = tt

pub repeat-until-fails : (ss : Statements ℕ) (ts m m2 : List Lexeme) (stop : Stop) → next_terminal ts ≡ Some x.Repeat → m ≡ drop 1 ts → ReadsUntil (g.body ss ⋆ sign x.Until) x.Until m m2 → ThenFails x.EndRepeat m2 stop → Fails for_statement ts stop
repeat-until-fails ss ts m m2 (Left n) h is rb z =
    λ K. on-sign (statement_next ∷ K) x.Repeat ts m (sign_at x.Repeat ts m h is) ∙ (rb tt (refl, tt)).passes (inside e.start ∷ need x.EndRepeat (refl, tt) ∷ K) ∙ z (refl, tt) K
repeat-until-fails ss ts m m2 NoMemory h is rb z = tt

pub reads-repeat : (line : ℕ) (ss : Statements ℕ) (v : Expression ℕ) (ts m m2 us : List Lexeme) → LineOf ts line → next_terminal ts ≡ Some x.Repeat → m ≡ drop 1 ts → ReadsUntil (g.body ss ⋆ sign x.Until) x.Until m m2
    → ReadsThen (expression v 0 ⋆ sign x.EndRepeat) x.EndRepeat m2 us → Parses (statement (stmt.Repeat line ss v)) for_statement same ts us
reads-repeat line ss v ts m m2 us a h is rb rv =
    let w = sign_at x.Repeat ts m h is in
    let v' = rv (refl, tt) in
    let b' = rb tt (refl, tt) in
    record {
      spelled = (line_sign x.Repeat line ts m a w, (m, w, (b'.spelled.0, b'.spelled.1, (m2, b'.spelled.2, v'.spelled))));
      passes = λ K. on-sign (statement_next ∷ K) x.Repeat ts m w ∙ b'.passes (inside e.start ∷ need x.EndRepeat (refl, tt) ∷ K) ∙ v'.passes K;
      shorter = omega (arith, sign-shorter x.Repeat ts m w, v'.shorter, b'.shorter);
    }

pub statement_fails : (ts : List Lexeme) → starts_statement (next_terminal ts) ≡ false → Fails for_statement ts (Left (length ts))
statement_fails [] h K = refl
statement_fails (t ∷ ts) h K = ap (λ o. go_on o (λ K'. machine K' ts) (false, suc (length ts))) (on_statement-other t.terminal K None (not_started t.terminal h))

-- ---- for the functions

pub place-default : (p : Root ℕ) (s : Selectors ℕ) (ts m : List Lexeme) → Parses (root p ⋆ selectors s) for_statement for_placed ts m → is_behind_place (next_terminal m) ≡ false → Fails for_statement ts (Left (length m))
place-default p s ts m h free = place_next_fails p s ts m h (other x.Assign refl) (other x.Attempt refl) (other x.Open refl)
  where
    other : (u : Terminal) → is_behind_place (Some u) ≡ true → next_terminal m ≡ Some u → ⊥
    other u known is = let bad : true ≡ false = sym known ∙ ap is_behind_place (sym is) ∙ free in cc

pub jump-default : (ts : List Lexeme) (stop : Stop) → is_jump (next_terminal ts) ≡ true → (next_terminal ts ≡ Some x.Exit → ⊥) → (next_terminal ts ≡ Some x.Continue → ⊥) → (next_terminal ts ≡ Some x.Return → ⊥) → Fails for_statement ts stop
jump-default [] stop h a b c = cc
jump-default (t ∷ ts) stop h a b c = absurd (at t.terminal h a b c)
  where
    at : (u : Terminal) → is_jump (Some u) ≡ true → (Some u ≡ Some x.Exit → ⊥) → (Some u ≡ Some x.Continue → ⊥) → (Some u ≡ Some x.Return → ⊥) → ⊥
    at x.Exit h a b c = a refl
    at x.Continue h a b c = b refl
    at x.Return h a b c = c refl
    at _ h a b c = absurd (clash h)

pub sign-next : (s : Terminal) (ts m : List Lexeme) → sign s ts m → next_terminal ts ≡ Some s
sign-next s ts m (t, is, w) = ap next_terminal w ∙ ap Some is

pub sign-drop : (s : Terminal) (ts m : List Lexeme) → sign s ts m → m ≡ drop 1 ts
sign-drop s ts m (t, is, w) = sym (ap (drop 1) w)

pub branched : (b : Branch ℕ) (now m next : List Lexeme) → ReadsThen (expression (expression_of b.condition) 0 ⋆ sign x.Then) x.Then now m → ReadsBody (g.body (statements_of b.body)) m next → starts_statement (next_terminal next) ≡ false → Branched b now next
branched b now m next h hs ends = record {
  middle = m;
  condition = subst (λ v. ReadsThen (expression v.0 0 ⋆ sign x.Then) x.Then now m) (sym (branch_of-is b)) h;
  statements = subst (λ v. ReadsBody (g.body v.1) m next) (sym (branch_of-is b)) hs;
  ends = ends;
}

pub cased : (c : Case ℕ) (now m next : List Lexeme) → Parses (first_label c.labels ⋆ sign x.Colon) for_label for_case_body now m → Parses (g.body (statements_of c.body)) for_case_body for_case_body m next → Cased c now next
cased c now m next h hs = record {
  middle = m;
  heads = subst (λ v. Parses (first_label v.0 ⋆ sign x.Colon) for_label for_case_body now m) (sym (case_branch_of-is c)) h;
  statements = subst (λ v. Parses (g.body v.1) for_case_body for_case_body m next) (sym (case_branch_of-is c)) hs;
}

pub jump-fails : (s : Terminal) → Short s → (ts m : List Lexeme) (stop : Stop) → sign s ts m → SignFails x.Semicolon m stop → Fails for_statement ts stop
jump-fails s short ts m stop w z = short-fails s short ts m stop (sign-next s ts m w) (sign-drop s ts m w) z

pub reads-jump : (s : Terminal) → Short s → (v : ℕ → Statement ℕ) (line : ℕ) → ((ts rest : List Lexeme) → At line ts → (sign s ⋆ sign x.Semicolon) ts rest → statement (v line) ts rest) → (ts m us : List Lexeme) → LineOf ts line
    → sign s ts m → ReadsSign (sign x.Semicolon) x.Semicolon m us → Parses (statement (v line)) for_statement same ts us
reads-jump s short v line make ts m us a w c = reads-short s short v line make ts m us a (sign-next s ts m w) (sign-drop s ts m w) c

pub labels-shorter : (ls : List (Label ℕ)) (ts rest : List Lexeme) → (first_label ls ⋆ sign x.Colon) ts rest → length rest < length ts
labels-shorter ls ts rest (m, h, c) =
    let a = of_first_label ls ts m h in
    omega (arith, ap length a.whole, length-append a.more m, sign-shorter x.Colon m rest c)

pub sign-less : (s : Terminal) (ts rest : List Lexeme) → sign s ts rest → length rest < length ts
sign-less s ts rest w = omega (arith, sign-shorter s ts rest w)
