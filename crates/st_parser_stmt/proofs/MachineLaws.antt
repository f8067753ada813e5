-- How the machine goes on.
use Rattle.std.proofs.Common.{◌≡◌, ℕ, suc, ◌≤◌, Bool, true, false, List, [], ◌∷◌, ◌++◌, Option, Some, None, length, refl, ◌∙◌, ap, arith, length-append}
use Rattle.st_tree.specs.declared.terminal.Terminal.{Terminal}
use Rattle.st_tree.specs.declared.terminal.Terminal.TheVariants as x
use Rattle.st_tree.specs.Grammar.{Lexeme, sign}
use Rattle.st_tree.specs.Reads.{no_marks}
use Rattle.st_parser_expr.specs.Private.Machine as e
use Rattle.st_parser_expr.specs.Private.Machine.{NoOperator, NoSelector, IsNoSelector, Ending}
use Rattle.st_parser_expr.proofs.MachineLaws as l
use Rattle.st_parser_stmt.specs.Private.Numbers.{same_terminal}
use Rattle.st_parser_stmt.specs.Private.Machine.{Quiet, IsNoStatement, branches_end, until, inside, need, body, statement_next, behind_place, by_or_do, branch_next, otherwise_next, first_case, case_body, case_word, case_dot, case_field, const_next, const_tail, behind_label, label_more, init_next, init_open, init_word, fields_more, part_next, part_int, parts_more, State, on_need, on_inside, on_otherwise, on_statement, advance, accepts, go_on, machine, NoStatement, IsQuiet}
use Rattle.st_parser_stmt.proofs.NumberLaws.{same-self}

-- ---- one token

pub on-sign : (K : State) (s : Terminal) (ts rest : List Lexeme) → sign s ts rest
    → machine K ts ≡ go_on (advance K s) (λ K'. machine K' rest) (accepts K, suc (length rest))
on-sign K s ts rest (t, is, w) = ap (machine K) w ∙ ap (λ u. go_on (advance K u) (λ K'. machine K' rest) (accepts K, suc (length rest))) is

pub on-need : (K : State) (s : Terminal) (q : Quiet s) (ts rest : List Lexeme) → sign s ts rest → machine (need s q ∷ K) ts ≡ machine K rest
on-need K s q ts rest h = on-sign (need s q ∷ K) s ts rest h ∙ ap (λ b. go_on (on_need b K) (λ K'. machine K' rest) (false, suc (length rest))) (same-self s)

pub on_statement-other : (t : Terminal) (K : State) (other : Option State) → IsNoStatement t → on_statement t K other ≡ other
on_statement-other x.Semicolon K other h = absurd h
on_statement-other x.Word K other h = absurd h
on_statement-other x.This K other h = absurd h
on_statement-other x.Super K other h = absurd h
on_statement-other x.Exit K other h = absurd h
on_statement-other x.Continue K other h = absurd h
on_statement-other x.Return K other h = absurd h
on_statement-other x.If K other h = absurd h
on_statement-other x.Case K other h = absurd h
on_statement-other x.For K other h = absurd h
on_statement-other x.While K other h = absurd h
on_statement-other x.Repeat K other h = absurd h
on_statement-other _ K other h = refl

-- the end of a body
pub machine-until : (K : State) (s : Terminal) (free : IsNoStatement s) (q : Quiet s) (ts : List Lexeme) → NoStatement ts → machine (body (until s free q) ∷ K) ts ≡ machine (need s q ∷ K) ts
machine-until K s free q [] h = refl
machine-until K s free q (t ∷ ts) h =
    ap (λ o. go_on o (λ K'. machine K' ts) (false, suc (length ts))) (on_statement-other t.terminal (body (until s free q) ∷ K) (on_need (same_terminal s t.terminal) K) h)

pub on-end : (K : State) (s : Terminal) (free : IsNoStatement s) (q : Quiet s) (ts rest : List Lexeme) → sign s ts rest → machine (body (until s free q) ∷ K) ts ≡ machine K rest
on-end K s free q ts rest h =
    on-sign (body (until s free q) ∷ K) s ts rest h
    ∙ ap (λ o. go_on o (λ K'. machine K' rest) (false, suc (length rest))) (on_statement-other s (body (until s free q) ∷ K) (on_need (same_terminal s s) K) free ∙ ap (λ b. on_need b K) (same-self s))

-- the end of an IF or a CASE without ELSE
pub on-otherwise : (K : State) (s : Terminal) (free : IsNoStatement s) (q : Quiet s) (ts rest : List Lexeme) → (s ≡ x.Else → ⊥) → sign s ts rest → machine (otherwise_next s free q ∷ K) ts ≡ machine K rest
on-otherwise K s free q ts rest other h =
    on-sign (otherwise_next s free q ∷ K) s ts rest h
    ∙ ap (λ o. go_on o (λ K'. machine K' rest) (false, suc (length rest))) (on_otherwise-same s free q K other)
  where
    at : (s t : Terminal) (free : IsNoStatement s) (q : Quiet s) (K : State) → (t ≡ x.Else → ⊥) → on_otherwise s free q t K ≡ on_need (same_terminal s t) K
    at s x.Else free q K other = absurd (other refl)
    at s _ free q K other = refl

    on_otherwise-same : (s : Terminal) (free : IsNoStatement s) (q : Quiet s) (K : State) → (s ≡ x.Else → ⊥) → on_otherwise s free q s K ≡ Some K
    on_otherwise-same s free q K other = at s s free q K other ∙ ap (λ b. on_need b K) (same-self s)

-- ---- expressions within

left-le : (ts : List Lexeme) (k : e.State) (b : Bool) (n : ℕ) → e.machine k ts ≡ (b, n) → n ≤ length ts
left-le ts k b n h = at (l.cut ts k b n h)
  where
    at : l.Cut k ts b n → n ≤ length ts
    at c = omega (arith, c.many, ap length c.whole, length-append c.before c.rest)

on_inside-none : (o : Option e.State) (b : Bool) (K : State) (other : Option State) → o ≡ None → b ≡ true → on_inside o b K other ≡ other
on_inside-none o b K other h h' = rw (h, h') refl

-- what stands for the expression's state, up to where it stops, is passed
pub inside-passes : (a rest : List Lexeme) (k : e.State) (K : State) → e.machine k (a ++ rest) ≡ (true, length rest) → machine (inside k ∷ K) (a ++ rest) ≡ machine K rest
inside-passes [] [] k K h = let b : e.accepts k ≡ true = ap (λ p. p.0) h in rw b refl
inside-passes [] (t ∷ ts) k K h = at (e.advance k t.terminal) refl h
  where
    at : (o : Option e.State) → e.advance k t.terminal ≡ o → e.go_on o (λ k'. e.machine k' ts) (e.accepts k, suc (length ts)) ≡ (true, suc (length ts))
        → machine (inside k ∷ K) (t ∷ ts) ≡ machine K (t ∷ ts)
    at None is h =
        let b : e.accepts k ≡ true = ap (λ p. p.0) h in
        rw (is, b) refl
    at (Some k') is h = absurd (let many : suc (length ts) ≤ length ts = left-le ts k' true (suc (length ts)) h in omega arith)
inside-passes (t ∷ a) rest k K h = at (λ k' h'. inside-passes a rest k' K h') (e.advance k t.terminal) refl h
  where
    at : ((k' : e.State) → e.machine k' (a ++ rest) ≡ (true, length rest) → machine (inside k' ∷ K) (a ++ rest) ≡ machine K rest)
        → (o : Option e.State) → e.advance k t.terminal ≡ o → e.go_on o (λ k'. e.machine k' (a ++ rest)) (e.accepts k, suc (length (a ++ rest))) ≡ (true, length rest)
        → machine (inside k ∷ K) (t ∷ a ++ rest) ≡ machine K rest
    at go None is h = absurd (let n : suc (length (a ++ rest)) ≡ length rest = ap (λ p. p.1) h in omega (arith, length-append a rest))
    at go (Some k') is h = rw is (go k' h)

-- where the expression's state fails, so does the whole
pub inside-fails : (ts : List Lexeme) (k : e.State) (K : State) (n : ℕ) → e.machine k ts ≡ (false, n) → machine (inside k ∷ K) ts ≡ (false, n)
inside-fails [] k K n h = let b : e.accepts k ≡ false = ap (λ p. p.0) h in let z : 0 ≡ n = ap (λ p. p.1) h in rw b (ap (λ i. (false, i)) z)
inside-fails (t ∷ ts) k K n h = at (λ k' h'. inside-fails ts k' K n h') (e.advance k t.terminal) refl h
  where
    at : ((k' : e.State) → e.machine k' ts ≡ (false, n) → machine (inside k' ∷ K) ts ≡ (false, n))
        → (o : Option e.State) → e.advance k t.terminal ≡ o → e.go_on o (λ k'. e.machine k' ts) (e.accepts k, suc (length ts)) ≡ (false, n)
        → machine (inside k ∷ K) (t ∷ ts) ≡ (false, n)
    at go None is h =
        let b : e.accepts k ≡ false = ap (λ p. p.0) h in
        let z : suc (length ts) ≡ n = ap (λ p. p.1) h in
        rw (is, b) (ap (λ i. (false, i)) z)
    at go (Some k') is h = rw is (go k' h)

-- ---- a front of what is passed whole is passed whole

pub machine-front : (a b : List Lexeme) (K : State) (v : Bool) → machine K (a ++ b) ≡ (v, 0) → (v' : Bool) × (machine K a ≡ (v', 0))
machine-front [] b K v h = (accepts K, refl)
machine-front (t ∷ a) b K v h = at (λ K' h'. machine-front a b K' v h') (advance K t.terminal) h
  where
    at : ((K' : State) → machine K' (a ++ b) ≡ (v, 0) → (v' : Bool) × (machine K' a ≡ (v', 0)))
        → (o : Option State) → go_on o (λ K'. machine K' (a ++ b)) (accepts K, suc (length (a ++ b))) ≡ (v, 0)
        → (v' : Bool) × (go_on o (λ K'. machine K' a) (accepts K, suc (length a)) ≡ (v', 0))
    at front None h = absurd (let q : suc (length (a ++ b)) ≡ 0 = ap (λ p. p.1) h in omega arith)
    at front (Some K') h = front K' h

-- ---- what is wanted can be given

-- tokens that give it, and with which no expression goes on
pub record Given (K : State) : Type 0 where
  pub tokens : List Lexeme
  pub accepted : machine K tokens ≡ (true, 0)
  pub quiet : IsQuiet tokens

abbrev one : Terminal → Lexeme
one s = record { terminal = s; text = []; line = 0; marks = no_marks }

need-one : (K : State) (s : Terminal) (q : Quiet s) (ts : List Lexeme) → machine (need s q ∷ K) (one s ∷ ts) ≡ machine K ts
need-one K s q ts = on-need K s q (one s ∷ ts) ts (one s, refl, refl)

end-one : (K : State) (s : Terminal) (free : IsNoStatement s) (q : Quiet s) (ts : List Lexeme) → machine (body (until s free q) ∷ K) (one s ∷ ts) ≡ machine K ts
end-one K s free q ts = on-end K s free q (one s ∷ ts) ts (one s, refl, refl)

otherwise-one : (K : State) (s : Terminal) (free : IsNoStatement s) (q : Quiet s) (ts : List Lexeme) → (s ≡ x.Else → ⊥) → machine (otherwise_next s free q ∷ K) (one s ∷ ts) ≡ machine K ts
otherwise-one K s free q ts other = on-otherwise K s free q (one s ∷ ts) ts other (one s, refl, refl)

no_operator : (ts : List Lexeme) → IsQuiet ts → NoOperator ts
no_operator [] h = tt
no_operator (t ∷ ts) h = h.0

no_selector : (ts : List Lexeme) → IsQuiet ts → NoSelector ts
no_selector [] h = tt
no_selector (t ∷ ts) h = h.1

both_quiet : (ts : List Lexeme) → NoOperator ts → NoSelector ts → IsQuiet ts
both_quiet [] h h' = tt
both_quiet (t ∷ ts) h h' = (h, h')

ended : (ts : List Lexeme) → e.machine [] ts ≡ (true, length ts)
ended [] = refl
ended (t ∷ ts) = refl

-- first what the expression's state wants
given_inside : (k : e.State) (K : State) → Given K → Given (inside k ∷ K)
given_inside k K g =
    let o = no_operator g.tokens g.quiet in
    let s = no_selector g.tokens g.quiet in
    record {
      tokens = (l.given k).tokens ++ g.tokens;
      accepted = inside-passes (l.given k).tokens g.tokens k K ((l.given k).accepted g.tokens o s ∙ ended g.tokens) ∙ g.accepted;
      quiet = both_quiet _ ((l.given k).no_operator g.tokens o s) ((l.given k).no_selector g.tokens o s);
    }

pub given : (K : State) → Given K
given [] = record { tokens = []; accepted = refl; quiet = tt }
given (inside k ∷ K) = given_inside k K (given K)
given (need s q ∷ K) = record { tokens = one s ∷ (given K).tokens; accepted = need-one K s q (given K).tokens ∙ (given K).accepted; quiet = q }
given (body branches_end ∷ K) =
    record { tokens = one x.EndIf ∷ (given K).tokens; accepted = otherwise-one K x.EndIf tt (refl, tt) (given K).tokens (λ e. cc) ∙ (given K).accepted; quiet = (refl, tt) }
given (branch_next ∷ K) =
    record { tokens = one x.EndIf ∷ (given K).tokens; accepted = otherwise-one K x.EndIf tt (refl, tt) (given K).tokens (λ e. cc) ∙ (given K).accepted; quiet = (refl, tt) }
given (otherwise_next s free q ∷ K) =
    record { tokens = one x.Else ∷ one s ∷ (given K).tokens; accepted = end-one K s free q (given K).tokens ∙ (given K).accepted; quiet = (refl, tt) }
given (body (until s free q) ∷ K) = record { tokens = one s ∷ (given K).tokens; accepted = end-one K s free q (given K).tokens ∙ (given K).accepted; quiet = q }
given (statement_next ∷ K) = record { tokens = one x.Semicolon ∷ (given K).tokens; accepted = (given K).accepted; quiet = (refl, tt) }
given (behind_place ∷ K) =
    record { tokens = one x.Open ∷ one x.Close ∷ one x.Semicolon ∷ (given K).tokens; accepted = need-one K x.Semicolon (refl, tt) (given K).tokens ∙ (given K).accepted; quiet = (refl, tt) }
given (by_or_do ∷ K) =
    record { tokens = one x.Do ∷ one x.EndFor ∷ (given K).tokens; accepted = end-one K x.EndFor tt (refl, tt) (given K).tokens ∙ (given K).accepted; quiet = (refl, tt) }
given (first_case ∷ K) = record { tokens = one x.EndCase ∷ (given K).tokens; accepted = otherwise-one K x.EndCase tt (refl, tt) (given K).tokens (λ e. cc) ∙ (given K).accepted; quiet = (refl, tt) }
given (case_body ∷ K) = record { tokens = one x.EndCase ∷ (given K).tokens; accepted = otherwise-one K x.EndCase tt (refl, tt) (given K).tokens (λ e. cc) ∙ (given K).accepted; quiet = (refl, tt) }
given (case_word ∷ K) = record { tokens = one x.Colon ∷ one x.EndCase ∷ (given K).tokens; accepted = otherwise-one K x.EndCase tt (refl, tt) (given K).tokens (λ e. cc) ∙ (given K).accepted; quiet = (refl, tt) }
given (case_dot ∷ K) = record { tokens = one x.Word ∷ one x.Colon ∷ one x.EndCase ∷ (given K).tokens; accepted = otherwise-one K x.EndCase tt (refl, tt) (given K).tokens (λ e. cc) ∙ (given K).accepted; quiet = (refl, tt) }
given (case_field ∷ K) = record { tokens = one x.Colon ∷ one x.EndCase ∷ (given K).tokens; accepted = otherwise-one K x.EndCase tt (refl, tt) (given K).tokens (λ e. cc) ∙ (given K).accepted; quiet = (refl, tt) }
given (const_next ∷ K) = record { tokens = one x.Int ∷ (given K).tokens; accepted = (given K).accepted; quiet = (refl, tt) }
given (const_tail ∷ K) =
    record { tokens = one x.Hash ∷ one x.Word ∷ (given K).tokens; accepted = need-one K x.Word (refl, tt) (given K).tokens ∙ (given K).accepted; quiet = (refl, tt) }
given (behind_label ∷ K) = record { tokens = one x.Colon ∷ one x.EndCase ∷ (given K).tokens; accepted = otherwise-one K x.EndCase tt (refl, tt) (given K).tokens (λ e. cc) ∙ (given K).accepted; quiet = (refl, tt) }
given (label_more ∷ K) = record { tokens = one x.Colon ∷ one x.EndCase ∷ (given K).tokens; accepted = otherwise-one K x.EndCase tt (refl, tt) (given K).tokens (λ e. cc) ∙ (given K).accepted; quiet = (refl, tt) }
given (init_next ∷ K) = let g = given_inside (e.more_tails ∷ []) K (given K) in record { tokens = one x.Int ∷ g.tokens; accepted = g.accepted; quiet = (refl, tt) }
given (init_open ∷ K) = let g = given_inside (e.more_tails ∷ e.close_next ∷ e.more_tails ∷ []) K (given K) in record { tokens = one x.Int ∷ g.tokens; accepted = g.accepted; quiet = (refl, tt) }
given (init_word ∷ K) = let g = given_inside (e.more_tails ∷ []) K (given K) in record { tokens = one x.Close ∷ g.tokens; accepted = g.accepted; quiet = (refl, tt) }
given (fields_more ∷ K) = record { tokens = one x.Close ∷ (given K).tokens; accepted = (given K).accepted; quiet = (refl, tt) }
given (part_next ∷ K) = let g = given_inside (e.more_tails ∷ []) K (given K) in record { tokens = one x.True ∷ g.tokens; accepted = g.accepted; quiet = (refl, tt) }
given (part_int ∷ K) =
    record { tokens = one x.Open ∷ one x.Int ∷ one x.Close ∷ (given K).tokens; accepted = need-one K x.Close (refl, tt) (given K).tokens ∙ (given K).accepted; quiet = (refl, tt) }
given (parts_more ∷ K) = record { tokens = one x.CloseBracket ∷ (given K).tokens; accepted = (given K).accepted; quiet = (refl, tt) }

pub completes : (a : List Lexeme) (K : State) (v : Bool) → machine K a ≡ (v, 0) → (b : List Lexeme) × (machine K (a ++ b) ≡ (true, 0))
completes [] K v h = ((given K).tokens, (given K).accepted)
completes (t ∷ a) K v h = at (λ K' h'. completes a K' v h') (advance K t.terminal) h
  where
    at : ((K' : State) → machine K' a ≡ (v, 0) → (b : List Lexeme) × (machine K' (a ++ b) ≡ (true, 0)))
        → (o : Option State) → go_on o (λ K'. machine K' a) (accepts K, suc (length a)) ≡ (v, 0)
        → (b : List Lexeme) × (go_on o (λ K'. machine K' (a ++ b)) (accepts K, suc (length (a ++ b))) ≡ (true, 0))
    at go None h = absurd (let q : suc (length a) ≡ 0 = ap (λ p. p.1) h in omega arith)
    at go (Some K') h = go K' h

-- ---- the place where it stops

-- the tokens before the place and from it on
pub record Cut (K : State) (ts : List Lexeme) (v : Bool) (left : ℕ) : Type 0 where
  pub before : List Lexeme
  pub rest : List Lexeme
  pub whole : ts ≡ before ++ rest
  pub many : length rest ≡ left
  pub passed : machine K before ≡ (v, 0)
  pub stuck : (t : Lexeme) (after : List Lexeme) → rest ≡ t ∷ after → machine K (before ++ t ∷ []) ≡ (v, 1)

pub cut : (ts : List Lexeme) (K : State) (v : Bool) (left : ℕ) → machine K ts ≡ (v, left) → Cut K ts v left
cut [] K v left h = record { before = []; rest = []; whole = refl; many = ap (λ p. p.1) h; passed = let z : 0 ≡ left = ap (λ p. p.1) h in rw (← z) at h; stuck = λ t after w. absurd (nil_cons t after w) }
  where
    nil_cons : (t : Lexeme) (after : List Lexeme) → [] ≡ t ∷ after → ⊥
    nil_cons t after w = cc
cut (t ∷ ts) K v left h = at (λ K' h'. cut ts K' v left h') (advance K t.terminal) refl h
  where
    at : ((K' : State) → machine K' ts ≡ (v, left) → Cut K' ts v left)
        → (o : Option State) → advance K t.terminal ≡ o → go_on o (λ K'. machine K' ts) (accepts K, suc (length ts)) ≡ (v, left) → Cut K (t ∷ ts) v left
    at go None is h = record {
      before = [];
      rest = t ∷ ts;
      whole = refl;
      many = ap (λ p. p.1) h;
      passed = let same : accepts K ≡ v = ap (λ p. p.0) h in ap (λ b. (b, 0)) same;
      stuck = λ u after w.
          let same : accepts K ≡ v = ap (λ p. p.0) h in
          let first : t ≡ u = cc in
          rw (← first, is) (ap (λ b. (b, 1)) same);
    }
    at go (Some K') is h =
        let c = go K' h in
        record {
          before = t ∷ c.before;
          rest = c.rest;
          whole = ap (λ l. t ∷ l) c.whole;
          many = c.many;
          passed = rw is c.passed;
          stuck = λ u after w. rw is (c.stuck u after w);
        }
