-- Where the machines of expressions and statements want nothing more, they stop before what goes on with no expression.
use Rattle.std.proofs.Common.{◌≡◌, suc, Bool, true, false, ◌&&◌, List, [], ◌∷◌, ◌++◌, Option, Some, None, length, refl, ◌∙◌, ap, subst, arith}
use Rattle.st_tree.specs.declared.terminal.Terminal.{Terminal}
use Rattle.st_tree.specs.declared.terminal.Terminal.TheVariants as x
use Rattle.st_tree.specs.Grammar.{Lexeme}
use Rattle.st_parser_expr.specs.Private.Machine as e
use Rattle.st_parser_expr.specs.Private.Machine.{calls, reference_end, arguments_end, elsewhere, operand, more_tails, selecting, behind_name, root_next, name_next, close_next, behind_ref, behind_kind, literal_next, digits_next, comma_or_bracket, first_argument, argument_next, behind_argument, comma_or_close, NoStep, IsNoStep}
use Rattle.st_parser_expr.specs.Private.Promises.{next_terminal}
use Rattle.st_parser_expr.proofs.MachineLaws.{no_selector, no_open, machine-more_tails, machine-calls, machine-elsewhere, machine-behind_name}
use Rattle.st_parser_expr.proofs.Passes.{NoStep-not_hash}
use Rattle.st_parser_stmt.specs.Private.Machine as s
use Rattle.st_parser_stmt.specs.Private.Machine.{inside, need, body, statement_next, behind_place, by_or_do, branch_next, otherwise_next, first_case, case_body, case_word, case_dot, case_field, const_next, const_tail, behind_label, label_more, init_next, init_open, init_word, fields_more, part_next, part_int, parts_more, behind_int}
use Rattle.st_parser_stmt.specs.Private.Promises.{is_open}
use Rattle.st_parser_stmt.proofs.MachineLaws as l
use Rattle.st_parser_stmt.proofs.Passes.{Closed}
use Rattle.st_parser_stmt.proofs.Rules.{tail-over}
use Rattle.st_parser_stmt.proofs.InitialRules.{int-value}

ended : (ts : List Lexeme) → e.machine [] ts ≡ (true, length ts)
ended [] = refl
ended (t ∷ ts) = refl

expression-stops : (k : e.State) (ts : List Lexeme) → e.accepts k ≡ true → Closed ts → e.machine k ts ≡ (true, length ts)
expression-stops [] ts ok c = ended ts
expression-stops (operand ∷ k) ts ok c = cc
expression-stops (more_tails ∷ k) ts ok c = machine-more_tails k ts c.1 ∙ expression-stops k ts ok c
expression-stops (selecting calls ∷ k) ts ok c = machine-calls k ts (no_selector ts c.0) (no_open ts c.0) ∙ expression-stops k ts ok c
expression-stops (selecting reference_end ∷ k) ts ok c = cc
expression-stops (selecting arguments_end ∷ k) ts ok c = cc
expression-stops (selecting elsewhere ∷ k) ts ok c = machine-elsewhere k ts (no_selector ts c.0) ∙ expression-stops k ts ok c
expression-stops (behind_name ∷ k) ts ok c = machine-behind_name k ts (NoStep-not_hash ts c.0) ∙ machine-calls k ts (no_selector ts c.0) (no_open ts c.0) ∙ expression-stops k ts ok c
expression-stops (root_next ∷ k) ts ok c = cc
expression-stops (name_next ∷ k) ts ok c = cc
expression-stops (close_next ∷ k) ts ok c = cc
expression-stops (behind_ref ∷ k) ts ok c = cc
expression-stops (behind_kind d ∷ k) ts ok c = cc
expression-stops (literal_next ∷ k) ts ok c = cc
expression-stops (digits_next ∷ k) ts ok c = cc
expression-stops (comma_or_bracket ∷ k) ts ok c = cc
expression-stops (first_argument ∷ k) ts ok c = cc
expression-stops (argument_next ∷ k) ts ok c = cc
expression-stops (behind_argument ∷ k) ts ok c = cc
expression-stops (comma_or_close ∷ k) ts ok c = cc

not_hash : (ts : List Lexeme) → NoStep ts → next_terminal ts ≡ Some x.Hash → ⊥
not_hash [] c h = cc
not_hash (t ∷ ts) c h = let same : t.terminal ≡ x.Hash = cc in subst IsNoStep same c

not_dot : (ts : List Lexeme) → NoStep ts → next_terminal ts ≡ Some x.Dot → ⊥
not_dot [] c h = cc
not_dot (t ∷ ts) c h = let same : t.terminal ≡ x.Dot = cc in subst IsNoStep same c

not_open : (ts : List Lexeme) → NoStep ts → is_open (next_terminal ts) ≡ false
not_open [] c = refl
not_open (t ∷ ts) c = at t.terminal c
  where
    at : (u : Terminal) → IsNoStep u → is_open (Some u) ≡ false
    at x.Open c = absurd c
    at _ c = refl

both-true : (b c : Bool) → b && c ≡ true → (b ≡ true) × (c ≡ true)
both-true true c h = (refl, h)
both-true false c h = cc

nothing-stops : (ts : List Lexeme) → s.machine [] ts ≡ (true, length ts)
nothing-stops [] = refl
nothing-stops (t ∷ ts) = refl

pub stops : (K : s.State) (ts : List Lexeme) → s.accepts K ≡ true → Closed ts → s.machine K ts ≡ (true, length ts)
stops [] ts ok c = nothing-stops ts
stops (inside k ∷ K) ts ok c = let both = both-true (e.accepts k) (s.accepts K) ok in l.inside-passes [] ts k K (expression-stops k ts both.0 c) ∙ stops K ts both.1 c
stops (need t q ∷ K) ts ok c = cc
stops (body b ∷ K) ts ok c = cc
stops (statement_next ∷ K) ts ok c = cc
stops (behind_place ∷ K) ts ok c = cc
stops (by_or_do ∷ K) ts ok c = cc
stops (branch_next ∷ K) ts ok c = cc
stops (otherwise_next t free q ∷ K) ts ok c = cc
stops (first_case ∷ K) ts ok c = cc
stops (case_body ∷ K) ts ok c = cc
stops (case_word ∷ K) ts ok c = cc
stops (case_dot ∷ K) ts ok c = cc
stops (case_field ∷ K) ts ok c = cc
stops (const_next ∷ K) ts ok c = cc
stops (const_tail ∷ K) ts ok c = tail-over K ts (not_hash ts c.0) (not_dot ts c.0) ∙ stops K ts ok c
stops (behind_label ∷ K) ts ok c = cc
stops (label_more ∷ K) ts ok c = cc
stops (init_next ∷ K) ts ok c = cc
stops (init_open ∷ K) ts ok c = cc
stops (init_word ∷ K) ts ok c = cc
stops (fields_more ∷ K) ts ok c = cc
stops (part_next ∷ K) ts ok c = cc
stops (part_int ∷ K) ts ok c = int-value K ts (not_open ts c.0) ∙ l.inside-passes [] ts behind_int K (expression-stops behind_int ts refl c) ∙ stops K ts ok c
stops (parts_more ∷ K) ts ok c = cc

-- what the machine accepts, it reads up to what stands behind
pub reads-whole : (a rest : List Lexeme) (K : s.State) → s.machine K a ≡ (true, 0) → Closed rest → s.machine K (a ++ rest) ≡ (true, length rest)
reads-whole [] rest K h c = stops K rest (ap (λ p. p.0) h) c
reads-whole (t ∷ a) rest K h c = at (λ K' h'. reads-whole a rest K' h' c) (s.advance K t.terminal) h
  where
    at : ((K' : s.State) → s.machine K' a ≡ (true, 0) → s.machine K' (a ++ rest) ≡ (true, length rest))
        → (o : Option s.State) → s.go_on o (λ K'. s.machine K' a) (s.accepts K, suc (length a)) ≡ (true, 0)
        → s.go_on o (λ K'. s.machine K' (a ++ rest)) (s.accepts K, suc (length (a ++ rest))) ≡ (true, length rest)
    at go None h = absurd (let z : suc (length a) ≡ 0 = ap (λ p. p.1) h in omega arith)
    at go (Some K') h = go K' h
