-- Rows of operators of one level, and the rows that stand behind an operand.
use Rattle.std.proofs.Common.{◌≡◌, ℕ, suc, ◌+◌, ◌<◌, ◌≤◌, Bool, true, false, List, [], ◌∷◌, ◌++◌, Option, Some, None, length, drop, refl, sym, ◌∙◌, ap, subst, arith, add-one, length-drop, eqb-true, if◌then◌else◌, ◌==◌}
use Rattle.st_tree.specs.declared.expression.Operator.{Operator}
use Rattle.st_tree.specs.declared.expression.Expr.{Expr}
use Rattle.st_tree.specs.declared.expression.Tail.{Tail}
use Rattle.st_tree.specs.Expression.{expression_of, selector_of, argument_of, tail_of, expressions_of, selectors_of, arguments_of, tails_of, tail_of-note, tail_of-operator, tail_of-operand}
use Rattle.st_tree.specs.Expression as expr
use Rattle.st_tree.specs.Expression.{Expression, Expressions, no_expressions, expression_then, Selector, Selectors, no_selectors, selector_then, Argument, Arguments, no_arguments, argument_then, Tails, no_tails, tail_then}
use Rattle.st_tree.specs.Grammar.{Lexeme, operator_of, level, operator_at, expression, first_tail, tails}
use Rattle.st_parser_expr.specs.Private.Machine.{more_tails, Looser}
use Rattle.st_parser_expr.specs.Private.Promises.{LineOf, if_level, next_operator_at, Passes, Parses, same, for_expr, for_operand, for_tails}
use Rattle.st_parser_expr.proofs.Passes.{machine-operator}
use Rattle.st_parser_expr.proofs.Groups.{note-is, expression-looser, level-small}
use Rattle.std.proofs.lemmas.Bool.{eq-eqb}
use Rattle.st_parser_expr.specs.Private.Levels.{LevelNext}
use Rattle.st_parser_expr.proofs.Rules.{seen, line_noted}

abbrev pub tails_onto : List (Tail ℕ) → Tails ℕ → Tails ℕ
tails_onto [] s = s
tails_onto (t ∷ ts) s = tail_then (tail_of t).0 (tail_of t).1 (tail_of t).2 (tails_onto ts s)

tails_onto-push : (ts : List (Tail ℕ)) (t : Tail ℕ) (s : Tails ℕ) → tails_onto (ts ++ t ∷ []) s ≡ tails_onto ts (tail_then (tail_of t).0 (tail_of t).1 (tail_of t).2 s)
tails_onto-push [] t s = refl
tails_onto-push (u ∷ ts) t s = ap (tail_then (tail_of u).0 (tail_of u).1 (tail_of u).2) (tails_onto-push ts t s)

tails_onto-none : (ts : List (Tail ℕ)) → tails_onto ts no_tails ≡ tails_of ts
tails_onto-none [] = refl
tails_onto-none (u ∷ ts) = ap (tail_then (tail_of u).0 (tail_of u).1 (tail_of u).2) (tails_onto-none ts)

pub record TailsSoFar (row at : ℕ) (found : List (Tail ℕ)) (ts now' : List Lexeme) : Type 0 where
  pub spelled : (t : Tails ℕ) (rest : List Lexeme) → tails t row at now' rest → tails (tails_onto found t) row at ts rest
  pub passes : Passes for_tails for_tails ts now'
  pub shorter : length now' ≤ length ts
  pub looser : Looser (at + 1) ts → Looser (at + 1) now'
  pub stays : found ≡ [] → now' ≡ ts
  pub moved : (found ≡ [] → ⊥) → length now' < length ts

tails-some : (t : List (Tail ℕ)) (row l : ℕ) (ts rest : List Lexeme) → (t ≡ [] → ⊥) → tails (tails_of t) row l ts rest → first_tail (tails_of t) row l ts rest
tails-some [] row l ts rest some h = absurd (some refl)
tails-some (u ∷ t) row l ts rest some h = h

chain-chained : (line : ℕ) (e : Expression ℕ) (t : List (Tail ℕ)) (l : ℕ) (ts m rest : List Lexeme) → LineOf ts line → l < 7 → (t ≡ [] → ⊥) → Parses (expression e (l + 1)) for_expr for_tails ts m
    → Parses (tails (tails_of t) line l) for_tails for_tails m rest → Parses (expression (expr.Chain line e (tails_of t)) l) for_expr for_tails ts rest
chain-chained line e t l ts m rest at small some r rt = record {
  spelled = (line_noted line _ ts at (note-is e (l + 1) ts m r.spelled), (l, omega arith, small, (m, rw add-one at r.spelled, tails-some t line l m rest some rt.spelled)));
  passes = λ k. r.passes k ∙ rt.passes k;
  shorter = omega (arith, r.shorter, rt.shorter);
}

level_is : (l : ℕ) (p q : Operator) → if_level l (Some p) ≡ Some q → (level q ≡ l) × (p ≡ q)
level_is l p q h = at (level p == l) refl h
  where
    at : (b : Bool) → (level p == l) ≡ b → (if b then Some p else None) ≡ Some q → (level q ≡ l) × (p ≡ q)
    at true e h = let same : p ≡ q = cc in (rw (← same) (eqb-true (level p) l e), same)
    at false e h = cc

operator_next : (l : ℕ) (m m' : List Lexeme) (p : Operator) → next_operator_at l m ≡ Some p → m' ≡ drop 1 m → operator_at l p m m'
operator_next l [] m' p h e = cc
operator_next l (u ∷ us) m' p h e = at (operator_of u.terminal) refl h
  where
    at : (o : Option Operator) → operator_of u.terminal ≡ o → if_level l o ≡ Some p → operator_at l p (u ∷ us) m'
    at None is h = cc
    at (Some q) is h = let f = level_is l q p h in (u, (rw is (ap Some f.1), f.0), rw e refl)

pub tails-next : (row l : ℕ) (found : List (Tail ℕ)) (p : Operator) (ts m m' : List Lexeme) → TailsSoFar row l found ts m → next_operator_at l m ≡ Some p → m' ≡ drop 1 m → Passes for_tails for_expr ts m'
tails-next row l found p ts m m' so is next k = so.passes k ∙ machine-operator l p k m m' (operator_next l m m' p is next)

pushed-some : (ts : List (Tail ℕ)) (t : Tail ℕ) → ts ++ t ∷ [] ≡ [] → ⊥
pushed-some [] t h = cc
pushed-some (u ∷ ts) t h = cc

operator-shorter : (l : ℕ) (p : Operator) (ts rest : List Lexeme) → operator_at l p ts rest → length ts ≡ suc (length rest)
operator-shorter l p ts rest (t, is, w) = ap length w

pub tails-pushed : (row l : ℕ) (found : List (Tail ℕ)) (t : Tail ℕ) (ts m m' now' : List Lexeme) → TailsSoFar row l found ts m → t.note ≡ row → next_operator_at l m ≡ Some t.operator → m' ≡ drop 1 m
    → Parses (expression (expression_of t.operand) (l + 1)) for_expr for_tails m' now' → Looser (l + 1) now' → TailsSoFar row l (found ++ t ∷ []) ts now'
tails-pushed row l found t ts m m' now' so noted is next r h =
    let o = operator_next l m m' t.operator is next in
    record {
      spelled = λ u rest h'. rw (tails_onto-push, tail_of-note, tail_of-operator, tail_of-operand)
          (so.spelled (tail_then t.note t.operator (expression_of t.operand) u) rest (noted, (m', o, (now', rw add-one at r.spelled, h'))));
      passes = λ k. tails-next row l found t.operator ts m m' so is next k ∙ r.passes k;
      shorter = omega (arith, so.shorter, r.shorter, ap length next, length-drop 1 m);
      looser = λ _. h;
      stays = λ none. absurd (pushed-some found t none);
      moved = λ _. let a = so.shorter in let b = r.shorter in let d = operator-shorter l t.operator m m' o in omega arith;
    }

pub tails-read : (row l : ℕ) (found : List (Tail ℕ)) (ts rest : List Lexeme) → TailsSoFar row l found ts rest → Parses (tails (tails_of found) row l) for_tails for_tails ts rest
tails-read row l found ts rest so = record { spelled = rw (← tails_onto-none found) (so.spelled no_tails rest refl); passes = so.passes; shorter = so.shorter }

-- where an operator of the level comes first, the row has one operand at least
level-found : (l : ℕ) (m : List Lexeme) → LevelNext l m → next_operator_at l m ≡ None → ⊥
level-found l [] h e = absurd h
level-found l (t ∷ ts) (p, (is, same_level)) e = let one : if_level l (Some p) ≡ None = rw is at e in some (level p == l) (eq-eqb (level p) l same_level) one
  where
    some : (b : Bool) → b ≡ true → (if b then Some p else None) ≡ None → ⊥
    some true is e = cc
    some false is e = cc

pub tails-some_found : (row l : ℕ) (found : List (Tail ℕ)) (ts rest : List Lexeme) → TailsSoFar row l found ts rest → next_operator_at l rest ≡ None → LevelNext l ts → found ≡ [] → ⊥
tails-some_found row l found ts rest so end next none = level-found l rest (subst (LevelNext l) (sym (so.stays none)) next) end

pub tails-shorter : (row l : ℕ) (found : List (Tail ℕ)) (ts rest : List Lexeme) → TailsSoFar row l found ts rest → next_operator_at l rest ≡ None → LevelNext l ts → length rest < length ts
tails-shorter row l found ts rest so end next = so.moved (tails-some_found row l found ts rest so end next)

-- ---- an operand, and the rows of operators behind it, each looser than the row before

pub record ChainSoFar (at : ℕ) (found : Expr ℕ) (ts now' : List Lexeme) : Type 0 where
  pub bound : ℕ
  pub above : at ≤ bound
  pub below : bound ≤ 7
  pub reads : Parses (expression (expression_of found) bound) for_expr for_tails ts now'
  pub looser : Looser bound now'

looser-seven : (ts : List Lexeme) → Looser 7 ts
looser-seven [] = tt
looser-seven (t ∷ ts) = λ p is. level-small p

pub chain-first : (at : ℕ) (e : Expr ℕ) (ts m : List Lexeme) → at ≤ 7 → Parses (expression (expression_of e) 7) for_operand same ts m → ChainSoFar at e ts m
chain-first at e ts m small r = record {
  bound = 7;
  above = small;
  below = omega arith;
  reads = record { spelled = r.spelled; passes = λ k. r.passes (more_tails ∷ k); shorter = r.shorter };
  looser = looser-seven m;
}

pub chain-read : (at : ℕ) (e : Expr ℕ) (ts m : List Lexeme) → ChainSoFar at e ts m → Parses (expression (expression_of e) at) for_expr for_tails ts m
chain-read at e ts m so = record { spelled = expression-looser (expression_of e) so.bound at ts m so.above so.reads.spelled; passes = so.reads.passes; shorter = so.reads.shorter }

level-next-looser : (l : ℕ) (m : List Lexeme) → LevelNext l m → Looser (l + 1) m
level-next-looser l [] h = absurd h
level-next-looser l (t ∷ ts) (p, (is, same_level)) = λ q is'. let one : Some p ≡ Some q = sym is ∙ is' in let two : p ≡ q = cc in let low : level q ≡ l = rw two at same_level in omega arith

level-below : (l b : ℕ) (m : List Lexeme) → LevelNext l m → Looser b m → l < b
level-below l b [] h h' = absurd h
level-below l b (t ∷ ts) (p, (is, same_level)) h' = rw same_level at (h' p is)

pub chain-pushed : (at l line : ℕ) (e e' : Expr ℕ) (t : List (Tail ℕ)) (ts m rest : List Lexeme) → expression_of e' ≡ expr.Chain line (expression_of e) (tails_of t) → LineOf ts line → ChainSoFar at e ts m → at ≤ l → LevelNext l m → (t ≡ [] → ⊥)
    → Parses (tails (tails_of t) line l) for_tails for_tails m rest → (Looser (l + 1) m → Looser l rest) → ChainSoFar at e' ts rest
chain-pushed at l line e e' t ts m rest is noted so above next some rt loose =
    let low : l < so.bound = level-below l so.bound m next so.looser in
    let top : so.bound ≤ 7 = so.below in
    let small : l < 7 = omega arith in
    let high : l + 1 ≤ so.bound = omega arith in
    let r : Parses (expression (expression_of e) (l + 1)) for_expr for_tails ts m = record { spelled = expression-looser (expression_of e) so.bound (l + 1) ts m high so.reads.spelled; passes = so.reads.passes; shorter = so.reads.shorter } in
    record {
      bound = l;
      above = above;
      below = omega arith;
      reads = seen l _ _ for_expr for_tails ts rest is (chain-chained line (expression_of e) t l ts m rest noted small some r rt);
      looser = loose (level-next-looser l m next);
    }
