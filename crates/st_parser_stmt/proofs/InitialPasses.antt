-- Initial values pass the machine.
use Rattle.std.proofs.Common.{◌≡◌, ℕ, suc, true, false, List, [], ◌∷◌, ◌++◌, length, refl, sym, ◌∙◌, ap, subst, arith, length-append}
use Rattle.st_tree.specs.declared.terminal.Terminal.{Terminal}
use Rattle.st_tree.specs.declared.terminal.Terminal.TheVariants as x
use Rattle.st_tree.specs.Expression.{Expression}
use Rattle.st_tree.specs.Initial as init
use Rattle.st_tree.specs.Initial.{Initial, Part, Parts, no_parts, part_then, FieldInits, no_fields, field_then}
use Rattle.st_tree.specs.Grammar.{Lexeme, sign, expression, initial, first_part, more_parts, part, first_field, more_fields}
use Rattle.st_parser_expr.specs.Private.Machine as e
use Rattle.st_parser_expr.specs.Private.Machine.{NoStep}
use Rattle.st_parser_expr.proofs.MachineLaws.{signed}
use Rattle.st_parser_expr.proofs.Viable.{machine-expression}
use Rattle.st_parser_expr.proofs.Fronts as f
use Rattle.st_parser_expr.proofs.Fronts.{Front, front}
use Rattle.st_parser_stmt.specs.Private.Machine.{inside, need, init_next, init_open, init_word, fields_more, part_next, part_int, parts_more, behind_paren, behind_paren_word, behind_int, on_inside, on_init, on_init_open, on_init_word, on_part, on_part_int, State, advance, accepts, go_on, machine}
use Rattle.st_parser_stmt.proofs.MachineLaws.{on-sign, on-need}
use Rattle.st_parser_stmt.proofs.Passes.{Closed, closed-sign, passes-expression}

ended : (ts : List Lexeme) → e.machine [] ts ≡ (true, length ts)
ended [] = refl
ended (t ∷ ts) = refl

pub stuck : {A : Type 0} (i n : ℕ) → ◌≡◌ {A = e.Ending} (false, i) (true, n) → A
stuck i n h = absurd (let bad : false ≡ true = ap (λ p. p.0) h in cc)

-- where the lower machine goes through, no list of fields begins
word-same : (ts : List Lexeme) (K : State) (n : ℕ) → e.machine behind_paren_word ts ≡ (true, n) → machine (init_word ∷ K) ts ≡ machine (inside behind_paren_word ∷ K) ts
word-same [] K n h = refl
word-same (t ∷ ts) K n h = at t.terminal h
  where
    at : (u : Terminal) → e.go_on (e.advance behind_paren_word u) (λ k'. e.machine k' ts) (false, suc (length ts)) ≡ (true, n)
        → go_on (on_init_word u K) (λ K'. machine K' ts) (false, suc (length ts)) ≡ go_on (on_inside (e.advance behind_paren_word u) false K (advance K u)) (λ K'. machine K' ts) (false, suc (length ts))
    at x.Assign h = stuck (suc (length ts)) n h
    at _ h = refl

open-same : (ts : List Lexeme) (K : State) (n : ℕ) → e.machine behind_paren ts ≡ (true, n) → machine (init_open ∷ K) ts ≡ machine (inside behind_paren ∷ K) ts
open-same [] K n h = refl
open-same (t ∷ ts) K n h = at t.terminal h
  where
    at : (u : Terminal) → e.go_on (e.advance behind_paren u) (λ k'. e.machine k' ts) (false, suc (length ts)) ≡ (true, n)
        → go_on (on_init_open u K) (λ K'. machine K' ts) (false, suc (length ts)) ≡ go_on (on_inside (e.advance behind_paren u) false K (advance K u)) (λ K'. machine K' ts) (false, suc (length ts))
    at x.Word h = word-same ts K n h
    at _ h = refl

init-same : (ts : List Lexeme) (K : State) (n : ℕ) → e.machine e.start ts ≡ (true, n) → machine (init_next ∷ K) ts ≡ machine (inside e.start ∷ K) ts
init-same [] K n h = refl
init-same (t ∷ ts) K n h = at t.terminal h
  where
    at : (u : Terminal) → e.go_on (e.advance e.start u) (λ k'. e.machine k' ts) (false, suc (length ts)) ≡ (true, n)
        → go_on (on_init u K) (λ K'. machine K' ts) (false, suc (length ts)) ≡ go_on (on_inside (e.advance e.start u) false K (advance K u)) (λ K'. machine K' ts) (false, suc (length ts))
    at x.OpenBracket h = stuck (suc (length ts)) n h
    at x.Open h = open-same ts K n h
    at _ h = refl

-- behind an int, `(` does not go on with an expression
int-same : (ts : List Lexeme) (K : State) → ((t : Lexeme) (us : List Lexeme) → ts ≡ t ∷ us → t.terminal ≡ x.Open → ⊥) → machine (part_int ∷ K) ts ≡ machine (inside behind_int ∷ K) ts
int-same [] K h = refl
int-same (t ∷ ts) K h = at t.terminal (h t ts refl)
  where
    at : (u : Terminal) → (u ≡ x.Open → ⊥) → go_on (on_part_int u K (advance K u)) (λ K'. machine K' ts) (accepts K, suc (length ts)) ≡ go_on (on_inside (e.advance behind_int u) true K (advance K u)) (λ K'. machine K' ts) (accepts K, suc (length ts))
    at x.Open h = absurd (h refl)
    at _ h = refl

pub runs : (v : Expression ℕ) (ts rest : List Lexeme) → expression v 0 ts rest → Closed rest → e.machine e.start ts ≡ (true, length rest)
runs v ts rest h c = machine-expression v ts rest h c.0 c.1 ∙ ended rest

value-init : (v : Expression ℕ) (K : State) (ts rest : List Lexeme) → expression v 0 ts rest → Closed rest → machine (init_next ∷ K) ts ≡ machine K rest
value-init v K ts rest h c = init-same ts K (length rest) (runs v ts rest h c) ∙ passes-expression v K ts rest h c

-- the lower machine stops before `(` behind an int: there the value ends
pub int-stops : (t : Lexeme) (us a rest : List Lexeme) → NoStep rest → t ∷ us ≡ a ++ rest → e.machine behind_int (t ∷ us) ≡ (true, length rest) → t.terminal ≡ x.Open → ⊥
int-stops t us a rest free w run is =
    let stop : ◌≡◌ {A = e.Ending} (true, suc (length us)) (true, length rest) = sym (ap (λ u. e.go_on (e.advance behind_int u) (λ k'. e.machine k' us) (true, suc (length us))) is) ∙ run in
    let many : suc (length us) ≡ length rest = ap (λ p. p.1) stop in
    at a w many
  where
    at : (a : List Lexeme) → t ∷ us ≡ a ++ rest → suc (length us) ≡ length rest → ⊥
    at [] w many = let no' : NoStep (t ∷ us) = subst NoStep (sym w) free in subst e.IsNoStep is no'
    at (b ∷ a) w many = let n : suc (length us) ≡ suc (length (a ++ rest)) = ap length w in omega (arith, length-append a rest)

part-same : (ts rest a : List Lexeme) (K : State) → ts ≡ a ++ rest → NoStep rest → e.machine e.start ts ≡ (true, length rest) → machine (part_next ∷ K) ts ≡ machine (inside e.start ∷ K) ts
part-same [] rest a K w free run = refl
part-same (t ∷ ts) rest a K w free run = at t.terminal run
  where
    behind : (a : List Lexeme) → t ∷ ts ≡ a ++ rest → e.machine behind_int ts ≡ (true, length rest) → (u : Lexeme) (us : List Lexeme) → ts ≡ u ∷ us → u.terminal ≡ x.Open → ⊥
    behind [] w run u us q is =
        let n : suc (length ts) ≡ length rest = ap length w in
        let stop : ◌≡◌ {A = e.Ending} (true, suc (length us)) (true, length rest) = sym (ap (λ v. e.go_on (e.advance behind_int v) (λ k'. e.machine k' us) (true, suc (length us))) is) ∙ sym (ap (e.machine behind_int) q) ∙ run in
        let many : suc (length us) ≡ length rest = ap (λ p. p.1) stop in
        let len : length ts ≡ suc (length us) = ap length q in
        omega arith
    behind (b ∷ a) w run u us q is =
        let tail : ts ≡ a ++ rest = cc in
        int-stops u us a rest free (sym q ∙ tail) (sym (ap (e.machine behind_int) q) ∙ run) is

    at : (u : Terminal) → e.go_on (e.advance e.start u) (λ k'. e.machine k' ts) (false, suc (length ts)) ≡ (true, length rest)
        → go_on (on_part u K) (λ K'. machine K' ts) (false, suc (length ts)) ≡ go_on (on_inside (e.advance e.start u) false K (advance K u)) (λ K'. machine K' ts) (false, suc (length ts))
    at x.Int h = int-same ts K (behind a w h)
    at x.OpenBracket h = stuck (suc (length ts)) (length rest) h
    at x.Open h = open-same ts K (length rest) h
    at _ h = refl

value-part : (v : Expression ℕ) (K : State) (ts rest : List Lexeme) → expression v 0 ts rest → Closed rest → machine (part_next ∷ K) ts ≡ machine K rest
value-part v K ts rest h c =
    let b = front _ (f.of_expression v 0) ts rest h in
    part-same ts rest b.tokens K b.whole c.0 (runs v ts rest h c) ∙ passes-expression v K ts rest h c

pub fields-closed : (fs : FieldInits ℕ) (ts mid rest : List Lexeme) → more_fields fs ts mid → sign x.Close mid rest → Closed ts
fields-closed no_fields ts mid rest h c = subst Closed (sym h) (closed-sign x.Close mid rest tt refl c)
fields-closed (field_then line n i fs) ts mid rest (m, h, more) c = closed-sign x.Comma ts m tt refl h

pub parts-closed : (ps : Parts ℕ) (ts mid rest : List Lexeme) → more_parts ps ts mid → sign x.CloseBracket mid rest → Closed ts
parts-closed no_parts ts mid rest h c = subst Closed (sym h) (closed-sign x.CloseBracket mid rest tt refl c)
parts-closed (part_then p ps) ts mid rest (m, h, more) c = closed-sign x.Comma ts m tt refl h

mutual
  pub passes-initial : (i : Initial ℕ) (K : State) (ts rest : List Lexeme) → initial i ts rest → Closed rest → machine (init_next ∷ K) ts ≡ machine K rest
  passes-initial (init.Value v) K ts rest h ok = value-init v K ts rest h ok
  passes-initial (init.Array line ps) K ts rest (a, (m, w, (m2, hp, c))) ok = on-sign (init_next ∷ K) x.OpenBracket ts m w ∙ passes-first_part ps K m m2 rest hp c
  passes-initial (init.Fields line fs) K ts rest (a, (m, w, (m2, hf, c))) ok = on-sign (init_next ∷ K) x.Open ts m w ∙ passes-first_field fs K m m2 rest hf c

  passes-first_field : (fs : FieldInits ℕ) (K : State) (ts mid rest : List Lexeme) → first_field fs ts mid → sign x.Close mid rest → machine (init_open ∷ K) ts ≡ machine K rest
  passes-first_field no_fields K ts mid rest h c = absurd h
  passes-first_field (field_then line n i fs) K ts mid rest (m, (a, w), (m2, z, (m3, hi, hf))) c =
      on-sign (init_open ∷ K) x.Word ts m (signed x.Word n ts m w) ∙ on-sign (init_word ∷ K) x.Assign m m2 z
      ∙ passes-initial i (fields_more ∷ K) m2 m3 hi (fields-closed fs m3 mid rest hf c) ∙ passes-more_fields fs K m3 mid rest hf c

  passes-more_fields : (fs : FieldInits ℕ) (K : State) (ts mid rest : List Lexeme) → more_fields fs ts mid → sign x.Close mid rest → machine (fields_more ∷ K) ts ≡ machine K rest
  passes-more_fields no_fields K ts mid rest h c = ap (machine (fields_more ∷ K)) h ∙ on-sign (fields_more ∷ K) x.Close mid rest c
  passes-more_fields (field_then line n i fs) K ts mid rest (m0, k, (m, (a, w), (m2, z, (m3, hi, hf)))) c =
      on-sign (fields_more ∷ K) x.Comma ts m0 k ∙ on-need (need x.Assign (refl, tt) ∷ init_next ∷ fields_more ∷ K) x.Word (refl, tt) m0 m (signed x.Word n m0 m w) ∙ on-need (init_next ∷ fields_more ∷ K) x.Assign (refl, tt) m m2 z
      ∙ passes-initial i (fields_more ∷ K) m2 m3 hi (fields-closed fs m3 mid rest hf c) ∙ passes-more_fields fs K m3 mid rest hf c

  passes-first_part : (ps : Parts ℕ) (K : State) (ts mid rest : List Lexeme) → first_part ps ts mid → sign x.CloseBracket mid rest → machine (part_next ∷ parts_more ∷ K) ts ≡ machine K rest
  passes-first_part no_parts K ts mid rest h c = absurd h
  passes-first_part (part_then p ps) K ts mid rest (m, h, hm) c = passes-part p (parts_more ∷ K) ts m h (parts-closed ps m mid rest hm c) ∙ passes-more_parts ps K m mid rest hm c

  passes-more_parts : (ps : Parts ℕ) (K : State) (ts mid rest : List Lexeme) → more_parts ps ts mid → sign x.CloseBracket mid rest → machine (parts_more ∷ K) ts ≡ machine K rest
  passes-more_parts no_parts K ts mid rest h c = ap (machine (parts_more ∷ K)) h ∙ on-sign (parts_more ∷ K) x.CloseBracket mid rest c
  passes-more_parts (part_then p ps) K ts mid rest (m0, k, (m, h, hm)) c =
      on-sign (parts_more ∷ K) x.Comma ts m0 k ∙ passes-part p (parts_more ∷ K) m0 m h (parts-closed ps m mid rest hm c) ∙ passes-more_parts ps K m mid rest hm c

  passes-part : (p : Part ℕ) (K : State) (ts rest : List Lexeme) → part p ts rest → Closed rest → machine (part_next ∷ K) ts ≡ machine K rest
  passes-part (init.One (init.Value v)) K ts rest h ok = value-part v K ts rest h ok
  passes-part (init.One (init.Array line ps)) K ts rest (a, (m, w, (m2, hp, c))) ok = on-sign (part_next ∷ K) x.OpenBracket ts m w ∙ passes-first_part ps K m m2 rest hp c
  passes-part (init.One (init.Fields line fs)) K ts rest (a, (m, w, (m2, hf, c))) ok = on-sign (part_next ∷ K) x.Open ts m w ∙ passes-first_field fs K m m2 rest hf c
  passes-part (init.Repeated line n i) K ts rest (a, (m, w, (m2, o, (m3, hi, c)))) ok =
      on-sign (part_next ∷ K) x.Int ts m (signed x.Int n ts m w) ∙ on-sign (part_int ∷ K) x.Open m m2 o ∙ passes-initial i (need x.Close (refl, tt) ∷ K) m2 m3 hi (closed-sign x.Close m3 rest tt refl c) ∙ on-need K x.Close (refl, tt) m3 rest c
