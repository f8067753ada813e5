-- What each rule's function has to show.
use Rattle.std.proofs.Common.{◌≡◌, ℕ, suc, ◌<◌, ◌≤◌, Bool, true, false, List, [], ◌∷◌, ◌++◌, Option, Some, None, length, drop, refl, sym, ◌∙◌, ap, subst, arith}
use borrow.Author.Tests.{clash}
use Rattle.st_types.specs.declared.elem.Elem.{Elem}
use Rattle.st_types.specs.declared.elem.Elem.TheVariants as kind
use Rattle.st_tree.specs.declared.terminal.Terminal.{Terminal}
use Rattle.st_tree.specs.declared.terminal.Terminal.TheVariants as x
use Rattle.st_tree.specs.declared.expression.Operator.{Operator}
use Rattle.st_tree.specs.declared.expression.Literal.{Literal}
use Rattle.st_tree.specs.declared.expression.Root.{Root}
use Rattle.st_tree.specs.declared.expression.Root.TheVariants as roots
use Rattle.st_tree.specs.declared.expression.Expr.{Expr}
use Rattle.st_tree.specs.declared.expression.Selector.{Selector as CodeSelector}
use Rattle.st_tree.specs.declared.expression.Argument.{Argument as CodeArgument}
use Rattle.st_tree.specs.Expression.{expression_of, selector_of, argument_of, tail_of, expressions_of, selectors_of, arguments_of, tails_of, tail_of-note, tail_of-operator, tail_of-operand}
use Rattle.st_tree.specs.Expression as expr
use Rattle.st_tree.specs.Expression.{Expression, Expressions, no_expressions, expression_then, Selector, Selectors, no_selectors, selector_then, Argument, Arguments, no_arguments, argument_then, Tails, no_tails, tail_then}
use Rattle.st_tree.specs.Grammar.{Lexeme, At, NotNext, ◌⋆◌, lexeme, sign, spelled, word, operator_of, level, literal, root, expression, selectors, selector, first_expression, more_expressions, arguments, more_arguments, argument}
use Rattle.st_parser_expr.specs.declared.stop.Stop.{Stop}
use Rattle.st_parser_expr.specs.declared.stop.Stop.TheVariants.{Left, NoMemory}
use Rattle.st_parser_expr.specs.declared.stop.Naming.{Naming}
use Rattle.st_parser_expr.specs.declared.stop.Naming.TheVariants as naming
use Rattle.st_parser_expr.specs.Private.Machine.{Follow, calls, reference_end, arguments_end, operand, more_tails, selecting, behind_name, root_next, behind_kind, comma_or_bracket, first_argument, argument_next, behind_argument, comma_or_close, State, go_on, on_root, machine, NoOperator, NoSelector, NoNaming, IsNoNaming, Looser}
use Rattle.st_parser_expr.specs.Private.Promises.{next_terminal, TextTaken, LineOf, is_hash, is_enumerator_by, is_enumerator, naming_behind, naming_by, naming_of, is_root, Fails, Passes, Parses, Selects, SelectFails, same, for_expr, for_operand, for_tails, for_selectors, for_indices, for_more_indices, for_arguments, for_argument, for_more, for_root, for_name, for_literal, for_close, for_reference}
use Rattle.st_parser_expr.proofs.MachineLaws.{on-sign, signed, machine-more_tails, machine-calls, machine-sent, machine-referred, machine-behind_name, Positional, machine-argument, machine-first_argument}

-- ---- single lexemes

pub sign_at : (s : Terminal) (ts us : List Lexeme) → next_terminal ts ≡ Some s → us ≡ drop 1 ts → sign s ts us
sign_at s [] us h e = cc
sign_at s (u ∷ ts) us h e = let is : u.terminal ≡ s = cc in (u, is, rw e refl)

pub taken : (s : Terminal) (n : List ℕ) (ts us : List Lexeme) → next_terminal ts ≡ Some s → TextTaken n ts us → spelled s n ts us
taken s n [] us h (t, is, w) = cc
taken s n (u ∷ ts) us h (t, is, w) = let same_terminal : u.terminal ≡ s = cc in let first : u ≡ t = cc in (t, (rw first at same_terminal, is), w)

line_at : (P : Lexeme → Type 0) (line : ℕ) (ts rest : List Lexeme) → LineOf ts line → lexeme P ts rest → At line ts
line_at P line ts rest h (t, is, w) = let h' = rw w at h in rw w h'

pub line_sign : (s : Terminal) (line : ℕ) (ts rest : List Lexeme) → LineOf ts line → sign s ts rest → At line ts
line_sign s line ts rest h w = line_at (λ t. t.terminal ≡ s) line ts rest h w

pub line_spelled : (s : Terminal) (n : List ℕ) (line : ℕ) (ts rest : List Lexeme) → LineOf ts line → spelled s n ts rest → At line ts
line_spelled s n line ts rest h w = line_at (λ t. (t.terminal ≡ s) × (t.text ≡ n)) line ts rest h w

pub line_root : (r : Root ℕ) (line : ℕ) (ts rest : List Lexeme) → LineOf ts line → root r ts rest → At line ts
line_root (roots.Name l n) line ts rest h (a, w) = line_spelled x.Word n line ts rest h w
line_root (roots.This l) line ts rest h (a, w) = line_sign x.This line ts rest h w
line_root (roots.Super l) line ts rest h (a, w) = line_sign x.Super line ts rest h w

pub line_noted : (line note : ℕ) (ts : List Lexeme) → LineOf ts line → At note ts → At line ts
line_noted line note [] h a = absurd a
line_noted line note (t ∷ ts) h a = h

pub lexeme_shorter : (P : Lexeme → Type 0) (ts rest : List Lexeme) → lexeme P ts rest → length ts ≡ suc (length rest)
lexeme_shorter P ts rest (t, is, w) = ap length w

pub sign-shorter : (s : Terminal) (ts rest : List Lexeme) → sign s ts rest → length ts ≡ suc (length rest)
sign-shorter s ts rest h = lexeme_shorter (λ t. t.terminal ≡ s) ts rest h

pub spelled-shorter : (s : Terminal) (n : List ℕ) (ts rest : List Lexeme) → spelled s n ts rest → length ts ≡ suc (length rest)
spelled-shorter s n ts rest h = lexeme_shorter (λ t. (t.terminal ≡ s) × (t.text ≡ n)) ts rest h

-- ---- exits

pub fails_after : (w w' : State → State) (g : State → State) (ts m : List Lexeme) (s : Stop) → ((k : State) → machine (w k) ts ≡ machine (w' (g k)) m) → Fails w' m s → Fails w ts s
fails_after w w' g ts m (Left n) p f = λ k. p k ∙ f (g k)
fails_after w w' g ts m NoMemory p f = tt

pub select_fails_after : (w : State → State) (f : Follow) (g : State → State) (ts m : List Lexeme) (s : Stop) → ((k : State) → machine (w k) ts ≡ machine (selecting f ∷ g k) m) → SelectFails m s → Fails w ts s
select_fails_after w f g ts m s p h = fails_after w (for_selectors f) g ts m s p (h f)

-- ---- operands without parts

pub seen : (l : ℕ) (v w : Expression ℕ) (wanted later : State → State) (ts rest : List Lexeme) → v ≡ w → Parses (expression w l) wanted later ts rest → Parses (expression v l) wanted later ts rest
seen l v w wanted later ts rest e r = rw e r

pub reads-int : (line : ℕ) (n : List ℕ) (old rest : List Lexeme) → LineOf old line → next_terminal old ≡ Some x.Int → TextTaken n old rest → Parses (expression (expr.Int line n) 7) for_operand same old rest
reads-int line n old rest at h t =
    let w = taken x.Int n old rest h t in
    record { spelled = (line_spelled x.Int n line old rest at w, w); passes = λ k. on-sign (operand ∷ k) x.Int old rest (signed x.Int n old rest w); shorter = omega (arith, spelled-shorter x.Int n old rest w) }

pub reads-time : (line : ℕ) (n : List ℕ) (old rest : List Lexeme) → LineOf old line → next_terminal old ≡ Some x.Duration → TextTaken n old rest → Parses (expression (expr.Time line n) 7) for_operand same old rest
reads-time line n old rest at h t =
    let w = taken x.Duration n old rest h t in
    record { spelled = (line_spelled x.Duration n line old rest at w, w); passes = λ k. on-sign (operand ∷ k) x.Duration old rest (signed x.Duration n old rest w); shorter = omega (arith, spelled-shorter x.Duration n old rest w) }

pub reads-true : (line : ℕ) (old rest : List Lexeme) → LineOf old line → next_terminal old ≡ Some x.True → rest ≡ drop 1 old → Parses (expression (expr.True line) 7) for_operand same old rest
reads-true line old rest at h e =
    let w = sign_at x.True old rest h e in
    record { spelled = (line_sign x.True line old rest at w, w); passes = λ k. on-sign (operand ∷ k) x.True old rest w; shorter = omega (arith, sign-shorter x.True old rest w) }

pub reads-false : (line : ℕ) (old rest : List Lexeme) → LineOf old line → next_terminal old ≡ Some x.False → rest ≡ drop 1 old → Parses (expression (expr.False line) 7) for_operand same old rest
reads-false line old rest at h e =
    let w = sign_at x.False old rest h e in
    record { spelled = (line_sign x.False line old rest at w, w); passes = λ k. on-sign (operand ∷ k) x.False old rest w; shorter = omega (arith, sign-shorter x.False old rest w) }

pub reads-null : (line : ℕ) (old rest : List Lexeme) → LineOf old line → next_terminal old ≡ Some x.Null → rest ≡ drop 1 old → Parses (expression (expr.Null line) 7) for_operand same old rest
reads-null line old rest at h e =
    let w = sign_at x.Null old rest h e in
    record { spelled = (line_sign x.Null line old rest at w, w); passes = λ k. on-sign (operand ∷ k) x.Null old rest w; shorter = omega (arith, sign-shorter x.Null old rest w) }

pub reads-typed : (line : ℕ) (e : Elem) (v : Literal) (old m m' rest : List Lexeme) → LineOf old line → next_terminal old ≡ Some (x.Kind e) → m ≡ drop 1 old → next_terminal m ≡ Some x.Hash → m' ≡ drop 1 m
    → Parses (literal v) for_literal same m' rest → Parses (expression (expr.Typed line e v) 7) for_operand same old rest
reads-typed line e v old m m' rest at h is h' is' r =
    let w = sign_at (x.Kind e) old m h is in
    let w' = sign_at x.Hash m m' h' is' in
    record {
      spelled = (line_sign (x.Kind e) line old m at w, (m, w, (m', w', r.spelled)));
      passes = λ k. on-sign (operand ∷ k) (x.Kind e) old m w ∙ on-sign (behind_kind e ∷ k) x.Hash m m' w' ∙ r.passes k;
      shorter = omega (arith, sign-shorter (x.Kind e) old m w, sign-shorter x.Hash m m' w', r.shorter);
    }

pub reads-now : (line : ℕ) (e : Elem) (old m rest : List Lexeme) → LineOf old line → next_terminal old ≡ Some (x.Kind e) → m ≡ drop 1 old → e ≡ kind.Time
    → Parses (sign x.Open ⋆ sign x.Close) (λ k. behind_kind e ∷ k) same m rest → Parses (expression (expr.Now line) 7) for_operand same old rest
reads-now line e old m rest at h is is_time r =
    let w = sign_at (x.Kind e) old m h is in
    let w' = subst (λ u. sign (x.Kind u) old m) is_time w in
    record {
      spelled = (line_sign (x.Kind e) line old m at w, (m, w', r.spelled));
      passes = λ k. on-sign (operand ∷ k) (x.Kind e) old m w ∙ r.passes k;
      shorter = omega (arith, sign-shorter (x.Kind e) old m w, r.shorter);
    }

enumerator_by : (o o' : Option Terminal) → is_enumerator_by o o' ≡ true → (o ≡ Some x.Word) × (o' ≡ Some x.Hash)
enumerator_by (Some x.Word) o' h = (refl, hash o' h)
  where
    hash : (o' : Option Terminal) → is_hash o' ≡ true → o' ≡ Some x.Hash
    hash (Some x.Hash) h = refl
    hash _ h = absurd (clash h)
enumerator_by _ o' h = absurd (clash h)

pub enumerator_word : (ts : List Lexeme) → is_enumerator ts ≡ true → next_terminal ts ≡ Some x.Word
enumerator_word ts h = (enumerator_by (next_terminal ts) (next_terminal (drop 1 ts)) h).0

pub enumerator_hash : (ts : List Lexeme) → is_enumerator ts ≡ true → next_terminal (drop 1 ts) ≡ Some x.Hash
enumerator_hash ts h = (enumerator_by (next_terminal ts) (next_terminal (drop 1 ts)) h).1

drop-lexeme : (P : Lexeme → Type 0) (ts rest : List Lexeme) → lexeme P ts rest → drop 1 ts ≡ rest
drop-lexeme P ts rest (t, is, w) = ap (drop 1) w

pub behind_taken : (n : List ℕ) (ts rest : List Lexeme) → TextTaken n ts rest → drop 1 ts ≡ rest
behind_taken n ts rest h = drop-lexeme (λ t. t.text ≡ n) ts rest h

pub some-next : (s : Terminal) (ts : List Lexeme) → next_terminal ts ≡ Some s → 0 < length ts
some-next s [] h = cc
some-next s (t ∷ ts) h = omega arith

pub reads-enumerator : (line : ℕ) (n : List ℕ) (later : ℕ) (v : List ℕ) (old m m' rest : List Lexeme) → is_enumerator old ≡ true → LineOf old line → TextTaken n old m → m' ≡ drop 1 m → LineOf m' later
    → Parses (word v) for_name same m' rest → Parses (expression (expr.Enumerator line n later v) 7) for_operand same old rest
reads-enumerator line n later v old m m' rest is at t is' at' r =
    let w = taken x.Word n old m (enumerator_word old is) t in
    let w' = sign_at x.Hash m m' (subst (λ u. next_terminal u ≡ Some x.Hash) (behind_taken n old m t) (enumerator_hash old is)) is' in
    record {
      spelled = (line_spelled x.Word n line old m at w, (m, w, (m', w', (line_spelled x.Word v later m' rest at' r.spelled, r.spelled))));
      passes = λ k. on-sign (operand ∷ k) x.Word old m (signed x.Word n old m w) ∙ on-sign (behind_name ∷ k) x.Hash m m' w' ∙ r.passes k;
      shorter = omega (arith, spelled-shorter x.Word n old m w, sign-shorter x.Hash m m' w', r.shorter);
    }

pub passes-enumerator : (n : List ℕ) (old m m' : List Lexeme) → is_enumerator old ≡ true → TextTaken n old m → m' ≡ drop 1 m → Passes for_operand for_name old m'
passes-enumerator n old m m' is t is' k =
    let w = taken x.Word n old m (enumerator_word old is) t in
    let w' = sign_at x.Hash m m' (subst (λ u. next_terminal u ≡ Some x.Hash) (behind_taken n old m t) (enumerator_hash old is)) is' in
    on-sign (operand ∷ k) x.Word old m (signed x.Word n old m w) ∙ on-sign (behind_name ∷ k) x.Hash m m' w'

-- ---- operands with parts

pub reads-minus : (line : ℕ) (e : Expression ℕ) (old m rest : List Lexeme) → LineOf old line → next_terminal old ≡ Some x.Minus → m ≡ drop 1 old → Parses (expression e 7) for_operand same m rest
    → Parses (expression (expr.Negate line e) 7) for_operand same old rest
reads-minus line e old m rest at h is r =
    let w = sign_at x.Minus old m h is in
    record { spelled = (line_sign x.Minus line old m at w, (m, w, r.spelled)); passes = λ k. on-sign (operand ∷ k) x.Minus old m w ∙ r.passes k; shorter = omega (arith, r.shorter, sign-shorter x.Minus old m w) }

pub reads-complement : (line : ℕ) (e : Expression ℕ) (old m rest : List Lexeme) → LineOf old line → next_terminal old ≡ Some x.Not → m ≡ drop 1 old → Parses (expression e 7) for_operand same m rest
    → Parses (expression (expr.Not line e) 7) for_operand same old rest
reads-complement line e old m rest at h is r =
    let w = sign_at x.Not old m h is in
    record { spelled = (line_sign x.Not line old m at w, (m, w, r.spelled)); passes = λ k. on-sign (operand ∷ k) x.Not old m w ∙ r.passes k; shorter = omega (arith, r.shorter, sign-shorter x.Not old m w) }

pub no_operator : (ts : List Lexeme) → Looser 0 ts → NoOperator ts
no_operator [] h = tt
no_operator (t ∷ ts) h = at (operator_of t.terminal) h
  where
    at : (o : Option Operator) → ((p : Operator) → o ≡ Some p → level p < 0) → o ≡ None
    at None h = refl
    at (Some p) h = absurd (let no = h p refl in omega arith)

-- up to the end of an expression
passes-whole : (g : State → State) (e : Expression ℕ) (ts rest : List Lexeme) (k : State) → Parses (expression e 0) for_expr for_tails ts rest → Looser 0 rest → machine (operand ∷ more_tails ∷ g k) ts ≡ machine (g k) rest
passes-whole g e ts rest k r h = r.passes (g k) ∙ machine-more_tails (g k) rest (no_operator rest h)

pub passes-paren : (e : Expression ℕ) (old m m' : List Lexeme) → next_terminal old ≡ Some x.Open → m ≡ drop 1 old → Parses (expression e 0) for_expr for_tails m m' → Looser 0 m' → Passes for_operand for_close old m'
passes-paren e old m m' h is r loose k = on-sign (operand ∷ k) x.Open old m (sign_at x.Open old m h is) ∙ passes-whole for_close e m m' k r loose

pub reads-paren : (line : ℕ) (e : Expression ℕ) (old m m' rest : List Lexeme) → LineOf old line → next_terminal old ≡ Some x.Open → m ≡ drop 1 old → Parses (expression e 0) for_expr for_tails m m' → Looser 0 m'
    → Parses (sign x.Close) for_close same m' rest → Parses (expression (expr.Paren line e) 7) for_operand same old rest
reads-paren line e old m m' rest at h is r loose c =
    let w = sign_at x.Open old m h is in
    record {
      spelled = (line_sign x.Open line old m at w, (m, w, (m', r.spelled, c.spelled)));
      passes = λ k. passes-paren e old m m' h is r loose k ∙ c.passes k;
      shorter = omega (arith, r.shorter, c.shorter, sign-shorter x.Open old m w);
    }

-- ---- places and calls

word-then : (n : List ℕ) (ts m : List Lexeme) → word n ts m → is_enumerator ts ≡ false → NotNext x.Hash m
word-then n ts [] h not = tt
word-then n ts (u ∷ us) (t, is, w) not = λ hash.
    let bad : is_enumerator_by (Some t.terminal) (Some u.terminal) ≡ false = rw w at not in
    let worse : true ≡ false = rw (is.0, hash) at bad in
    cc

pub passes-place_root : (r : Root ℕ) (old m : List Lexeme) → is_enumerator old ≡ false → Parses (root r) for_root same old m → Passes for_operand (for_selectors calls) old m
passes-place_root r old m not reads k = at r reads.spelled
  where
    at : (r : Root ℕ) → root r old m → machine (operand ∷ k) old ≡ machine (selecting calls ∷ k) m
    at (roots.Name line n) (a, h) = on-sign (operand ∷ k) x.Word old m (signed x.Word n old m h) ∙ machine-behind_name k m (word-then n old m h not)
    at (roots.This line) (a, h) = on-sign (operand ∷ k) x.This old m h
    at (roots.Super line) (a, h) = on-sign (operand ∷ k) x.Super old m h

passes-selected : (r : Root ℕ) (s : Selectors ℕ) (old m m' : List Lexeme) → is_enumerator old ≡ false → Parses (root r) for_root same old m → Selects (selectors s) m m' → Passes for_operand (for_selectors calls) old m'
passes-selected r s old m m' not rr rs k = passes-place_root r old m not rr k ∙ (rs calls).passes k

pub passes-called : (r : Root ℕ) (s : Selectors ℕ) (old m m' m'' : List Lexeme) → is_enumerator old ≡ false → Parses (root r) for_root same old m → Selects (selectors s) m m' → sign x.Open m' m'' → Passes for_operand for_arguments old m''
passes-called r s old m m' m'' not rr rs o k = passes-selected r s old m m' not rr rs k ∙ on-sign (selecting calls ∷ k) x.Open m' m'' o

pub reads-call : (line : ℕ) (r : Root ℕ) (s : Selectors ℕ) (xs : Arguments ℕ) (old m m' m'' rest : List Lexeme) → LineOf old line → is_enumerator old ≡ false → Parses (root r) for_root same old m
    → Selects (selectors s) m m' → sign x.Open m' m'' → Parses (arguments xs ⋆ sign x.Close) for_arguments same m'' rest → Parses (expression (expr.Call line r s xs) 7) for_operand same old rest
reads-call line r s xs old m m' m'' rest at not rr rs o ra = record {
  spelled = (line_root r line old m at rr.spelled, (m, rr.spelled, (m', (rs calls).spelled, (m'', o, ra.spelled))));
  passes = λ k. passes-called r s old m m' m'' not rr rs o k ∙ ra.passes k;
  shorter = omega (arith, rr.shorter, (rs calls).shorter, ra.shorter, sign-shorter x.Open m' m'' o);
}

pub reads-place : (line : ℕ) (r : Root ℕ) (s : Selectors ℕ) (old m rest : List Lexeme) → LineOf old line → is_enumerator old ≡ false → Parses (root r) for_root same old m
    → Selects (selectors s) m rest → NoSelector rest → NotNext x.Open rest → Parses (expression (expr.Place line r s) 7) for_operand same old rest
reads-place line r s old m rest at not rr rs ends no_call = record {
  spelled = (line_root r line old m at rr.spelled, (m, rr.spelled, (rs calls).spelled));
  passes = λ k. passes-selected r s old m rest not rr rs k ∙ machine-calls k rest ends no_call;
  shorter = omega (arith, rr.shorter, (rs calls).shorter);
}

pub machine-done : (ts : List Lexeme) → machine [] ts ≡ (true, length ts)
machine-done [] = refl
machine-done (t ∷ ts) = refl

pub fails-place_root : (old : List Lexeme) (s : Stop) → is_root (next_terminal old) ≡ true → Fails for_root old s → Fails for_operand old s
fails-place_root old NoMemory h f = tt
fails-place_root [] (Left n) h f = cc
fails-place_root (t ∷ ts) (Left n) h f = absurd (at t.terminal h (f []))
  where
    at : (u : Terminal) → is_root (Some u) ≡ true → go_on (on_root u []) (λ k'. machine k' ts) (false, suc (length ts)) ≡ (false, n) → ⊥
    at x.Word h e = let bad : true ≡ false = ap (λ q. q.0) (sym (machine-done ts) ∙ e) in cc
    at x.This h e = let bad : true ≡ false = ap (λ q. q.0) (sym (machine-done ts) ∙ e) in cc
    at x.Super h e = let bad : true ≡ false = ap (λ q. q.0) (sym (machine-done ts) ∙ e) in cc
    at _ h e = clash h

abbrev pub behind_open : State → State
behind_open k = root_next ∷ selecting reference_end ∷ k

pub passes-ref : (old m : List Lexeme) → next_terminal old ≡ Some x.Ref → m ≡ drop 1 old → Passes for_operand for_reference old m
passes-ref old m h is k = on-sign (operand ∷ k) x.Ref old m (sign_at x.Ref old m h is)

pub passes-opened : (old m m' : List Lexeme) → next_terminal old ≡ Some x.Ref → m ≡ drop 1 old → Parses (sign x.Open) for_reference behind_open m m' → Passes for_operand behind_open old m'
passes-opened old m m' h is ro k = passes-ref old m h is k ∙ ro.passes k

pub passes-referred : (r : Root ℕ) (old m m' m'' : List Lexeme) → next_terminal old ≡ Some x.Ref → m ≡ drop 1 old → Parses (sign x.Open) for_reference behind_open m m' → Parses (root r) for_root same m' m''
    → Passes for_operand (for_selectors reference_end) old m''
passes-referred r old m m' m'' h is ro rr k = passes-opened old m m' h is ro k ∙ rr.passes (selecting reference_end ∷ k)

pub passes-ref_end : (r : Root ℕ) (s : Selectors ℕ) (old m m' m'' m3 : List Lexeme) → next_terminal old ≡ Some x.Ref → m ≡ drop 1 old → Parses (sign x.Open) for_reference behind_open m m' → Parses (root r) for_root same m' m''
    → Selects (selectors s) m'' m3 → NoSelector m3 → Passes for_operand for_close old m3
passes-ref_end r s old m m' m'' m3 h is ro rr rs ends k = passes-referred r old m m' m'' h is ro rr k ∙ (rs reference_end).passes k ∙ machine-referred k m3 ends

pub reads-ref : (line : ℕ) (r : Root ℕ) (s : Selectors ℕ) (old m m' m'' m3 rest : List Lexeme) → LineOf old line → next_terminal old ≡ Some x.Ref → m ≡ drop 1 old → Parses (sign x.Open) for_reference behind_open m m'
    → Parses (root r) for_root same m' m'' → Selects (selectors s) m'' m3 → NoSelector m3 → Parses (sign x.Close) for_close same m3 rest → Parses (expression (expr.Ref line r s) 7) for_operand same old rest
reads-ref line r s old m m' m'' m3 rest at h is ro rr rs ends rc =
    let w = sign_at x.Ref old m h is in
    record {
      spelled = (line_sign x.Ref line old m at w, (m, w, (m', ro.spelled, (m'', rr.spelled, (m3, (rs calls).spelled, rc.spelled)))));
      passes = λ k. passes-ref_end r s old m m' m'' m3 h is ro rr rs ends k ∙ rc.passes k;
      shorter = omega (arith, sign-shorter x.Ref old m w, ro.shorter, rr.shorter, (rs calls).shorter, rc.shorter);
    }

-- ---- selectors

pub selected : (v w : Selector ℕ) (ts rest : List Lexeme) → v ≡ w → Selects (selector w) ts rest → Selects (selector v) ts rest
selected v w ts rest e r = rw e r

pub passes-dot : (old m : List Lexeme) (f : Follow) (k : State) → next_terminal old ≡ Some x.Dot → m ≡ drop 1 old → machine (selecting f ∷ k) old ≡ machine (for_name (selecting f ∷ k)) m
passes-dot old m f k h is = on-sign (selecting f ∷ k) x.Dot old m (sign_at x.Dot old m h is)

pub reads-field : (line : ℕ) (n : List ℕ) (old m rest : List Lexeme) → next_terminal old ≡ Some x.Dot → m ≡ drop 1 old → LineOf m line → Parses (word n) for_name same m rest → Selects (selector (expr.Field line n)) old rest
reads-field line n old m rest h is at r f =
    let w = sign_at x.Dot old m h is in
    record { spelled = (m, w, (line_spelled x.Word n line m rest at r.spelled, r.spelled)); passes = λ k. passes-dot old m f k h is ∙ r.passes (selecting f ∷ k); shorter = omega (arith, r.shorter, sign-shorter x.Dot old m w) }

pub passes-bracket : (old m : List Lexeme) (f : Follow) (k : State) → next_terminal old ≡ Some x.OpenBracket → m ≡ drop 1 old → machine (selecting f ∷ k) old ≡ machine (for_indices (selecting f ∷ k)) m
passes-bracket old m f k h is = on-sign (selecting f ∷ k) x.OpenBracket old m (sign_at x.OpenBracket old m h is)

pub reads-index : (line : ℕ) (es : Expressions ℕ) (old m rest : List Lexeme) → LineOf old line → next_terminal old ≡ Some x.OpenBracket → m ≡ drop 1 old
    → Parses (first_expression es ⋆ sign x.CloseBracket) for_indices same m rest → Selects (selector (expr.Index line es)) old rest
reads-index line es old m rest at h is r f =
    let w = sign_at x.OpenBracket old m h is in
    record { spelled = (line_sign x.OpenBracket line old m at w, (m, w, r.spelled)); passes = λ k. passes-bracket old m f k h is ∙ r.passes (selecting f ∷ k); shorter = omega (arith, r.shorter, sign-shorter x.OpenBracket old m w) }

pub reads-target : (line : ℕ) (old rest : List Lexeme) → LineOf old line → next_terminal old ≡ Some x.Caret → rest ≡ drop 1 old → Selects (selector (expr.Target line)) old rest
reads-target line old rest at h is f =
    let w = sign_at x.Caret old rest h is in
    record { spelled = (line_sign x.Caret line old rest at w, w); passes = λ k. on-sign (selecting f ∷ k) x.Caret old rest w; shorter = omega (arith, sign-shorter x.Caret old rest w) }

abbrev pub selectors_onto : List (CodeSelector ℕ) → Selectors ℕ → Selectors ℕ
selectors_onto [] s = s
selectors_onto (i ∷ is) s = selector_then (selector_of i) (selectors_onto is s)

selectors_onto-push : (is : List (CodeSelector ℕ)) (i : CodeSelector ℕ) (s : Selectors ℕ) → selectors_onto (is ++ i ∷ []) s ≡ selectors_onto is (selector_then (selector_of i) s)
selectors_onto-push [] i s = refl
selectors_onto-push (j ∷ is) i s = ap (selector_then (selector_of j)) (selectors_onto-push is i s)

selectors_onto-none : (is : List (CodeSelector ℕ)) → selectors_onto is no_selectors ≡ selectors_of is
selectors_onto-none [] = refl
selectors_onto-none (j ∷ is) = ap (selector_then (selector_of j)) (selectors_onto-none is)

-- what has been read, whatever follows
pub record SelectorsSoFar (found : List (CodeSelector ℕ)) (ts now' : List Lexeme) : Type 0 where
  pub spelled : (s : Selectors ℕ) (rest : List Lexeme) → selectors s now' rest → selectors (selectors_onto found s) ts rest
  pub passes : (f : Follow) → Passes (for_selectors f) (for_selectors f) ts now'
  pub shorter : length now' ≤ length ts

pub selectors-start : (ts : List Lexeme) → SelectorsSoFar [] ts ts
selectors-start ts = record { spelled = λ s rest h. h; passes = λ f k. refl; shorter = omega arith }

pub selectors-pushed : (found : List (CodeSelector ℕ)) (i : CodeSelector ℕ) (ts m now' : List Lexeme) → SelectorsSoFar found ts m → Selects (selector (selector_of i)) m now' → SelectorsSoFar (found ++ i ∷ []) ts now'
selectors-pushed found i ts m now' so r = record {
  spelled = λ s rest h. rw selectors_onto-push (so.spelled (selector_then (selector_of i) s) rest (now', (r calls).spelled, h));
  passes = λ f k. so.passes f k ∙ (r f).passes k;
  shorter = omega (arith, so.shorter, (r calls).shorter);
}

pub selectors-read : (found : List (CodeSelector ℕ)) (ts rest : List Lexeme) → SelectorsSoFar found ts rest → Selects (selectors (selectors_of found)) ts rest
selectors-read found ts rest so f = record { spelled = rw (← selectors_onto-none found) (so.spelled no_selectors rest refl); passes = so.passes f; shorter = so.shorter }

pub selectors-fail : (found : List (CodeSelector ℕ)) (ts m : List Lexeme) (s : Stop) → SelectorsSoFar found ts m → SelectFails m s → SelectFails ts s
selectors-fail found ts m s so h f = fails_after (for_selectors f) (for_selectors f) same ts m s (so.passes f) (h f)

-- ---- lists of indices

abbrev pub expressions_onto : List (Expr ℕ) → Expressions ℕ → Expressions ℕ
expressions_onto [] s = s
expressions_onto (e ∷ es) s = expression_then (expression_of e) (expressions_onto es s)

expressions_onto-push : (es : List (Expr ℕ)) (e : Expr ℕ) (s : Expressions ℕ) → expressions_onto (es ++ e ∷ []) s ≡ expressions_onto es (expression_then (expression_of e) s)
expressions_onto-push [] e s = refl
expressions_onto-push (u ∷ es) e s = ap (expression_then (expression_of u)) (expressions_onto-push es e s)

expressions_onto-none : (es : List (Expr ℕ)) → expressions_onto es no_expressions ≡ expressions_of es
expressions_onto-none [] = refl
expressions_onto-none (u ∷ es) = ap (expression_then (expression_of u)) (expressions_onto-none es)

pub record IndicesSoFar (found : List (Expr ℕ)) (ts now' : List Lexeme) : Type 0 where
  pub spelled : (es : Expressions ℕ) (rest : List Lexeme) → more_expressions es now' rest → first_expression (expressions_onto found es) ts rest
  pub passes : Passes for_indices for_more_indices ts now'
  pub shorter : length now' ≤ length ts

pub indices-first : (e : Expr ℕ) (ts m : List Lexeme) → Parses (expression (expression_of e) 0) for_expr for_tails ts m → Looser 0 m → IndicesSoFar (e ∷ []) ts m
indices-first e ts m r h = record { spelled = λ es rest more. (m, r.spelled, more); passes = λ k. passes-whole for_more_indices (expression_of e) ts m k r h; shorter = r.shorter }

pub indices-next : (found : List (Expr ℕ)) (ts m m' : List Lexeme) → IndicesSoFar found ts m → sign x.Comma m m' → Passes for_indices for_indices ts m'
indices-next found ts m m' so comma k = so.passes k ∙ on-sign (comma_or_bracket ∷ k) x.Comma m m' comma

pub indices-pushed : (found : List (Expr ℕ)) (e : Expr ℕ) (ts m m' now' : List Lexeme) → IndicesSoFar found ts m → sign x.Comma m m'
    → Parses (expression (expression_of e) 0) for_expr for_tails m' now' → Looser 0 now' → IndicesSoFar (found ++ e ∷ []) ts now'
indices-pushed found e ts m m' now' so comma r h = record {
  spelled = λ es rest more. rw expressions_onto-push (so.spelled (expression_then (expression_of e) es) rest (m', comma, (now', r.spelled, more)));
  passes = λ k. indices-next found ts m m' so comma k ∙ passes-whole for_more_indices (expression_of e) m' now' k r h;
  shorter = omega (arith, so.shorter, r.shorter, sign-shorter x.Comma m m' comma);
}

pub indices-read : (found : List (Expr ℕ)) (ts m rest : List Lexeme) → IndicesSoFar found ts m → sign x.CloseBracket m rest → Parses (first_expression (expressions_of found) ⋆ sign x.CloseBracket) for_indices same ts rest
indices-read found ts m rest so end = record {
  spelled = (m, rw (← expressions_onto-none found) (so.spelled no_expressions m refl), end);
  passes = λ k. so.passes k ∙ on-sign (comma_or_bracket ∷ k) x.CloseBracket m rest end;
  shorter = omega (arith, so.shorter, sign-shorter x.CloseBracket m rest end);
}

-- ---- arguments

abbrev pub arguments_onto : List (CodeArgument ℕ) → Arguments ℕ → Arguments ℕ
arguments_onto [] s = s
arguments_onto (a ∷ as') s = argument_then (argument_of a) (arguments_onto as' s)

arguments_onto-push : (as' : List (CodeArgument ℕ)) (a : CodeArgument ℕ) (s : Arguments ℕ) → arguments_onto (as' ++ a ∷ []) s ≡ arguments_onto as' (argument_then (argument_of a) s)
arguments_onto-push [] a s = refl
arguments_onto-push (u ∷ as') a s = ap (argument_then (argument_of u)) (arguments_onto-push as' a s)

arguments_onto-none : (as' : List (CodeArgument ℕ)) → arguments_onto as' no_arguments ≡ arguments_of as'
arguments_onto-none [] = refl
arguments_onto-none (u ∷ as') = ap (argument_then (argument_of u)) (arguments_onto-none as')

pub record ArgumentsSoFar (found : List (CodeArgument ℕ)) (ts now' : List Lexeme) : Type 0 where
  pub spelled : (xs : Arguments ℕ) (rest : List Lexeme) → more_arguments xs now' rest → arguments (arguments_onto found xs) ts rest
  pub passes : Passes for_arguments for_more ts now'
  pub shorter : length now' ≤ length ts

pub reads-no_arguments : (old rest : List Lexeme) → sign x.Close old rest → Parses (arguments no_arguments ⋆ sign x.Close) for_arguments same old rest
reads-no_arguments old rest c = record { spelled = (old, refl, c); passes = λ k. on-sign (first_argument ∷ k) x.Close old rest c; shorter = omega (arith, sign-shorter x.Close old rest c) }

pub passes-first : (old : List Lexeme) → NotNext x.Close old → Passes for_arguments for_argument old old
passes-first old h k = machine-first_argument k old h

pub arguments-first : (a : CodeArgument ℕ) (ts m : List Lexeme) → NotNext x.Close ts → Parses (argument (argument_of a)) for_argument for_more ts m → ArgumentsSoFar (a ∷ []) ts m
arguments-first a ts m not r = record { spelled = λ xs rest more. (m, r.spelled, more); passes = λ k. passes-first ts not k ∙ r.passes k; shorter = r.shorter }

pub arguments-next : (found : List (CodeArgument ℕ)) (ts m m' : List Lexeme) → ArgumentsSoFar found ts m → sign x.Comma m m' → Passes for_arguments for_argument ts m'
arguments-next found ts m m' so comma k = so.passes k ∙ on-sign (comma_or_close ∷ k) x.Comma m m' comma

pub arguments-pushed : (found : List (CodeArgument ℕ)) (a : CodeArgument ℕ) (ts m m' now' : List Lexeme) → ArgumentsSoFar found ts m → sign x.Comma m m'
    → Parses (argument (argument_of a)) for_argument for_more m' now' → ArgumentsSoFar (found ++ a ∷ []) ts now'
arguments-pushed found a ts m m' now' so comma r = record {
  spelled = λ xs rest more. rw arguments_onto-push (so.spelled (argument_then (argument_of a) xs) rest (m', comma, (now', r.spelled, more)));
  passes = λ k. arguments-next found ts m m' so comma k ∙ r.passes k;
  shorter = omega (arith, so.shorter, r.shorter, sign-shorter x.Comma m m' comma);
}

pub arguments-read : (found : List (CodeArgument ℕ)) (ts m rest : List Lexeme) → ArgumentsSoFar found ts m → sign x.Close m rest → Parses (arguments (arguments_of found) ⋆ sign x.Close) for_arguments same ts rest
arguments-read found ts m rest so end = record {
  spelled = (m, rw (← arguments_onto-none found) (so.spelled no_arguments m refl), end);
  passes = λ k. so.passes k ∙ on-sign (comma_or_close ∷ k) x.Close m rest end;
  shorter = omega (arith, so.shorter, sign-shorter x.Close m rest end);
}

-- ---- one argument

abbrev is_input : Naming → Bool
is_input naming.Input = true
is_input _ = false

abbrev is_output : Naming → Bool
is_output naming.Output = true
is_output _ = false

naming-input : (o o' : Option Terminal) → naming_by o o' ≡ naming.Input → (o ≡ Some x.Word) × (o' ≡ Some x.Assign)
naming-input (Some x.Word) o' h = (refl, behind o' h)
  where
    behind : (o' : Option Terminal) → naming_behind o' ≡ naming.Input → o' ≡ Some x.Assign
    behind (Some x.Assign) h = refl
    behind _ h = absurd (clash (ap is_input h))
naming-input _ o' h = absurd (clash (ap is_input h))

naming-output : (o o' : Option Terminal) → naming_by o o' ≡ naming.Output → (o ≡ Some x.Word) × (o' ≡ Some x.Sends)
naming-output (Some x.Word) o' h = (refl, behind o' h)
  where
    behind : (o' : Option Terminal) → naming_behind o' ≡ naming.Output → o' ≡ Some x.Sends
    behind (Some x.Sends) h = refl
    behind _ h = absurd (clash (ap is_output h))
naming-output _ o' h = absurd (clash (ap is_output h))

pub input_word : (ts : List Lexeme) → naming_of ts ≡ naming.Input → next_terminal ts ≡ Some x.Word
input_word ts h = (naming-input (next_terminal ts) (next_terminal (drop 1 ts)) h).0

pub input_assign : (ts : List Lexeme) → naming_of ts ≡ naming.Input → next_terminal (drop 1 ts) ≡ Some x.Assign
input_assign ts h = (naming-input (next_terminal ts) (next_terminal (drop 1 ts)) h).1

pub output_word : (ts : List Lexeme) → naming_of ts ≡ naming.Output → next_terminal ts ≡ Some x.Word
output_word ts h = (naming-output (next_terminal ts) (next_terminal (drop 1 ts)) h).0

pub output_sends : (ts : List Lexeme) → naming_of ts ≡ naming.Output → next_terminal (drop 1 ts) ≡ Some x.Sends
output_sends ts h = (naming-output (next_terminal ts) (next_terminal (drop 1 ts)) h).1

pub positional_next : (ts : List Lexeme) → naming_of ts ≡ naming.Positional → Positional ts
positional_next [] h = tt
positional_next (t ∷ ts) h = λ is. at ts (subst (λ u. naming_by (Some u) (next_terminal ts) ≡ naming.Positional) is h)
  where
    no_naming : (u : Terminal) → naming_behind (Some u) ≡ naming.Positional → IsNoNaming u
    no_naming x.Assign h = cc
    no_naming x.Sends h = cc
    no_naming _ h = tt

    at : (ts : List Lexeme) → naming_behind (next_terminal ts) ≡ naming.Positional → NoNaming ts
    at [] h = tt
    at (u ∷ us) h = no_naming u.terminal h

pub passes-positional : (old : List Lexeme) → naming_of old ≡ naming.Positional → (k : State) → machine (argument_next ∷ k) old ≡ machine (for_expr (comma_or_close ∷ k)) old
passes-positional old h k = machine-argument k old (positional_next old h)

pub reads-positional : (e : Expression ℕ) (a : Argument ℕ) (old rest : List Lexeme) → a ≡ expr.Positional e → naming_of old ≡ naming.Positional → Parses (expression e 0) for_expr for_tails old rest → Looser 0 rest
    → Parses (argument a) for_argument for_more old rest
reads-positional e a old rest is h r loose =
    rw is (record { spelled = r.spelled; passes = λ k. passes-positional old h k ∙ passes-whole for_more e old rest k r loose; shorter = r.shorter })

pub passes-input : (n : List ℕ) (old m m' : List Lexeme) → naming_of old ≡ naming.Input → TextTaken n old m → m' ≡ drop 1 m → (k : State) → machine (argument_next ∷ k) old ≡ machine (for_expr (comma_or_close ∷ k)) m'
passes-input n old m m' h t is k =
    let w = taken x.Word n old m (input_word old h) t in
    let w' = sign_at x.Assign m m' (subst (λ u. next_terminal u ≡ Some x.Assign) (behind_taken n old m t) (input_assign old h)) is in
    on-sign (argument_next ∷ k) x.Word old m (signed x.Word n old m w) ∙ on-sign (behind_argument ∷ k) x.Assign m m' w'

pub reads-input : (line : ℕ) (n : List ℕ) (e : Expression ℕ) (a : Argument ℕ) (old m m' rest : List Lexeme) → a ≡ expr.Input line n e → LineOf old line → naming_of old ≡ naming.Input → TextTaken n old m → m' ≡ drop 1 m
    → Parses (expression e 0) for_expr for_tails m' rest → Looser 0 rest → Parses (argument a) for_argument for_more old rest
reads-input line n e a old m m' rest is at h t is' r loose =
    let w = taken x.Word n old m (input_word old h) t in
    let w' = sign_at x.Assign m m' (subst (λ u. next_terminal u ≡ Some x.Assign) (behind_taken n old m t) (input_assign old h)) is' in
    rw is (record {
      spelled = (m, (line_spelled x.Word n line old m at w, w), (m', w', r.spelled));
      passes = λ k. passes-input n old m m' h t is' k ∙ passes-whole for_more e m' rest k r loose;
      shorter = omega (arith, spelled-shorter x.Word n old m w, sign-shorter x.Assign m m' w', r.shorter);
    })

pub passes-output : (n : List ℕ) (old m m' : List Lexeme) → naming_of old ≡ naming.Output → TextTaken n old m → m' ≡ drop 1 m → (k : State) → machine (argument_next ∷ k) old ≡ machine (for_root (selecting arguments_end ∷ k)) m'
passes-output n old m m' h t is k =
    let w = taken x.Word n old m (output_word old h) t in
    let w' = sign_at x.Sends m m' (subst (λ u. next_terminal u ≡ Some x.Sends) (behind_taken n old m t) (output_sends old h)) is in
    on-sign (argument_next ∷ k) x.Word old m (signed x.Word n old m w) ∙ on-sign (behind_argument ∷ k) x.Sends m m' w'

pub passes-output_root : (n : List ℕ) (r : Root ℕ) (old m m' m'' : List Lexeme) → naming_of old ≡ naming.Output → TextTaken n old m → m' ≡ drop 1 m → Parses (root r) for_root same m' m''
    → (k : State) → machine (argument_next ∷ k) old ≡ machine (selecting arguments_end ∷ k) m''
passes-output_root n r old m m' m'' h t is rr k = passes-output n old m m' h t is k ∙ rr.passes (selecting arguments_end ∷ k)

pub reads-output : (line : ℕ) (n : List ℕ) (later : ℕ) (r : Root ℕ) (s : Selectors ℕ) (a : Argument ℕ) (old m m' m'' rest : List Lexeme) → a ≡ expr.Output line n later r s → LineOf old line → naming_of old ≡ naming.Output
    → TextTaken n old m → m' ≡ drop 1 m → LineOf m' later → Parses (root r) for_root same m' m'' → Selects (selectors s) m'' rest → NoSelector rest → Parses (argument a) for_argument for_more old rest
reads-output line n later r s a old m m' m'' rest is at h t is' at' rr rs ends =
    let w = taken x.Word n old m (output_word old h) t in
    let w' = sign_at x.Sends m m' (subst (λ u. next_terminal u ≡ Some x.Sends) (behind_taken n old m t) (output_sends old h)) is' in
    rw is (record {
      spelled = (m, (line_spelled x.Word n line old m at w, w), (m', w', (line_root r later m' m'' at' rr.spelled, (m'', rr.spelled, (rs calls).spelled))));
      passes = λ k. passes-output_root n r old m m' m'' h t is' rr k ∙ (rs arguments_end).passes k ∙ machine-sent k rest ends;
      shorter = omega (arith, spelled-shorter x.Word n old m w, sign-shorter x.Sends m m' w', rr.shorter, (rs calls).shorter);
    })
