-- What the functions over initial values have to show.
use Rattle.std.proofs.Common.{◌≡◌, ℕ, suc, ◌<◌, ◌≤◌, true, false, ◌&&◌, List, [], ◌∷◌, ◌++◌, Option, Some, None, length, drop, refl, sym, ◌∙◌, ap, subst, arith}
use borrow.Author.Tests.{clash}
use Rattle.st_tree.specs.declared.terminal.Terminal.{Terminal}
use Rattle.st_tree.specs.declared.terminal.Terminal.TheVariants as x
use Rattle.st_tree.specs.declared.initial.Part.{Part as CodePart}
use Rattle.st_tree.specs.declared.initial.FieldInit.{FieldInit}
use Rattle.st_tree.specs.Expression.{Expression}
use Rattle.st_tree.specs.Initial as init
use Rattle.st_tree.specs.Initial.{Initial, Part, Parts, no_parts, part_then, FieldInits, no_fields, field_then, initial_of, part_of, parts_of, field_of, fields_of, field_of-is}
use Rattle.st_tree.specs.Grammar.{Lexeme, sign, word, expression, initial, first_part, more_parts, part, first_field, more_fields}
use Rattle.st_parser_expr.specs.declared.stop.Stop.{Stop}
use Rattle.st_parser_expr.specs.declared.stop.Stop.TheVariants.{Left, NoMemory}
use Rattle.st_parser_expr.specs.Private.Machine as e
use Rattle.st_parser_expr.specs.Private.Promises.{next_terminal, LineOf, TextTaken}
use Rattle.st_parser_expr.proofs.MachineLaws.{signed}
use Rattle.st_parser_expr.proofs.Rules.{sign_at, taken, behind_taken, sign-shorter, spelled-shorter, line_sign, line_spelled}
use Rattle.st_parser_stmt.specs.Private.Machine.{inside, need, init_next, init_open, init_word, fields_more, part_next, part_int, parts_more, behind_paren, behind_paren_word, behind_int, on_inside, on_init, on_init_open, on_init_word, on_fields, on_part, on_part_int, on_parts, State, advance, accepts, go_on, machine}
use Rattle.st_parser_stmt.specs.Private.Promises.{is_word, is_assign, is_open, fields_by, fields_at, repetition_by, repetition_at, Fails, Parses, same, for_expression, for_word, for_initial, for_field, for_more_fields, for_part, for_parts, Fielded, ReadsSign, SignFails}
use Rattle.st_parser_stmt.proofs.MachineLaws.{on-sign, on-need}

-- ---- a list or an expression

word-value : (K : State) (ts : List Lexeme) → is_assign (next_terminal ts) ≡ false → machine (init_word ∷ K) ts ≡ machine (inside behind_paren_word ∷ K) ts
word-value K [] h = refl
word-value K (t ∷ ts) h = at t.terminal h
  where
    at : (u : Terminal) → is_assign (Some u) ≡ false
        → go_on (on_init_word u K) (λ K'. machine K' ts) (false, suc (length ts)) ≡ go_on (on_inside (e.advance behind_paren_word u) false K (advance K u)) (λ K'. machine K' ts) (false, suc (length ts))
    at x.Assign h = cc
    at _ h = refl

open-value : (K : State) (ts : List Lexeme) → is_word (next_terminal ts) && is_assign (next_terminal (drop 1 ts)) ≡ false → machine (init_open ∷ K) ts ≡ machine (inside behind_paren ∷ K) ts
open-value K [] h = refl
open-value K (t ∷ ts) h = at t.terminal h
  where
    at : (u : Terminal) → is_word (Some u) && is_assign (next_terminal ts) ≡ false
        → go_on (on_init_open u K) (λ K'. machine K' ts) (false, suc (length ts)) ≡ go_on (on_inside (e.advance behind_paren u) false K (advance K u)) (λ K'. machine K' ts) (false, suc (length ts))
    at x.Word h = word-value K ts h
    at _ h = refl

init-value : (K : State) (ts : List Lexeme) → fields_at ts ≡ false → (next_terminal ts ≡ Some x.OpenBracket → ⊥) → machine (init_next ∷ K) ts ≡ machine (inside e.start ∷ K) ts
init-value K [] h free = refl
init-value K (t ∷ ts) h free = at t.terminal h free
  where
    at : (u : Terminal) → fields_by (Some u) (next_terminal ts) (next_terminal (drop 1 ts)) ≡ false → (Some u ≡ Some x.OpenBracket → ⊥)
        → go_on (on_init u K) (λ K'. machine K' ts) (false, suc (length ts)) ≡ go_on (on_inside (e.advance e.start u) false K (advance K u)) (λ K'. machine K' ts) (false, suc (length ts))
    at x.OpenBracket h free = absurd (free refl)
    at x.Open h free = open-value K ts h
    at _ h free = refl

fields-next : (a b c : Option Terminal) → fields_by a b c ≡ true → (a ≡ Some x.Open) × (b ≡ Some x.Word) × (c ≡ Some x.Assign)
fields-next (Some x.Open) b c h = second b c h
  where
    third : (c : Option Terminal) → is_assign c ≡ true → c ≡ Some x.Assign
    third (Some x.Assign) h = refl
    third _ h = absurd (clash h)

    second : (b c : Option Terminal) → is_word b && is_assign c ≡ true → (Some x.Open ≡ Some x.Open) × (b ≡ Some x.Word) × (c ≡ Some x.Assign)
    second (Some x.Word) c h = (refl, refl, third c h)
    second _ c h = absurd (clash h)
fields-next _ b c h = absurd (clash h)

pub fields-open : (ts : List Lexeme) → fields_at ts ≡ true → next_terminal ts ≡ Some x.Open
fields-open ts h = (fields-next (next_terminal ts) (next_terminal (drop 1 ts)) (next_terminal (drop 2 ts)) h).0

-- from the first field on
pub passes-fields : (ts m : List Lexeme) → fields_at ts ≡ true → m ≡ drop 1 ts → (K : State) → machine (init_next ∷ K) ts ≡ machine (for_field K) m
passes-fields [] m h is K = cc
passes-fields (t ∷ []) m h is K = let bad = (fields-next (Some t.terminal) None None h).1 in cc
passes-fields (t ∷ u ∷ []) m h is K = let bad = (fields-next (Some t.terminal) (Some u.terminal) None h).2 in cc
passes-fields (t ∷ u ∷ v ∷ ts) m h is K =
    let all = fields-next (Some t.terminal) (Some u.terminal) (Some v.terminal) h in
    let first : t.terminal ≡ x.Open = let w = all.0 in cc in
    let second : u.terminal ≡ x.Word = let w = all.1 in cc in
    let third : v.terminal ≡ x.Assign = let w = all.2 in cc in
    on-sign (init_next ∷ K) x.Open (t ∷ u ∷ v ∷ ts) (u ∷ v ∷ ts) (t, first, refl) ∙ on-sign (init_open ∷ K) x.Word (u ∷ v ∷ ts) (v ∷ ts) (u, second, refl)
    ∙ on-sign (init_word ∷ K) x.Assign (v ∷ ts) ts (v, third, refl) ∙ sym (on-need (init_next ∷ fields_more ∷ K) x.Assign (refl, tt) (v ∷ ts) ts (v, third, refl))
    ∙ sym (on-need (need x.Assign (refl, tt) ∷ init_next ∷ fields_more ∷ K) x.Word (refl, tt) (u ∷ v ∷ ts) (v ∷ ts) (u, second, refl)) ∙ ap (machine (for_field K)) (sym is)

pub fields-some : (ts : List Lexeme) → fields_at ts ≡ true → 0 < length ts
fields-some [] h = cc
fields-some (t ∷ ts) h = omega arith

pub int-value : (K : State) (ts : List Lexeme) → is_open (next_terminal ts) ≡ false → machine (part_int ∷ K) ts ≡ machine (inside behind_int ∷ K) ts
int-value K [] h = refl
int-value K (t ∷ ts) h = at t.terminal h
  where
    at : (u : Terminal) → is_open (Some u) ≡ false
        → go_on (on_part_int u K (advance K u)) (λ K'. machine K' ts) (accepts K, suc (length ts)) ≡ go_on (on_inside (e.advance behind_int u) true K (advance K u)) (λ K'. machine K' ts) (accepts K, suc (length ts))
    at x.Open h = cc
    at _ h = refl

part-value : (K : State) (ts : List Lexeme) → repetition_at ts ≡ false → machine (part_next ∷ K) ts ≡ machine (init_next ∷ K) ts
part-value K [] h = refl
part-value K (t ∷ ts) h = at t.terminal h
  where
    at : (u : Terminal) → repetition_by (Some u) (next_terminal ts) ≡ false
        → go_on (on_part u K) (λ K'. machine K' ts) (false, suc (length ts)) ≡ go_on (on_init u K) (λ K'. machine K' ts) (false, suc (length ts))
    at x.Int h = int-value K ts h
    at _ h = refl

repetition-next : (a b : Option Terminal) → repetition_by a b ≡ true → (a ≡ Some x.Int) × (b ≡ Some x.Open)
repetition-next (Some x.Int) b h = (refl, second b h)
  where
    second : (b : Option Terminal) → is_open b ≡ true → b ≡ Some x.Open
    second (Some x.Open) h = refl
    second _ h = absurd (clash h)
repetition-next _ b h = absurd (clash h)

pub repetition-int : (ts : List Lexeme) → repetition_at ts ≡ true → next_terminal ts ≡ Some x.Int
repetition-int ts h = (repetition-next (next_terminal ts) (next_terminal (drop 1 ts)) h).0

pub repetition-open : (n : List ℕ) (ts m : List Lexeme) → repetition_at ts ≡ true → TextTaken n ts m → next_terminal m ≡ Some x.Open
repetition-open n ts m h t = subst (λ u. next_terminal u ≡ Some x.Open) (behind_taken n ts m t) (repetition-next (next_terminal ts) (next_terminal (drop 1 ts)) h).1

-- ---- exits

after : (w w' : State → State) (ts m : List Lexeme) (stop : Stop) → ((K : State) → machine (w K) ts ≡ machine (w' K) m) → Fails w' m stop → Fails w ts stop
after w w' ts m (Left n) p h = λ K. p K ∙ h K
after w w' ts m NoMemory p h = tt

under : (w g : State → State) (ts : List Lexeme) (stop : Stop) → Fails w ts stop → Fails (λ K. w (g K)) ts stop
under w g ts (Left n) h = λ K. h (g K)
under w g ts NoMemory h = tt

pub valued : (i v : Initial ℕ) (ts rest : List Lexeme) → i ≡ v → Parses (initial v) for_initial same ts rest → Parses (initial i) for_initial same ts rest
valued i v ts rest q h = subst (λ u. Parses (initial u) for_initial same ts rest) (sym q) h

pub reads-value : (v : Expression ℕ) (ts rest : List Lexeme) → fields_at ts ≡ false → (next_terminal ts ≡ Some x.OpenBracket → ⊥) → Parses (expression v 0) for_expression same ts rest → Parses (initial (init.Value v)) for_initial same ts rest
reads-value v ts rest h free r = record { spelled = r.spelled; passes = λ K. init-value K ts h free ∙ r.passes K; shorter = r.shorter }

pub value-fails : (ts : List Lexeme) (stop : Stop) → fields_at ts ≡ false → (next_terminal ts ≡ Some x.OpenBracket → ⊥) → Fails for_expression ts stop → Fails for_initial ts stop
value-fails ts stop h free z = after for_initial for_expression ts ts stop (λ K. init-value K ts h free) z

-- ---- lists of fields

abbrev fields_onto : List (FieldInit ℕ) → FieldInits ℕ → FieldInits ℕ
fields_onto [] fs = fs
fields_onto (f ∷ found) fs = field_then (field_of f).0 (field_of f).1 (field_of f).2 (fields_onto found fs)

fields_onto-push : (found : List (FieldInit ℕ)) (f : FieldInit ℕ) (fs : FieldInits ℕ) → fields_onto (found ++ f ∷ []) fs ≡ fields_onto found (field_then (field_of f).0 (field_of f).1 (field_of f).2 fs)
fields_onto-push [] f fs = refl
fields_onto-push (g ∷ found) f fs = ap (field_then (field_of g).0 (field_of g).1 (field_of g).2) (fields_onto-push found f fs)

fields_onto-none : (found : List (FieldInit ℕ)) → fields_onto found no_fields ≡ fields_of found
fields_onto-none [] = refl
fields_onto-none (g ∷ found) = ap (field_then (field_of g).0 (field_of g).1 (field_of g).2) (fields_onto-none found)

-- where a field comes next
pub record FieldsSoFar (found : List (FieldInit ℕ)) (old now : List Lexeme) : Type 0 where
  pub spelled : (fs : FieldInits ℕ) (rest : List Lexeme) → first_field fs now rest → first_field (fields_onto found fs) old rest
  pub passes : (K : State) → machine (for_field K) old ≡ machine (for_field K) now
  pub shorter : length now ≤ length old

pub fields-first : (old : List Lexeme) → FieldsSoFar [] old old
fields-first old = record { spelled = λ fs rest h. h; passes = λ K. refl; shorter = omega arith }

abbrev pub IsField : FieldInit ℕ → List Lexeme → List Lexeme → Type 0
IsField f now next = Parses (Fielded f.note f.name (initial_of f.value)) for_field for_more_fields now next

field-spelled : (f : FieldInit ℕ) (now next : List Lexeme) → IsField f now next → (fs : FieldInits ℕ) (rest : List Lexeme) → more_fields fs next rest → first_field (field_then (field_of f).0 (field_of f).1 (field_of f).2 fs) now rest
field-spelled f now next h fs rest more =
    subst (λ p. first_field (field_then p.0 p.1 p.2 fs) now rest) (sym (field_of-is f)) (h.spelled.0, h.spelled.1, (h.spelled.2.0, h.spelled.2.1, (next, h.spelled.2.2, more)))

comma-field : (fs : FieldInits ℕ) (ts m rest : List Lexeme) → sign x.Comma ts m → first_field fs m rest → more_fields fs ts rest
comma-field no_fields ts m rest w h = absurd h
comma-field (field_then l n i fs) ts m rest w h = (m, w, h)

pub fields-pushed : (found : List (FieldInit ℕ)) (f : FieldInit ℕ) (old now next m : List Lexeme) → FieldsSoFar found old now → IsField f now next → sign x.Comma next m → FieldsSoFar (found ++ f ∷ []) old m
fields-pushed found f old now next m so h w = record {
  spelled = λ fs rest more. subst (λ u. first_field u old rest) (sym (fields_onto-push found f fs)) (so.spelled _ rest (field-spelled f now next h fs rest (comma-field fs next m rest w more)));
  passes = λ K. so.passes K ∙ h.passes K ∙ on-sign (fields_more ∷ K) x.Comma next m w;
  shorter = omega (arith, so.shorter, h.shorter, sign-shorter x.Comma next m w);
}

pub fields-fail : (found : List (FieldInit ℕ)) (ts old now : List Lexeme) (stop : Stop) → fields_at ts ≡ true → old ≡ drop 1 ts → FieldsSoFar found old now → Fails for_field now stop → Fails for_initial ts stop
fields-fail found ts old now stop h is so z = after for_initial for_field ts now stop (λ K. passes-fields ts old h is K ∙ so.passes K) z

fields-stuck : (K : State) (ts : List Lexeme) → (next_terminal ts ≡ Some x.Comma → ⊥) → (next_terminal ts ≡ Some x.Close → ⊥) → machine (fields_more ∷ K) ts ≡ (false, length ts)
fields-stuck K [] c d = refl
fields-stuck K (t ∷ ts) c d = ap (λ o. go_on o (λ K'. machine K' ts) (false, suc (length ts))) (at t.terminal c d)
  where
    at : (u : Terminal) → (Some u ≡ Some x.Comma → ⊥) → (Some u ≡ Some x.Close → ⊥) → on_fields u K ≡ None
    at x.Comma c d = absurd (c refl)
    at x.Close c d = absurd (d refl)
    at _ c d = refl

pub fields-end-fails : (found : List (FieldInit ℕ)) (f : FieldInit ℕ) (ts old now next : List Lexeme) → fields_at ts ≡ true → old ≡ drop 1 ts → FieldsSoFar found old now → IsField f now next
    → (next_terminal next ≡ Some x.Comma → ⊥) → (next_terminal next ≡ Some x.Close → ⊥) → Fails for_initial ts (Left (length next))
fields-end-fails found f ts old now next h is so hf c d K = passes-fields ts old h is K ∙ so.passes K ∙ hf.passes K ∙ fields-stuck K next c d

pub reads-fields : (found : List (FieldInit ℕ)) (f : FieldInit ℕ) (line : ℕ) (ts old now next rest : List Lexeme) → LineOf ts line → fields_at ts ≡ true → old ≡ drop 1 ts → FieldsSoFar found old now → IsField f now next → sign x.Close next rest
    → Parses (initial (init.Fields line (fields_of (found ++ f ∷ [])))) for_initial same ts rest
reads-fields found f line ts old now next rest a h is so hf c =
    let w = sign_at x.Open ts old (fields-open ts h) is in
    record {
      spelled = (
        line_sign x.Open line ts old a w,
        (
          old,
          w,
          (
            next,
            subst (λ u. first_field u old next) (sym (fields_onto-push found f no_fields) ∙ fields_onto-none (found ++ f ∷ [])) (so.spelled _ next (field-spelled f now next hf no_fields next refl)),
            c,
          ),
        ),
      );
      passes = λ K. passes-fields ts old h is K ∙ so.passes K ∙ hf.passes K ∙ on-sign (fields_more ∷ K) x.Close next rest c;
      shorter = omega (arith, sign-shorter x.Open ts old w, so.shorter, hf.shorter, sign-shorter x.Close next rest c);
    }

-- ---- a field

pub field-fails-name : (ts : List Lexeme) (stop : Stop) → Fails for_word ts stop → Fails for_field ts stop
field-fails-name ts stop h = under for_word (λ K. need x.Assign (refl, tt) ∷ init_next ∷ fields_more ∷ K) ts stop h

pub field-fails-assign : (n : List ℕ) (ts m : List Lexeme) (stop : Stop) → Parses (word n) for_word same ts m → SignFails x.Assign m stop → Fails for_field ts stop
field-fails-assign n ts m (Left i) h z = λ K. h.passes (need x.Assign (refl, tt) ∷ init_next ∷ fields_more ∷ K) ∙ z (refl, tt) (init_next ∷ fields_more ∷ K)
field-fails-assign n ts m NoMemory h z = tt

pub field-fails-value : (n : List ℕ) (ts m m2 : List Lexeme) (stop : Stop) → Parses (word n) for_word same ts m → ReadsSign (sign x.Assign) x.Assign m m2 → Fails for_initial m2 stop → Fails for_field ts stop
field-fails-value n ts m m2 (Left i) h c z = λ K. h.passes (need x.Assign (refl, tt) ∷ init_next ∷ fields_more ∷ K) ∙ (c (refl, tt)).passes (init_next ∷ fields_more ∷ K) ∙ z (fields_more ∷ K)
field-fails-value n ts m m2 NoMemory h c z = tt

pub reads-field : (line : ℕ) (n : List ℕ) (i : Initial ℕ) (ts m m2 rest : List Lexeme) → LineOf ts line → Parses (word n) for_word same ts m → ReadsSign (sign x.Assign) x.Assign m m2 → Parses (initial i) for_initial same m2 rest
    → Parses (Fielded line n i) for_field for_more_fields ts rest
reads-field line n i ts m m2 rest a h c r =
    let c' = c (refl, tt) in
    record {
      spelled = (m, (line_spelled x.Word n line ts m a h.spelled, h.spelled), (m2, c'.spelled, r.spelled));
      passes = λ K. h.passes (need x.Assign (refl, tt) ∷ init_next ∷ fields_more ∷ K) ∙ c'.passes (init_next ∷ fields_more ∷ K) ∙ r.passes (fields_more ∷ K);
      shorter = omega (arith, h.shorter, c'.shorter, r.shorter);
    }

-- ---- lists of parts

abbrev parts_onto : List (CodePart ℕ) → Parts ℕ → Parts ℕ
parts_onto [] ps = ps
parts_onto (p ∷ found) ps = part_then (part_of p) (parts_onto found ps)

parts_onto-push : (found : List (CodePart ℕ)) (p : CodePart ℕ) (ps : Parts ℕ) → parts_onto (found ++ p ∷ []) ps ≡ parts_onto found (part_then (part_of p) ps)
parts_onto-push [] p ps = refl
parts_onto-push (q ∷ found) p ps = ap (part_then (part_of q)) (parts_onto-push found p ps)

parts_onto-none : (found : List (CodePart ℕ)) → parts_onto found no_parts ≡ parts_of found
parts_onto-none [] = refl
parts_onto-none (q ∷ found) = ap (part_then (part_of q)) (parts_onto-none found)

-- where a part comes next
pub record PartsSoFar (found : List (CodePart ℕ)) (old now : List Lexeme) : Type 0 where
  pub spelled : (ps : Parts ℕ) (rest : List Lexeme) → first_part ps now rest → first_part (parts_onto found ps) old rest
  pub passes : (K : State) → machine (for_parts K) old ≡ machine (for_parts K) now
  pub shorter : length now ≤ length old

pub parts-first : (old : List Lexeme) → PartsSoFar [] old old
parts-first old = record { spelled = λ ps rest h. h; passes = λ K. refl; shorter = omega arith }

abbrev pub IsPart : CodePart ℕ → List Lexeme → List Lexeme → Type 0
IsPart p now next = Parses (part (part_of p)) for_part same now next

comma-part : (ps : Parts ℕ) (ts m rest : List Lexeme) → sign x.Comma ts m → first_part ps m rest → more_parts ps ts rest
comma-part no_parts ts m rest w h = absurd h
comma-part (part_then p ps) ts m rest w h = (m, w, h)

passes-bracket : (ts m : List Lexeme) → next_terminal ts ≡ Some x.OpenBracket → m ≡ drop 1 ts → (K : State) → machine (init_next ∷ K) ts ≡ machine (for_parts K) m
passes-bracket ts m h is K = on-sign (init_next ∷ K) x.OpenBracket ts m (sign_at x.OpenBracket ts m h is)

pub parts-pushed : (found : List (CodePart ℕ)) (p : CodePart ℕ) (old now next m : List Lexeme) → PartsSoFar found old now → IsPart p now next → sign x.Comma next m → PartsSoFar (found ++ p ∷ []) old m
parts-pushed found p old now next m so h w = record {
  spelled = λ ps rest more. subst (λ u. first_part u old rest) (sym (parts_onto-push found p ps)) (so.spelled _ rest (next, h.spelled, comma-part ps next m rest w more));
  passes = λ K. so.passes K ∙ h.passes (parts_more ∷ K) ∙ on-sign (parts_more ∷ K) x.Comma next m w;
  shorter = omega (arith, so.shorter, h.shorter, sign-shorter x.Comma next m w);
}

pub parts-fail : (found : List (CodePart ℕ)) (ts old now : List Lexeme) (stop : Stop) → next_terminal ts ≡ Some x.OpenBracket → old ≡ drop 1 ts → PartsSoFar found old now → Fails for_part now stop → Fails for_initial ts stop
parts-fail found ts old now stop h is so z = after for_initial for_parts ts now stop (λ K. passes-bracket ts old h is K ∙ so.passes K) (under for_part (λ K. parts_more ∷ K) now stop z)

parts-stuck : (K : State) (ts : List Lexeme) → (next_terminal ts ≡ Some x.Comma → ⊥) → (next_terminal ts ≡ Some x.CloseBracket → ⊥) → machine (parts_more ∷ K) ts ≡ (false, length ts)
parts-stuck K [] c d = refl
parts-stuck K (t ∷ ts) c d = ap (λ o. go_on o (λ K'. machine K' ts) (false, suc (length ts))) (at t.terminal c d)
  where
    at : (u : Terminal) → (Some u ≡ Some x.Comma → ⊥) → (Some u ≡ Some x.CloseBracket → ⊥) → on_parts u K ≡ None
    at x.Comma c d = absurd (c refl)
    at x.CloseBracket c d = absurd (d refl)
    at _ c d = refl

pub parts-end-fails : (found : List (CodePart ℕ)) (p : CodePart ℕ) (ts old now next : List Lexeme) → next_terminal ts ≡ Some x.OpenBracket → old ≡ drop 1 ts → PartsSoFar found old now → IsPart p now next
    → (next_terminal next ≡ Some x.Comma → ⊥) → (next_terminal next ≡ Some x.CloseBracket → ⊥) → Fails for_initial ts (Left (length next))
parts-end-fails found p ts old now next h is so hp c d K = passes-bracket ts old h is K ∙ so.passes K ∙ hp.passes (parts_more ∷ K) ∙ parts-stuck K next c d

pub reads-array : (found : List (CodePart ℕ)) (p : CodePart ℕ) (line : ℕ) (ts old now next rest : List Lexeme) → LineOf ts line → next_terminal ts ≡ Some x.OpenBracket → old ≡ drop 1 ts → PartsSoFar found old now → IsPart p now next
    → sign x.CloseBracket next rest → Parses (initial (init.Array line (parts_of (found ++ p ∷ [])))) for_initial same ts rest
reads-array found p line ts old now next rest a h is so hp c =
    let w = sign_at x.OpenBracket ts old h is in
    record {
      spelled = (
        line_sign x.OpenBracket line ts old a w,
        (
          old,
          w,
          (
            next,
            subst (λ u. first_part u old next) (sym (parts_onto-push found p no_parts) ∙ parts_onto-none (found ++ p ∷ [])) (so.spelled _ next (next, hp.spelled, refl)),
            c,
          ),
        ),
      );
      passes = λ K. passes-bracket ts old h is K ∙ so.passes K ∙ hp.passes (parts_more ∷ K) ∙ on-sign (parts_more ∷ K) x.CloseBracket next rest c;
      shorter = omega (arith, sign-shorter x.OpenBracket ts old w, so.shorter, hp.shorter, sign-shorter x.CloseBracket next rest c);
    }

-- ---- a part

pub parted : (p q : Part ℕ) (ts rest : List Lexeme) → p ≡ q → Parses (part q) for_part same ts rest → Parses (part p) for_part same ts rest
parted p q ts rest e h = subst (λ u. Parses (part u) for_part same ts rest) (sym e) h

pub reads-one : (i : Initial ℕ) (ts rest : List Lexeme) → repetition_at ts ≡ false → Parses (initial i) for_initial same ts rest → Parses (part (init.One i)) for_part same ts rest
reads-one i ts rest h r = record { spelled = r.spelled; passes = λ K. part-value K ts h ∙ r.passes K; shorter = r.shorter }

pub one-fails : (ts : List Lexeme) (stop : Stop) → repetition_at ts ≡ false → Fails for_initial ts stop → Fails for_part ts stop
one-fails ts stop h z = after for_part for_initial ts ts stop (λ K. part-value K ts h) z

-- behind the count and `(`
abbrev for_repeated : State → State
for_repeated K = init_next ∷ need x.Close (refl, tt) ∷ K

passes-count : (n : List ℕ) (ts m m2 : List Lexeme) → repetition_at ts ≡ true → TextTaken n ts m → m2 ≡ drop 1 m → (K : State) → machine (for_part K) ts ≡ machine (for_repeated K) m2
passes-count n ts m m2 h t is K =
    on-sign (part_next ∷ K) x.Int ts m (signed x.Int n ts m (taken x.Int n ts m (repetition-int ts h) t))
    ∙ on-sign (part_int ∷ K) x.Open m m2 (sign_at x.Open m m2 (repetition-open n ts m h t) is)

pub repeated-fails : (n : List ℕ) (ts m m2 : List Lexeme) (stop : Stop) → repetition_at ts ≡ true → TextTaken n ts m → m2 ≡ drop 1 m → Fails for_initial m2 stop → Fails for_part ts stop
repeated-fails n ts m m2 stop h t is z = after for_part for_repeated ts m2 stop (passes-count n ts m m2 h t is) (under for_initial (λ K. need x.Close (refl, tt) ∷ K) m2 stop z)

pub repeated-end-fails : (n : List ℕ) (i : Initial ℕ) (ts m m2 m3 : List Lexeme) (stop : Stop) → repetition_at ts ≡ true → TextTaken n ts m → m2 ≡ drop 1 m → Parses (initial i) for_initial same m2 m3 → SignFails x.Close m3 stop → Fails for_part ts stop
repeated-end-fails n i ts m m2 m3 (Left j) h t is r z = λ K. passes-count n ts m m2 h t is K ∙ r.passes (need x.Close (refl, tt) ∷ K) ∙ z (refl, tt) K
repeated-end-fails n i ts m m2 m3 NoMemory h t is r z = tt

pub reads-repeated : (line : ℕ) (n : List ℕ) (i : Initial ℕ) (ts m m2 m3 rest : List Lexeme) → LineOf ts line → repetition_at ts ≡ true → TextTaken n ts m → m2 ≡ drop 1 m → Parses (initial i) for_initial same m2 m3
    → ReadsSign (sign x.Close) x.Close m3 rest → Parses (part (init.Repeated line n i)) for_part same ts rest
reads-repeated line n i ts m m2 m3 rest a h t is r c =
    let w = taken x.Int n ts m (repetition-int ts h) t in
    let o = sign_at x.Open m m2 (repetition-open n ts m h t) is in
    let c' = c (refl, tt) in
    record {
      spelled = (line_spelled x.Int n line ts m a w, (m, w, (m2, o, (m3, r.spelled, c'.spelled))));
      passes = λ K. passes-count n ts m m2 h t is K ∙ r.passes (need x.Close (refl, tt) ∷ K) ∙ c'.passes K;
      shorter = omega (arith, spelled-shorter x.Int n ts m w, sign-shorter x.Open m m2 o, r.shorter, c'.shorter);
    }

pub repetition-some : (ts : List Lexeme) → repetition_at ts ≡ true → 0 < length ts
repetition-some [] h = cc
repetition-some (t ∷ ts) h = omega arith

pub behind-some : (n : List ℕ) (ts m : List Lexeme) → repetition_at ts ≡ true → TextTaken n ts m → 0 < length m
behind-some n ts [] h t = let bad = repetition-open n ts [] h t in cc
behind-some n ts (u ∷ m) h t = omega arith
