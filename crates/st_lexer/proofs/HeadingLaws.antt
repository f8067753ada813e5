-- The last heading, sought from the end.
use Rattle.std.proofs.Common.{◌≡◌, ◌⊎◌, inl, inr, ℕ, ◌+◌, ◌-◌, ◌<◌, ◌≤◌, true, false, List, [], ◌∷◌, ◌++◌, length, take, drop, map, get_or, Option, Some, None, refl, sym, ap, ◌∙◌, cond, codes, arith}
use Rattle.std.specs.Option.{option_or, option_map_or}
use Rattle.std.proofs.lemmas.Bool.{cond-true, cond-false}
use Rattle.std.proofs.lemmas.List.{drop_more, take-append-drop, take_rest, map-append}
use Rattle.plc_text.specs.Text.{folded}
use Rattle.st_tree.specs.declared.terminal.Terminal.{Terminal}
use Rattle.st_tree.specs.declared.marks.Marks.{Marks}
use Rattle.st_tree.specs.Token.{Token}
use Rattle.st_lexer.specs.declared.token.Token.{Token as Lexed}
use Rattle.st_lexer.specs.Token.{token_view}
use Rattle.st_tree.specs.Grammar.{Lexeme}
use Rattle.st_tree.specs.Reads.{terminal_of, no_marks, with_mark, lexeme_of, either_way, lexemes_behind, lexemes}
use Rattle.st_tree.specs.Headings.{is_heading, is_modifier, is_word, name_at, behind_heading, declaration_before}

-- what a token is to the grammar
abbrev pub terminal_at : Token → Option Terminal
terminal_at t = terminal_of t.kind (folded t.text)

-- the lexemes with a mark or a lexeme in front
behind_mark : (m : Marks) (t : Token) (ts : List Token) → terminal_at t ≡ None → lexemes_behind m (t ∷ ts) ≡ lexemes_behind (with_mark m t.text) ts
behind_mark m t ts e = ap (λ o. either_way o t m (lexemes_behind (with_mark m t.text) ts) (lexemes_behind no_marks ts)) e

with_lexeme : (m : Marks) (t : Token) (ts : List Token) (s : Terminal) → terminal_at t ≡ Some s → lexemes_behind m (t ∷ ts) ≡ lexeme_of s t m ∷ lexemes ts
with_lexeme m t ts s e = ap (λ o. either_way o t m (lexemes_behind (with_mark m t.text) ts) (lexemes_behind no_marks ts)) e

-- what stands behind the last heading of all
abbrev found : List Lexeme → Option (List Lexeme)
found ls = behind_heading (length ls) ls

cases_terminal : (t : Token) → (terminal_at t ≡ None) ⊎ ((s : Terminal) × (terminal_at t ≡ Some s))
cases_terminal t = cases (terminal_at t) refl
  where
    cases : (o : Option Terminal) → terminal_at t ≡ o → (terminal_at t ≡ None) ⊎ ((s : Terminal) × (terminal_at t ≡ Some s))
    cases None e = inl e
    cases (Some s) e = inr (s, e)

-- marks change nothing
marks_apart : (m n : Marks) (ts : List Token) → found (lexemes_behind m ts) ≡ found (lexemes_behind n ts)
marks_apart m n [] = refl
marks_apart m n (t ∷ ts) = elim (cases_terminal t) [
  | inl e ↦ ap found (behind_mark m t ts e) ∙ marks_apart (with_mark m t.text) (with_mark n t.text) ts ∙ sym (ap found (behind_mark n t ts e))
  | inr e ↦ ap found (with_lexeme m t ts e.0 e.1) ∙ sym (ap found (with_lexeme n t ts e.0 e.1))
]

name_apart : (m n : Marks) (ts : List Token) → name_at (lexemes_behind m ts) ≡ name_at (lexemes_behind n ts)
name_apart m n [] = refl
name_apart m n (t ∷ ts) = elim (cases_terminal t) [
  | inl e ↦ ap name_at (behind_mark m t ts e) ∙ name_apart (with_mark m t.text) (with_mark n t.text) ts ∙ sym (ap name_at (behind_mark n t ts e))
  | inr e ↦ ap name_at (with_lexeme m t ts e.0 e.1) ∙ sym (ap name_at (with_lexeme n t ts e.0 e.1))
]

-- a token that is no heading before tokens with none
abbrev pub Quiet : List Token → Type 0
Quiet ts = found (lexemes ts) ≡ None

pub quiet_mark : (t : Token) (ts : List Token) → terminal_at t ≡ None → Quiet ts → Quiet (t ∷ ts)
quiet_mark t ts e q = ap found (behind_mark no_marks t ts e) ∙ marks_apart (with_mark no_marks t.text) no_marks ts ∙ q

pub quiet_other : (t : Token) (ts : List Token) (s : Terminal) → terminal_at t ≡ Some s → is_heading s ≡ false → Quiet ts → Quiet (t ∷ ts)
quiet_other t ts s e other q =
    ap found (with_lexeme no_marks t ts s e)
    ∙ ap (λ o. option_or o (cond (is_heading s) (Some (lexemes ts)) None)) q
    ∙ cond-false (is_heading s) _ _ other

-- a heading before tokens with none, and whatever stands before it
heading_found : (m : Marks) (t : Token) (ts : List Token) (s : Terminal) → terminal_at t ≡ Some s → is_heading s ≡ true → Quiet ts → found (lexemes_behind m (t ∷ ts)) ≡ Some (lexemes ts)
heading_found m t ts s e heading q =
    ap found (with_lexeme m t ts s e)
    ∙ ap (λ o. option_or o (cond (is_heading s) (Some (lexemes ts)) None)) q
    ∙ cond-true (is_heading s) _ _ heading

found_before : (m : Marks) (xs ts : List Token) (rest : List Lexeme) → ((n : Marks) → found (lexemes_behind n ts) ≡ Some rest) → found (lexemes_behind m (xs ++ ts)) ≡ Some rest
found_before m [] ts rest h = h m
found_before m (x ∷ xs) ts rest h = elim (cases_terminal x) [
  | inl e ↦ ap found (behind_mark m x (xs ++ ts) e) ∙ found_before (with_mark m x.text) xs ts rest h
  | inr e ↦
      ap found (with_lexeme m x (xs ++ ts) e.0 e.1)
      ∙ ap (λ o. option_or o (cond (is_heading e.0) (Some (lexemes (xs ++ ts))) None)) (found_before no_marks xs ts rest h)
]

pub last_heading : (xs ts : List Token) (t : Token) (s : Terminal) → terminal_at t ≡ Some s → is_heading s ≡ true → Quiet ts → declaration_before (xs ++ t ∷ ts) ≡ name_at (lexemes ts)
last_heading xs ts t s e heading q = ap (λ o. option_map_or name_at o (codes "-")) (found_before no_marks xs (t ∷ ts) (lexemes ts) (λ n. heading_found n t ts s e heading q))

-- the name at the front

pub name_mark : (t : Token) (ts : List Token) → terminal_at t ≡ None → name_at (lexemes (t ∷ ts)) ≡ name_at (lexemes ts)
name_mark t ts e = ap name_at (behind_mark no_marks t ts e) ∙ name_apart (with_mark no_marks t.text) no_marks ts

pub name_modifier : (t : Token) (ts : List Token) (s : Terminal) → terminal_at t ≡ Some s → is_modifier s ≡ true → name_at (lexemes (t ∷ ts)) ≡ name_at (lexemes ts)
name_modifier t ts s e h = ap name_at (with_lexeme no_marks t ts s e) ∙ cond-true (is_modifier s) _ _ h

pub name_word : (t : Token) (ts : List Token) (s : Terminal) → terminal_at t ≡ Some s → is_modifier s ≡ false → is_word s ≡ true → name_at (lexemes (t ∷ ts)) ≡ folded t.text
name_word t ts s e h w = ap name_at (with_lexeme no_marks t ts s e) ∙ cond-false (is_modifier s) _ _ h ∙ cond-true (is_word s) _ _ w

pub name_other : (t : Token) (ts : List Token) (s : Terminal) → terminal_at t ≡ Some s → is_modifier s ≡ false → is_word s ≡ false → name_at (lexemes (t ∷ ts)) ≡ codes "-"
name_other t ts s e h w = ap name_at (with_lexeme no_marks t ts s e) ∙ cond-false (is_modifier s) _ _ h ∙ cond-false (is_word s) _ _ w

-- ---- the code's tokens

cell : (ts : List Lexed) (k : ℕ) (t : Lexed) → k < length ts → t ≡ get_or ts k t → drop k ts ≡ t ∷ drop (k + 1) ts
cell ts k t within is = drop_more ts k t within ∙ ap (λ x. x ∷ drop (k + 1) ts) (sym is)

views : (ts : List Lexed) (k : ℕ) (t : Lexed) → k < length ts → t ≡ get_or ts k t → map token_view ts ≡ map token_view (take k ts) ++ token_view t ∷ map token_view (drop (k + 1) ts)
views ts k t within is =
    ap (map token_view) (sym (take-append-drop k ts)) ∙ map-append token_view (take k ts) (drop k ts)
    ∙ ap (λ xs. map token_view (take k ts) ++ map token_view xs) (cell ts k t within is)

pub found_here : (ts : List Lexed) (p : ℕ) (t : Lexed) (s : Terminal) (name : List ℕ) → 0 < p → p ≤ length ts → t ≡ get_or ts (p - 1) t → t.terminal ≡ Some s → is_heading s ≡ true → Quiet (map token_view (drop p ts))
    → name ≡ name_at (lexemes (map token_view (take (length ts - (p - 1 + 1)) (drop (p - 1 + 1) ts)))) → name ≡ declaration_before (map token_view ts)
found_here ts p t s name some within is e heading quiet n =
    let back : p - 1 + 1 ≡ p = omega arith in
    let quiet' : Quiet (map token_view (drop (p - 1 + 1) ts)) = rw back quiet in
    n ∙ ap (λ xs. name_at (lexemes (map token_view xs))) (take_rest ts (p - 1 + 1))
    ∙ sym (last_heading (map token_view (take (p - 1) ts)) (map token_view (drop (p - 1 + 1) ts)) (token_view t) s (sym t.told ∙ e) heading quiet')
    ∙ sym (ap declaration_before (views ts (p - 1) t (omega arith) is))

front_quiet : (ts : List Lexed) (p : ℕ) (t : Lexed) → 0 < p → p ≤ length ts → t ≡ get_or ts (p - 1) t → Quiet (token_view t ∷ map token_view (drop p ts)) → Quiet (map token_view (drop (p - 1) ts))
front_quiet ts p t some within is q =
    let back : p - 1 + 1 ≡ p = omega arith in
    let e : drop (p - 1) ts ≡ t ∷ drop p ts = cell ts (p - 1) t (omega arith) is ∙ ap (λ k. t ∷ drop k ts) back in
    rw e q

pub quiet_step_mark : (ts : List Lexed) (p : ℕ) (t : Lexed) → 0 < p → p ≤ length ts → t ≡ get_or ts (p - 1) t → t.terminal ≡ None → Quiet (map token_view (drop p ts)) → Quiet (map token_view (drop (p - 1) ts))
quiet_step_mark ts p t some within is e q = front_quiet ts p t some within is (quiet_mark (token_view t) (map token_view (drop p ts)) (sym t.told ∙ e) q)

pub quiet_step_other : (ts : List Lexed) (p : ℕ) (t : Lexed) (s : Terminal) → 0 < p → p ≤ length ts → t ≡ get_or ts (p - 1) t → t.terminal ≡ Some s → is_heading s ≡ false → Quiet (map token_view (drop p ts)) → Quiet (map token_view (drop (p - 1) ts))
quiet_step_other ts p t s some within is e other q = front_quiet ts p t some within is (quiet_other (token_view t) (map token_view (drop p ts)) s (sym t.told ∙ e) other q)

-- the name at a place

name_there : (ts : List Lexed) (k : ℕ) (t : Lexed) → k < length ts → t ≡ get_or ts k t → name_at (lexemes (map token_view (drop k ts))) ≡ name_at (lexemes (token_view t ∷ map token_view (drop (k + 1) ts)))
name_there ts k t within is = ap (λ xs. name_at (lexemes (map token_view xs))) (cell ts k t within is)

pub name_past_mark : (ts : List Lexed) (k : ℕ) (t : Lexed) → k < length ts → t ≡ get_or ts k t → t.terminal ≡ None → name_at (lexemes (map token_view (drop (k + 1) ts))) ≡ name_at (lexemes (map token_view (drop k ts)))
name_past_mark ts k t within is e = sym (name_there ts k t within is ∙ name_mark (token_view t) (map token_view (drop (k + 1) ts)) (sym t.told ∙ e))

pub name_past_modifier : (ts : List Lexed) (k : ℕ) (t : Lexed) (s : Terminal) → k < length ts → t ≡ get_or ts k t → t.terminal ≡ Some s → is_modifier s ≡ true → name_at (lexemes (map token_view (drop (k + 1) ts))) ≡ name_at (lexemes (map token_view (drop k ts)))
name_past_modifier ts k t s within is e h = sym (name_there ts k t within is ∙ name_modifier (token_view t) (map token_view (drop (k + 1) ts)) s (sym t.told ∙ e) h)

pub name_of_word : (ts : List Lexed) (k : ℕ) (t : Lexed) (s : Terminal) → k < length ts → t ≡ get_or ts k t → t.terminal ≡ Some s → is_modifier s ≡ false → is_word s ≡ true → folded t.text.now ≡ name_at (lexemes (map token_view (drop k ts)))
name_of_word ts k t s within is e h w = sym (name_there ts k t within is ∙ name_word (token_view t) (map token_view (drop (k + 1) ts)) s (sym t.told ∙ e) h w)

pub name_of_other : (ts : List Lexed) (k : ℕ) (t : Lexed) (s : Terminal) → k < length ts → t ≡ get_or ts k t → t.terminal ≡ Some s → is_modifier s ≡ false → is_word s ≡ false → codes "-" ≡ name_at (lexemes (map token_view (drop k ts)))
name_of_other ts k t s within is e h w = sym (name_there ts k t within is ∙ name_other (token_view t) (map token_view (drop (k + 1) ts)) s (sym t.told ∙ e) h w)
