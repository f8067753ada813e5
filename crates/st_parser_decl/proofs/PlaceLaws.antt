-- The last heading before a place, sought backwards; the name behind it; the line of a place.
use Rattle.std.proofs.Common.{◌≡◌, ℕ, zero, suc, ◌-◌, ◌<◌, ◌≤◌, Bool, true, false, List, [], ◌∷◌, Option, Some, None, Result, length, drop, codes, refl, sym, ◌∙◌, ap, subst, arith, if◌then◌else◌}
use borrow.Author.Tests.{clash}
use Rattle.std.specs.Option.{option_or, option_map_or}
use Rattle.std.specs.Prelude.{IfOk}
use Rattle.std.proofs.lemmas.List.{length-map}
use Rattle.std.proofs.lemmas.Result.{IfOk-weaker}
use Rattle.plc_text.specs.Lines.{line_of}
use Rattle.st_tree.specs.declared.terminal.Terminal.{Terminal}
use Rattle.st_tree.specs.declared.terminal.Terminal.TheVariants as x
use Rattle.st_tree.specs.Grammar.{Lexeme}
use Rattle.st_lexer.specs.declared.lexeme.Lexeme as code
use Rattle.st_lexer.specs.Lexeme.{lexemes_of}
use Rattle.st_tree.specs.Headings.{is_heading, is_modifier, is_word, name_at, behind_heading, declaration_of}
use Rattle.st_tree.specs.NoUnit.{line_at}
use Rattle.st_parser_expr.specs.Private.Promises.{next_terminal, LineOf, TextTaken}

abbrev pub heads : Option Terminal → Bool
heads None = false
heads (Some t) = is_heading t

pub passed_over : (k : ℕ) (ts : List Lexeme) → heads (next_terminal (drop k ts)) ≡ false → behind_heading (suc k) ts ≡ behind_heading k ts
passed_over zero [] h = refl
passed_over zero (t ∷ ts) h = ap (λ b. if b then Some ts else None) h
passed_over (suc k) [] h = refl
passed_over (suc k) (t ∷ ts) h = ap (λ o. option_or o (if is_heading t.terminal then Some ts else None)) (passed_over k ts h)

pub heading_found : (k : ℕ) (ts : List Lexeme) (t : Terminal) → next_terminal (drop k ts) ≡ Some t → is_heading t ≡ true → behind_heading (suc k) ts ≡ Some (drop 1 (drop k ts))
heading_found zero [] t e h = cc
heading_found zero (u ∷ ts) t e h = let same : u.terminal ≡ t = cc in ap (λ b. if b then Some ts else None) (ap is_heading same ∙ h)
heading_found (suc k) [] t e h = cc
heading_found (suc k) (u ∷ ts) t e h = ap (λ o. option_or o (if is_heading u.terminal then Some ts else None)) (heading_found k ts t e h)

pub not_heading : (ts : List Lexeme) (t : Terminal) → next_terminal ts ≡ Some t → is_heading t ≡ false → heads (next_terminal ts) ≡ false
not_heading ts t e h = ap heads e ∙ h

pub nothing_next : (ts : List Lexeme) → next_terminal ts ≡ None → heads (next_terminal ts) ≡ false
nothing_next ts e = ap heads e

-- the name
pub name_past : (ts : List Lexeme) (t : Terminal) → next_terminal ts ≡ Some t → is_modifier t ≡ true → name_at ts ≡ name_at (drop 1 ts)
name_past [] t e h = cc
name_past (u ∷ ts) t e h = let same : u.terminal ≡ t = cc in ap (λ b. if b then name_at ts else if is_word u.terminal then u.text else codes "-") (ap is_modifier same ∙ h)

word_alone : (t : Terminal) → is_word t ≡ true → is_modifier t ≡ false
word_alone x.Word h = refl
word_alone _ h = absurd (clash h)

abbrev named : List Lexeme → List ℕ → Bool → Bool → List ℕ
named ts text passed here = if passed then name_at ts else if here then text else codes "-"

pub name_taken : (ts rest : List Lexeme) (t : Terminal) (name : List ℕ) → next_terminal ts ≡ Some t → is_word t ≡ true → TextTaken name ts rest → name ≡ name_at ts
name_taken [] rest t name e h c = cc
name_taken (u ∷ ts) rest t name e h (v, is, whole) =
    let same : u.terminal ≡ t = cc in
    let one : u ≡ v = cc in
    sym (ap (λ s. named ts u.text (is_modifier s) (is_word s)) same ∙ ap (λ b. named ts u.text b (is_word t)) (word_alone t h) ∙ ap (λ b. named ts u.text false b) h ∙ ap (λ w. w.text) one ∙ is)

pub no_name : (ts : List Lexeme) (t : Terminal) → next_terminal ts ≡ Some t → is_word t ≡ false → is_modifier t ≡ false → name_at ts ≡ codes "-"
no_name [] t e h n = refl
no_name (u ∷ ts) t e h n =
    let same : u.terminal ≡ t = cc in
    ap (λ s. named ts u.text (is_modifier s) (is_word s)) same ∙ ap (λ b. named ts u.text b (is_word t)) n ∙ ap (λ b. named ts u.text false b) h

pub name_end : (ts : List Lexeme) → next_terminal ts ≡ None → name_at ts ≡ codes "-"
name_end [] e = refl
name_end (u ∷ ts) e = cc

pub declared : (n k : ℕ) (ts : List Lexeme) (t : Terminal) → behind_heading n ts ≡ behind_heading (suc k) ts → next_terminal (drop k ts) ≡ Some t → is_heading t ≡ true → declaration_of n ts ≡ name_at (drop 1 (drop k ts))
declared n k ts t same e h = ap (λ o. option_map_or name_at o (codes "-")) (same ∙ heading_found k ts t e h)

-- the line
pub line_there : (text : List ℕ) (p : ℕ) (ts : List Lexeme) (line : ℕ) → p < length ts → LineOf (drop p ts) line → line ≡ line_at text ts p
line_there text p [] line less h = absurd (omega arith)
line_there text zero (t ∷ ts) line less h = sym h
line_there text (suc p) (t ∷ ts) line less h = line_there text p ts line (omega arith) h

pub line_behind : (text : List ℕ) (p : ℕ) (ts : List Lexeme) → length ts ≤ p → line_at text ts p ≡ line_of text (length text)
line_behind text p [] h = refl
line_behind text zero (t ∷ ts) h = absurd (omega arith)
line_behind text (suc p) (t ∷ ts) h = line_behind text p ts (omega arith)

-- ---- the code's lexemes

pub drop-lexemes : (n : ℕ) (xs : List code.Lexeme) → lexemes_of (drop n xs) ≡ drop n (lexemes_of xs)
drop-lexemes zero xs = refl
drop-lexemes (suc n) [] = refl
drop-lexemes (suc n) (x ∷ xs) = drop-lexemes n xs

many : (xs : List code.Lexeme) → length (lexemes_of xs) ≡ length xs
many xs = simp length-map

pub line_read : (text : List ℕ) (xs : List code.Lexeme) (p line : ℕ) → p < length xs → LineOf (lexemes_of (drop p xs)) line → line ≡ line_at text (lexemes_of xs) p
line_read text xs p line less h = line_there text p (lexemes_of xs) line (let m = many xs in omega arith) (subst (λ u. LineOf u line) (drop-lexemes p xs) h)

pub line_past : (text : List ℕ) (xs : List code.Lexeme) (p : ℕ) → length xs ≤ p → line_at text (lexemes_of xs) p ≡ line_of text (length text)
line_past text xs p h = line_behind text p (lexemes_of xs) (let m = many xs in omega arith)

-- up to this place no heading stands before the place that is asked for
pub record Passed (xs : List code.Lexeme) (place at : ℕ) : Type 0 where
  pub within : at ≤ place
  pub same : behind_heading place (lexemes_of xs) ≡ behind_heading at (lexemes_of xs)

pub passed-start : (xs : List code.Lexeme) (place : ℕ) → Passed xs place place
passed-start xs place = record { within = omega arith; same = refl }

pub passed-next : (xs : List code.Lexeme) (place at : ℕ) → 0 < at → Passed xs place at → heads (next_terminal (lexemes_of (drop (at - 1) xs))) ≡ false → Passed xs place (at - 1)
passed-next xs place zero some h quiet = absurd (omega arith)
passed-next xs place (suc k) some h quiet =
    let e : suc k - 1 ≡ k = omega arith in
    let quiet' : heads (next_terminal (lexemes_of (drop k xs))) ≡ false = subst (λ i. heads (next_terminal (lexemes_of (drop i xs))) ≡ false) e quiet in
    let here : heads (next_terminal (drop k (lexemes_of xs))) ≡ false = subst (λ u. heads (next_terminal u) ≡ false) (drop-lexemes k xs) quiet' in
    let there : Passed xs place k = record { within = (let w = h.within in omega arith); same = h.same ∙ passed_over k (lexemes_of xs) here } in
    subst (λ i. Passed xs place i) (sym e) there

pub passed-all : (xs : List code.Lexeme) (place at : ℕ) → Passed xs place at → at ≤ 0 → declaration_of place (lexemes_of xs) ≡ codes "-"
passed-all xs place zero h none = ap (λ o. option_map_or name_at o (codes "-")) h.same
passed-all xs place (suc k) h none = absurd (omega arith)

pub passed-found : (xs : List code.Lexeme) (place at : ℕ) (t : Terminal) (now : List Lexeme) → 0 < at → Passed xs place at → next_terminal (lexemes_of (drop (at - 1) xs)) ≡ Some t → is_heading t ≡ true → now ≡ drop 1 (lexemes_of (drop (at - 1) xs))
    → declaration_of place (lexemes_of xs) ≡ name_at now
passed-found xs place zero t now some h next is e = absurd (omega arith)
passed-found xs place (suc k) t now some h next is e =
    let i : suc k - 1 ≡ k = omega arith in
    let next' : next_terminal (drop k (lexemes_of xs)) ≡ Some t = subst (λ u. next_terminal u ≡ Some t) (ap (λ j. lexemes_of (drop j xs)) i ∙ drop-lexemes k xs) next in
    declared place k (lexemes_of xs) t h.same next' is ∙ sym (ap name_at (e ∙ ap (λ u. drop 1 u) (ap (λ j. lexemes_of (drop j xs)) i ∙ drop-lexemes k xs)))

pub ok_name : {E : Type 0} (r : Result (List ℕ) E) (a b : List ℕ) → a ≡ b → IfOk r (λ n. n ≡ a) → IfOk r (λ n. n ≡ b)
ok_name r a b e h = IfOk-weaker r (λ n. n ≡ a) (λ n. n ≡ b) (λ n w. w ∙ e) h
