-- Finding a text in a table of terminals.
use Rattle.std.proofs.Common.{◌≡◌, ℕ, zero, suc, ◌+◌, ◌-◌, ◌<◌, ◌≤◌, Bool, true, false, ◌&&◌, ◌||◌, not, is_some, List, [], ◌∷◌, ◌++◌, length, get_or, Some, None, refl, sym, ap, ◌∙◌, inl, inr, nat_eq, cond, arith}
use Rattle.std.specs.Borrow.{Bor}
use Rattle.std.specs.List.{list_all}
use Rattle.std.specs.Char.{to_ascii_uppercase, is_ascii_uppercase}
use Rattle.std.proofs.lemmas.Bool.{and_parts, both_ways, cases_Bool, cond-true, cond-false, false_from_ne_true, not-true}
use Rattle.std.proofs.lemmas.Bool.Decides.{nat_tests}
use Rattle.std.proofs.lemmas.Slice.Eq.{bytes_eq-Decides}
use Rattle.plc_text.specs.Text.{folded}
use Rattle.plc_text.specs.Words.{same, begins, is_letter, is_one_of}
use Rattle.st_tree.specs.declared.terminal.Terminal.{Terminal}
use Rattle.st_tree.specs.Terminal.{symbol_terminals, terminal_in, texts_of}
use Rattle.st_tree.specs.Private.Terminal.{rows_of, rows_of_all, all_begin, by_letter, IsByLetter}

abbrev pub Row : Type 0
Row = List ℕ × Terminal

-- a row of the code's table, and a list of such rows
abbrev pub Entry : Type 0
Entry = Bor (List ℕ) × Terminal

abbrev pub Entries : Type 0
Entries = Bor (List Entry)

-- texts that are equal begin alike
begins_alike : (test : ℕ → Bool) (text word : List ℕ) → same text word ≡ true → begins test text ≡ begins test word
begins_alike test text word h = ap (begins test) ((bytes_eq-Decides text word).0 h)

-- a text that begins as no row does stands for nothing
pub misses : (test : ℕ → Bool) (rows : List Row) (text : List ℕ) → all_begin test rows ≡ true → begins test text ≡ false → terminal_in rows text ≡ None
misses test [] text all other = refl
misses test (row ∷ rows) text all other =
    let parts = and_parts (begins test row.0) (all_begin test rows) all in
    cond-false (same text row.0) _ _ (false_from_ne_true _ (λ h. both_ways _ other (begins_alike test text row.0 h ∙ parts.0)))
    ∙ misses test rows text parts.1 other

behind_none : (rows more : List Row) (text : List ℕ) → terminal_in rows text ≡ None → terminal_in (rows ++ more) text ≡ terminal_in more text
behind_none [] more text h = refl
behind_none (row ∷ rows) more text h = elim (cases_Bool (same text row.0)) [
  | inl found ↦ absurd (let e : Some row.1 ≡ None = sym (cond-true (same text row.0) _ _ found) ∙ h in cc)
  | inr other ↦ cond-false (same text row.0) _ _ other ∙ behind_none rows more text (sym (cond-false (same text row.0) _ _ other) ∙ h)
]

before_none : (rows more : List Row) (text : List ℕ) → terminal_in more text ≡ None → terminal_in (rows ++ more) text ≡ terminal_in rows text
before_none [] more text h = h
before_none (row ∷ rows) more text h = ap (cond (same text row.0) (Some row.1)) (before_none rows more text h)

begins_other : (text : List ℕ) (letter other : ℕ) → begins (λ c. nat_eq c letter) text ≡ true → (letter ≡ other → ⊥) → begins (λ c. nat_eq c other) text ≡ false
begins_other [] letter other h apart = refl
begins_other (c ∷ cs) letter other h apart = grind (arith, nat_tests)

-- a text that begins with an earlier letter than all lists
later : (lists : List Entries) (letter first : ℕ) (text : List ℕ) → by_letter letter lists ≡ true → first < letter → begins (λ c. nat_eq c first) text ≡ true → terminal_in (rows_of_all lists) text ≡ None
later [] letter first text sorted less h = refl
later (rows ∷ lists) letter first text sorted less h =
    let parts = and_parts (all_begin (λ c. nat_eq c letter) (rows_of rows.now)) (by_letter (letter + 1) lists) sorted in
    behind_none (rows_of rows.now) (rows_of_all lists) text (misses (λ c. nat_eq c letter) (rows_of rows.now) text parts.0 (begins_other text first letter h (omega arith)))
    ∙ later lists (letter + 1) first text parts.1 (omega arith) h

-- the list for the first letter of a text says what all lists say
picked : (lists : List Entries) (letter k : ℕ) (text : List ℕ) (d : Entries) → by_letter letter lists ≡ true → k < length lists → begins (λ c. nat_eq c (letter + k)) text ≡ true → terminal_in (rows_of (get_or lists k d).now) text ≡ terminal_in (rows_of_all lists) text
picked [] letter k text d sorted within h = absurd (omega arith)
picked (rows ∷ lists) letter zero text d sorted within h =
    let parts = and_parts (all_begin (λ c. nat_eq c letter) (rows_of rows.now)) (by_letter (letter + 1) lists) sorted in
    let first : begins (λ c. nat_eq c letter) text ≡ true = (let e : letter + 0 ≡ letter = omega arith in rw e at h) in
    sym (before_none (rows_of rows.now) (rows_of_all lists) text (later lists (letter + 1) letter text parts.1 (omega arith) first))
picked (rows ∷ lists) letter (suc k) text d sorted within h =
    let parts = and_parts (all_begin (λ c. nat_eq c letter) (rows_of rows.now)) (by_letter (letter + 1) lists) sorted in
    picked lists (letter + 1) k text d parts.1 (omega arith) (let e : letter + 1 + k ≡ letter + suc k = omega arith in rw e h)
    ∙ sym (behind_none (rows_of rows.now) (rows_of_all lists) text (misses (λ c. nat_eq c letter) (rows_of rows.now) text parts.0 (begins_other text (letter + suc k) letter h (omega arith))))

begins_folded : (test : ℕ → Bool) (text : List ℕ) (letter : ℕ) → 0 < length text → letter ≡ to_ascii_uppercase (get_or text 0 0) → begins test (folded text) ≡ test letter
begins_folded test [] letter some e = absurd (omega arith)
begins_folded test (c ∷ cs) letter some e = ap test (sym e)

-- a text that begins with no capital letter
no_letter : (lists : List Entries) (letter : ℕ) (text : List ℕ) → by_letter letter lists ≡ true → 65 ≤ letter → letter + length lists ≤ 91 → begins is_ascii_uppercase text ≡ false → terminal_in (rows_of_all lists) text ≡ None
no_letter [] letter text sorted least most h = refl
no_letter (rows ∷ lists) letter text sorted least most h =
    let parts = and_parts (all_begin (λ c. nat_eq c letter) (rows_of rows.now)) (by_letter (letter + 1) lists) sorted in
    behind_none (rows_of rows.now) (rows_of_all lists) text (misses (λ c. nat_eq c letter) (rows_of rows.now) text parts.0 (not_this text h))
    ∙ no_letter lists (letter + 1) text parts.1 (omega arith) (omega arith) h
  where
    not_this : (text : List ℕ) → begins is_ascii_uppercase text ≡ false → begins (λ c. nat_eq c letter) text ≡ false
    not_this [] h = refl
    not_this (c ∷ cs) h = grind (arith, nat_tests)

pub picked_for : (lists : List Entries) (text : List ℕ) (letter : ℕ) (d : Entries) → IsByLetter lists → 0 < length text → letter ≡ to_ascii_uppercase (get_or text 0 0) → is_ascii_uppercase letter ≡ true → terminal_in (rows_of (get_or lists (letter - 65) d).now) (folded text) ≡ terminal_in (rows_of_all lists) (folded text)
picked_for lists text letter d is some e capital =
    let within : letter - 65 < 26 = grind (arith, nat_tests) in
    let whole : 65 + (letter - 65) ≡ letter = grind (arith, nat_tests) in
    picked lists 65 (letter - 65) (folded text) d is.sorted (omega (arith, within, is.all))
    (begins_folded (λ c. nat_eq c (65 + (letter - 65))) text letter some e ∙ grind (arith, nat_tests))

pub none_for : (lists : List Entries) (text : List ℕ) (letter : ℕ) → IsByLetter lists → 0 < length text → letter ≡ to_ascii_uppercase (get_or text 0 0) → is_ascii_uppercase letter ≡ false → None ≡ terminal_in (rows_of_all lists) (folded text)
none_for lists text letter is some e other =
    sym (no_letter lists 65 (folded text) is.sorted (omega arith) (omega (arith, is.all)) (begins_folded is_ascii_uppercase text letter some e ∙ other))

pub none_for_nil : (lists : List Entries) (text : List ℕ) → IsByLetter lists → length text ≡ 0 → None ≡ terminal_in (rows_of_all lists) (folded text)
none_for_nil lists [] is e = sym (no_letter lists 65 [] is.sorted (omega arith) (omega (arith, is.all)) refl)
none_for_nil lists (c ∷ cs) is e = absurd (omega arith)

pub found_is : (rows : List Row) (word : List ℕ) → is_some (terminal_in rows (folded word)) ≡ is_one_of (texts_of rows) word
found_is [] word = refl
found_is (row ∷ rows) word = by_test (same (folded word) row.0) (found_is rows word)
  where
    by_test : (b : Bool) → is_some (terminal_in rows (folded word)) ≡ is_one_of (texts_of rows) word → is_some (cond b (Some row.1) (terminal_in rows (folded word))) ≡ (b || is_one_of (texts_of rows) word)
    by_test true h = refl
    by_test false h = h

-- symbols have no letters, and one or two characters

abbrev symbolic : Row → Bool
symbolic row = list_all (λ c. not (is_letter c)) row.0 && (nat_eq (length row.0) 1 || nat_eq (length row.0) 2)

not_upper : (c x : ℕ) → is_letter x ≡ false → nat_eq (to_ascii_uppercase c) x ≡ nat_eq c x
not_upper c x other = grind (arith, nat_tests)

same_folded : (text word : List ℕ) → list_all (λ c. not (is_letter c)) word ≡ true → same (folded text) word ≡ same text word
same_folded [] [] h = refl
same_folded [] (x ∷ word) h = refl
same_folded (c ∷ text) [] h = refl
same_folded (c ∷ text) (x ∷ word) h =
    let parts = and_parts (not (is_letter x)) (list_all (λ c. not (is_letter c)) word) h in
    ap (λ b. b && same (folded text) word) (not_upper c x (not-true _ parts.0)) ∙ ap (λ b. nat_eq c x && b) (same_folded text word parts.1)

in_folded : (rows : List Row) (text : List ℕ) → list_all symbolic rows ≡ true → terminal_in rows (folded text) ≡ terminal_in rows text
in_folded [] text h = refl
in_folded (row ∷ rows) text h =
    let parts = and_parts (symbolic row) (list_all symbolic rows) h in
    let letters = and_parts (list_all (λ c. not (is_letter c)) row.0) (nat_eq (length row.0) 1 || nat_eq (length row.0) 2) parts.0 in
    ap (λ b. cond b (Some row.1) (terminal_in rows (folded text))) (same_folded text row.0 letters.0)
    ∙ ap (cond (same text row.0) (Some row.1)) (in_folded rows text parts.1)

long_none : (rows : List Row) (text : List ℕ) → list_all symbolic rows ≡ true → (length text ≡ 1 → ⊥) → (length text ≡ 2 → ⊥) → terminal_in rows text ≡ None
long_none [] text h one two = refl
long_none (row ∷ rows) text h one two =
    let parts = and_parts (symbolic row) (list_all symbolic rows) h in
    let lengths = and_parts (list_all (λ c. not (is_letter c)) row.0) (nat_eq (length row.0) 1 || nat_eq (length row.0) 2) parts.0 in
    cond-false (same text row.0) _ _ (false_from_ne_true _ (λ s.
    let e : length text ≡ length row.0 = ap length ((bytes_eq-Decides text row.0).0 s) in
    grind (arith, nat_tests)))
    ∙ long_none rows text parts.1 one two

symbols_symbolic : list_all symbolic symbol_terminals ≡ true
unfolding symbol_terminals
symbols_symbolic = refl

pub symbol_folded : (text : List ℕ) → terminal_in symbol_terminals (folded text) ≡ terminal_in symbol_terminals text
symbol_folded text = in_folded symbol_terminals text symbols_symbolic

pub no_symbol : (text : List ℕ) → (length text ≡ 1 → ⊥) → (length text ≡ 2 → ⊥) → None ≡ terminal_in symbol_terminals (folded text)
no_symbol text one two = sym (symbol_folded text ∙ long_none symbol_terminals text symbols_symbolic one two)

pub single_is : (text : List ℕ) → length text ≡ 1 → terminal_in symbol_terminals (get_or text 0 0 ∷ []) ≡ terminal_in symbol_terminals (folded text)
single_is [] e = absurd (omega arith)
single_is (c ∷ []) e = sym (symbol_folded (c ∷ []))
single_is (c ∷ d ∷ text) e = absurd (omega arith)

pub double_is : (text : List ℕ) → length text ≡ 2 → terminal_in symbol_terminals (get_or text 0 0 ∷ get_or text 1 0 ∷ []) ≡ terminal_in symbol_terminals (folded text)
double_is [] e = absurd (omega arith)
double_is (c ∷ []) e = absurd (omega arith)
double_is (c ∷ d ∷ []) e = sym (symbol_folded (c ∷ d ∷ []))
double_is (c ∷ d ∷ x ∷ text) e = absurd (omega arith)
