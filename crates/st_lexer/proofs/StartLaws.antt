-- Which forms of piece a text can begin with, told from its first character.
use Rattle.std.proofs.Common.{◌≡◌, ℕ, zero, suc, Bool, true, false, ◌||◌, not, List, [], ◌∷◌, take, drop, refl, sym, ap, ◌∙◌, nat_eq, codes, is_some, arith}
use Rattle.std.proofs.lemmas.Bool.{and_left, and_right, or_from, or_parts, cond-false, not_from_true}
use Rattle.std.proofs.lemmas.Bool.Decides.{nat_tests}
use Rattle.std.specs.Char.{to_ascii_uppercase}
use Rattle.plc_text.specs.Text.{folded}
use Rattle.plc_text.specs.Words.{opens, begins, is_blank, is_digit, is_letter, is_word_character, is_word}
use Rattle.st_tree.specs.Terminal.{is_symbol, symbol_terminals}
use Rattle.st_tree.specs.Private.Terminal.{all_begin}
use Rattle.st_tree.specs.Pieces.{is_white_space, is_comment, is_pragma, is_int, is_time, is_address, is_whole_word, is_whole_symbol, opens_comment}
use Rattle.st_tree.proofs.TerminalLaws.{misses, found_is}
use Rattle.st_lexer.proofs.HeadLaws.{opens_front}

-- what fails where the first character is as it is here
by_first : (P : List ℕ → Bool) (test : ℕ → Bool) (b : Bool) → P [] ≡ false → ((c : ℕ) (xs : List ℕ) → test c ≡ b → P (c ∷ xs) ≡ false) → (text : List ℕ) → begins test text ≡ b → (m : ℕ) → P (take m text) ≡ false
by_first P test b nil each [] h zero = nil
by_first P test b nil each [] h (suc m) = nil
by_first P test b nil each (c ∷ cs) h zero = nil
by_first P test b nil each (c ∷ cs) h (suc m) = each c (take m cs) h

other_head : (x : ℕ) (word : List ℕ) (c : ℕ) (xs : List ℕ) → nat_eq (to_ascii_uppercase c) x ≡ false → opens (x ∷ word) (c ∷ xs) ≡ false
other_head x word c xs h = and_left _ _ h

pub no_white : (text : List ℕ) → begins is_blank text ≡ false → (m : ℕ) → is_white_space (take m text) ≡ false
no_white text h m = by_first is_white_space is_blank false refl each text h m
  where
    each : (c : ℕ) (xs : List ℕ) → is_blank c ≡ false → is_white_space (c ∷ xs) ≡ false
    each c [] h = h
    each c (x ∷ xs) h = refl

pub no_comment : (text : List ℕ) → opens_comment text ≡ false → (m : ℕ) → is_comment (take m text) ≡ false
unfolding is_comment
no_comment text h m =
    let first = or_parts (opens (codes "(*") text) (opens (codes "/*") text || opens (codes "//") text) h in
    let more = or_parts (opens (codes "/*") text) (opens (codes "//") text) first.1 in
    or_from _ _ (and_left _ _ (opens_front (codes "(*") text m first.0))
    (or_from _ _ (and_left _ _ (opens_front (codes "/*") text m more.0)) (and_left _ _ (opens_front (codes "//") text m more.1)))

pub no_pragma : (text : List ℕ) → begins (λ c. nat_eq c 123) text ≡ false → (m : ℕ) → is_pragma (take m text) ≡ false
unfolding is_pragma
no_pragma text h m = by_first is_pragma (λ c. nat_eq c 123) false refl each text h m
  where
    upper : (c : ℕ) → nat_eq c 123 ≡ false → nat_eq (to_ascii_uppercase c) 123 ≡ false
    upper c h = grind (arith, nat_tests)

    each : (c : ℕ) (xs : List ℕ) → nat_eq c 123 ≡ false → is_pragma (c ∷ xs) ≡ false
    each c xs h = and_left _ _ (other_head 123 [] c xs (upper c h))

pub no_int : (text : List ℕ) → begins is_digit text ≡ false → (m : ℕ) → is_int (take m text) ≡ false
unfolding is_int
no_int text h m = by_first is_int is_digit false refl each text h m
  where
    two : (c : ℕ) → is_digit c ≡ false → nat_eq (to_ascii_uppercase c) 50 ≡ false
    two c h = grind (arith, nat_tests)

    eight : (c : ℕ) → is_digit c ≡ false → nat_eq (to_ascii_uppercase c) 56 ≡ false
    eight c h = grind (arith, nat_tests)

    one : (c : ℕ) → is_digit c ≡ false → nat_eq (to_ascii_uppercase c) 49 ≡ false
    one c h = grind (arith, nat_tests)

    each : (c : ℕ) (xs : List ℕ) → is_digit c ≡ false → is_int (c ∷ xs) ≡ false
    each c xs h =
        or_from _ _ (cond-false (is_digit c) _ _ h ∙ and_right _ _ refl)
        (or_from _ _ (and_left _ _ (other_head 50 (codes "#") c xs (two c h)))
        (or_from _ _ (and_left _ _ (other_head 56 (codes "#") c xs (eight c h))) (and_left _ _ (other_head 49 (codes "6#") c xs (one c h)))))

pub no_time : (text : List ℕ) → begins is_letter text ≡ false → (m : ℕ) → is_time (take m text) ≡ false
unfolding is_time
no_time text h m = by_first is_time is_letter false refl each text h m
  where
    upper : (c : ℕ) → is_letter c ≡ false → nat_eq (to_ascii_uppercase c) 84 ≡ false
    upper c h = grind (arith, nat_tests)

    each : (c : ℕ) (xs : List ℕ) → is_letter c ≡ false → is_time (c ∷ xs) ≡ false
    each c xs h = or_from _ _ (and_left _ _ (other_head 84 (codes "#") c xs (upper c h))) (and_left _ _ (other_head 84 (codes "IME#") c xs (upper c h)))

pub no_address : (text : List ℕ) → begins (λ c. nat_eq c 37) text ≡ false → (m : ℕ) → is_address (take m text) ≡ false
unfolding is_address
no_address text h m = by_first is_address (λ c. nat_eq c 37) false refl each text h m
  where
    upper : (c : ℕ) → nat_eq c 37 ≡ false → nat_eq (to_ascii_uppercase c) 37 ≡ false
    upper c h = grind (arith, nat_tests)

    each : (c : ℕ) (xs : List ℕ) → nat_eq c 37 ≡ false → is_address (c ∷ xs) ≡ false
    each c xs h = and_left _ _
        (or_from _ _ (other_head 37 (codes "I") c xs (upper c h))
        (or_from _ _ (other_head 37 (codes "Q") c xs (upper c h)) (or_from _ _ (other_head 37 (codes "M") c xs (upper c h)) refl)))

pub no_plain_word : (text : List ℕ) → begins is_letter text ≡ false → (m : ℕ) → is_word (take m text) ≡ false
no_plain_word text h m = by_first is_word is_letter false refl (λ c xs h. and_left _ _ h) text h m

pub no_word : (text : List ℕ) → begins is_letter text ≡ false → (m : ℕ) → is_whole_word (take m text) (drop m text) ≡ false
unfolding is_whole_word
no_word text h m = and_left _ _ (no_plain_word text h m)

-- symbols

among_none : (test : ℕ → Bool) → all_begin test symbol_terminals ≡ true → (c : ℕ) (xs : List ℕ) → test (to_ascii_uppercase c) ≡ false → is_symbol (c ∷ xs) ≡ false
among_none test all c xs h = sym (found_is symbol_terminals (c ∷ xs)) ∙ ap is_some (misses test symbol_terminals (folded (c ∷ xs)) all h)

no_symbol_nil : is_symbol [] ≡ false
unfolding symbol_terminals
no_symbol_nil = refl

no_word_symbols : all_begin (λ c. not (is_word_character c)) symbol_terminals ≡ true
unfolding symbol_terminals
no_word_symbols = refl

no_percents : all_begin (λ c. not (nat_eq c 37)) symbol_terminals ≡ true
unfolding symbol_terminals
no_percents = refl

no_braces : all_begin (λ c. not (nat_eq c 123)) symbol_terminals ≡ true
unfolding symbol_terminals
no_braces = refl

pub no_symbol : (text : List ℕ) → begins is_word_character text ≡ true → (m : ℕ) → is_whole_symbol (take m text) (drop m text) ≡ false
unfolding is_whole_symbol
no_symbol text h m = and_left _ _ (by_first is_symbol is_word_character true no_symbol_nil each text h m)
  where
    upper : (c : ℕ) → is_word_character c ≡ true → is_word_character (to_ascii_uppercase c) ≡ true
    upper c h = grind (arith, nat_tests)

    each : (c : ℕ) (xs : List ℕ) → is_word_character c ≡ true → is_symbol (c ∷ xs) ≡ false
    each c xs h = among_none (λ c. not (is_word_character c)) no_word_symbols c xs (not_from_true _ (upper c h))

pub percent_no_symbol : (text : List ℕ) → begins (λ c. nat_eq c 37) text ≡ true → (m : ℕ) → is_whole_symbol (take m text) (drop m text) ≡ false
unfolding is_whole_symbol
percent_no_symbol text h m = and_left _ _ (by_first is_symbol (λ c. nat_eq c 37) true no_symbol_nil each text h m)
  where
    upper : (c : ℕ) → nat_eq c 37 ≡ true → nat_eq (to_ascii_uppercase c) 37 ≡ true
    upper c h = grind (arith, nat_tests)

    each : (c : ℕ) (xs : List ℕ) → nat_eq c 37 ≡ true → is_symbol (c ∷ xs) ≡ false
    each c xs h = among_none (λ c. not (nat_eq c 37)) no_percents c xs (not_from_true _ (upper c h))

pub brace_no_symbol : (text : List ℕ) → begins (λ c. nat_eq c 123) text ≡ true → (m : ℕ) → is_whole_symbol (take m text) (drop m text) ≡ false
unfolding is_whole_symbol
brace_no_symbol text h m = and_left _ _ (by_first is_symbol (λ c. nat_eq c 123) true no_symbol_nil each text h m)
  where
    upper : (c : ℕ) → nat_eq c 123 ≡ true → nat_eq (to_ascii_uppercase c) 123 ≡ true
    upper c h = grind (arith, nat_tests)

    each : (c : ℕ) (xs : List ℕ) → nat_eq c 123 ≡ true → is_symbol (c ∷ xs) ≡ false
    each c xs h = among_none (λ c. not (nat_eq c 123)) no_braces c xs (not_from_true _ (upper c h))

no_blanks : all_begin (λ c. not (is_blank c)) symbol_terminals ≡ true
unfolding symbol_terminals
no_blanks = refl

pub blank_no_symbol : (text : List ℕ) → begins is_blank text ≡ true → (m : ℕ) → is_whole_symbol (take m text) (drop m text) ≡ false
unfolding is_whole_symbol
blank_no_symbol text h m = and_left _ _ (by_first is_symbol is_blank true no_symbol_nil each text h m)
  where
    upper : (c : ℕ) → is_blank c ≡ true → is_blank (to_ascii_uppercase c) ≡ true
    upper c h = grind (arith, nat_tests)

    each : (c : ℕ) (xs : List ℕ) → is_blank c ≡ true → is_symbol (c ∷ xs) ≡ false
    each c xs h = among_none (λ c. not (is_blank c)) no_blanks c xs (not_from_true _ (upper c h))
