-- The longest piece at the front of a text, by the text's first character.
use Rattle.std.proofs.Common.{◌≡◌, ℕ, zero, suc, ◌+◌, ◌<◌, ◌≤◌, Bool, true, false, ◌&&◌, ◌||◌, not, List, [], ◌∷◌, ◌++◌, length, take, drop, refl, sym, ap, ◌∙◌, inl, inr, cond, nat_eq, codes, Option, Some, None, is_some, max, length-take, arith}
use Rattle.std.proofs.lemmas.Bool.{and_from, and_parts, and_left, and_right, or_from, or_left, or_right, or_cases, both_ways, cases_Bool, cases_order, cond-true, cond-false, false_from_ne_true, not_from_true, not_from_false}
use Rattle.std.proofs.lemmas.Bool.Decides.{nat_tests}
use Rattle.std.proofs.lemmas.List.{take-append-drop}
use Rattle.std.specs.List.{prefix_len, list_all}
use Rattle.std.specs.Char.{to_ascii_uppercase}
use Rattle.std.proofs.lemmas.List.Sums.{prefix_len-le-length}
use Rattle.plc_text.specs.Text.{folded}
use Rattle.plc_text.specs.Words.{is_one_of, spells, opens, begins, is_blank, is_digit, is_letter, is_word_character, is_word}
use Rattle.st_tree.specs.declared.terminal.Terminal.{Terminal}
use Rattle.st_tree.specs.declared.terminal.Terminal.TheVariants as x
use Rattle.st_tree.specs.declared.token.TokenKind.TheVariants.{Word, Keyword, Int, Time, Address, Symbol, Mark}
use Rattle.st_tree.specs.Terminal.{is_symbol, is_keyword, keyword_terminals, symbol_terminals, terminal_in}
use Rattle.st_tree.specs.Pieces.{is_white_space, is_comment, is_pragma, is_int, is_time, is_address, is_whole_word, is_whole_symbol, opens_comment, is_number_sign, is_piece}
use Rattle.st_tree.specs.Marks.{is_mark}
use Rattle.st_tree.specs.Token.{piece_kind}
use Rattle.st_tree.proofs.TerminalLaws.{found_is, no_symbol as no_long_symbol}
use Rattle.st_lexer.specs.Private.Piece.{IsLongest, IsLongestFront, BeginsPiece, BeginsToken, BeginsSymbol, line_feeds}
use Rattle.st_lexer.specs.Private.Reach.{comment_len, pragma_len, int_len, time_len, timed_len, address_len, word_len}
use Rattle.st_lexer.proofs.HeadLaws.{alone, either_front, opens_long}
use Rattle.st_lexer.proofs.RunLaws.{word_front, no_word as no_word_front}
use Rattle.st_lexer.proofs.FormLaws.{comment_front, pragma_front, int_front, time_front, address_front}
use Rattle.st_lexer.proofs.AsciiLaws.{all_spelled, ink_ascii, ink_feeds, mark_ascii, int_ink, time_ink, address_ink, word_ink, symbol_ink}
use Rattle.st_lexer.proofs.StartLaws.{no_white, no_comment, no_pragma, no_int, no_time, no_address, no_word, no_symbol, no_plain_word, percent_no_symbol, brace_no_symbol, blank_no_symbol}

-- words

in_run : (test : ℕ → Bool) (text : List ℕ) (m : ℕ) → m < prefix_len test text → begins test (drop m text) ≡ true
in_run test [] m h = absurd (omega arith)
in_run test (c ∷ cs) m h = elim (cases_Bool (test c)) [
  | inl holds ↦ more (λ k. in_run test cs k) m holds (let e : prefix_len test (c ∷ cs) ≡ 1 + prefix_len test cs = cond-true (test c) _ _ holds in omega arith)
  | inr fails ↦ absurd (let e : prefix_len test (c ∷ cs) ≡ 0 = cond-false (test c) _ _ fails in omega arith)
]
  where
    more : ((k : ℕ) → k < prefix_len test cs → begins test (drop k cs) ≡ true) → (m : ℕ) → test c ≡ true → m < 1 + prefix_len test cs → begins test (drop m (c ∷ cs)) ≡ true
    more rest zero holds h = holds
    more rest (suc m) holds h = rest m (omega arith)

behind_run : (test : ℕ → Bool) (text : List ℕ) → begins test (drop (prefix_len test text) text) ≡ false
behind_run test [] = refl
behind_run test (c ∷ cs) = elim (cases_Bool (test c)) [
  | inl holds ↦
      let e : prefix_len test (c ∷ cs) ≡ suc (prefix_len test cs) = cond-true (test c) _ _ holds ∙ omega arith in
      rw e (behind_run test cs)
  | inr fails ↦ let e : prefix_len test (c ∷ cs) ≡ 0 = cond-false (test c) _ _ fails in rw e fails
]

pub whole_word_front : (text : List ℕ) → IsLongestFront is_whole_word text (word_len text)
unfolding is_whole_word
whole_word_front text = elim (cases_Bool (begins is_letter text)) [
  | inr fails ↦
      let e : word_len text ≡ 0 = cond-true (not (begins is_letter text)) _ _ (not_from_false _ fails) in
      rw e (record { within = omega arith; passes = λ p. absurd (omega arith); longest = λ m past within. and_left _ _ ((no_word_front text fails).longest m past within) })
  | inl letter ↦ elim (cases_Bool stop) [
    | inl stops ↦
        let e : word_len text ≡ 0 = first letter ∙ cond-true stop 0 n stops in
        rw e (record {
          within = omega arith;
          passes = λ p. absurd (omega arith);
          longest = λ m past within. elim (cases_order m n) [
            | inl at ↦ rw at (and_right _ _ (and_right _ _ (not_from_true _ stops)))
            | inr other ↦ elim other [ inl less ↦ shorter m less | inr more ↦ and_left _ _ ((word_front text letter).longest m more within) ]
          ];
        })
    | inr goes ↦
        let e : word_len text ≡ n = first letter ∙ cond-false stop 0 n goes in
        rw e (record {
          within = prefix_len-le-length is_word_character text;
          passes = λ p. and_from _ _ ((word_front text letter).passes p) (and_from _ _ (not_from_false _ (behind_run is_word_character text)) (not_from_false _ goes));
          longest = λ m past within. and_left _ _ ((word_front text letter).longest m past within);
        })
  ]
]
  where
    n : ℕ
    n = prefix_len is_word_character text

    stop : Bool
    stop = is_one_of (codes "T" ∷ codes "TIME" ∷ []) (take n text) && begins is_number_sign (drop n text)

    first : begins is_letter text ≡ true → word_len text ≡ cond stop 0 n
    first letter = cond-false (not (begins is_letter text)) _ _ (not_from_true _ letter)

    shorter : (m : ℕ) → m < n → is_whole_word (take m text) (drop m text) ≡ false
    shorter m less = and_right _ _ (and_left _ _ (not_from_true _ (in_run is_word_character text m less)))

-- `T#` and `TIME#` begin no word

split_sign : (word text : List ℕ) → opens (word ++ codes "#") text ≡ true → (opens word text ≡ true) × (begins is_number_sign (drop (length word) text) ≡ true)
split_sign [] [] h = absurd (both_ways false refl h)
split_sign [] (c ∷ cs) h = (refl, grind (arith, nat_tests))
split_sign (x ∷ word) [] h = absurd (both_ways false refl h)
split_sign (x ∷ word) (c ∷ cs) h =
    let parts = and_parts (nat_eq (to_ascii_uppercase c) x) (opens (word ++ codes "#") cs) h in
    let rest = split_sign word cs parts.1 in
    (and_from _ _ parts.0 rest.0, rest.1)

caseless : (c x : ℕ) → nat_eq (to_ascii_uppercase c) x ≡ true → is_word_character x ≡ true → is_word_character c ≡ true
caseless c x h l = grind (arith, nat_tests)

no_sign : (c : ℕ) → is_number_sign c ≡ true → is_word_character c ≡ false
no_sign c h = grind (arith, nat_tests)

run_is : (text : List ℕ) (k : ℕ) → k ≤ length text → list_all is_word_character (take k text) ≡ true → begins is_number_sign (drop k text) ≡ true → prefix_len is_word_character text ≡ k
run_is [] zero room all h = refl
run_is [] (suc k) room all h = absurd (omega arith)
run_is (c ∷ cs) zero room all h = cond-false (is_word_character c) _ _ (no_sign c h)
run_is (c ∷ cs) (suc k) room all h =
    let parts = and_parts (is_word_character c) (list_all is_word_character (take k cs)) all in
    let rest = run_is cs k (omega arith) parts.1 h in
    cond-true (is_word_character c) _ _ parts.0 ∙ omega (arith, rest)

no_word_at : (text : List ℕ) (k : ℕ) → prefix_len is_word_character text ≡ k → is_one_of (codes "T" ∷ codes "TIME" ∷ []) (take k text) ≡ true → begins is_number_sign (drop k text) ≡ true → word_len text ≡ 0
no_word_at text k e one sign = elim (cases_Bool (begins is_letter text)) [
  | inr fails ↦ cond-true (not (begins is_letter text)) _ _ (not_from_false _ fails)
  | inl letter ↦
      cond-false (not (begins is_letter text)) _ _ (not_from_true _ letter)
      ∙ ap (λ n. cond (is_one_of (codes "T" ∷ codes "TIME" ∷ []) (take n text) && begins is_number_sign (drop n text)) 0 n) e
      ∙ cond-true (is_one_of (codes "T" ∷ codes "TIME" ∷ []) (take k text) && begins is_number_sign (drop k text)) 0 k (and_from _ _ one sign)
]

begins_no_word : (word text : List ℕ) → list_all is_word_character word ≡ true → ((front : List ℕ) → spells word front ≡ true → is_one_of (codes "T" ∷ codes "TIME" ∷ []) front ≡ true) → opens (word ++ codes "#") text ≡ true → word_len text ≡ 0
begins_no_word word text letters among h =
    let parts = split_sign word text h in
    no_word_at text (length word)
    (run_is text (length word) (opens_long word text parts.0) (all_spelled is_word_character caseless word (take (length word) text) letters parts.0) parts.1)
    (among (take (length word) text) parts.0) parts.1

-- what begins a word begins no time
pub no_time_word : (text : List ℕ) → 0 < word_len text → time_len text ≡ 0
no_time_word text some =
    let short : timed_len (codes "T#") text ≡ 0 = cond-false (opens (codes "T#") text) _ _ (false_from_ne_true _ (λ h. let e = begins_no_word (codes "T") text refl (λ front s. or_left _ _ s) h in omega arith)) in
    let long : timed_len (codes "TIME#") text ≡ 0 = cond-false (opens (codes "TIME#") text) _ _ (false_from_ne_true _ (λ h. let e = begins_no_word (codes "TIME") text refl (λ front s. or_right _ _ (or_left _ _ s)) h in omega arith)) in
    omega (arith, short, long)

-- symbols

symbol_long : (text : List ℕ) → (length text ≡ 1 → ⊥) → (length text ≡ 2 → ⊥) → is_symbol text ≡ false
symbol_long text one two = sym (found_is symbol_terminals text) ∙ ap is_some (sym (no_long_symbol text one two))

two_front : (text : List ℕ) → 2 ≤ length text → is_symbol (take 2 text) ≡ true → IsLongest is_symbol text 2
two_front text room two = record {
  within = room;
  passes = λ p. two;
  longest = λ m past within. symbol_long (take m text) (λ e. omega (arith, length-take m text)) (λ e. omega (arith, length-take m text));
}

at_two : (text : List ℕ) → (2 ≤ length text → is_symbol (take 2 text) ≡ false) → (m : ℕ) → 1 < m → m ≤ length text → is_symbol (take m text) ≡ false
at_two text no_two m past within = elim (cases_order m 2) [
  | inl e ↦ ap (λ k. is_symbol (take k text)) e ∙ no_two (omega arith)
  | inr other ↦ elim other [
    | inl less ↦ absurd (omega arith)
    | inr more ↦ symbol_long (take m text) (λ e. omega (arith, length-take m text)) (λ e. omega (arith, length-take m text))
  ]
]

one_front : (text : List ℕ) → 1 ≤ length text → (2 ≤ length text → is_symbol (take 2 text) ≡ false) → is_symbol (take 1 text) ≡ true → IsLongest is_symbol text 1
one_front text room no_two one = record { within = room; passes = λ p. one; longest = λ m past within. at_two text no_two m past within }

none_front : (text : List ℕ) → (2 ≤ length text → is_symbol (take 2 text) ≡ false) → is_symbol (take 1 text) ≡ false → IsLongest is_symbol text 0
none_front text no_two no_one = record {
  within = omega arith;
  passes = λ p. absurd (omega arith);
  longest = λ m past within. elim (cases_order m 1) [
    | inl e ↦ ap (λ k. is_symbol (take k text)) e ∙ no_one
    | inr other ↦ elim other [ inl less ↦ absurd (omega arith) | inr more ↦ at_two text no_two m more within ]
  ];
}

-- pieces of one form

skip : (a b x : Bool) → a ≡ false → b ≡ x → (a || b) ≡ x
skip a b x h e = ap (λ a. a || b) h ∙ e

keep : (a b : Bool) → b ≡ false → (a || b) ≡ a
keep true b h = refl
keep false b h = h

-- a front of pieces where no other form fits
of_form : (form : List ℕ → List ℕ → Bool) (text : List ℕ) (n : ℕ) → ((m : ℕ) → is_piece (take m text) (drop m text) ≡ form (take m text) (drop m text)) → IsLongestFront form text n → IsLongestFront is_piece text n
of_form form text n only front = record {
  within = front.within;
  passes = λ p. only n ∙ front.passes p;
  longest = λ m past within. only m ∙ front.longest m past within;
}

module _ (text : List ℕ) (m : ℕ) where
  abbrev front : List ℕ
  front = take m text

  abbrev rest : List ℕ
  rest = drop m text

  only_int : is_white_space front ≡ false → is_comment front ≡ false → is_pragma front ≡ false → is_time front ≡ false → is_address front ≡ false → is_whole_word front rest ≡ false → is_whole_symbol front rest ≡ false → is_piece front rest ≡ is_int front
  unfolding is_piece
  only_int white comment pragma time address word symbol =
      skip _ _ _ white (skip _ _ _ comment (skip _ _ _ pragma (keep _ _ (or_from _ _ time (or_from _ _ address (or_from _ _ word symbol))))))

  only_word : is_white_space front ≡ false → is_comment front ≡ false → is_pragma front ≡ false → is_int front ≡ false → is_address front ≡ false → is_whole_symbol front rest ≡ false → is_piece front rest ≡ (is_time front || is_whole_word front rest)
  unfolding is_piece
  only_word white comment pragma int address symbol =
      skip _ _ _ white (skip _ _ _ comment (skip _ _ _ pragma (skip _ _ _ int (ap (λ b. is_time front || b) (skip _ _ _ address (keep _ _ symbol))))))

  only_address : is_white_space front ≡ false → is_comment front ≡ false → is_pragma front ≡ false → is_int front ≡ false → is_time front ≡ false → is_whole_word front rest ≡ false → is_whole_symbol front rest ≡ false → is_piece front rest ≡ is_address front
  unfolding is_piece
  only_address white comment pragma int time word symbol =
      skip _ _ _ white (skip _ _ _ comment (skip _ _ _ pragma (skip _ _ _ int (skip _ _ _ time (keep _ _ (or_from _ _ word symbol))))))

  only_pragma : is_white_space front ≡ false → is_comment front ≡ false → is_int front ≡ false → is_time front ≡ false → is_address front ≡ false → is_whole_word front rest ≡ false → is_whole_symbol front rest ≡ false → is_piece front rest ≡ is_pragma front
  unfolding is_piece
  only_pragma white comment int time address word symbol =
      skip _ _ _ white (skip _ _ _ comment (keep _ _ (or_from _ _ int (or_from _ _ time (or_from _ _ address (or_from _ _ word symbol))))))

  only_comment : is_white_space front ≡ false → is_pragma front ≡ false → is_int front ≡ false → is_time front ≡ false → is_address front ≡ false → is_whole_word front rest ≡ false → is_whole_symbol front rest ≡ false → is_piece front rest ≡ is_comment front
  unfolding is_piece
  only_comment white pragma int time address word symbol =
      skip _ _ _ white (keep _ _ (or_from _ _ pragma (or_from _ _ int (or_from _ _ time (or_from _ _ address (or_from _ _ word symbol))))))

  only_symbol : is_white_space front ≡ false → is_comment front ≡ false → is_pragma front ≡ false → is_int front ≡ false → is_time front ≡ false → is_address front ≡ false → is_whole_word front rest ≡ false → is_piece front rest ≡ is_whole_symbol front rest
  unfolding is_piece
  only_symbol white comment pragma int time address word =
      skip _ _ _ white (skip _ _ _ comment (skip _ _ _ pragma (skip _ _ _ int (skip _ _ _ time (skip _ _ _ address (skip _ _ _ word refl))))))

-- what a piece of one form is

module _ (piece : List ℕ) where
  kind_int : is_white_space piece ≡ false → is_comment piece ≡ false → is_pragma piece ≡ false → is_int piece ≡ true → piece_kind piece ≡ Some Int
  unfolding piece_kind
  kind_int white comment pragma int =
      cond-false (is_white_space piece || is_comment piece) _ _ (or_from _ _ white comment)
      ∙ cond-false (is_pragma piece) _ _ pragma ∙ cond-true (is_int piece) _ _ int

  kind_time : is_white_space piece ≡ false → is_comment piece ≡ false → is_pragma piece ≡ false → is_int piece ≡ false → is_time piece ≡ true → piece_kind piece ≡ Some Time
  unfolding piece_kind
  kind_time white comment pragma int time =
      cond-false (is_white_space piece || is_comment piece) _ _ (or_from _ _ white comment)
      ∙ cond-false (is_pragma piece) _ _ pragma ∙ cond-false (is_int piece) _ _ int ∙ cond-true (is_time piece) _ _ time

  kind_address : is_white_space piece ≡ false → is_comment piece ≡ false → is_pragma piece ≡ false → is_int piece ≡ false → is_time piece ≡ false → is_address piece ≡ true → piece_kind piece ≡ Some Address
  unfolding piece_kind
  kind_address white comment pragma int time address =
      cond-false (is_white_space piece || is_comment piece) _ _ (or_from _ _ white comment)
      ∙ cond-false (is_pragma piece) _ _ pragma ∙ cond-false (is_int piece) _ _ int ∙ cond-false (is_time piece) _ _ time ∙ cond-true (is_address piece) _ _ address

  kind_word : is_white_space piece ≡ false → is_comment piece ≡ false → is_pragma piece ≡ false → is_int piece ≡ false → is_time piece ≡ false → is_address piece ≡ false → is_word piece ≡ true → piece_kind piece ≡ Some (cond (is_keyword piece) Keyword Word)
  unfolding piece_kind
  kind_word white comment pragma int time address word =
      cond-false (is_white_space piece || is_comment piece) _ _ (or_from _ _ white comment)
      ∙ cond-false (is_pragma piece) _ _ pragma ∙ cond-false (is_int piece) _ _ int ∙ cond-false (is_time piece) _ _ time ∙ cond-false (is_address piece) _ _ address
      ∙ cond-true (is_word piece) _ _ word

  kind_symbol : is_white_space piece ≡ false → is_comment piece ≡ false → is_pragma piece ≡ false → is_int piece ≡ false → is_time piece ≡ false → is_address piece ≡ false → is_word piece ≡ false → piece_kind piece ≡ Some Symbol
  unfolding piece_kind
  kind_symbol white comment pragma int time address word =
      cond-false (is_white_space piece || is_comment piece) _ _ (or_from _ _ white comment)
      ∙ cond-false (is_pragma piece) _ _ pragma ∙ cond-false (is_int piece) _ _ int ∙ cond-false (is_time piece) _ _ time ∙ cond-false (is_address piece) _ _ address
      ∙ cond-false (is_word piece) _ _ word

  kind_pragma : is_white_space piece ≡ false → is_comment piece ≡ false → is_pragma piece ≡ true → piece_kind piece ≡ cond (is_mark piece) (Some Mark) None
  unfolding piece_kind
  kind_pragma white comment pragma =
      cond-false (is_white_space piece || is_comment piece) _ _ (or_from _ _ white comment)
      ∙ cond-true (is_pragma piece) _ _ pragma

  kind_comment : is_comment piece ≡ true → piece_kind piece ≡ None
  unfolding piece_kind
  kind_comment comment = cond-true (is_white_space piece || is_comment piece) _ _ (or_right _ _ comment)

-- ---- what a text begins with

-- characters that begin none of some forms

blank_no_letter : (c : ℕ) → is_blank c ≡ true → is_letter c ≡ false
blank_no_letter c h = grind (arith, nat_tests)

blank_no_digit : (c : ℕ) → is_blank c ≡ true → is_digit c ≡ false
blank_no_digit c h = grind (arith, nat_tests)

blank_no_percent : (c : ℕ) → is_blank c ≡ true → nat_eq c 37 ≡ false
blank_no_percent c h = grind (arith, nat_tests)

blank_no_brace : (c : ℕ) → is_blank c ≡ true → nat_eq c 123 ≡ false
blank_no_brace c h = grind (arith, nat_tests)

digit_no_blank : (c : ℕ) → is_digit c ≡ true → is_blank c ≡ false
digit_no_blank c h = grind (arith, nat_tests)

digit_no_letter : (c : ℕ) → is_digit c ≡ true → is_letter c ≡ false
digit_no_letter c h = grind (arith, nat_tests)

digit_no_percent : (c : ℕ) → is_digit c ≡ true → nat_eq c 37 ≡ false
digit_no_percent c h = grind (arith, nat_tests)

digit_no_brace : (c : ℕ) → is_digit c ≡ true → nat_eq c 123 ≡ false
digit_no_brace c h = grind (arith, nat_tests)

digit_in_word : (c : ℕ) → is_digit c ≡ true → is_word_character c ≡ true
digit_in_word c h = or_right _ _ h

letter_no_blank : (c : ℕ) → is_letter c ≡ true → is_blank c ≡ false
letter_no_blank c h = grind (arith, nat_tests)

letter_no_digit : (c : ℕ) → is_letter c ≡ true → is_digit c ≡ false
letter_no_digit c h = grind (arith, nat_tests)

letter_no_percent : (c : ℕ) → is_letter c ≡ true → nat_eq c 37 ≡ false
letter_no_percent c h = grind (arith, nat_tests)

letter_no_brace : (c : ℕ) → is_letter c ≡ true → nat_eq c 123 ≡ false
letter_no_brace c h = grind (arith, nat_tests)

letter_in_word : (c : ℕ) → is_letter c ≡ true → is_word_character c ≡ true
letter_in_word c h = or_left _ _ h

percent_no_blank : (c : ℕ) → nat_eq c 37 ≡ true → is_blank c ≡ false
percent_no_blank c h = grind (arith, nat_tests)

percent_no_letter : (c : ℕ) → nat_eq c 37 ≡ true → is_letter c ≡ false
percent_no_letter c h = grind (arith, nat_tests)

percent_no_digit : (c : ℕ) → nat_eq c 37 ≡ true → is_digit c ≡ false
percent_no_digit c h = grind (arith, nat_tests)

percent_no_brace : (c : ℕ) → nat_eq c 37 ≡ true → nat_eq c 123 ≡ false
percent_no_brace c h = grind (arith, nat_tests)

brace_no_blank : (c : ℕ) → nat_eq c 123 ≡ true → is_blank c ≡ false
brace_no_blank c h = grind (arith, nat_tests)

brace_no_letter : (c : ℕ) → nat_eq c 123 ≡ true → is_letter c ≡ false
brace_no_letter c h = grind (arith, nat_tests)

brace_no_digit : (c : ℕ) → nat_eq c 123 ≡ true → is_digit c ≡ false
brace_no_digit c h = grind (arith, nat_tests)

brace_no_percent : (c : ℕ) → nat_eq c 123 ≡ true → nat_eq c 37 ≡ false
brace_no_percent c h = grind (arith, nat_tests)

-- what the first character of a text does not pass, where it passes another test
apart : (test other : ℕ → Bool) → ((c : ℕ) → test c ≡ true → other c ≡ false) → (text : List ℕ) → begins test text ≡ true → begins other text ≡ false
apart test other each [] h = absurd (both_ways false refl h)
apart test other each (c ∷ cs) h = each c h

within_test : (test other : ℕ → Bool) → ((c : ℕ) → test c ≡ true → other c ≡ true) → (text : List ℕ) → begins test text ≡ true → begins other text ≡ true
within_test test other each [] h = absurd (both_ways false refl h)
within_test test other each (c ∷ cs) h = each c h

-- a comment begins with `(` or `/`
no_opening : (test : ℕ → Bool) → ((c : ℕ) → test c ≡ true → nat_eq (to_ascii_uppercase c) 40 ≡ false) → ((c : ℕ) → test c ≡ true → nat_eq (to_ascii_uppercase c) 47 ≡ false) → (text : List ℕ) → begins test text ≡ true → opens_comment text ≡ false
no_opening test paren slash [] h = absurd (both_ways false refl h)
no_opening test paren slash (c ∷ cs) h = or_from _ _ (and_left _ _ (paren c h)) (or_from _ _ (and_left _ _ (slash c h)) (and_left _ _ (slash c h)))

blank_no_comment : (text : List ℕ) → begins is_blank text ≡ true → opens_comment text ≡ false
blank_no_comment text h = no_opening is_blank (λ c h. grind (arith, nat_tests)) (λ c h. grind (arith, nat_tests)) text h

digit_no_comment : (text : List ℕ) → begins is_digit text ≡ true → opens_comment text ≡ false
digit_no_comment text h = no_opening is_digit (λ c h. grind (arith, nat_tests)) (λ c h. grind (arith, nat_tests)) text h

letter_no_comment : (text : List ℕ) → begins is_letter text ≡ true → opens_comment text ≡ false
letter_no_comment text h = no_opening is_letter (λ c h. grind (arith, nat_tests)) (λ c h. grind (arith, nat_tests)) text h

percent_no_comment : (text : List ℕ) → begins (λ c. nat_eq c 37) text ≡ true → opens_comment text ≡ false
percent_no_comment text h = no_opening (λ c. nat_eq c 37) (λ c h. grind (arith, nat_tests)) (λ c h. grind (arith, nat_tests)) text h

brace_no_comment : (text : List ℕ) → begins (λ c. nat_eq c 123) text ≡ true → opens_comment text ≡ false
brace_no_comment text h = no_opening (λ c. nat_eq c 123) (λ c h. grind (arith, nat_tests)) (λ c h. grind (arith, nat_tests)) text h

-- white space

white_one : (text : List ℕ) → begins is_blank text ≡ true → is_white_space (take 1 text) ≡ true
white_one [] h = absurd (both_ways false refl h)
white_one (c ∷ cs) h = h

white_more : (text : List ℕ) (m : ℕ) → 1 < m → m ≤ length text → is_white_space (take m text) ≡ false
white_more text zero past within = absurd (omega arith)
white_more text (suc zero) past within = absurd (omega arith)
white_more [] (suc (suc m)) past within = absurd (omega arith)
white_more (c ∷ []) (suc (suc m)) past within = absurd (omega arith)
white_more (c ∷ d ∷ cs) (suc (suc m)) past within = refl

begins_some : (test : ℕ → Bool) (text : List ℕ) → begins test text ≡ true → 1 ≤ length text
begins_some test [] h = absurd (both_ways false refl h)
begins_some test (c ∷ cs) h = omega arith

kind_white : (piece : List ℕ) → is_white_space piece ≡ true → piece_kind piece ≡ None
unfolding piece_kind
kind_white piece white = cond-true (is_white_space piece || is_comment piece) _ _ (or_left _ _ white)

only_white : (text : List ℕ) → begins is_blank text ≡ true → (m : ℕ) → is_piece (take m text) (drop m text) ≡ is_white_space (take m text)
unfolding is_piece
only_white text h m =
    keep _ _ (or_from _ _ (no_comment text (blank_no_comment text h) m)
    (or_from _ _ (no_pragma text (apart is_blank (λ c. nat_eq c 123) blank_no_brace text h) m)
    (or_from _ _ (no_int text (apart is_blank is_digit blank_no_digit text h) m)
    (or_from _ _ (no_time text (apart is_blank is_letter blank_no_letter text h) m)
    (or_from _ _ (no_address text (apart is_blank (λ c. nat_eq c 37) blank_no_percent text h) m)
    (or_from _ _ (no_word text (apart is_blank is_letter blank_no_letter text h) m) (blank_no_symbol text h m)))))))

-- one character of white space is a piece
pub blank_piece : (text : List ℕ) → begins is_blank text ≡ true → BeginsPiece text 1 None
blank_piece text h = record {
  some = omega arith;
  front = record {
    within = begins_some is_blank text h;
    passes = λ p. only_white text h 1 ∙ white_one text h;
    longest = λ m past within. only_white text h m ∙ white_more text m past within;
  };
  kind-is = kind_white (take 1 text) (white_one text h);
}

-- ints

module _ (text : List ℕ) (h : begins is_digit text ≡ true) (m : ℕ) where
  int_white : is_white_space (take m text) ≡ false
  int_white = no_white text (apart is_digit is_blank digit_no_blank text h) m

  int_comment : is_comment (take m text) ≡ false
  int_comment = no_comment text (digit_no_comment text h) m

  int_pragma : is_pragma (take m text) ≡ false
  int_pragma = no_pragma text (apart is_digit (λ c. nat_eq c 123) digit_no_brace text h) m

  int_only : is_piece (take m text) (drop m text) ≡ is_int (take m text)
  int_only = only_int text m int_white int_comment int_pragma
      (no_time text (apart is_digit is_letter digit_no_letter text h) m)
      (no_address text (apart is_digit (λ c. nat_eq c 37) digit_no_percent text h) m)
      (no_word text (apart is_digit is_letter digit_no_letter text h) m)
      (no_symbol text (within_test is_digit is_word_character digit_in_word text h) m)

one_digit : (text : List ℕ) → begins is_digit text ≡ true → is_int (take 1 text) ≡ true
unfolding is_int
one_digit [] h = absurd (both_ways false refl h)
one_digit (c ∷ cs) h = or_left _ _ (cond-true (is_digit c) _ _ h)

int_some : (text : List ℕ) → begins is_digit text ≡ true → 0 < int_len text
int_some text h = elim (cases_order (int_len text) 0) [
  | inl e ↦ absurd (both_ways _ ((int_front text).longest 1 (omega arith) (begins_some is_digit text h)) (one_digit text h))
  | inr other ↦ elim other [ inl less ↦ absurd (omega arith) | inr more ↦ more ]
]

pub int_token : (text : List ℕ) → begins is_digit text ≡ true → BeginsToken text (int_len text) Int (Some x.Int) × (line_feeds (take (int_len text) text) ≡ 0)
int_token text h =
    let n = int_len text in
    let int : is_int (take n text) ≡ true = (int_front text).passes (int_some text h) in (
      record {
        piece = record {
          some = int_some text h;
          front = of_form (λ front rest. is_int front) text n (int_only text h) (alone is_int text n (int_front text));
          kind-is = kind_int (take n text) (int_white text h n) (int_comment text h n) (int_pragma text h n) int;
        };
        ascii = ink_ascii (take n text) (int_ink (take n text) int);
        terminal-is = refl;
      },
      ink_feeds (take n text) (int_ink (take n text) int),
    )

-- words and times

module _ (text : List ℕ) (h : begins is_letter text ≡ true) (m : ℕ) where
  word_white : is_white_space (take m text) ≡ false
  word_white = no_white text (apart is_letter is_blank letter_no_blank text h) m

  word_comment : is_comment (take m text) ≡ false
  word_comment = no_comment text (letter_no_comment text h) m

  word_pragma : is_pragma (take m text) ≡ false
  word_pragma = no_pragma text (apart is_letter (λ c. nat_eq c 123) letter_no_brace text h) m

  word_int : is_int (take m text) ≡ false
  word_int = no_int text (apart is_letter is_digit letter_no_digit text h) m

  word_address : is_address (take m text) ≡ false
  word_address = no_address text (apart is_letter (λ c. nat_eq c 37) letter_no_percent text h) m

  word_only : is_piece (take m text) (drop m text) ≡ (is_time (take m text) || is_whole_word (take m text) (drop m text))
  word_only = only_word text m word_white word_comment word_pragma word_int word_address
      (no_symbol text (within_test is_letter is_word_character letter_in_word text h) m)

word_piece_front : (text : List ℕ) → begins is_letter text ≡ true → IsLongestFront is_piece text (max (time_len text) (word_len text))
word_piece_front text h =
    of_form (λ front rest. is_time front || is_whole_word front rest) text _ (word_only text h)
    (either_front _ _ text _ _ (alone is_time text _ (time_front text)) (whole_word_front text))

whole_is_word : (text behind : List ℕ) → is_whole_word text behind ≡ true → is_word text ≡ true
unfolding is_whole_word
whole_is_word text behind h = (and_parts (is_word text) _ h).0

module _ (text : List ℕ) (h : begins is_letter text ≡ true) (some : 0 < word_len text) where
  abbrev n : ℕ
  n = word_len text

  is_word_there : is_word (take n text) ≡ true
  is_word_there = whole_is_word (take n text) (drop n text) ((whole_word_front text).passes some)

  word_begins : BeginsPiece text n (Some (cond (is_keyword (take n text)) Keyword Word))
  word_begins = record {
    some = some;
    front = (let e : max (time_len text) n ≡ n = omega (arith, no_time_word text some) in rw e at (word_piece_front text h));
    kind-is = kind_word (take n text) (word_white text h n) (word_comment text h n) (word_pragma text h n) (word_int text h n)
        ((time_front text).longest n (omega (arith, no_time_word text some)) (whole_word_front text).within) (word_address text h n) is_word_there;
  }

  pub word_feeds : line_feeds (take n text) ≡ 0
  word_feeds = ink_feeds (take n text) (word_ink (take n text) is_word_there)

  -- whether the word is a keyword is told by looking it up
  keyword_is : is_keyword (take n text) ≡ is_some (terminal_in keyword_terminals (folded (take n text)))
  keyword_is = sym (found_is keyword_terminals (take n text))

  pub keyword_token : (t : Terminal) → Some t ≡ terminal_in keyword_terminals (folded (take n text)) → BeginsToken text n Keyword (Some t)
  keyword_token t e = record {
    piece = (let k : cond (is_keyword (take n text)) Keyword Word ≡ Keyword = cond-true (is_keyword (take n text)) _ _ (keyword_is ∙ ap is_some (sym e)) in rw k at word_begins);
    ascii = ink_ascii (take n text) (word_ink (take n text) is_word_there);
    terminal-is = e;
  }

  pub word_token : None ≡ terminal_in keyword_terminals (folded (take n text)) → BeginsToken text n Word (Some x.Word)
  word_token e = record {
    piece = (let k : cond (is_keyword (take n text)) Keyword Word ≡ Word = cond-false (is_keyword (take n text)) _ _ (keyword_is ∙ ap is_some (sym e)) in rw k at word_begins);
    ascii = ink_ascii (take n text) (word_ink (take n text) is_word_there);
    terminal-is = refl;
  }

time_piece_front : (text : List ℕ) → begins is_letter text ≡ true → word_len text ≡ 0 → IsLongestFront is_piece text (time_len text)
time_piece_front text h none = let e : max (time_len text) (word_len text) ≡ time_len text = omega arith in rw e at (word_piece_front text h)

pub time_bad : (text : List ℕ) → begins is_letter text ≡ true → word_len text ≡ 0 → time_len text ≡ 0 → IsLongestFront is_piece text 0
time_bad text h none e = rw e at (time_piece_front text h none)

pub time_token : (text : List ℕ) → begins is_letter text ≡ true → word_len text ≡ 0 → 0 < time_len text → BeginsToken text (time_len text) Time (Some x.Duration) × (line_feeds (take (time_len text) text) ≡ 0)
time_token text h none some =
    let n = time_len text in
    let time : is_time (take n text) ≡ true = (time_front text).passes some in (
      record {
        piece = record {
          some = some;
          front = time_piece_front text h none;
          kind-is = kind_time (take n text) (word_white text h n) (word_comment text h n) (word_pragma text h n) (word_int text h n) time;
        };
        ascii = ink_ascii (take n text) (time_ink (take n text) time);
        terminal-is = refl;
      },
      ink_feeds (take n text) (time_ink (take n text) time),
    )

-- addresses

module _ (text : List ℕ) (h : begins (λ c. nat_eq c 37) text ≡ true) where
  address_white : (m : ℕ) → is_white_space (take m text) ≡ false
  address_white m = no_white text (apart (λ c. nat_eq c 37) is_blank percent_no_blank text h) m

  address_comment : (m : ℕ) → is_comment (take m text) ≡ false
  address_comment m = no_comment text (percent_no_comment text h) m

  address_pragma : (m : ℕ) → is_pragma (take m text) ≡ false
  address_pragma m = no_pragma text (apart (λ c. nat_eq c 37) (λ c. nat_eq c 123) percent_no_brace text h) m

  address_int : (m : ℕ) → is_int (take m text) ≡ false
  address_int m = no_int text (apart (λ c. nat_eq c 37) is_digit percent_no_digit text h) m

  address_time : (m : ℕ) → is_time (take m text) ≡ false
  address_time m = no_time text (apart (λ c. nat_eq c 37) is_letter percent_no_letter text h) m

  address_only : (m : ℕ) → is_piece (take m text) (drop m text) ≡ is_address (take m text)
  address_only m = only_address text m (address_white m) (address_comment m) (address_pragma m) (address_int m) (address_time m)
      (no_word text (apart (λ c. nat_eq c 37) is_letter percent_no_letter text h) m)
      (percent_no_symbol text h m)

  address_piece_front : IsLongestFront is_piece text (address_len text)
  address_piece_front = of_form (λ front rest. is_address front) text _ address_only (alone is_address text _ (address_front text))

  pub address_bad : address_len text ≡ 0 → IsLongestFront is_piece text 0
  address_bad e = rw e at address_piece_front

  pub address_token : 0 < address_len text → BeginsToken text (address_len text) Address (Some x.Address) × (line_feeds (take (address_len text) text) ≡ 0)
  address_token some =
      let n = address_len text in
      let address : is_address (take n text) ≡ true = (address_front text).passes some in (
        record {
          piece = record {
            some = some;
            front = address_piece_front;
            kind-is = kind_address (take n text) (address_white n) (address_comment n) (address_pragma n) (address_int n) (address_time n) address;
          };
          ascii = ink_ascii (take n text) (address_ink (take n text) address);
          terminal-is = refl;
        },
        ink_feeds (take n text) (address_ink (take n text) address),
      )

-- pragmas

module _ (text : List ℕ) (h : begins (λ c. nat_eq c 123) text ≡ true) where
  pragma_white : (m : ℕ) → is_white_space (take m text) ≡ false
  pragma_white m = no_white text (apart (λ c. nat_eq c 123) is_blank brace_no_blank text h) m

  pragma_comment : (m : ℕ) → is_comment (take m text) ≡ false
  pragma_comment m = no_comment text (brace_no_comment text h) m

  pragma_only : (m : ℕ) → is_piece (take m text) (drop m text) ≡ is_pragma (take m text)
  pragma_only m = only_pragma text m (pragma_white m) (pragma_comment m)
      (no_int text (apart (λ c. nat_eq c 123) is_digit brace_no_digit text h) m)
      (no_time text (apart (λ c. nat_eq c 123) is_letter brace_no_letter text h) m)
      (no_address text (apart (λ c. nat_eq c 123) (λ c. nat_eq c 37) brace_no_percent text h) m)
      (no_word text (apart (λ c. nat_eq c 123) is_letter brace_no_letter text h) m)
      (brace_no_symbol text h m)

  pragma_piece_front : IsLongestFront is_piece text (pragma_len text)
  pragma_piece_front = of_form (λ front rest. is_pragma front) text _ pragma_only (alone is_pragma text _ (pragma_front text))

  pub pragma_bad : pragma_len text ≡ 0 → IsLongestFront is_piece text 0
  pragma_bad e = rw e at pragma_piece_front

  pragma_begins : 0 < pragma_len text → BeginsPiece text (pragma_len text) (cond (is_mark (take (pragma_len text) text)) (Some Mark) None)
  pragma_begins some = record {
    some = some;
    front = pragma_piece_front;
    kind-is = kind_pragma (take (pragma_len text) text) (pragma_white (pragma_len text)) (pragma_comment (pragma_len text)) ((pragma_front text).passes some);
  }

  pub pragma_passed : 0 < pragma_len text → is_mark (take (pragma_len text) text) ≡ false → BeginsPiece text (pragma_len text) None
  pragma_passed some other = let e : cond (is_mark (take (pragma_len text) text)) (Some Mark) None ≡ None = cond-false (is_mark (take (pragma_len text) text)) _ _ other in rw e at (pragma_begins some)

  pub mark_token : 0 < pragma_len text → is_mark (take (pragma_len text) text) ≡ true → BeginsToken text (pragma_len text) Mark None
  mark_token some mark = record {
    piece = (let e : cond (is_mark (take (pragma_len text) text)) (Some Mark) None ≡ Some Mark = cond-true (is_mark (take (pragma_len text) text)) _ _ mark in rw e at (pragma_begins some));
    ascii = mark_ascii (take (pragma_len text) text) mark;
    terminal-is = refl;
  }

-- comments

first_is : (x : ℕ) (word text : List ℕ) (test : ℕ → Bool) → is_letter x ≡ false → test x ≡ false → opens (x ∷ word) text ≡ true → begins test text ≡ false
first_is x word [] test other fails h = refl
first_is x word (c ∷ cs) test other fails h =
    let e : c ≡ x = same_sign c x other (and_parts (nat_eq (to_ascii_uppercase c) x) _ h).0 in
    ap test e ∙ fails
  where
    same_sign : (c x : ℕ) → is_letter x ≡ false → nat_eq (to_ascii_uppercase c) x ≡ true → c ≡ x
    same_sign c x other h = grind (arith, nat_tests)

opening_first : (test : ℕ → Bool) → test 40 ≡ false → test 47 ≡ false → (text : List ℕ) → opens_comment text ≡ true → begins test text ≡ false
opening_first test paren slash text h = elim (or_cases (opens (codes "(*") text) (opens (codes "/*") text || opens (codes "//") text) h) [
  | inl p ↦ first_is 40 (codes "*") text test refl paren p
  | inr h ↦ elim (or_cases (opens (codes "/*") text) (opens (codes "//") text) h) [
    | inl p ↦ first_is 47 (codes "*") text test refl slash p
    | inr p ↦ first_is 47 (codes "/") text test refl slash p
  ]
]

commented_no_symbol : (text : List ℕ) → opens_comment text ≡ true → (m : ℕ) → is_whole_symbol (take m text) (drop m text) ≡ false
unfolding is_whole_symbol
commented_no_symbol text h m = and_right _ _ (ap (λ t. not (opens_comment t)) (take-append-drop m text) ∙ not_from_true _ h)

module _ (text : List ℕ) (h : opens_comment text ≡ true) where
  comment_first : (test : ℕ → Bool) → test 40 ≡ false → test 47 ≡ false → begins test text ≡ false
  comment_first test paren slash = opening_first test paren slash text h

  comment_only : (m : ℕ) → is_piece (take m text) (drop m text) ≡ is_comment (take m text)
  comment_only m = only_comment text m (no_white text (comment_first is_blank refl refl) m)
      (no_pragma text (comment_first (λ c. nat_eq c 123) refl refl) m) (no_int text (comment_first is_digit refl refl) m)
      (no_time text (comment_first is_letter refl refl) m) (no_address text (comment_first (λ c. nat_eq c 37) refl refl) m)
      (no_word text (comment_first is_letter refl refl) m) (commented_no_symbol text h m)

  comment_piece_front : IsLongestFront is_piece text (comment_len text)
  comment_piece_front = of_form (λ front rest. is_comment front) text _ comment_only (alone is_comment text _ (comment_front text))

  pub comment_bad : comment_len text ≡ 0 → IsLongestFront is_piece text 0
  comment_bad e = rw e at comment_piece_front

  pub comment_passed : 0 < comment_len text → BeginsPiece text (comment_len text) None
  comment_passed some = record {
    some = some;
    front = comment_piece_front;
    kind-is = kind_comment (take (comment_len text) text) ((comment_front text).passes some);
  }

-- symbols

weaker : (test other : ℕ → Bool) → ((c : ℕ) → other c ≡ true → test c ≡ true) → (text : List ℕ) → begins test text ≡ false → begins other text ≡ false
weaker test other each [] h = refl
weaker test other each (c ∷ cs) h = false_from_ne_true _ (λ o. both_ways _ h (each c o))

free_symbol_front : (text : List ℕ) (n : ℕ) → opens_comment text ≡ false → IsLongest is_symbol text n → IsLongestFront is_whole_symbol text n
unfolding is_whole_symbol
free_symbol_front text n free front = record {
  within = front.within;
  passes = λ p. and_from _ _ (front.passes p) (ap (λ t. not (opens_comment t)) (take-append-drop n text) ∙ not_from_false _ free);
  longest = λ m past within. and_left _ _ (front.longest m past within);
}

module _ (text : List ℕ) (h : BeginsSymbol text) where
  no_letter_there : begins is_letter text ≡ false
  no_letter_there = weaker is_word_character is_letter letter_in_word text h.no-word

  no_digit_there : begins is_digit text ≡ false
  no_digit_there = weaker is_word_character is_digit digit_in_word text h.no-word

  symbol_only : (m : ℕ) → is_piece (take m text) (drop m text) ≡ is_whole_symbol (take m text) (drop m text)
  symbol_only m = only_symbol text m (no_white text h.no-blank m) (no_comment text h.no-comment m) (no_pragma text h.no-pragma m)
      (no_int text no_digit_there m) (no_time text no_letter_there m) (no_address text h.no-address m) (no_word text no_letter_there m)

  symbol_piece_front : (n : ℕ) → IsLongest is_symbol text n → IsLongestFront is_piece text n
  symbol_piece_front n front = of_form is_whole_symbol text n symbol_only (free_symbol_front text n h.no-comment front)

  symbol_begins : (n : ℕ) → 0 < n → IsLongest is_symbol text n → BeginsPiece text n (Some Symbol)
  symbol_begins n some front = record {
    some = some;
    front = symbol_piece_front n front;
    kind-is = kind_symbol (take n text) (no_white text h.no-blank n) (no_comment text h.no-comment n) (no_pragma text h.no-pragma n)
        (no_int text no_digit_there n) (no_time text no_letter_there n) (no_address text h.no-address n) (no_plain_word text no_letter_there n);
  }

  symbol_token : (n : ℕ) (t : Terminal) → 0 < n → IsLongest is_symbol text n → Some t ≡ terminal_in symbol_terminals (folded (take n text)) → BeginsToken text n Symbol (Some t) × (line_feeds (take n text) ≡ 0)
  symbol_token n t some front e =
      let symbol : is_symbol (take n text) ≡ true = front.passes some in (
        record {
          piece = symbol_begins n some front;
          ascii = ink_ascii (take n text) (symbol_ink (take n text) symbol);
          terminal-is = e;
        },
        ink_feeds (take n text) (symbol_ink (take n text) symbol),
      )

  told : (n : ℕ) (r : Option Terminal) → r ≡ terminal_in symbol_terminals (folded (take n text)) → is_symbol (take n text) ≡ is_some r
  told n r e = sym (found_is symbol_terminals (take n text)) ∙ ap is_some (sym e)

  pub two_token : (t : Terminal) → 2 ≤ length text → Some t ≡ terminal_in symbol_terminals (folded (take 2 text)) → BeginsToken text 2 Symbol (Some t) × (line_feeds (take 2 text) ≡ 0)
  two_token t room e = symbol_token 2 t (omega arith) (two_front text room (told 2 (Some t) e)) e

  pub one_token : (t : Terminal) → (2 ≤ length text → None ≡ terminal_in symbol_terminals (folded (take 2 text))) → Some t ≡ terminal_in symbol_terminals (folded (take 1 text)) → BeginsToken text 1 Symbol (Some t) × (line_feeds (take 1 text) ≡ 0)
  one_token t no_two e = symbol_token 1 t (omega arith) (one_front text (omega (arith, h.some)) (λ room. told 2 None (no_two room)) (told 1 (Some t) e)) e

  pub no_token : (2 ≤ length text → None ≡ terminal_in symbol_terminals (folded (take 2 text))) → None ≡ terminal_in symbol_terminals (folded (take 1 text)) → IsLongestFront is_piece text 0
  no_token no_two e = symbol_piece_front 0 (none_front text (λ room. told 2 None (no_two room)) (told 1 None e))
