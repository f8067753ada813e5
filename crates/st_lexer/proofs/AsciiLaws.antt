-- Tokens are of ASCII characters, and all but marks of none of white space.
use Rattle.std.proofs.Common.{◌≡◌, ℕ, zero, suc, ◌-◌, ◌≤◌, Bool, true, false, ◌&&◌, ◌||◌, List, [], ◌∷◌, length, take, drop, refl, sym, ap, ◌∙◌, inl, inr, nat_eq, nat_lt, codes, length-drop, arith}
use Rattle.std.proofs.lemmas.Bool.{and_parts, and_from, or_cases, both_ways, cases_Bool, cond-true, cond-false, ltb-true, eqb-true}
use Rattle.std.proofs.lemmas.Bool.Decides.{nat_tests}
use Rattle.std.proofs.lemmas.List.Sums.{take_while-cons}
use Rattle.std.proofs.lemmas.Str.Ascii.{IsAscii-nil, IsAscii-cons}
use Rattle.std.specs.Str.{IsAscii}
use Rattle.std.specs.Char.{to_ascii_uppercase}
use Rattle.std.specs.List.{list_all, take_while}
use Rattle.plc_text.specs.Words.{is_one_of, spells, opens, begins, behind_all, is_blank, is_digit, is_binary_digit, is_octal_digit, is_hexadecimal_digit, is_letter, is_word_character, is_word, is_number}
use Rattle.st_tree.specs.Pieces.{is_pragma, ends_first, are_spaced, are_split, is_bit_place, is_int, begins_part, behind_part, is_underscore, behind_underscore, is_empty, are_parts, units, is_time, is_point, is_location, is_address, opens_one_of}
use Rattle.st_tree.specs.Terminal.{is_symbol, symbols, symbol_terminals}
use Rattle.st_tree.specs.Marks.{inside, behind_blanks, says_attribute, says_renamed, is_no_copy, is_init_on_change, behind_renamed, is_renamed, is_mark}
use Rattle.st_lexer.specs.Private.Piece.{line_feeds}
use Rattle.st_lexer.proofs.HeadLaws.{opens_long}

-- the characters of tokens other than marks: ASCII, and none of white space
abbrev pub is_ink : ℕ → Bool
is_ink c = nat_lt 32 c && nat_lt c 128

abbrev pub is_low : ℕ → Bool
is_low c = nat_lt c 128

abbrev pub ink : List ℕ → Bool
ink text = list_all is_ink text

abbrev pub low : List ℕ → Bool
low text = list_all is_low text

pub ascii_from_low : (text : List ℕ) → low text ≡ true → IsAscii text
ascii_from_low [] h = IsAscii-nil
ascii_from_low (c ∷ cs) h = let parts = and_parts (is_low c) _ h in IsAscii-cons c cs (ltb-true c 128 parts.0) (ascii_from_low cs parts.1)

ink_is_low : (c : ℕ) → is_ink c ≡ true → is_low c ≡ true
ink_is_low c h = (and_parts (nat_lt 32 c) _ h).1

-- characters

digit_ink : (c : ℕ) → is_digit c ≡ true → is_ink c ≡ true
digit_ink c h = grind (arith, nat_tests)

binary_ink : (c : ℕ) → is_binary_digit c ≡ true → is_ink c ≡ true
binary_ink c h = grind (arith, nat_tests)

octal_ink : (c : ℕ) → is_octal_digit c ≡ true → is_ink c ≡ true
octal_ink c h = grind (arith, nat_tests)

hexadecimal_ink : (c : ℕ) → is_hexadecimal_digit c ≡ true → is_ink c ≡ true
hexadecimal_ink c h = grind (arith, nat_tests)

letter_ink : (c : ℕ) → is_letter c ≡ true → is_ink c ≡ true
letter_ink c h = grind (arith, nat_tests)

point_ink : (c : ℕ) → is_point c ≡ true → is_ink c ≡ true
point_ink c h = grind (arith, nat_tests)

underscore_char_ink : (c : ℕ) → is_underscore c ≡ true → is_ink c ≡ true
underscore_char_ink c h = grind (arith, nat_tests)

character_ink : (c : ℕ) → is_word_character c ≡ true → is_ink c ≡ true
character_ink c h = elim (or_cases (is_letter c) (is_digit c) h) [ inl p ↦ letter_ink c p | inr p ↦ digit_ink c p ]

upper_ink : (c x : ℕ) → nat_eq (to_ascii_uppercase c) x ≡ true → is_ink x ≡ true → is_ink c ≡ true
upper_ink c x h l = grind (arith, nat_tests)

blank_low : (c : ℕ) → is_blank c ≡ true → is_low c ≡ true
blank_low c h = grind (arith, nat_tests)

character_low : (c : ℕ) → is_word_character c ≡ true → is_low c ≡ true
character_low c h = ink_is_low c (character_ink c h)

upper_low : (c x : ℕ) → nat_eq (to_ascii_uppercase c) x ≡ true → is_low x ≡ true → is_low c ≡ true
upper_low c x h l = grind (arith, nat_tests)

-- texts whose characters pass

abbrev pub all : (ℕ → Bool) → List ℕ → Bool
all ok text = list_all ok text

module _ (ok : ℕ → Bool) where
  -- it passes where it does in upper case
  abbrev pub IsCaseless : Type 0
  IsCaseless = (c x : ℕ) → nat_eq (to_ascii_uppercase c) x ≡ true → ok x ≡ true → ok c ≡ true

  abbrev pub Passes : (ℕ → Bool) → Type 0
  Passes test = (c : ℕ) → test c ≡ true → ok c ≡ true

  pub all_of : (test : ℕ → Bool) → Passes test → (cs : List ℕ) → list_all test cs ≡ true → all ok cs ≡ true
  all_of test each [] h = refl
  all_of test each (c ∷ cs) h = let parts = and_parts (test c) _ h in and_from _ _ (each c parts.0) (all_of test each cs parts.1)

  pub all_spelled : IsCaseless → (word text : List ℕ) → all ok word ≡ true → spells word text ≡ true → all ok text ≡ true
  all_spelled case word [] l h = refl
  all_spelled case [] (c ∷ cs) l h = absurd (both_ways false refl h)
  all_spelled case (x ∷ word) (c ∷ cs) l h =
      let parts = and_parts (nat_eq (to_ascii_uppercase c) x) _ h in
      let each = and_parts (ok x) _ l in
      and_from _ _ (case c x parts.0 each.0) (all_spelled case word cs each.1 parts.1)

  pub all_among : IsCaseless → (words : List (List ℕ)) (text : List ℕ) → list_all (all ok) words ≡ true → is_one_of words text ≡ true → all ok text ≡ true
  all_among case [] text l h = absurd (both_ways false refl h)
  all_among case (word ∷ words) text l h =
      let each = and_parts (all ok word) _ l in
      elim (or_cases (spells word text) _ h) [ inl p ↦ all_spelled case word text each.0 p | inr p ↦ all_among case words text each.1 p ]

  all_seam : (n : ℕ) (text : List ℕ) → all ok (take n text) ≡ true → all ok (drop n text) ≡ true → all ok text ≡ true
  all_seam zero text f b = b
  all_seam (suc n) [] f b = refl
  all_seam (suc n) (c ∷ cs) f b = let parts = and_parts (ok c) _ f in and_from _ _ parts.0 (all_seam n cs parts.1 b)

  pub all_opened : IsCaseless → (word text : List ℕ) → all ok word ≡ true → opens word text ≡ true → all ok (drop (length word) text) ≡ true → all ok text ≡ true
  all_opened case word text l h b = all_seam (length word) text (all_spelled case word (take (length word) text) l h) b

  pub all_behind : (test : ℕ → Bool) → Passes test → (text : List ℕ) → all ok (behind_all test text) ≡ true → all ok text ≡ true
  all_behind test each [] h = refl
  all_behind test each (c ∷ cs) h = elim (cases_Bool (test c)) [
    | inl holds ↦ and_from _ _ (each c holds) (all_behind test each cs (ap (all ok) (sym (cond-true (test c) (behind_all test cs) (c ∷ cs) holds)) ∙ h))
    | inr fails ↦ ap (all ok) (sym (cond-false (test c) (behind_all test cs) (c ∷ cs) fails)) ∙ h
  ]

number_ink : (text : List ℕ) → is_number text ≡ true → ink text ≡ true
number_ink [] h = refl
number_ink (c ∷ cs) h = all_of is_ink is_digit digit_ink (c ∷ cs) h

pub word_ink : (text : List ℕ) → is_word text ≡ true → ink text ≡ true
word_ink [] h = refl
word_ink (c ∷ cs) h = let parts = and_parts (is_letter c) _ h in and_from _ _ (letter_ink c parts.0) (all_of is_ink is_word_character character_ink cs parts.1)

spaced_ink : (test : ℕ → Bool) → ((c : ℕ) → test c ≡ true → is_ink c ≡ true) → (after : Bool) (text : List ℕ) → are_spaced test after text ≡ true → ink text ≡ true
spaced_ink test each after [] h = refl
spaced_ink test each after (c ∷ cs) h = elim (cases_Bool (test c)) [
  | inl holds ↦ and_from _ _ (each c holds) (spaced_ink test each true cs (sym (cond-true (test c) _ _ holds) ∙ h))
  | inr fails ↦
      let parts = and_parts (is_underscore c) (after && are_spaced test false cs) (sym (cond-false (test c) _ _ fails) ∙ h) in
      and_from _ _ (underscore_char_ink c parts.0) (spaced_ink test each false cs (and_parts after _ parts.1).1)
]

split_ink : (after : Bool) (text : List ℕ) → are_split after text ≡ true → ink text ≡ true
split_ink after [] h = refl
split_ink after (c ∷ cs) h = elim (cases_Bool (is_digit c)) [
  | inl holds ↦ and_from _ _ (digit_ink c holds) (split_ink true cs (sym (cond-true (is_digit c) _ _ holds) ∙ h))
  | inr fails ↦
      let parts = and_parts (is_point c) (after && is_number cs) (sym (cond-false (is_digit c) _ _ fails) ∙ h) in
      and_from _ _ (point_ink c parts.0) (number_ink cs (and_parts after _ parts.1).1)
]

-- forms

based_ink : (head : List ℕ) (test : ℕ → Bool) (text : List ℕ) → ((c : ℕ) → test c ≡ true → is_ink c ≡ true) → ink head ≡ true → (opens head text && are_spaced test false (drop (length head) text)) ≡ true → ink text ≡ true
based_ink head test text each l h = let parts = and_parts (opens head text) _ h in all_opened is_ink upper_ink head text l parts.0 (spaced_ink test each false _ parts.1)

pub int_ink : (text : List ℕ) → is_int text ≡ true → ink text ≡ true
unfolding is_int
int_ink text h = elim (or_cases _ _ h) [
  | inl p ↦ spaced_ink is_digit digit_ink false text p
  | inr h ↦ elim (or_cases _ _ h) [
    | inl p ↦ based_ink (codes "2#") is_binary_digit text binary_ink refl p
    | inr h ↦ elim (or_cases _ _ h) [
      | inl p ↦ based_ink (codes "8#") is_octal_digit text octal_ink refl p
      | inr p ↦ based_ink (codes "16#") is_hexadecimal_digit text hexadecimal_ink refl p
    ]
  ]
]

underscore_ink : (rest : List ℕ) → ink (behind_underscore rest) ≡ true → ink rest ≡ true
underscore_ink [] h = refl
underscore_ink (c ∷ cs) h = elim (cases_Bool (is_underscore c)) [
  | inl holds ↦ and_from _ _ (underscore_char_ink c holds) (ap ink (sym (cond-true (is_underscore c) cs (c ∷ cs) holds)) ∙ h)
  | inr fails ↦ ap ink (sym (cond-false (is_underscore c) cs (c ∷ cs) fails)) ∙ h
]

empty_ink : (rest : List ℕ) → is_empty rest ≡ true → ink rest ≡ true
empty_ink [] h = refl
empty_ink (c ∷ cs) h = absurd (both_ways false refl h)

parts_ink : (names : List (List ℕ)) (text : List ℕ) → list_all ink names ≡ true → are_parts names text ≡ true → ink text ≡ true
parts_ink [] text l h = absurd (both_ways false refl h)
parts_ink (unit ∷ names) text l h =
    let lows = and_parts (ink unit) _ l in
    elim (or_cases (are_parts names text) _ h) [
      | inl p ↦ parts_ink names text lows.1 p
      | inr p ↦
          let parts = and_parts (begins_part unit text) _ p in
          let first = and_parts (begins is_digit text) (opens unit (behind_all is_digit text)) parts.0 in
          let rest : ink (behind_part unit text) ≡ true = elim (or_cases (is_empty (behind_part unit text)) _ parts.1) [
            | inl q ↦ empty_ink (behind_part unit text) q
            | inr q ↦ underscore_ink (behind_part unit text) (parts_ink names (behind_underscore (behind_part unit text)) lows.1 q)
          ] in
          all_behind is_ink is_digit digit_ink text (all_opened is_ink upper_ink unit (behind_all is_digit text) lows.0 first.1 rest)
    ]

timed_ink : (head text : List ℕ) → ink head ≡ true → (opens head text && are_parts units (drop (length head) text)) ≡ true → ink text ≡ true
timed_ink head text l h = let parts = and_parts (opens head text) _ h in all_opened is_ink upper_ink head text l parts.0 (parts_ink units (drop (length head) text) refl parts.1)

pub time_ink : (text : List ℕ) → is_time text ≡ true → ink text ≡ true
unfolding is_time
time_ink text h = elim (or_cases _ _ h) [ inl p ↦ timed_ink (codes "T#") text refl p | inr p ↦ timed_ink (codes "TIME#") text refl p ]

-- whichever of the words stands at the front, all of one length
opened_any_ink : (k : ℕ) (words : List (List ℕ)) (text : List ℕ) → list_all ink words ≡ true → list_all (λ word. nat_eq (length word) k) words ≡ true → opens_one_of words text ≡ true → ink (drop k text) ≡ true → ink text ≡ true
opened_any_ink k [] text l s h b = absurd (both_ways false refl h)
opened_any_ink k (word ∷ words) text l s h b =
    let lows = and_parts (ink word) _ l in
    let sizes = and_parts (nat_eq (length word) k) _ s in
    elim (or_cases (opens word text) _ h) [
      | inl p ↦ all_opened is_ink upper_ink word text lows.0 p (ap (λ n. ink (drop n text)) (eqb-true (length word) k sizes.0) ∙ b)
      | inr p ↦ opened_any_ink k words text lows.1 sizes.1 p b
    ]

abbrev widths : List (List ℕ)
widths = codes "B" ∷ codes "W" ∷ codes "D" ∷ codes "L" ∷ []

bit_with_width_ink : (text : List ℕ) → (opens (codes "X") text && is_bit_place (drop 1 text)) ≡ true → ink text ≡ true
bit_with_width_ink text h =
    let parts = and_parts (opens (codes "X") text) (is_bit_place (drop 1 text)) h in
    all_opened is_ink upper_ink (codes "X") text refl parts.0 (split_ink false (drop 1 text) parts.1)

wide_ink : (text : List ℕ) → (opens_one_of widths text && is_number (drop 1 text)) ≡ true → ink text ≡ true
wide_ink text h =
    let parts = and_parts (opens_one_of widths text) (is_number (drop 1 text)) h in
    opened_any_ink 1 widths text refl refl parts.0 (number_ink (drop 1 text) parts.1)

location_ink : (text : List ℕ) → is_location text ≡ true → ink text ≡ true
unfolding is_location
location_ink text h = elim (or_cases (is_bit_place text) ((opens (codes "X") text && is_bit_place (drop 1 text)) || (opens_one_of widths text && is_number (drop 1 text))) h) [
  | inl p ↦ split_ink false text p
  | inr h ↦ elim (or_cases (opens (codes "X") text && is_bit_place (drop 1 text)) (opens_one_of widths text && is_number (drop 1 text)) h) [
    | inl p ↦ bit_with_width_ink text p
    | inr p ↦ wide_ink text p
  ]
]

pub address_ink : (text : List ℕ) → is_address text ≡ true → ink text ≡ true
unfolding is_address
address_ink text h =
    let parts = and_parts (opens_one_of (codes "%I" ∷ codes "%Q" ∷ codes "%M" ∷ []) text) _ h in
    opened_any_ink 2 (codes "%I" ∷ codes "%Q" ∷ codes "%M" ∷ []) text refl refl parts.0 (location_ink (drop 2 text) parts.1)

pub symbol_ink : (text : List ℕ) → is_symbol text ≡ true → ink text ≡ true
unfolding symbol_terminals
symbol_ink text h = all_among is_ink upper_ink symbols text refl h

-- marks

-- what ends with its first mark, and is of ASCII characters before it
closed_long : (mark text : List ℕ) → ends_first mark text ≡ true → length mark ≤ length text
closed_long mark [] h = absurd (both_ways false refl h)
closed_long mark (c ∷ cs) h = elim (cases_Bool (opens mark (c ∷ cs))) [
  | inl holds ↦ opens_long mark (c ∷ cs) holds
  | inr fails ↦ (let k = closed_long mark cs (sym (cond-false (opens mark (c ∷ cs)) _ _ fails) ∙ h) in omega (arith, k))
]

closed_low : (mark text : List ℕ) → low mark ≡ true → ends_first mark text ≡ true → low (take (length text - length mark) text) ≡ true → low text ≡ true
closed_low mark [] l h b = refl
closed_low mark (c ∷ cs) l h b = elim (cases_Bool (opens mark (c ∷ cs))) [
  | inl holds ↦ all_spelled is_low upper_low mark (c ∷ cs) l (sym (cond-true (opens mark (c ∷ cs)) _ _ holds) ∙ h)
  | inr fails ↦
      let rest : ends_first mark cs ≡ true = sym (cond-false (opens mark (c ∷ cs)) _ _ fails) ∙ h in
      let room : length mark ≤ length cs = closed_long mark cs rest in
      let e : length (c ∷ cs) - length mark ≡ suc (length cs - length mark) = omega arith in
      let parts = and_parts (is_low c) (low (take (length cs - length mark) cs)) (ap (λ n. low (take n (c ∷ cs))) (sym e) ∙ b) in
      and_from _ _ parts.0 (closed_low mark cs l rest parts.1)
]

inside_low : (pragma : List ℕ) → is_pragma pragma ≡ true → low (inside pragma) ≡ true → low pragma ≡ true
unfolding is_pragma
inside_low pragma h b =
    let parts = and_parts (opens (codes "{") pragma) (ends_first (codes "}") (drop 1 pragma)) h in
    let e : length pragma - 2 ≡ length (drop 1 pragma) - 1 = omega (arith, length-drop 1 pragma) in
    all_opened is_low upper_low (codes "{") pragma refl parts.0 (closed_low (codes "}") (drop 1 pragma) refl parts.1 (ap (λ n. low (take n (drop 1 pragma))) (sym e) ∙ b))

blanks_low : (text : List ℕ) → low (behind_blanks text) ≡ true → low text ≡ true
blanks_low text h = all_behind is_low is_blank blank_low text h

attribute_low : (quoted text : List ℕ) → low quoted ≡ true → says_attribute quoted text ≡ true → low text ≡ true
unfolding says_attribute
attribute_low quoted text l h =
    let words = behind_blanks text in
    let value = behind_blanks (drop 9 words) in
    let parts = and_parts (opens (codes "ATTRIBUTE") words) (opens quoted value && list_all is_blank (drop (length quoted) value)) h in
    let more = and_parts (opens quoted value) (list_all is_blank (drop (length quoted) value)) parts.1 in
    blanks_low text (all_opened is_low upper_low (codes "ATTRIBUTE") words refl parts.0 (blanks_low (drop 9 words)
    (all_opened is_low upper_low quoted value l more.0 (all_of is_low is_blank blank_low (drop (length quoted) value) more.1))))

renamed_low : (text : List ℕ) → says_renamed text ≡ true → low text ≡ true
unfolding says_renamed
renamed_low text h =
    let words = behind_blanks text in
    let rest = behind_blanks (behind_renamed text) in
    let parts = and_parts (opens (codes "RENAMED_FROM") words) _ h in
    let more = and_parts (begins is_blank (behind_renamed text)) _ parts.1 in
    let last = and_parts _ (list_all is_blank (behind_all is_word_character rest)) more.1 in
    blanks_low text (all_opened is_low upper_low (codes "RENAMED_FROM") words refl parts.0 (blanks_low (behind_renamed text)
    (all_behind is_low is_word_character character_low rest (all_of is_low is_blank blank_low (behind_all is_word_character rest) last.1))))

mark_low : (text : List ℕ) → is_mark text ≡ true → low text ≡ true
unfolding is_mark is_no_copy is_init_on_change is_renamed
mark_low text h = elim (or_cases (is_pragma text && says_attribute (codes "'NO_COPY'") (inside text)) ((is_pragma text && says_attribute (codes "'INIT_ON_ONLCHANGE'") (inside text)) || (is_pragma text && says_renamed (inside text))) h) [
  | inl p ↦ (let parts = and_parts (is_pragma text) (says_attribute (codes "'NO_COPY'") (inside text)) p in inside_low text parts.0 (attribute_low (codes "'NO_COPY'") (inside text) refl parts.1))
  | inr h ↦ elim (or_cases (is_pragma text && says_attribute (codes "'INIT_ON_ONLCHANGE'") (inside text)) (is_pragma text && says_renamed (inside text)) h) [
    | inl p ↦ (let parts = and_parts (is_pragma text) (says_attribute (codes "'INIT_ON_ONLCHANGE'") (inside text)) p in inside_low text parts.0 (attribute_low (codes "'INIT_ON_ONLCHANGE'") (inside text) refl parts.1))
    | inr p ↦ (let parts = and_parts (is_pragma text) (says_renamed (inside text)) p in inside_low text parts.0 (renamed_low (inside text) parts.1))
  ]
]

-- tokens

ink_low : (text : List ℕ) → ink text ≡ true → low text ≡ true
ink_low text h = all_of is_low is_ink ink_is_low text h

pub ink_ascii : (text : List ℕ) → ink text ≡ true → IsAscii text
ink_ascii text h = ascii_from_low text (ink_low text h)

pub mark_ascii : (text : List ℕ) → is_mark text ≡ true → IsAscii text
mark_ascii text h = ascii_from_low text (mark_low text h)

pub ink_feeds : (text : List ℕ) → ink text ≡ true → line_feeds text ≡ 0
ink_feeds [] h = refl
ink_feeds (c ∷ cs) h =
    let parts = and_parts (is_ink c) _ h in
    let rest = ink_feeds cs parts.1 in
    grind (arith, nat_tests)

taken_low : (test : ℕ → Bool) → ((c : ℕ) → test c ≡ true → is_low c ≡ true) → (text : List ℕ) → low (take_while test text) ≡ true
taken_low test each [] = refl
taken_low test each (c ∷ cs) = elim (cases_Bool (test c)) [
  | inl holds ↦ ap low (take_while-cons test c cs ∙ cond-true (test c) (c ∷ take_while test cs) [] holds) ∙ and_from _ _ (each c holds) (taken_low test each cs)
  | inr fails ↦ ap low (take_while-cons test c cs ∙ cond-false (test c) (c ∷ take_while test cs) [] fails)
]

-- the letters and digits at the front
pub word_front_ascii : (text : List ℕ) → IsAscii (take_while is_word_character text)
word_front_ascii text = ascii_from_low _ (taken_low is_word_character character_low text)
