-- The pieces that a text is made of: white space, comments, pragmas and the other tokens (IEC 61131-3:2013, 6.1 to 6.3).
use Rattle.std.specs.Prelude.{ℕ, Bool, true, false, ◌&&◌, ◌||◌, not, nat_eq, List, [], ◌∷◌, ◌++◌, length, drop, codes, if◌then◌else◌}
use Rattle.std.specs.List.{list_all, list_any}
use Rattle.plc_text.specs.Words.{spells, is_one_of, opens, begins, behind_all, is_blank, is_digit, is_binary_digit, is_octal_digit, is_hexadecimal_digit, is_word_character, is_word, is_number}
use Rattle.st_tree.specs.Terminal.{is_symbol}

-- one character of white space
abbrev pub is_white_space : List ℕ → Bool
is_white_space (c ∷ []) = is_blank c
is_white_space cs = false

-- the text ends with the mark, which stands nowhere before
abbrev pub ends_first : List ℕ → List ℕ → Bool
ends_first mark [] = false
ends_first mark (c ∷ cs) = if opens mark (c ∷ cs) then spells mark (c ∷ cs) else ends_first mark cs

abbrev pub is_no_line_feed : ℕ → Bool
is_no_line_feed c = not (nat_eq c 10)

-- `(*` up to the first `*)` behind it, `/*` up to the first `*/` behind it, or `//` and no line feed
unfoldable pub is_comment : List ℕ → Bool
is_comment text =
    opens (codes "(*") text && ends_first (codes "*)") (drop 2 text)
    || (opens (codes "/*") text && ends_first (codes "*/") (drop 2 text)
    || opens (codes "//") text && list_all is_no_line_feed (drop 2 text))

-- `{` up to the first `}`
unfoldable pub is_pragma : List ℕ → Bool
is_pragma text = opens (codes "{") text && ends_first (codes "}") (drop 1 text)

abbrev pub is_underscore : ℕ → Bool
is_underscore c = nat_eq c 95

-- digits with single underscores between them; the flag says whether a digit stands before
abbrev pub are_spaced : (ℕ → Bool) → Bool → List ℕ → Bool
are_spaced test after_digit [] = after_digit
are_spaced test after_digit (c ∷ cs) =
    if test c then are_spaced test true cs else (is_underscore c && (after_digit && are_spaced test false cs))

abbrev pub are_digits : (ℕ → Bool) → List ℕ → Bool
are_digits test text = are_spaced test false text

-- decimal digits, or digits of the base that stands before them
unfoldable pub is_int : List ℕ → Bool
is_int text =
    are_digits is_digit text
    || (opens (codes "2#") text && are_digits is_binary_digit (drop 2 text)
    || (opens (codes "8#") text && are_digits is_octal_digit (drop 2 text)
    || opens (codes "16#") text && are_digits is_hexadecimal_digit (drop 3 text)))

-- digits and this unit begin the text
abbrev pub begins_part : List ℕ → List ℕ → Bool
begins_part unit text = begins is_digit text && opens unit (behind_all is_digit text)

abbrev pub behind_part : List ℕ → List ℕ → List ℕ
behind_part unit text = drop (length unit) (behind_all is_digit text)

-- the text without one underscore at its front
abbrev pub behind_underscore : List ℕ → List ℕ
behind_underscore [] = []
behind_underscore (c ∷ cs) = if is_underscore c then cs else c ∷ cs

abbrev pub is_empty : List ℕ → Bool
is_empty [] = true
is_empty (c ∷ cs) = false

-- one part or more, each digits and a unit of the list, in its order, each unit once at most, and one underscore between
-- two parts or none
abbrev pub are_parts : List (List ℕ) → List ℕ → Bool
are_parts [] text = false
are_parts (unit ∷ units) text =
    are_parts units text
    || begins_part unit text && (is_empty (behind_part unit text) || are_parts units (behind_underscore (behind_part unit text)))

-- days, hours, minutes, seconds and milliseconds
abbrev pub units : List (List ℕ)
units = codes "D" ∷ codes "H" ∷ codes "M" ∷ codes "S" ∷ codes "MS" ∷ []

unfoldable pub is_time : List ℕ → Bool
is_time text = opens (codes "T#") text && are_parts units (drop 2 text) || opens (codes "TIME#") text && are_parts units (drop 5 text)

abbrev pub is_point : ℕ → Bool
is_point c = nat_eq c 46

-- digits, a point and digits; the flag says whether a digit stands before
abbrev pub are_split : Bool → List ℕ → Bool
are_split after_digit [] = false
are_split after_digit (c ∷ cs) = if is_digit c then are_split true cs else (is_point c && (after_digit && is_number cs))

abbrev pub is_bit_place : List ℕ → Bool
is_bit_place text = are_split false text

abbrev pub opens_one_of : List (List ℕ) → List ℕ → Bool
opens_one_of words text = list_any (λ word. opens word text) words

-- `X`, which may be left out, and the place of a bit, or another width and a number
unfoldable pub is_location : List ℕ → Bool
is_location text =
    is_bit_place text
    || (opens (codes "X") text && is_bit_place (drop 1 text)
    || opens_one_of (codes "B" ∷ codes "W" ∷ codes "D" ∷ codes "L" ∷ []) text && is_number (drop 1 text))

-- `%`, `I`, `Q` or `M`, and where it lies
unfoldable pub is_address : List ℕ → Bool
is_address text =
    opens_one_of (codes "%I" ∷ codes "%Q" ∷ codes "%M" ∷ []) text && is_location (drop 2 text)

abbrev pub is_number_sign : ℕ → Bool
is_number_sign c = nat_eq c 35

-- a word up to its end. `T` and `TIME` before `#` begin a time or nothing
unfoldable pub is_whole_word : List ℕ → List ℕ → Bool
is_whole_word text rest =
    is_word text && (not (begins is_word_character rest)
    && not (is_one_of (codes "T" ∷ codes "TIME" ∷ []) text && begins is_number_sign rest))

abbrev pub opens_comment : List ℕ → Bool
opens_comment text = opens (codes "(*") text || (opens (codes "/*") text || opens (codes "//") text)

-- a symbol. `(*`, `/*` and `//` begin a comment or nothing
unfoldable pub is_whole_symbol : List ℕ → List ℕ → Bool
is_whole_symbol text rest = is_symbol text && not (opens_comment (text ++ rest))

-- whether the text is a piece where this rest stands behind it
unfoldable pub is_piece : List ℕ → List ℕ → Bool
is_piece text rest =
    is_white_space text
    || (is_comment text
    || (is_pragma text
    || (is_int text
    || (is_time text
    || (is_address text
    || (is_whole_word text rest
    || is_whole_symbol text rest))))))
