-- How far each form of piece reaches from the front of a text, 0 where it has none there: what each private function of the lexer
-- does. The laws in proofs/ say that this is the longest front that is such a piece.
use Rattle.std.specs.Prelude.{ℕ, ◌+◌, Bool, true, false, ◌&&◌, not, nat_eq, max, List, [], ◌∷◌, length, take, drop, codes, if◌then◌else◌}
use Rattle.std.specs.List.{prefix_len}
use Rattle.plc_text.specs.Words.{is_one_of, opens, begins, is_digit, is_binary_digit, is_octal_digit, is_hexadecimal_digit, is_letter, is_word_character}
use Rattle.st_tree.specs.Pieces.{is_no_line_feed, opens_one_of, is_number_sign, is_underscore, units}

-- a head and what stands behind it, or nothing where nothing stands behind it
abbrev pub with_head : ℕ → ℕ → ℕ
with_head head tail = if nat_eq tail 0 then 0 else head + tail

-- up to the end of the first mark, where `passed` bytes were passed
abbrev pub closing_from : List ℕ → ℕ → List ℕ → ℕ
closing_from mark passed [] = 0
closing_from mark passed (c ∷ cs) = if opens mark (c ∷ cs) then passed + length mark else closing_from mark (passed + 1) cs

abbrev pub block_len : List ℕ → List ℕ → List ℕ → ℕ
block_len head mark text = if opens head text then with_head (length head) (closing_from mark 0 (drop (length head) text)) else 0

abbrev pub line_len : List ℕ → ℕ
line_len text = if opens (codes "//") text then 2 + prefix_len is_no_line_feed (drop 2 text) else 0

-- digits with single underscores between them, where `passed` bytes were passed and `len` is the length up to the last digit
abbrev pub spaced_from : (ℕ → Bool) → ℕ → ℕ → Bool → List ℕ → ℕ
spaced_from test passed len after_digit [] = len
spaced_from test passed len after_digit (c ∷ cs) =
    if test c then spaced_from test (passed + 1) (passed + 1) true cs
    else if is_underscore c && after_digit then spaced_from test (passed + 1) len false cs
    else len

abbrev pub digits_len : (ℕ → Bool) → List ℕ → ℕ
digits_len test text = spaced_from test 0 0 false text

abbrev pub based_len : List ℕ → (ℕ → Bool) → List ℕ → ℕ
based_len head test text = if opens head text then with_head (length head) (digits_len test (drop (length head) text)) else 0

-- digits and this unit; `M` is no unit before `S`
abbrev pub part_len : List ℕ → List ℕ → ℕ
part_len unit text =
    let digits = prefix_len is_digit text in
    let behind = drop digits text in
    if nat_eq digits 0 then 0
    else if not (opens unit behind) then 0
    else if is_one_of (codes "M" ∷ []) unit && opens (codes "MS") behind then 0
    else digits + length unit

abbrev pub underscore_len : List ℕ → ℕ
underscore_len text = if begins is_underscore text then 1 else 0

-- parts with units of the list
abbrev pub parts_len : List (List ℕ) → List ℕ → ℕ
parts_len [] text = 0
parts_len (unit ∷ units) text =
    let part = part_len unit text in
    let gap = underscore_len (drop part text) in
    if nat_eq part 0 then parts_len units text
    else part + with_head gap (parts_len units (drop (part + gap) text))

abbrev pub timed_len : List ℕ → List ℕ → ℕ
timed_len head text = if opens head text then with_head (length head) (parts_len units (drop (length head) text)) else 0

-- digits, a point and digits
abbrev pub bit_len : List ℕ → ℕ
bit_len text =
    let digits = prefix_len is_digit text in
    if nat_eq digits 0 then 0
    else if opens (codes ".") (drop digits text) then with_head (digits + 1) (prefix_len is_digit (drop (digits + 1) text))
    else 0

-- a head of one character of these, and a number
abbrev pub wide_len : List ℕ → ℕ
wide_len text =
    if opens_one_of (codes "B" ∷ codes "W" ∷ codes "D" ∷ codes "L" ∷ []) text then with_head 1 (prefix_len is_digit (drop 1 text)) else 0

abbrev pub bit_with_width_len : List ℕ → ℕ
bit_with_width_len text = if opens (codes "X") text then with_head 1 (bit_len (drop 1 text)) else 0

abbrev pub location_len : List ℕ → ℕ
location_len text = max (bit_len text) (max (bit_with_width_len text) (wide_len text))

abbrev pub address_len : List ℕ → ℕ
address_len text =
    if opens_one_of (codes "%I" ∷ codes "%Q" ∷ codes "%M" ∷ []) text then with_head 2 (location_len (drop 2 text)) else 0

abbrev pub comment_len : List ℕ → ℕ
comment_len text = max (block_len (codes "(*") (codes "*)") text) (max (block_len (codes "/*") (codes "*/") text) (line_len text))

abbrev pub pragma_len : List ℕ → ℕ
pragma_len text = block_len (codes "{") (codes "}") text

abbrev pub int_len : List ℕ → ℕ
int_len text =
    max (digits_len is_digit text)
    (max (based_len (codes "2#") is_binary_digit text)
    (max (based_len (codes "8#") is_octal_digit text) (based_len (codes "16#") is_hexadecimal_digit text)))

abbrev pub time_len : List ℕ → ℕ
time_len text = max (timed_len (codes "T#") text) (timed_len (codes "TIME#") text)

abbrev pub word_len : List ℕ → ℕ
word_len text =
    let len = prefix_len is_word_character text in
    if not (begins is_letter text) then 0
    else if is_one_of (codes "T" ∷ codes "TIME" ∷ []) (take len text) && begins is_number_sign (drop len text) then 0
    else len
