-- The pragmas that count: {attribute 'no_copy'}, {attribute 'init_on_onlchange'} and {renamed_from NAME}, letter case apart, with
-- any white space around and between their words, and some before NAME.
use Rattle.std.specs.Prelude.{ℕ, Bool, ◌-◌, ◌&&◌, ◌||◌, List, length, take, drop, codes}
use Rattle.std.specs.List.{list_all, take_while}
use Rattle.plc_text.specs.Words.{opens, begins, behind_all, is_blank, is_word_character}
use Rattle.st_tree.specs.Terminal.{is_name}
use Rattle.st_tree.specs.Pieces.{is_pragma}

-- what stands between the braces
abbrev pub inside : List ℕ → List ℕ
inside pragma = take (length pragma - 2) (drop 1 pragma)

abbrev pub behind_blanks : List ℕ → List ℕ
behind_blanks text = behind_all is_blank text

-- `attribute`, which has 9 letters, and this text with its quotes
unfoldable pub says_attribute : List ℕ → List ℕ → Bool
says_attribute quoted text =
    let words = behind_blanks text in
    let value = behind_blanks (drop 9 words) in
    opens (codes "ATTRIBUTE") words && (opens quoted value && list_all is_blank (drop (length quoted) value))

-- what stands behind `renamed_from`, which has 12 letters
abbrev pub behind_renamed : List ℕ → List ℕ
behind_renamed text = drop 12 (behind_blanks text)

-- white space, a name and white space
abbrev pub names : List ℕ → Bool
names text =
    begins is_blank text
    && (is_name (take_while is_word_character (behind_blanks text)) && list_all is_blank (behind_all is_word_character (behind_blanks text)))

-- `renamed_from` and a name
unfoldable pub says_renamed : List ℕ → Bool
says_renamed text = opens (codes "RENAMED_FROM") (behind_blanks text) && names (behind_renamed text)

unfoldable pub is_no_copy : List ℕ → Bool
is_no_copy text = is_pragma text && says_attribute (codes "'NO_COPY'") (inside text)

unfoldable pub is_init_on_change : List ℕ → Bool
is_init_on_change text = is_pragma text && says_attribute (codes "'INIT_ON_ONLCHANGE'") (inside text)

unfoldable pub is_renamed : List ℕ → Bool
is_renamed text = is_pragma text && says_renamed (inside text)

-- the name behind `renamed_from`
abbrev pub old_name : List ℕ → List ℕ
old_name pragma = take_while is_word_character (behind_blanks (behind_renamed (inside pragma)))

unfoldable pub is_mark : List ℕ → Bool
is_mark text = is_no_copy text || (is_init_on_change text || is_renamed text)
