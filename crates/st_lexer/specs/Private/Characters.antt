-- The tests of a character that the lexer runs along a text.
use Rattle.std.specs.Prelude.{ℕ, Bool}
use Rattle.st_lexer.specs.declared.characters.Class.{Class}
use Rattle.st_lexer.specs.declared.characters.Class.TheVariants as classes
use Rattle.plc_text.specs.Words.{is_blank, is_digit, is_binary_digit, is_octal_digit, is_hexadecimal_digit, is_word_character}
use Rattle.st_tree.specs.Pieces.{is_no_line_feed}

abbrev pub test_of : Class → ℕ → Bool
test_of classes.Binary = is_binary_digit
test_of classes.Octal = is_octal_digit
test_of classes.Decimal = is_digit
test_of classes.Hexadecimal = is_hexadecimal_digit
test_of classes.Blank = is_blank
test_of classes.InWord = is_word_character
test_of classes.InLine = is_no_line_feed
