-- The number that the text of an int stands for (IEC 61131-3:2013, 6.3.2): decimal digits, or digits of the base that is named before them.
use Rattle.std.specs.Prelude.{ℕ, ◌+◌, ◌-◌, ◌*◌, List, drop, fold, codes, if◌then◌else◌}
use Rattle.std.specs.Char.{to_ascii_uppercase}
use Rattle.plc_text.specs.Words.{opens, is_digit}
use Rattle.st_tree.specs.Pieces.{is_underscore}

-- the value of a digit; that of `A` is 10
abbrev pub digit_value : ℕ → ℕ
digit_value c = if is_digit c then c - 48 else to_ascii_uppercase c - 55

-- a number with one digit more; an underscore adds none
abbrev pub with_digit : ℕ → ℕ → ℕ → ℕ
with_digit base n c = if is_underscore c then n else base * n + digit_value c

-- the number that digits of this base stand for, the first one the highest
abbrev pub digits_value : ℕ → List ℕ → ℕ
digits_value base digits = fold (with_digit base) 0 digits

abbrev pub number_of : List ℕ → ℕ
number_of text =
    if opens (codes "2#") text then digits_value 2 (drop 2 text)
    else if opens (codes "8#") text then digits_value 8 (drop 2 text)
    else if opens (codes "16#") text then digits_value 16 (drop 3 text)
    else digits_value 10 text
