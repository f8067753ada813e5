-- Characters and words (IEC 61131-3:2013, 6.1). Letter case does not count.
use Rattle.std.specs.Prelude.{ℕ, Bool, false, ◌&&◌, ◌||◌, nat_eq, nat_le, List, [], ◌∷◌, length, take, if◌then◌else◌}
use Rattle.std.specs.List.{list_all, list_any}
use Rattle.std.specs.Str.{bytes_eq}
use Rattle.plc_text.specs.Text.{folded}

-- whether two texts are equal
abbrev pub same : List ℕ → List ℕ → Bool
same text other = bytes_eq text other

-- whether the text in upper case is the word
abbrev pub spells : List ℕ → List ℕ → Bool
spells word text = same (folded text) word

-- whether the text begins with the word, letter case apart
abbrev pub opens : List ℕ → List ℕ → Bool
opens word text = spells word (take (length word) text)

-- whether the text has a first character, and it passes
abbrev pub begins : (ℕ → Bool) → List ℕ → Bool
begins test [] = false
begins test (c ∷ cs) = test c

-- the text from the first character on that fails
abbrev pub behind_all : (ℕ → Bool) → List ℕ → List ℕ
behind_all test [] = []
behind_all test (c ∷ cs) = if test c then behind_all test cs else c ∷ cs

-- space, tab, line feed and carriage return
abbrev pub is_blank : ℕ → Bool
is_blank c = nat_eq c 32 || (nat_eq c 9 || (nat_eq c 10 || nat_eq c 13))

abbrev pub is_digit : ℕ → Bool
is_digit c = nat_le 48 c && nat_le c 57

abbrev pub is_binary_digit : ℕ → Bool
is_binary_digit c = nat_le 48 c && nat_le c 49

abbrev pub is_octal_digit : ℕ → Bool
is_octal_digit c = nat_le 48 c && nat_le c 55

-- `0` to `9`, `A` to `F` and `a` to `f`
abbrev pub is_hexadecimal_digit : ℕ → Bool
is_hexadecimal_digit c = is_digit c || (nat_le 65 c && nat_le c 70 || nat_le 97 c && nat_le c 102)

-- an ASCII letter or an underscore
abbrev pub is_letter : ℕ → Bool
is_letter c = nat_le 65 c && nat_le c 90 || (nat_le 97 c && nat_le c 122 || nat_eq c 95)

abbrev pub is_word_character : ℕ → Bool
is_word_character c = is_letter c || is_digit c

-- a letter, then letters and digits
abbrev pub is_word : List ℕ → Bool
is_word [] = false
is_word (c ∷ cs) = is_letter c && list_all is_word_character cs

-- a word whose letters are in upper case
abbrev pub is_upper_word : List ℕ → Bool
is_upper_word text = is_word text && same (folded text) text

-- one digit or more
abbrev pub is_number : List ℕ → Bool
is_number [] = false
is_number (c ∷ cs) = is_digit c && list_all is_digit cs

-- whether the text in upper case is one of the words
abbrev pub is_one_of : List (List ℕ) → List ℕ → Bool
is_one_of words text = list_any (λ word. spells word text) words
