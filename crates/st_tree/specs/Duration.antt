-- What the text of a duration stands for (IEC 61131-3:2013, 6.3.4): a list of numbers with units, and their sum in milliseconds.
use Rattle.std.specs.Prelude.{ℕ, Bool, true, false, not, ◌+◌, ◌*◌, ◌&&◌, List, [], ◌∷◌, take, drop, codes, if◌then◌else◌}
use Rattle.std.specs.List.{prefix_len}
use Rattle.plc_text.specs.Words.{spells, is_digit, is_letter}
use Rattle.st_tree.specs.declared.duration.TimeUnit.{TimeUnit}
use Rattle.st_tree.specs.declared.duration.TimeUnit.TheVariants.{Day, Hour, Minute, Second, Millisecond}
use Rattle.st_tree.specs.Pieces.{is_underscore}
use Rattle.st_tree.specs.Number.{digits_value}

-- the unit that these letters name
abbrev pub unit_named : List ℕ → TimeUnit
unit_named letters =
    if spells (codes "D") letters then Day
    else if spells (codes "H") letters then Hour
    else if spells (codes "M") letters then Minute
    else if spells (codes "S") letters then Second
    else Millisecond

abbrev pub milliseconds_in : TimeUnit → ℕ
milliseconds_in Day = 86_400_000
milliseconds_in Hour = 3_600_000
milliseconds_in Minute = 60_000
milliseconds_in Second = 1000
milliseconds_in Millisecond = 1

abbrev pub is_unit_letter : ℕ → Bool
is_unit_letter c = is_letter c && not (is_underscore c)

-- the digits at the front, and the letters
abbrev pub digits_at : List ℕ → List ℕ
digits_at text = take (prefix_len is_digit text) text

abbrev pub letters_at : List ℕ → List ℕ
letters_at text = take (prefix_len is_unit_letter text) text

-- the number whose digits stand at the front, and the unit behind them
abbrev pub part_at : List ℕ → ℕ × TimeUnit
part_at text = (digits_value 10 (digits_at text), unit_named (letters_at (drop (prefix_len is_digit text) text)))

-- a part for each place where digits begin; the flag says whether a digit stands just before
abbrev pub parts_behind : Bool → List ℕ → List (ℕ × TimeUnit)
parts_behind after_digit [] = []
parts_behind after_digit (c ∷ cs) =
    if is_digit c && not after_digit then part_at (c ∷ cs) ∷ parts_behind true cs else parts_behind (is_digit c) cs

-- the parts of a duration, in order
abbrev pub parts_of : List ℕ → List (ℕ × TimeUnit)
parts_of text = parts_behind false text

abbrev pub milliseconds_of : ℕ × TimeUnit → ℕ
milliseconds_of part = part.0 * milliseconds_in part.1

abbrev pub total : List (ℕ × TimeUnit) → ℕ
total [] = 0
total (p ∷ ps) = milliseconds_of p + total ps

abbrev pub milliseconds : List ℕ → ℕ
milliseconds text = total (parts_of text)
