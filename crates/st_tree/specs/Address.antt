-- What the text of an address stands for (IEC 61131-3:2013, 6.5.5): its area and width, a number, and for a single bit another one.
use Rattle.std.specs.Prelude.{ℕ, ◌+◌, Bool, not, List, [], ◌∷◌, take, drop, codes, if◌then◌else◌}
use Rattle.std.specs.List.{prefix_len}
use Rattle.plc_text.specs.Words.{opens, is_digit}
use Rattle.st_tree.specs.declared.address.Area.{Area}
use Rattle.st_tree.specs.declared.address.Area.TheVariants as area
use Rattle.st_tree.specs.declared.address.Width.{Width}
use Rattle.st_tree.specs.declared.address.Width.TheVariants as width
use Rattle.st_tree.specs.Pieces.{is_point}
use Rattle.st_tree.specs.Number.{digits_value}

abbrev pub area_of : List ℕ → Area
area_of text = if opens (codes "%I") text then area.Input else if opens (codes "%Q") text then area.Output else area.Memory

abbrev pub behind_area : List ℕ → List ℕ
behind_area text = drop 2 text

-- a single bit where no width is written
abbrev pub width_of : List ℕ → Width
width_of text =
    if opens (codes "B") (behind_area text) then width.Byte
    else if opens (codes "W") (behind_area text) then width.Word
    else if opens (codes "D") (behind_area text) then width.DoubleWord
    else if opens (codes "L") (behind_area text) then width.LongWord
    else width.Bit

abbrev pub behind_width : List ℕ → List ℕ
behind_width [] = []
behind_width (c ∷ cs) = if is_digit c then c ∷ cs else cs

-- the digits behind area and width, with the point
abbrev pub location_of : List ℕ → List ℕ
location_of text = behind_width (behind_area text)

abbrev pub is_no_point : ℕ → Bool
is_no_point c = not (is_point c)

-- the first number: which byte of a single bit, else which one of those as wide
abbrev pub index_of : List ℕ → ℕ
index_of text = let location = location_of text in digits_value 10 (take (prefix_len is_no_point location) location)

-- the number behind the point, 0 where there is none
abbrev pub bit_of : List ℕ → ℕ
bit_of text = let location = location_of text in digits_value 10 (drop (prefix_len is_no_point location + 1) location)
