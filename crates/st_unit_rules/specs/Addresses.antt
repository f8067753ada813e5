-- Bits that regions share at output and memory addresses, with the regions in the order of the text (IEC 61131-3:2013, 6.5.5).
use Rattle.std.specs.Prelude.{ℕ, ◌+◌, ◌*◌, nat_lt, Bool, true, false, not, ◌&&◌, ◌||◌, if◌then◌else◌, List, [], ◌∷◌, ◌++◌, flat_map, Option, Some, None}
use Rattle.std.specs.List.{list_any}
use Rattle.plc_text.specs.declared.code.Code.TheVariants.{E14}
use Rattle.st_tree.specs.Address.{area_of, width_of, index_of, bit_of}
use Rattle.st_tree.specs.declared.address.Area.{Area}
use Rattle.st_tree.specs.declared.address.Area.TheVariants as area
use Rattle.st_tree.specs.declared.declaration.SectionSort.{SectionSort}
use Rattle.st_tree.specs.declared.declaration.SectionSort.TheVariants as sort
use Rattle.st_rules.specs.Faults.{Faults, when}
use Rattle.st_unit_rules.specs.declared_names.Variables.{Written}
use Rattle.st_unit_rules.specs.VariableRules.{width_bits, width_bytes, has_bit_above_seven, passes_the_image}

-- bits of one area: the first, and how many
pub record Bits : Type 0 where
  pub area : Area
  pub first : ℕ
  pub count : ℕ

abbrev pub bits_at : List ℕ → Bits
bits_at text = record { area = area_of text; first = index_of text * width_bytes (width_of text) * 8 + bit_of text; count = width_bits (width_of text) }

-- inputs may share bits
abbrev pub same_area : Area → Area → Bool
same_area area.Output area.Output = true
same_area area.Memory area.Memory = true
same_area _ _ = false

abbrev pub share : Bits → Bits → Bool
share a b = same_area a.area b.area && nat_lt a.first (b.first + b.count) && nat_lt b.first (a.first + a.count)

-- an address past its image has none
abbrev pub bits_of : Option (List ℕ) → List Bits
bits_of None = []
bits_of (Some text) = if has_bit_above_seven text || passes_the_image text then [] else bits_at text ∷ []

abbrev pub may_be_located : SectionSort → Bool
may_be_located sort.Var = true
may_be_located sort.Global = true
may_be_located _ = false

-- the bits of a variable that may have an address
abbrev pub variable_bits : Written → List Bits
variable_bits w = if may_be_located w.sort && not w.constant then bits_of w.item.address else []

abbrev pub all_bits : List Written → List Bits
all_bits ws = flat_map variable_bits ws

abbrev pub is_shared : List Bits → Bits → Bool
is_shared taken b = list_any (share b) taken

-- a region with these bits shares one with those before it, or two of its own are one
abbrev pub shares_bits : List Bits → List Bits → Bool
shares_bits taken [] = false
shares_bits taken (b ∷ bs) = if is_shared taken b then true else shares_bits (taken ++ b ∷ []) bs

abbrev pub bits_shared : ℕ → List Bits → List Bits → Faults
bits_shared line taken bs = when (shares_bits taken bs) E14 line
