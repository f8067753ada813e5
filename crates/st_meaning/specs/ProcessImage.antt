-- Inputs and outputs: variables with addresses, and the bytes of the process image (IEC 61131-3:2013, 6.5.5 and table 16).
use Rattle.std.specs.Prelude.{ℕ, zero, suc, ◌+◌, ◌-◌, ◌*◌, ◌/◌, ◌%◌, ◌^◌, ℤ, pos, unsigned_abs, Bool, true, false, ◌&&◌, nat_eq, nat_le, nat_lt, max, if◌then◌else◌, List, [], ◌∷◌, ◌++◌, map, Option, Some, None, slice_index_or}
use Rattle.std.specs.Int.{bit_at, int_rem_euclid}
use Rattle.std.specs.List.{range_with_len}
use Rattle.st_types.specs.declared.elem.Elem.{Elem}
use Rattle.plc_num.specs.Wrapping.{wrapped}
use Rattle.st_tree.specs.declared.address.Area.{Area}
use Rattle.st_tree.specs.declared.address.Area.TheVariants as area
use Rattle.st_tree.specs.declared.address.Width.{Width}
use Rattle.st_tree.specs.declared.address.Width.TheVariants as width
use Rattle.st_tree.specs.declared.path.Step.TheVariants as step
use Rattle.st_tree.specs.Address.{area_of, width_of, index_of, bit_of}
use Rattle.st_values.specs.Program.{Variable, Region, Program, class_variables}
use Rattle.st_rules.specs.Chains.{is_among}
use Rattle.st_values.specs.Value.{Path, Value, number, Store, at, put}
use Rattle.st_meaning.specs.Operation.{number_in, elem_of}
use Rattle.st_meaning.specs.Call.{class_of_kind}

-- a variable with an address in upper case
pub record Located : Type 0 where
  pub path : Path
  pub elem : Elem
  pub address : List ℕ

abbrev pub located : Path → Variable → Option (List ℕ) → List Located
located q v None = []
located q v (Some address) = record { path = q; elem = elem_of v.kind; address = address } ∷ []

-- variables of an instance from this number on
abbrev pub located_variables : ℕ → ℕ → List Variable → List Located
located_variables r k [] = []
located_variables r k (v ∷ vs) = located (record { region = r; steps = step.Field k ∷ [] }) v v.address ++ located_variables r (suc k) vs

abbrev pub located_in : Program → ℕ → Region → List Located
located_in p r x =
    if x.program then located_variables r 0 (class_variables p (class_of_kind x.variable.kind)) else located (record { region = r; steps = [] }) x.variable x.variable.address

-- regions from this number on
abbrev pub located_from : Program → ℕ → List Region → List Located
located_from p r [] = []
located_from p r (x ∷ xs) = located_in p r x ++ located_from p (suc r) xs

-- the variables with addresses, in the order of the text
abbrev pub located_of : Program → List Located
located_of p = located_from p 0 p.regions

-- ---- addresses

abbrev pub same_area : Area → Area → Bool
same_area area.Input area.Input = true
same_area area.Output area.Output = true
same_area area.Memory area.Memory = true
same_area _ _ = false

abbrev pub is_in : Area → Located → Bool
is_in a x = same_area (area_of x.address) a

abbrev pub is_bit : Width → Bool
is_bit width.Bit = true
is_bit _ = false

-- how many bytes it has; a bit lies in one
abbrev pub bytes_in : Width → ℕ
bytes_in width.Bit = 1
bytes_in width.Byte = 1
bytes_in width.Word = 2
bytes_in width.DoubleWord = 4
bytes_in width.LongWord = 8

abbrev pub size_of : List ℕ → ℕ
size_of address = bytes_in (width_of address)

-- the first byte: addresses count in their own width
abbrev pub first_byte : List ℕ → ℕ
first_byte address = index_of address * size_of address

-- ---- inputs

-- a byte of the input; behind the bytes that are given stand zeros
abbrev pub input_byte : List ℕ → ℕ → ℕ
input_byte input b = slice_index_or input b 0

-- so many bytes from one on, the low one first
abbrev pub input_number : List ℕ → ℕ → ℕ → ℕ
input_number input b zero = 0
input_number input b (suc n) = input_byte input b + 256 * input_number input (b + 1) n

abbrev pub input_value : List ℕ → Located → ℤ
input_value input x =
    if is_bit (width_of x.address) then pos (bit_at (input_byte input (first_byte x.address)) (bit_of x.address))
    else wrapped x.elem (pos (input_number input (first_byte x.address) (size_of x.address)))

abbrev pub or_same : Store → Option Store → Store
or_same s None = s
or_same s (Some t) = t

-- the inputs among these variables, in these regions, take their values
abbrev pub latch : List Located → List ℕ → List ℕ → Store → Store
latch [] fs input s = s
latch (x ∷ xs) fs input s =
    latch xs fs input (if is_in area.Input x && is_among x.path.region fs then or_same s (put s x.path (number (input_value input x))) else s)

-- ---- outputs

-- byte k of a number that has so many, in two's complement, the low one first
abbrev pub byte_of : ℤ → ℕ → ℕ → ℕ
byte_of z n k = unsigned_abs (int_rem_euclid z (pos (256 ^ n))) / 256 ^ k % 256

-- what a value puts into byte b
abbrev pub share : List ℕ → ℤ → ℕ → ℕ
share address z b =
    if is_bit (width_of address) then (if nat_eq b (first_byte address) then unsigned_abs z * 2 ^ bit_of address else 0)
    else (if nat_le (first_byte address) b && nat_lt b (first_byte address + size_of address) then byte_of z (size_of address) (b - first_byte address) else 0)

abbrev pub number_or_zero : Option Value → ℤ
number_or_zero None = pos 0
number_or_zero (Some v) = number_in v

abbrev pub is_shown : List ℕ → Located → Bool
is_shown fs x = is_in area.Output x && is_among x.path.region fs

-- byte b of the outputs: no two of them share a bit
abbrev pub output_byte : List Located → List ℕ → Store → ℕ → ℕ
output_byte [] fs s b = 0
output_byte (x ∷ xs) fs s b = (if is_shown fs x then share x.address (number_or_zero (at s x.path)) b else 0) + output_byte xs fs s b

-- how many bytes there are up to the last that an output covers
abbrev pub covered : List Located → List ℕ → ℕ
covered [] fs = 0
covered (x ∷ xs) fs = max (if is_shown fs x then first_byte x.address + size_of x.address else 0) (covered xs fs)

-- the outputs among these variables, in these regions
abbrev pub collect : List Located → List ℕ → Store → List ℕ
collect xs fs s = map (output_byte xs fs s) (range_with_len 0 (covered xs fs))
