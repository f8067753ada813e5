-- The outputs of a program: each ends within the image, and no bit of it is of two of them.
use Rattle.std.specs.Prelude.{◌≡◌, ◌≤◌, ◌<◌, ℕ, ◌+◌, ◌*◌, nat_le, nat_lt, Bool, true, ◌&&◌, if◌then◌else◌, List, length, filter}
use Rattle.st_types.specs.declared.elem.Elem.TheVariants as kind
use Rattle.st_tree.specs.declared.address.Area.TheVariants as area
use Rattle.st_tree.specs.Address.{width_of, bit_of}
use Rattle.st_values.specs.Program.{Program}
use Rattle.st_meaning.specs.ProcessImage.{Located, located_of, is_in, is_bit, size_of, first_byte}
use Rattle.st_meaning.specs.st_frame.Footprint.{Has}

-- the first bit of an address, counted from the first one of byte 0, and how many bits it has
abbrev pub first_bit : List ℕ → ℕ
first_bit address = first_byte address * 8 + (if is_bit (width_of address) then bit_of address else 0)

abbrev pub bit_count : List ℕ → ℕ
bit_count address = if is_bit (width_of address) then 1 else size_of address * 8

-- an output that has this bit
abbrev pub has_bit : ℕ → Located → Bool
has_bit n x = is_in area.Output x && (nat_le (first_bit x.address) n && nat_lt n (first_bit x.address + bit_count x.address))

pub record OutputsAre (p : Program) : Type 0 where
  -- each output ends within 256 bytes
  pub within : (x : Located) → Has (located_of p) x → is_in area.Output x ≡ true → first_byte x.address + size_of x.address ≤ 256
  -- no bit is of two
  pub apart : (n : ℕ) → length (filter (has_bit n) (located_of p)) ≤ 1
  -- what is at a single bit, one of the eight of its byte, is a BOOL
  pub single : (x : Located) → Has (located_of p) x → is_bit (width_of x.address) ≡ true → (bit_of x.address < 8) × (x.elem ≡ kind.Bool)
