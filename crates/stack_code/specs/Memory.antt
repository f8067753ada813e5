-- The memory of a run, its addresses, and how an address is kept in eight bytes.
use Rattle.std.specs.Prelude.{ℕ, ◌+◌, ◌-◌, ◌*◌, ◌/◌, ◌%◌, ◌^◌, ℤ, pos, negsuc, Bool, true, false, ◌&&◌, List, Option, Some, None, length, slice_get, slice_set, slice_range, nat_le, nat_lt, nat_eq, if◌then◌else◌}
use Rattle.st_types.specs.declared.elem.Elem.{Elem}
use Rattle.st_types.specs.declared.elem.Elem.TheVariants as kind
use Rattle.st_types.specs.Elem.{bytes}
use Rattle.plc_num.specs.Wrapping.{wrapped}
use Rattle.mem_image.specs.Image.{value_at, written, replaced}
use Rattle.stack_code.specs.declared.memory.Space.{Space}
use Rattle.stack_code.specs.declared.memory.Space.TheVariants.{Regions, Locals}
use Rattle.stack_code.specs.declared.memory.Address.{Address}
use Rattle.stack_code.specs.declared.memory.Word.{Word}
use Rattle.stack_code.specs.declared.memory.Word.TheVariants as word
use Rattle.stack_code.specs.Steps.{Step, Goes, ◌>>=◌, stuck, some_or_stuck, asks}

-- the regions, of which some may be away, and the locals of the open calls, those of the program's body first
pub record Memory : Type 0 where
  pub regions : List (Option (List ℕ))
  pub locals : List (List ℕ)

abbrev pub there : Option (Option (List ℕ)) → Step (List ℕ)
there None = stuck
there (Some image) = some_or_stuck image

abbrev pub image_in : Space → Memory → ℕ → Step (List ℕ)
image_in Regions m i = there (slice_get m.regions i)
image_in Locals m i = some_or_stuck (slice_get m.locals i)

abbrev pub with_image : Space → Memory → ℕ → List ℕ → Memory
with_image Regions m i image = record m { regions = slice_set m.regions i (Some image) }
with_image Locals m i image = record m { locals = slice_set m.locals i image }

-- an image that has n bytes from the address on
abbrev pub holds : List ℕ → Address → ℕ → Step (List ℕ)
holds image a n = asks (nat_le (a.offset + n) (length image)) image

-- the image of an address, with n bytes there
abbrev pub image_at : Memory → Address → ℕ → Step (List ℕ)
image_at m a n = do
  image ← image_in a.space m a.index
  holds image a n

abbrev pub read : Elem → Memory → Address → Step ℤ
read e m a = do
  image ← image_at m a (bytes e)
  Goes (value_at e image a.offset)

abbrev pub write : Elem → Memory → Address → ℤ → Step Memory
write e m a v = do
  image ← image_at m a (bytes e)
  Goes (with_image a.space m a.index (written e image a.offset v))

-- n bytes, as they stood before
abbrev pub copy : ℕ → Memory → Address → Address → Step Memory
copy n m source target = do
  here ← image_at m source n
  there ← image_at m target n
  Goes (with_image target.space m target.index (replaced there target.offset (slice_range here source.offset (source.offset + n))))

-- the number that stands for an address: a region's lies below 2^63, that of locals from there on
abbrev pub number_kept : Space → ℕ → ℕ → ℕ
number_kept Regions i offset = i * 2 ^ 32 + offset + 1
number_kept Locals i offset = 2 ^ 63 + i * 2 ^ 32 + offset

abbrev pub address_kept : Space → ℕ → Step ℤ
address_kept Regions n = asks (nat_lt n (2 ^ 63)) (pos n)
address_kept Locals n = Goes (wrapped kind.Ulint (pos n))

-- what is written for a word: an address as it is kept, a number modulo 2^64
abbrev pub kept : Word → Step ℤ
kept (word.Number v) = Goes (wrapped kind.Ulint v)
kept (word.Address a) = address_kept a.space (number_kept a.space a.index a.offset)
kept word.Null = Goes (pos 0)

abbrev pub address_of : ℕ → Address
address_of n =
    if nat_lt n (2 ^ 63)
    then record { space = Regions; index = (n - 1) / 2 ^ 32; offset = (n - 1) % 2 ^ 32 }
    else record { space = Locals; index = (n - 2 ^ 63) / 2 ^ 32; offset = (n - 2 ^ 63) % 2 ^ 32 }

-- the reference that is kept as this number
abbrev pub reference_of : ℤ → Word
reference_of (pos n) = if nat_eq n 0 then word.Null else word.Address (address_of n)
reference_of (negsuc n) = word.Null

-- the address so many bytes further on
abbrev pub moved : Address → ℕ → Step Address
moved a n = asks (nat_lt (a.offset + n) (2 ^ 32)) (record a { offset = a.offset + n })

abbrev pub same_space : Space → Space → Bool
same_space Regions Regions = true
same_space Locals Locals = true
same_space _ _ = false

-- whether two references are equal
abbrev pub same_reference : Word → Word → Bool
same_reference word.Null word.Null = true
same_reference (word.Address a) (word.Address b) = same_space a.space b.space && nat_eq a.index b.index && nat_eq a.offset b.offset
same_reference _ _ = false
