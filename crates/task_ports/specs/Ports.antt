-- Variables with addresses in images: how inputs are written there, and outputs read.
use Rattle.std.specs.Prelude.{◌≡◌, ◌≤◌, ◌<◌, ℕ, ◌+◌, ◌-◌, ◌*◌, ◌/◌, ◌%◌, ℤ, pos, unsigned_abs, ◌&&◌, nat_eq, nat_le, nat_lt, if◌then◌else◌, List, [], ◌∷◌, length, map, Option, Some, slice_get, slice_set}
use Rattle.std.specs.List.{range_with_len}
use Rattle.st_types.specs.declared.elem.Elem.{Elem}
use Rattle.st_types.specs.Elem.{bytes}
use Rattle.plc_num.specs.Wrapping.{wrapped}
use Rattle.mem_image.specs.Image.{value_at, written}
use Rattle.st_meaning.specs.ProcessImage.{is_bit, bytes_in, input_byte, input_number, byte_of}
use Rattle.task_ports.specs.declared.ports.Port.{Port}

-- the bytes of a region, and none where it is away
abbrev pub bytes_or : Option (Option (List ℕ)) → List ℕ
bytes_or (Some (Some image)) = image
bytes_or _ = []

abbrev pub region_bytes : List (Option (List ℕ)) → ℕ → List ℕ
region_bytes images r = bytes_or (slice_get images r)

-- a region is there, and so long
pub record HasRoom (images : List (Option (List ℕ))) (r end : ℕ) : Type 0 where
  pub is : slice_get images r ≡ Some (Some (region_bytes images r))
  pub within : end ≤ length (region_bytes images r)

-- it lies within its region
pub record PortFits (images : List (Option (List ℕ))) (x : Port) : Type 0 where
  pub room : HasRoom images x.region (x.offset + bytes x.elem)
  pub some : 0 < x.weight

abbrev pub PortsFit : List (Option (List ℕ)) → List Port → Type 0
PortsFit images [] = Unit {0}
PortsFit images (x ∷ xs) = PortFits images x × PortsFit images xs

-- ---- inputs

abbrev pub port_input : List ℕ → Port → ℤ
port_input input x = if is_bit x.width then pos (input_byte input x.first / x.weight % 2) else wrapped x.elem (pos (input_number input x.first (bytes_in x.width)))

-- a value in a region
abbrev pub with_value : List (Option (List ℕ)) → ℕ → ℕ → Elem → ℤ → List (Option (List ℕ))
with_value images r offset e z = slice_set images r (Some (written e (region_bytes images r) offset z))

abbrev pub latched_one : List ℕ → Port → List (Option (List ℕ)) → List (Option (List ℕ))
latched_one input x images = with_value images x.region x.offset x.elem (port_input input x)

-- inputs take their values
abbrev pub latched : List Port → List ℕ → List (Option (List ℕ)) → List (Option (List ℕ))
latched [] input images = images
latched (x ∷ xs) input images = latched xs input (latched_one input x images)

-- ---- outputs

abbrev pub port_number : List (Option (List ℕ)) → Port → ℤ
port_number images x = value_at x.elem (region_bytes images x.region) x.offset

-- what a value puts into byte b
abbrev pub port_share : Port → ℤ → ℕ → ℕ
port_share x z b =
    if is_bit x.width then (if nat_eq b x.first then unsigned_abs z * x.weight else 0)
    else (if nat_le x.first b && nat_lt b (x.first + bytes_in x.width) then byte_of z (bytes_in x.width) (b - x.first) else 0)

-- byte b of outputs, no two of which share a bit
abbrev pub collected_byte : List Port → List (Option (List ℕ)) → ℕ → ℕ
collected_byte [] images b = 0
collected_byte (x ∷ xs) images b = port_share x (port_number images x) b + collected_byte xs images b

-- the first bytes
abbrev pub collected : List Port → ℕ → List (Option (List ℕ)) → List ℕ
collected xs end images = map (collected_byte xs images) (range_with_len 0 end)

-- each address ends within so many bytes
abbrev pub EndsWithin : ℕ → List Port → Type 0
EndsWithin end [] = Unit {0}
EndsWithin end (x ∷ xs) = (x.first + bytes_in x.width ≤ end) × EndsWithin end xs
