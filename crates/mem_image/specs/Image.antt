-- Images: the bytes that hold a program's values, and what a read, a write and a copy mean.
use Rattle.std.specs.Prelude.{ℕ, ◌+◌, ◌*◌, ◌^◌, ℤ, pos, unsigned_abs, List, [], ◌∷◌, ◌++◌, length, take, drop, slice_range}
use Rattle.std.specs.Int.{bytes_low_first, int_rem_euclid}
use Rattle.st_types.specs.declared.elem.Elem.{Elem}
use Rattle.st_types.specs.Elem.{bytes}
use Rattle.plc_num.specs.Wrapping.{wrapped}

-- the number that the bytes stand for, the low one first
abbrev pub low_first : List ℕ → ℕ
low_first [] = 0
low_first (low ∷ high) = low + 256 * low_first high

-- the value of the kind at the offset: the number of its bytes, wrapped to the kind
unfoldable pub value_at : Elem → List ℕ → ℕ → ℤ
value_at e image offset = wrapped e (pos (low_first (slice_range image offset (offset + bytes e))))

-- the image with these bytes at the offset, as far as it reaches
unfoldable pub replaced : List ℕ → ℕ → List ℕ → List ℕ
replaced image offset part = take (length image) (take offset image ++ part ++ drop (offset + length part) image)

-- the bytes of a value in two's complement, the low one first
unfoldable pub bytes_of : Elem → ℤ → List ℕ
bytes_of e v = bytes_low_first 0 (bytes e) (unsigned_abs (int_rem_euclid v (pos (256 ^ bytes e))))

-- the image with the value at the offset
abbrev pub written : Elem → List ℕ → ℕ → ℤ → List ℕ
written e image offset v = replaced image offset (bytes_of e v)
