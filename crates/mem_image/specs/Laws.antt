-- The laws of reads, writes and copies.
use Rattle.std.specs.Prelude.{◌≡◌, ℕ, ◌+◌, ◌^◌, ◌<◌, ◌≤◌, ℤ, pos, ◌+ℤ◌, ◌*ℤ◌, ◌⊎◌, ◌↔◌, All, List, length, replicate, slice_range}
use Rattle.st_types.specs.declared.elem.Elem.{Elem}
use Rattle.st_types.specs.Elem.{bytes}
use Rattle.st_types.specs.Range.{Fits}
use Rattle.mem_image.specs.Image.{low_first, value_at, replaced, bytes_of, written}

-- the m bytes from i on and the n bytes from j on share none
abbrev pub AreApart : ℕ → ℕ → ℕ → ℕ → Type 0
AreApart i m j n = (i + m ≤ j) ⊎ (j + n ≤ i)

-- what is written is read back
abbrev pub ReadsBack : Type 0
ReadsBack = (e : Elem) (image : List ℕ) (i : ℕ) (v : ℤ) → Fits e v → i + bytes e ≤ length image → value_at e (written e image i v) i ≡ v

-- a write leaves every value that shares no byte with it
abbrev pub LeavesValues : Type 0
LeavesValues = (a b : Elem) (image : List ℕ) (i j : ℕ) (v : ℤ) → i + bytes a ≤ length image → AreApart i (bytes a) j (bytes b) → value_at b (written a image i v) j ≡ value_at b image j

-- a value that is read lies within its kind
abbrev pub ReadsWithin : Type 0
ReadsWithin = (e : Elem) (image : List ℕ) (i : ℕ) → Fits e (value_at e image i)

-- every value of an image of zeros is 0
abbrev pub ReadsZero : Type 0
ReadsZero = (e : Elem) (n i : ℕ) → i + bytes e ≤ n → value_at e (replicate n 0) i ≡ pos 0

-- bytes of a value: as many as its kind has, and their number differs from the value by a multiple of 256 to their count
pub record IsSpelling (e : Elem) (v : ℤ) (part : List ℕ) : Type 0 where
  pub count : length part ≡ bytes e
  pub are_bytes : All (λ byte. byte < 256) part
  pub turns : ℤ
  pub differ : v ≡ pos (low_first part) +ℤ turns *ℤ pos (256 ^ bytes e)

-- what a write puts there is that, and nothing else is
abbrev pub SpellsOnce : Type 0
SpellsOnce = (e : Elem) (v : ℤ) (part : List ℕ) → IsSpelling e v part ↔ (part ≡ bytes_of e v)

-- what is put over a part leaves the number of bytes
abbrev pub KeepsLength : Type 0
KeepsLength = (image part : List ℕ) (i : ℕ) → i + length part ≤ length image → length (replaced image i part) ≡ length image

-- a part holds what was put over it
abbrev pub HoldsPart : Type 0
HoldsPart = (image part : List ℕ) (i : ℕ) → i + length part ≤ length image → slice_range (replaced image i part) i (i + length part) ≡ part

-- and every part that shares no byte with it stays
abbrev pub LeavesParts : Type 0
LeavesParts = (image part : List ℕ) (i j n : ℕ) → i + length part ≤ length image → AreApart i (length part) j n → slice_range (replaced image i part) j (j + n) ≡ slice_range image j (j + n)

-- a copied part has the values of its source
abbrev pub CopiesValues : Type 0
CopiesValues = (e : Elem) (image source : List ℕ) (i from n k : ℕ) → i + n ≤ length image → from + n ≤ length source → k + bytes e ≤ n
    → value_at e (replaced image i (slice_range source from (from + n))) (i + k) ≡ value_at e source (from + k)
