-- What a read does.
use Rattle.std.specs.Prelude.{◌≡◌, List, ℕ, ◌≤◌, length, take, Option}
use Rattle.std.specs.Io.KnownBytes.{Consumes, IsAtEnd, Keeps}
use Rattle.plc_io.specs.Faults.{next_count}
use Rattle.plc_io.specs.declared.source.Got.{Got}
use Rattle.plc_io.specs.declared.source.Got.TheVariants.{Bytes, End, Failed}

-- A read gives the first bytes that are left, which are then gone, or says that none are, or fails and takes none.
-- `old` and `new` are the bytes left before and after it, `buf` is what the buffer then holds.
abbrev pub ReadGives : Option (List ℕ) → Option (List ℕ) → List ℕ → Got → Type 0
ReadGives old new buf (Bytes n) = (1 ≤ n) × (n ≤ length buf) × Consumes old new (take n buf)
ReadGives old new buf End = IsAtEnd old × Keeps old new
ReadGives old new buf Failed = Keeps old new

-- a count of faults goes up exactly where the read failed
abbrev pub CountsFailedRead : Got → ℕ → ℕ → Type 0
CountsFailedRead (Bytes n) old new = new ≡ old
CountsFailedRead End old new = new ≡ old
CountsFailedRead Failed old new = new ≡ next_count old
