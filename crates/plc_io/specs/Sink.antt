-- What a write does.
use Rattle.std.specs.Prelude.{◌≡◌, List, ℕ, ◌≤◌, length, take, Option}
use Rattle.std.specs.Io.KnownBytes.{Appends, Keeps}
use Rattle.plc_io.specs.Faults.{next_count}
use Rattle.plc_io.specs.declared.sink.Took.{Took}
use Rattle.plc_io.specs.declared.sink.Took.TheVariants.{Bytes, Failed}

-- A write appends the first bytes of the piece, or fails and appends none.
-- `old` and `new` are the bytes taken before and after it.
abbrev pub WriteTakes : Option (List ℕ) → Option (List ℕ) → List ℕ → Took → Type 0
WriteTakes old new piece (Bytes n) = (1 ≤ n) × (n ≤ length piece) × Appends old new (take n piece)
WriteTakes old new piece Failed = Keeps old new

-- a count of faults goes up exactly where the write failed
abbrev pub CountsFailedWrite : Took → ℕ → ℕ → Type 0
CountsFailedWrite (Bytes n) old new = new ≡ old
CountsFailedWrite Failed old new = new ≡ next_count old
