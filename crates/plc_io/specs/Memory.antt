-- Sources and sinks in memory, as contracts see them.
use Rattle.std.specs.Prelude.{◌≡◌, ◌⊎◌, List, ℕ, length, Contains}
use Rattle.plc_io.specs.Faults.{next_count}

pub record SourceMemory : Type 0 where
  -- the bytes still to come
  pub left : List ℕ
  -- the largest piece that a read gives, as it was set
  pub piece : ℕ
  -- the numbers of the reads that are to fail, from 1 on
  pub failing : List ℕ
  -- the reads made so far, and those that failed
  pub made : ℕ
  pub faults : ℕ

pub record SinkMemory : Type 0 where
  -- the bytes taken so far
  pub taken : List ℕ
  -- how many bytes there is room for
  pub room : ℕ
  -- the largest piece that a write takes, as it was set
  pub piece : ℕ
  -- the numbers of the writes that are to fail, from 1 on
  pub failing : List ℕ
  -- the writes made so far, and those that failed
  pub made : ℕ
  pub faults : ℕ

-- the next read is one that is to fail
abbrev pub FailsNextRead : SourceMemory → Type 0
FailsNextRead source = Contains source.failing (next_count source.made)

-- the next write is one that is to fail, or no room is left
abbrev pub FailsNextWrite : SinkMemory → Type 0
FailsNextWrite sink = Contains sink.failing (next_count sink.made) ⊎ (length sink.taken ≡ sink.room)

-- a read is counted, and leaves what was set
pub record CountsRead (old new : SourceMemory) : Type 0 where
  pub piece : new.piece ≡ old.piece
  pub failing : new.failing ≡ old.failing
  pub made : new.made ≡ next_count old.made

-- a write is counted, and leaves what was set
pub record CountsWrite (old new : SinkMemory) : Type 0 where
  pub room : new.room ≡ old.room
  pub piece : new.piece ≡ old.piece
  pub failing : new.failing ≡ old.failing
  pub made : new.made ≡ next_count old.made
