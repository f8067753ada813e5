-- How a command ends: what was written, and when each outcome comes.
use Rattle.std.specs.Prelude.{ℕ, ◌<◌, ◌≤◌, List, length, take, codes, Option}
use Rattle.std.specs.Io.KnownBytes.{Appends}
use Rattle.console_command.specs.declared.outcome.Verdict.{Verdict}
use Rattle.console_command.specs.declared.outcome.Verdict.TheVariants as verdict
use Rattle.console_command.specs.declared.outcome.Cause.{Cause}
use Rattle.console_command.specs.declared.outcome.Cause.TheVariants as cause
use Rattle.console_command.specs.declared.outcome.Outcome.{Outcome}
use Rattle.console_command.specs.declared.outcome.Outcome.TheVariants as outcome
use Rattle.console_command.specs.declared.outcome.Status.{Status}
use Rattle.console_command.specs.declared.outcome.Status.TheVariants as status

-- how many bytes a scenario may have
abbrev pub byte_limit : ℕ
byte_limit = 8388608

-- which text a report of each verdict is
module _ (Reports : Verdict → List ℕ → Type 0) where
  -- From what was taken before to what was taken after: the whole report, or its beginning.
  abbrev pub Wrote : Option (List ℕ) → Option (List ℕ) → Outcome → Type 0
  Wrote old new (outcome.Whole v) = (text : List ℕ) × Reports v text × Appends old new text
  Wrote old new outcome.Cut = (v : Verdict) × (text : List ℕ) × (sent : ℕ) × Reports v text × (sent < length text) × Appends old new (take sent text)
  Wrote old new (outcome.Silent c) = Unit {0}

  -- The outcome is one of those that these bytes may have where no read and no write fails: the one whose condition holds, or want of
  -- memory.
  abbrev pub IsComplete : List ℕ → Outcome → Type 0
  IsComplete bytes (outcome.Whole v) = (length bytes ≤ byte_limit) × (text : List ℕ) × Reports v text
  IsComplete bytes outcome.Cut = ⊥
  IsComplete bytes (outcome.Silent cause.Usage) = ⊥
  IsComplete bytes (outcome.Silent cause.ReadFault) = ⊥
  IsComplete bytes (outcome.Silent cause.TooLong) = byte_limit < length bytes
  IsComplete bytes (outcome.Silent cause.NoMemory) = Unit {0}

-- P holds where nothing was written
abbrev pub OnSilence : Outcome → Type 0 → Type 0
OnSilence (outcome.Whole v) P = Unit {0}
OnSilence outcome.Cut P = Unit {0}
OnSilence (outcome.Silent c) P = P

-- an outcome that comes only once all was read
abbrev pub IsResponse : Outcome → Type 0
IsResponse (outcome.Whole v) = Unit {0}
IsResponse outcome.Cut = Unit {0}
IsResponse (outcome.Silent cause.Usage) = ⊥
IsResponse (outcome.Silent cause.ReadFault) = ⊥
IsResponse (outcome.Silent cause.TooLong) = ⊥
IsResponse (outcome.Silent cause.NoMemory) = Unit {0}

-- ---- statuses

abbrev pub status_of : Outcome → Status
status_of (outcome.Whole verdict.Done) = status.Done
status_of (outcome.Whole verdict.Refused) = status.Refused
status_of (outcome.Whole verdict.Script) = status.Script
status_of outcome.Cut = status.WriteFault
status_of (outcome.Silent cause.Usage) = status.Usage
status_of (outcome.Silent cause.ReadFault) = status.ReadFault
status_of (outcome.Silent cause.TooLong) = status.TooLong
status_of (outcome.Silent cause.NoMemory) = status.NoMemory

-- the exit status
abbrev pub status_code : Status → ℕ
status_code status.Done = 0
status_code status.Refused = 1
status_code status.Usage = 2
status_code status.Script = 3
status_code status.ReadFault = 4
status_code status.WriteFault = 5
status_code status.NoMemory = 6
status_code status.TooLong = 7

abbrev pub status_name : Status → List ℕ
status_name status.Done = codes "Done"
status_name status.Refused = codes "Refused"
status_name status.Usage = codes "Usage"
status_name status.Script = codes "Script"
status_name status.ReadFault = codes "ReadFault"
status_name status.WriteFault = codes "WriteFault"
status_name status.NoMemory = codes "NoMemory"
status_name status.TooLong = codes "TooLong"
