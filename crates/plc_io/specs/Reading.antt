-- What reading a source to its end comes to.
use Rattle.std.specs.Prelude.{List, ℕ, ◌<◌, ◌≤◌, length, ⊤, Result, Ok, Err, Vec}
use Rattle.std.specs.declared.alloc.Global.{Global}
use Rattle.plc_io.specs.declared.reading.ReadError.{ReadError}
use Rattle.plc_io.specs.declared.reading.ReadError.TheVariants.{ReadFault, TooLong, NoMemory}

-- the answers that are open where these bytes were to come and no read failed
abbrev pub IsAnswerTo : List ℕ → ℕ → Result (Vec ℕ Global) ReadError → Type 0
IsAnswerTo bytes limit (Ok v) = length bytes ≤ limit
IsAnswerTo bytes limit (Err ReadFault) = ⊥
IsAnswerTo bytes limit (Err TooLong) = limit < length bytes
IsAnswerTo bytes limit (Err NoMemory) = ⊤
