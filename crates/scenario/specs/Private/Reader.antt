-- What a reader of a scenario has after one more line, or after some more lines.
use Rattle.std.specs.Prelude.{ℕ, Bool, ◌&&◌, not, nat_eq, nat_lt, List, [], ◌∷◌, ◌++◌, length, drop, codes, is_some, Option, Some, None, if◌then◌else◌}
use Rattle.std.specs.List.{starts_with}
use Rattle.plc_text.specs.Lines.{ended}
use Rattle.plc_text.specs.Text.{folded}
use Rattle.plc_text.specs.Words.{same, begins, is_word}
use Rattle.st_names.specs.Names.{HasName}
use Rattle.scenario.specs.declared.reader.Part.{Part}
use Rattle.scenario.specs.declared.reader.Part.TheVariants.{Start, Program, Source, Plays, End}
use Rattle.scenario.specs.declared.reader.Reader.{Reader}
use Rattle.scenario.specs.Scenario.{Contents}
use Rattle.scenario.specs.Private.PlayLine.{◌>>=◌, place_of, play_in}
use Rattle.scenario.specs.Private.Played.{nothing_played, with_phase, with_play}

abbrev pub start : Reader
start = record { part = Start; program = []; sources = []; name = []; text = []; played = nothing_played }

-- the source that was being read joins those before it
abbrev pub with_source : Reader → Reader
with_source r = record r { sources = r.sources ++ (r.name, r.text) ∷ []; name = []; text = [] }

-- a source of this name begins, if it may
abbrev pub opened : Reader → List ℕ → Option Reader
opened r name =
    if is_word name && (not (is_some (place_of r.sources (folded name))) && nat_lt (length r.sources) 256)
    then Some (record r { part = Source; name = folded name })
    else None

-- a line behind a program or a source that begins with `@`
abbrev pub directed : Reader → List ℕ → Option Reader
directed r line =
    if same line (codes "@plays") then Some (record r { part = Plays })
    else if starts_with nat_eq line (codes "@source ") then opened r (drop 8 line)
    else None

abbrev pub is_directive : List ℕ → Bool
is_directive line = begins (λ c. nat_eq c 64) line

-- a line among the plays
abbrev pub played_on : Reader → List ℕ → Option Reader
played_on r line =
    if same line (codes "@end") then Some (record r { part = End; played = with_phase r.played })
    else if same line (codes "sync") then Some (record r { played = with_phase r.played })
    else (play_in r.sources line >>= λ play. with_play r.played play >>= λ played. Some (record r { played = played }))

-- the reader in this part after the line, if the line can stand there
abbrev pub step_in : Part → Reader → List ℕ → Option Reader
step_in Start r line = if same line (codes "@program") then Some (record r { part = Program }) else None
step_in Program r line = if is_directive line then directed r line else Some (record r { program = r.program ++ ended line })
step_in Source r line = if is_directive line then directed (with_source r) line else Some (record r { text = r.text ++ ended line })
step_in Plays r line = played_on r line
step_in End r line = if same line [] then Some r else None

abbrev pub step : Reader → List ℕ → Option Reader
step r line = step_in r.part r line

-- the reader after the lines, if they can stand
abbrev pub run : Reader → List (List ℕ) → Option Reader
run r [] = Some r
run r (line ∷ lines) = step r line >>= λ q. run q lines

-- no source that has ended has the name of the one that is being read
abbrev pub IsFreshIn : Part → Reader → Type 0
IsFreshIn Source r = HasName r.sources r.name → ⊥
IsFreshIn _ r = Unit {0}

abbrev pub IsFresh : Reader → Type 0
IsFresh r = IsFreshIn r.part r

-- what a reader that has read to the end holds
abbrev pub held_by : Reader → Contents
held_by r = record { program = r.program; sources = r.sources; plays = r.played.plays; phases = r.played.phases }

-- the answer of a reader that is in this part when no line is left
abbrev pub outcome : Part → Reader → Option Contents
outcome End r = Some (held_by r)
outcome _ r = None
