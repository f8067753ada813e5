-- The plays and phases that were read so far, within their limits.
use Rattle.std.specs.Prelude.{ℕ, ◌+◌, nat_le, nat_lt, List, [], ◌∷◌, ◌++◌, length, Option, Some, None, if◌then◌else◌}
use Rattle.std.specs.List.{list_any}
use Rattle.plc_text.specs.Words.{same}
use Rattle.cycle_journal.specs.declared.play.Play.{Play}
use Rattle.cycle_journal.specs.declared.play.Play.TheVariants.{Cycle, Change, Reset}
use Rattle.scenario.specs.declared.played.Played.{Played}
use Rattle.scenario.specs.Private.PlayLine.{◌>>=◌}

abbrev pub nothing_played : Played
nothing_played = record { plays = []; phases = []; first = 1; next = 1; changes = 0; tasks = [] }

-- the phase ends, and the next one begins
abbrev pub with_phase : Played → Played
with_phase p = record p { phases = p.phases ++ (p.first, p.next) ∷ []; first = p.next }

abbrev pub with_change : Played → Option Played
with_change p = if nat_lt p.changes 256 then Some (record p { changes = p.changes + 1 }) else None

-- the task is one of those that were named, or a further one
abbrev pub with_task : Played → List ℕ → Option Played
with_task p task =
    if list_any (same task) p.tasks then Some p
    else if nat_lt (length p.tasks) 32 then Some (record p { tasks = p.tasks ++ task ∷ [] })
    else None

-- what the play counts for
abbrev pub counted : Played → Play → Option Played
counted p (Cycle task now input) = with_task p task
counted p (Change source n) = with_change p
counted p (Reset task) = with_task p task

abbrev pub with_play : Played → Play → Option Played
with_play p play =
    if nat_le p.next 65536 then (counted p play >>= λ q. Some (record q { plays = q.plays ++ play ∷ []; next = q.next + 1 }))
    else None
