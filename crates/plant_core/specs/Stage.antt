-- How far a play has come, and the change at hand, as plain data; and what room they still need.
use Rattle.std.specs.Prelude.{ℕ, ◌+◌, ◌≤◌, Bool, true, false, List, [], ◌∷◌}
use Rattle.plant_rules.specs.History.{Stage, idle, open_by, done, Turn, free, wanted_by, under_way}
use Rattle.plant_core.specs.declared.stage.Status.{Status}
use Rattle.plant_core.specs.declared.stage.Status.TheVariants.{Idle, Open, Done}
use Rattle.plant_core.specs.declared.stage.Ongoing.{Ongoing}
use Rattle.plant_core.specs.declared.stage.Ongoing.TheVariants.{Free, Wanted, UnderWay}

abbrev pub stage_of : Status → Stage
stage_of Idle = idle
stage_of (Open w t c) = open_by w t c.value
stage_of Done = done

abbrev pub turn_of : Ongoing → Turn
turn_of Free = free
turn_of (Wanted p w) = wanted_by p w
turn_of (UnderWay p w c) = under_way p w c.value

abbrev pub done_of : Stage → Bool
done_of idle = false
done_of (open_by w t c) = false
done_of done = true

-- what of a play's room is still unused: its entry, and its events
abbrev pub entries_left : Stage → ℕ
entries_left idle = 1
entries_left (open_by w t c) = 1
entries_left done = 0

abbrev pub events_left : Stage → ℕ
events_left idle = 3
events_left (open_by w t c) = 1
events_left done = 0

-- the events that the change has made already
abbrev pub events_made : Turn → ℕ
events_made free = 0
events_made (wanted_by p w) = 1
events_made (under_way p w c) = 2

abbrev pub total_of : (Stage → ℕ) → List Stage → ℕ
total_of f [] = 0
total_of f (g ∷ gs) = f g + total_of f gs

-- there is room for the entries and the events to come
pub record Room (stages : List Stage) (turn : Turn) (entries entry_room events event_room : ℕ) : Type 0 where
  pub for-entries : entries + total_of entries_left stages ≤ entry_room
  pub for-events : events + total_of events_left stages + 2 ≤ event_room + events_made turn
