-- What a core takes memory for, before its first play.
use Rattle.std.specs.Prelude.{◌≡◌, ℕ, ◌≤◌, ◌+◌, ◌*◌, List, [], ◌∷◌, length, replicate, Bool, false}
use Rattle.cycle_journal.specs.declared.entry.Entry.{Entry}
use Rattle.plant_rules.specs.Meaning.{Contents}
use Rattle.plant_rules.specs.History.{Script}
use Rattle.plant_core.specs.play_order.Progress.{Standing, none_done}
use Rattle.plant_core.specs.declared.stage.Status.{Status}
use Rattle.plant_core.specs.declared.stage.Status.TheVariants.{Idle, Done}
use Rattle.plant_core.specs.declared.event.Event.{Event}

-- no play has begun, nothing is noted, and there is room for an entry and three events of each play
pub record IsBlank {W : Type 0} (script : Script) (progress : Standing) (nothing : Contents) (status : List Status) (held : List Bool) (since : List ℕ) (entries : List Entry) (entry_room : ℕ) (events : List (Event W)) (event_room : ℕ) : Type 0 where
  pub script-is : progress.script ≡ script
  pub none-done : progress.done ≡ none_done progress.script
  pub empty : nothing ≡ []
  pub all-idle : status ≡ Done ∷ replicate (length progress.script.plays) Idle
  pub none-held : held ≡ replicate (length progress.names) false
  pub none-gone : since ≡ replicate (length progress.names) 0
  pub no-entry : entries ≡ []
  pub entry-room : length progress.script.plays ≤ entry_room
  pub no-event : events ≡ []
  pub event-room : 3 * length progress.script.plays + 2 ≤ event_room
