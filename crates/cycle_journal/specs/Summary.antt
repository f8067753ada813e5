-- A short account of a journal: what was loaded, and for each of four tasks its cycles that ended.
use Rattle.std.specs.Prelude.{ℕ, Bool, false, List, [], ◌∷◌, ◌++◌, length, codes, sum_by, Option, Some, if◌then◌else◌}
use Rattle.std.specs.Fmt.{decimal}
use Rattle.std.specs.List.{flat_map}
use Rattle.std.specs.Str.{bytes_eq}
use Rattle.cycle_journal.specs.declared.play.Play.{Play}
use Rattle.cycle_journal.specs.declared.play.Play.TheVariants.{Cycle}
use Rattle.cycle_journal.specs.declared.entry.Entry.{Entry}
use Rattle.cycle_journal.specs.declared.entry.Answer.{Answer}
use Rattle.cycle_journal.specs.declared.entry.Answer.TheVariants.{Done, Loaded}
use Rattle.plc_text.specs.Lines.{ended}
use Rattle.cycle_journal.specs.Play.{play_numbered}
use Rattle.cycle_journal.specs.Writing.{image}

-- the version that is loaded after an entry
abbrev pub version_after : ℕ → Answer → ℕ
version_after version (Loaded next) = next
version_after version _ = version

-- the version that is loaded after the last entry
abbrev pub last_version : List Entry → ℕ
last_version [] = 1
last_version (e ∷ []) = version_after e.version e.answer
last_version (e ∷ o ∷ entries) = last_version (o ∷ entries)

-- whether it is a cycle of this task
abbrev pub is_cycle_of : List ℕ → Option Play → Bool
is_cycle_of task (Some (Cycle name now input)) = bytes_eq name task
is_cycle_of task _ = false

-- the steps and the outputs of a cycle that ended
abbrev pub steps_and_outputs : Answer → List (ℕ × List ℕ)
steps_and_outputs (Done ticks outputs) = (ticks, outputs) ∷ []
steps_and_outputs _ = []

-- those of the task's cycles that ended
abbrev pub cycles_of : List Play → List ℕ → List Entry → List (ℕ × List ℕ)
cycles_of plays task entries = flat_map (λ e. if is_cycle_of task (play_numbered plays e.play) then steps_and_outputs e.answer else []) entries

-- the outputs of the last cycle
abbrev pub last_outputs : List (ℕ × List ℕ) → List ℕ
last_outputs [] = []
last_outputs (cycle ∷ []) = cycle.1
last_outputs (cycle ∷ next ∷ cycles) = last_outputs (next ∷ cycles)

abbrev pub task_line : List ℕ → List (ℕ × List ℕ) → List ℕ
task_line task cycles =
    codes "task " ++ task ++ codes " cycles " ++ decimal (length cycles) ++ codes " ticks " ++ decimal (sum_by (λ cycle. cycle.0) cycles) ++ codes " last " ++ image (last_outputs cycles)

-- the account of a journal whose program was the n-th
abbrev pub summary : ℕ → List Play → List Entry → List ℕ
summary n plays entries =
    ended (codes "load " ++ decimal n) ++ ended (codes "entries " ++ decimal (length entries)) ++ ended (codes "version " ++ decimal (last_version entries))
    ++ flat_map (λ task. ended (task_line task (cycles_of plays task entries))) (codes "T1" ∷ codes "T2" ∷ codes "T3" ∷ codes "T4" ∷ [])
