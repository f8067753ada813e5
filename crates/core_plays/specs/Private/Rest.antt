-- A core between two plays of one caller that takes them in order.
use Rattle.std.specs.Prelude.{◌≡◌, ℕ, ◌<◌, ◌≤◌, List, length}
use Rattle.std.specs.List.{range_with_len}
use Rattle.cycle_journal.specs.Interleaving.{numbers_of}
use Rattle.cycle_journal.specs.declared.entry.Entry.{Entry}
use Rattle.plant_rules.specs.Meaning.{Meaning}
use Rattle.plant_rules.specs.History.{Script, Past, Stage, idle, done, Turn, free, stage_at, state_of}

-- the first k plays have their entries, in order, and the others nothing; with a change there is this
pub record StandsAt (script : Script) (k : ℕ) (change : Turn) (stages : List Stage) (turn : Turn) (entries : List Entry) : Type 0 where
  pub size : length stages ≡ length script.plays
  pub done-are : (p : ℕ) → p ≤ k → stage_at stages p ≡ done
  pub idle-are : (p : ℕ) → k < p → p ≤ length script.plays → stage_at stages p ≡ idle
  pub turn-is : turn ≡ change
  pub numbers : numbers_of entries ≡ range_with_len 1 k

abbrev pub StandsWith : {W : Type 0} → Meaning W → ℕ → Turn → Past W → Type 0
StandsWith m k change v = StandsAt v.script k change (state_of m v).stages (state_of m v).turn (state_of m v).entries

-- no change is wanted or under way
abbrev pub RestsAt : {W : Type 0} → Meaning W → ℕ → Past W → Type 0
RestsAt m k v = StandsWith m k free v
