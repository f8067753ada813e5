-- Which cores play_in_order takes, and what of them stays.
use Rattle.std.specs.Prelude.{◌≡◌, ℕ, ◌+◌, ◌<◌, ◌≤◌, ◌^◌, List, length, Some}
use Rattle.cycle_journal.specs.Play.{play_numbered}
use Rattle.cycle_journal.specs.declared.play.Play.TheVariants as play
use Rattle.plant_rules.specs.Meaning.{Meaning}
use Rattle.plant_rules.specs.History.{Past}
use Rattle.plant_rules.specs.plant_history.Running.{changes_of}

-- a core of the same beginning and script
abbrev pub SameCore : {W : Type 0} → Past W → Past W → Type 0
SameCore v v' = (v'.first ≡ v.first) × (v'.contents ≡ v.contents) × (v'.script ≡ v.script)

-- the first version is right, each change has a source, and no version's number comes to the end of 32 bits
pub record IsPlayable {W : Type 0} (m : Meaning W) (v : Past W) : Type 0 where
  pub right : m.right v.first
  pub few-plays : length v.script.plays ≤ 65536
  pub few-changes : m.number v.first + changes_of v.script.plays < 2 ^ 32
  pub sources : (p n : ℕ) (name : List ℕ) → play_numbered v.script.plays p ≡ Some (play.Change name n) → n < length v.script.sources
