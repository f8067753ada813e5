-- A script of plays, and which of them have their entries.
use Rattle.std.specs.Prelude.{◌≡◌, ℕ, ◌<◌, Bool, true, false, List, ◌∷◌, length, replicate, slice_get, slice_index_or, slice_set, Some}
use Rattle.cycle_journal.specs.Play.{play_numbered}
use Rattle.plant_rules.specs.History.{Script, Before, task_of}

-- done: for the play of number 0, which is none, and then for each play, whether it has its entry; names: those of the tasks of all plays
pub record Standing : Type 0 where
  pub script : Script
  pub names : List (List ℕ)
  pub done : List Bool

abbrev pub standing : Script → List (List ℕ) → List Bool → Standing
standing script names done = record { script = script; names = names; done = done }

abbrev pub is_done : Standing → ℕ → Bool
is_done v p = slice_index_or v.done p true

-- no play has its entry
abbrev pub none_done : Script → List Bool
none_done script = true ∷ replicate (length script.plays) false

-- the play has its entry now
abbrev pub marked : Standing → ℕ → Standing
marked v p = record v { done = slice_set v.done p true }

-- play q comes before play p, and has no entry
pub record Misses (v : Standing) (q p : ℕ) : Type 0 where
  pub before : Before v.script q p
  pub still : is_done v q ≡ false

-- q is the least such play
pub record MissesFirst (v : Standing) (p q : ℕ) : Type 0 where
  pub misses : Misses v q p
  pub least : (k : ℕ) → k < q → Misses v k p → ⊥

-- the name of the play's task stands at this place of the names, and each name at one place
pub record IsNamed (v : Standing) (p n : ℕ) : Type 0 where
  pub at : slice_get v.names n ≡ Some (task_of (play_numbered v.script.plays p))
  pub distinct : (i j : ℕ) (name : List ℕ) → slice_get v.names i ≡ Some name → slice_get v.names j ≡ Some name → i ≡ j
