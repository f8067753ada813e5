-- The state of One in the terms of versions as a controller of the meaning.
use Rattle.std.specs.Prelude.{◌≡◌, ℕ, List, length}
use Rattle.st_change.specs.OneThread.{Controller, is_held, since}
use Rattle.plant_rules.specs.Meaning.{Whole}
use Rattle.plant_rules.specs.One.{OneState}
use Rattle.mem_layout.specs.loaded_meaning.Version.{Version, plain, store_of, FitAt, IsRight}

-- with the lists of the tasks that are held and of those that are gone
abbrev pub controller_of : OneState Version → List (List ℕ) → List (List ℕ × ℕ) → Controller
controller_of a held gone = record { version = a.version.number; program = plain a.version; store = store_of (plain a.version) a.store; held = held; gone = gone }

-- the lists say what the functions say
pub record ListsAre (a : OneState Version) (held : List (List ℕ)) (gone : List (List ℕ × ℕ)) : Type 0 where
  pub held-are : (n : List ℕ) → a.held n ≡ is_held held n
  pub since-are : (n : List ℕ) → a.since n ≡ since gone n

-- the controller is that of the state
pub record IsControllerOf (a : OneState Version) (c : Controller) : Type 0 where
  pub held : List (List ℕ)
  pub gone : List (List ℕ × ℕ)
  pub is : c ≡ controller_of a held gone
  pub lists : ListsAre a held gone

-- the version is right, and all its regions are there and fit
pub record IsWholeState (a : OneState Version) : Type 0 where
  pub right : IsRight a.version
  pub whole : Whole (FitAt (plain a.version)) (length (plain a.version).regions) a.store
