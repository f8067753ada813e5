-- The footprints of all tasks.
use Rattle.std.specs.Prelude.{◌≡◌, ℕ, List, Vec, Some, slice_get}
use Rattle.std.specs.declared.alloc.Global.{Global}
use Rattle.st_values.specs.Program.{Program}
use Rattle.st_meaning.specs.st_frame.Footprint.{IsFootprint}

-- the lists are the footprints of the tasks, by their numbers
pub record AreFootprints (p : Program) (all : List (Vec ℕ Global)) : Type 0 where
  pub by : (t : ℕ) (regions : Vec ℕ Global) → slice_get all t ≡ Some regions → IsFootprint p t regions.items
