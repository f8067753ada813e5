-- The code's controller as the meaning's.
use Rattle.std.specs.Prelude.{◌≡◌, ℕ, List, map, Some, slice_get}
use Rattle.st_values.specs.View.{program_of}
use Rattle.st_meaning.specs.ProcessImage.{located_of}
use Rattle.st_meaning.specs.st_frame.Footprint.{IsFootprint}
use Rattle.st_change.specs.OneThread.{Controller}
use Rattle.value_trees.specs.Value.{members_of}
use Rattle.process_image.specs.Located.{all_seen}
use Rattle.reference_tasks.specs.Loaded.{IsLoaded}
use Rattle.reference_plays.specs.declared.controller.Controller.{Controller as CodeController}
use Rattle.reference_plays.specs.declared.controller.Gone.{Gone}
use Rattle.reference_plays.specs.declared.controller.Plan.{Plan}

abbrev pub gone_of : Gone → List ℕ × ℕ
gone_of g = (g.name, g.version)

-- what is held between plays, with the program that is run
abbrev pub controller_of : Plan → CodeController → Controller
controller_of plan c = record {
  version = c.version;
  program = program_of plan.on.now.tables.now;
  store = members_of c.store;
  held = c.held.items;
  gone = map gone_of c.gone.items;
}

-- the tables, the variables with addresses and the footprints are those of the program
pub record IsPlan (plan : Plan) : Type 0 where
  pub loaded : IsLoaded plan.on.now
  pub located : all_seen plan.located.now ≡ located_of (program_of plan.on.now.tables.now)
  pub footprints : (t : ℕ) (regions : _) → slice_get plan.footprints.now t ≡ Some regions → IsFootprint (program_of plan.on.now.tables.now) t regions.items
