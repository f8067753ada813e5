-- Images carry stores, and changes of images are changes of stores.
use Rattle.std.specs.Prelude.{ℕ, ℤ, Bool}
use Rattle.st_types.specs.declared.st_type.StType.{StType}
use Rattle.st_values.specs.Program.{Program}
use Rattle.st_values.specs.Value.{Store}
use Rattle.st_values.specs.Initial.{initial_store}
use Rattle.st_values.specs.Shape.{region_shape}
use Rattle.st_change.specs.Change.{carry_store, change}
use Rattle.carry_moves.specs.Addresses.{Relocates}
use Rattle.change_images.specs.Images.{Images, Clean, region_moves, carry_images}
use Rattle.change_images.specs.Phases.{HookRun, Agrees, RunsHooks, change_images}

pub record ImageLaws : Type 0 where
  -- clean images, moved by the plan, show the store that is carried
  pub carries : (old new : Program) (aim : StType → ℕ) (relocated : ℕ → ℤ → ℤ) (keeping : Bool) (olds news : Images) (before held : Store) → Relocates old new aim relocated → Clean old olds before → Clean new news held
      → Clean new (carry_images relocated (region_moves old new aim keeping) olds news) (carry_store old new keeping before held)
  -- and the five phases on images do what they do on stores, with the same ticks and the same fault
  pub changes : (old new : Program) (aim : StType → ℕ) (relocated : ℕ → ℤ → ℤ) (run_old run_new : HookRun) (fresh olds : Images) (before : Store) → Relocates old new aim relocated → RunsHooks old run_old → RunsHooks new run_new
      → Clean old olds before → Clean new fresh (initial_store new) → Agrees new (change_images old new aim relocated run_old run_new fresh olds) (change old new before)
