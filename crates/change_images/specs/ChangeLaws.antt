-- The clause of `apply` against the meaning of a change.
use Rattle.std.specs.Prelude.{◌≡◌, ◌+◌, ◌≤◌, length, ℕ, ℤ, Bool, true, false, List, Option, Some, None, Result, Ok, Err}
use Rattle.plc_text.specs.declared.fault.FaultKind.{FaultKind}
use Rattle.st_types.specs.declared.st_type.StType.{StType}
use Rattle.st_values.specs.Program.{Program}
use Rattle.st_values.specs.Value.{Store}
use Rattle.st_values.specs.Initial.{initial_store}
use Rattle.st_change.specs.Hook.{Ran, ran, stopped}
use Rattle.st_change.specs.Change as change
use Rattle.image_moves.specs.Moves.{Moves, no_moves, moved, AreWithin}
use Rattle.image_moves.specs.Merged.{merged}
use Rattle.carry_moves.specs.Addresses.{Relocates}
use Rattle.change_images.specs.Images.{Images, Source, Clean, region_moves}
use Rattle.change_images.specs.Phases.{HookRun, Left, Agrees, RunsHooks}
use Rattle.change_images.specs.Apply.{PlanLies, IsStop, IsChanged, phases_by}
use Rattle.change_images.specs.declared.hooks.Halt.{Halt}

-- moves that do what others do, and lie where those lie, in whatever way they are put together
pub record DoesAs (new old : Moves) : Type 0 where
  pub within : (s d : ℕ) → AreWithin old s d → AreWithin new s d
  pub same : (relocated : ℕ → ℤ → ℤ) (source image : List ℕ) (s d i j : ℕ) → AreWithin old s d → i + s ≤ length source → j + d ≤ length image → moved relocated source new i j image ≡ moved relocated source old i j image

-- what a plan has for a region; moves that do nothing may be left out
abbrev pub SourceDoes : Source → Source → Type 0
SourceDoes None None = Unit {0}
SourceDoes None (Some b) = DoesAs no_moves b.1
SourceDoes (Some a) None = ⊥
SourceDoes (Some a) (Some b) = (a.0 ≡ b.0) × DoesAs a.1 b.1

-- a plan of a pair of programs: for each region what does the moves of its shapes
pub record IsPlanOf (old new : Program) (aim : StType → ℕ) (kept copied : ℕ → Source) : Type 0 where
  pub kept-is : (r : ℕ) → SourceDoes (kept r) (region_moves old new aim true r)
  pub copied-is : (r : ℕ) → SourceDoes (copied r) (region_moves old new aim false r)

-- the new images show the store after the change, or the change is stopped and the old images are there
abbrev pub IsOutcome : Program → Program → Result Images (Images × Halt) → Images → Ran → Type 0
IsOutcome old new (Ok news) olds r = (s : Store) × (n : ℕ) × (r ≡ ran s n) × Clean new news s
IsOutcome old new (Err back) olds r = (class : List ℕ) × (kind : FaultKind) × (line : ℕ) × (r ≡ stopped class kind line) × (back.0 ≡ olds) × IsStop old new back.1 class kind line

pub record ChangeLaws : Type 0 where
  -- merged moves do the same
  pub merges : (ms : Moves) → DoesAs (merged ms) ms
  -- the plan's moves lie within clean images
  pub lies : (old new : Program) (aim : StType → ℕ) (kept copied : ℕ → Source) (olds news : Images) (before held : Store) → IsPlanOf old new aim kept copied → Clean old olds before → Clean new news held → PlanLies kept olds news × PlanLies copied olds news
  -- the phases by the plan are the change
  pub phases : (old new : Program) (aim : StType → ℕ) (relocated : ℕ → ℤ → ℤ) (run_old run_new : HookRun) (kept copied : ℕ → Source) (fresh olds : Images) (before : Store) → Relocates old new aim relocated → RunsHooks old run_old → RunsHooks new run_new
      → IsPlanOf old new aim kept copied → Clean old olds before → Clean new fresh (initial_store new)
      → Agrees new (phases_by run_old run_new relocated (change.exits old new (change.leaving old new)) (change.inits old new (change.coming old new)) (change.reinits old new (change.coming old new)) kept copied fresh olds) (change.change old new before)
  -- so an answer of `apply` is the outcome of the change
  pub outcome : (old new : Program) (result : Result Images (Images × Halt)) (olds : Images) (left : Left) (r : Ran) → IsChanged old new result olds left → Agrees new left r → IsOutcome old new result olds r
