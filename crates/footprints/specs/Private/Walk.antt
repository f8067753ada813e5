-- Which regions uses bring in, by tables.
use Rattle.std.specs.Prelude.{◌≡◌, ℕ, true, List, Option, Some, None, ◌⊎◌}
use Rattle.std.specs.HashSet.{HashSet, contains}
use Rattle.st_tree.specs.declared.program.Program.{Program as CheckedProgram}
use Rattle.st_values.specs.Program.{Routine, Program}
use Rattle.st_values.specs.View.{program_of}
use Rattle.st_meaning.specs.Enter.{programs_of}
use Rattle.st_meaning.specs.st_frame.Use.{Owner, the_region, the_instances, Use, names, follows, changes, routine_uses}
use Rattle.st_meaning.specs.st_frame.Footprint.{Has, Reached}
use Rattle.program_tables.specs.Routine.{routine_of}
use Rattle.program_tables.specs.declared.routine.RoutineId.{RoutineId}
use Rattle.footprints.specs.reached_routines.Families.{Family, kind_of, same_family}
use Rattle.footprints.specs.declared.walk.Part.{Part}
use Rattle.footprints.specs.declared.walk.Part.TheVariants as part
use Rattle.footprints.specs.Private.Holders.{Held}
use Rattle.footprints.specs.Private.Puts.{Via}

-- whose regions a use brings in
abbrev pub owner_in : Part → Use → Option Owner
owner_in part.Touched (names g) = Some (the_region g)
owner_in part.Touched (follows t) = Some (the_instances t)
owner_in part.Altered (changes o) = Some o
owner_in _ _ = None

module _ (p : Program) (lists : List (List ℕ)) where
  abbrev pub InOwner : Owner → ℕ → Type 0
  InOwner (the_region g) r = r ≡ g
  InOwner (the_instances t) r = Held p lists t r

  abbrev pub InOwnerIf : Option Owner → ℕ → Type 0
  InOwnerIf None r = ⊥
  InOwnerIf (Some o) r = InOwner o r

  abbrev pub InUse : Part → Use → ℕ → Type 0
  InUse part u r = InOwnerIf (owner_in part u) r

  abbrev pub InText : Part → Routine → ℕ → Type 0
  InText part b r = Via (routine_uses p b) (InUse part) r

  -- the families that were followed have all their regions in the list
  pub record AreFollowed {S : Type 0} (followed : HashSet Family S) (regions : List ℕ) : Type 0 where
    pub each : (f : Family) → contains same_family followed f ≡ true → (r : ℕ) → Held p lists (kind_of f) r → Has regions r

-- by its declaration
abbrev pub InRoutine : CheckedProgram → List (List ℕ) → Part → RoutineId → ℕ → Type 0
InRoutine q lists part id r = InText (program_of q) lists part (routine_of q id) r

-- the programs of a task, and what its texts bring in
pub record AreCollected (p : Program) (lists : List (List ℕ)) (part : Part) (task : ℕ) (regions : List ℕ) : Type 0 where
  pub sound : (r : ℕ) → Has regions r → Has (programs_of p task) r ⊎ ((b : Routine) × Reached p task b × InText p lists part b r)
  pub programs : (r : ℕ) → Has (programs_of p task) r → Has regions r
  pub texts : (r : ℕ) (b : Routine) → Reached p task b → InText p lists part b r → Has regions r
