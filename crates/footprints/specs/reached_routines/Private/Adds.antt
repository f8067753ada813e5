-- What is added to a list of declarations, and which routines are entered.
use Rattle.std.specs.Prelude.{◌≡◌, ℕ, ◌<◌, ◌⊎◌, List, Option, Some, None, IsTrue, slice_get}
use Rattle.st_types.specs.declared.st_type.StType.{StType}
use Rattle.st_tree.specs.declared.program.Program.{Program as CheckedProgram}
use Rattle.st_values.specs.Program.{Routine, Program, conforms, lookup, body_of}
use Rattle.st_values.specs.View.{program_of}
use Rattle.st_meaning.specs.Enter.{program_body, programs_of}
use Rattle.st_meaning.specs.st_frame.Use.{Called, Use, calls, routine_uses}
use Rattle.st_meaning.specs.st_frame.Footprint.{Has, Enters, Reached}
use Rattle.program_tables.specs.Routine.{routine_of}
use Rattle.program_tables.specs.declared.routine.RoutineId.{RoutineId}
use Rattle.footprints.specs.reached_routines.Reached.{IsListed}

-- a declaration stands in the list
pub record Stands (ids : List RoutineId) (id : RoutineId) : Type 0 where
  pub place : ℕ
  pub there : slice_get ids place ≡ Some id

-- all that stood there stands where it did, this one stands there too, and nothing else
pub record AddsOne (id : RoutineId) (old new : List RoutineId) : Type 0 where
  pub kept : (k : ℕ) (i : RoutineId) → slice_get old k ≡ Some i → slice_get new k ≡ Some i
  pub only : (k : ℕ) (i : RoutineId) → slice_get new k ≡ Some i → (slice_get old k ≡ Some i) ⊎ (i ≡ id)
  pub added : Stands new id

-- all that stood there stands where it did, and what is new is one of these routines: all of them stand there, but those that are left
pub record AddsBut (p : CheckedProgram) (P L : Routine → Type 0) (old new : List RoutineId) : Type 0 where
  pub kept : (k : ℕ) (i : RoutineId) → slice_get old k ≡ Some i → slice_get new k ≡ Some i
  pub only : (k : ℕ) (i : RoutineId) → slice_get new k ≡ Some i → (slice_get old k ≡ Some i) ⊎ P (routine_of p i)
  pub all : (r : Routine) → P r → IsListed p new r ⊎ L r

abbrev pub Nothing : Routine → Type 0
Nothing r = ⊥

abbrev pub Adds : CheckedProgram → (Routine → Type 0) → List RoutineId → List RoutineId → Type 0
Adds p P old new = AddsBut p P Nothing old new

-- those that one of the items leads to
abbrev pub Via : {A : Type 0} → List A → (A → Routine → Type 0) → Routine → Type 0
Via {A} xs F r = (x : A) × Has xs x × F x r

-- items are taken one after the other, and these are left
pub record Takes {A : Type 0} (p : CheckedProgram) (F : A → Routine → Type 0) (whole left : List A) (old new : List RoutineId) : Type 0 where
  pub within : (x : A) → Has left x → Has whole x
  pub adds : AddsBut p (Via whole F) (Via left F) old new

abbrev pub Is : Option Routine → Routine → Type 0
Is o r = o ≡ Some r

-- ---- what is entered

-- the method of the name that a class means, or its body where there is no name
abbrev pub aimed : Program → Option (List ℕ) → ℕ → Option Routine
aimed p (Some name) c = lookup p c name
aimed p None c = body_of p c

abbrev pub Aims : Program → Option (List ℕ) → ℕ → Routine → Type 0
Aims p what c r = aimed p what c ≡ Some r

-- through the classes that conform to a type
abbrev pub ByKind : Program → StType → Option (List ℕ) → Routine → Type 0
ByKind p kind what r = (c : ℕ) × IsTrue (conforms p c kind) × Aims p what c r

abbrev pub EntersBy : Program → Use → Routine → Type 0
EntersBy p u r = (k : Called) × (u ≡ calls k) × Enters p k r

abbrev pub Begins : Program → ℕ → Routine → Type 0
Begins p region r = program_body p region ≡ Some r

-- the routines that the text of a routine enters
abbrev pub EnteredIn : Program → Routine → Routine → Type 0
EnteredIn p b r = Via (routine_uses p b) (EntersBy p) r

-- of the list so many are done with
pub record Queue (p : CheckedProgram) (task next : ℕ) (ids : List RoutineId) : Type 0 where
  pub sound : (k : ℕ) (i : RoutineId) → slice_get ids k ≡ Some i → Reached (program_of p) task (routine_of p i)
  pub begun : (r : Routine) → Via (programs_of (program_of p) task) (Begins (program_of p)) r → IsListed p ids r
  pub done : (k : ℕ) (i : RoutineId) → slice_get ids k ≡ Some i → k < next → (r : Routine) → EnteredIn (program_of p) (routine_of p i) r → IsListed p ids r
