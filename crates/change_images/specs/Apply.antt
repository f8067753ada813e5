-- What the phases of a change give, in the words of the definitions.
use Rattle.std.specs.Prelude.{◌≡◌, ◌<◌, if◌then◌else◌, ℕ, ℤ, List, [], ◌∷◌, length, map, Option, Some, None, Result, Ok, Err, slice_get, slice_set}
use Rattle.plc_text.specs.declared.fault.FaultKind.{FaultKind}
use Rattle.st_meaning.specs.Cycle.{all_ticks}
use Rattle.st_values.specs.Program.{Program}
use Rattle.st_change.specs.Hook.{Hook, class_name}
use Rattle.image_moves.specs.Moves.{Moves, AreWithin}
use Rattle.image_moves.specs.MoveViews.{moves_of}
use Rattle.change_images.specs.Images.{Images, Source, carried_image, carry_images}
use Rattle.change_images.specs.Phases.{Left, left, faulted, then_left, HookRun, run_all}
use Rattle.change_images.specs.declared.carrying.RegionMoves.{RegionMoves}
use Rattle.change_images.specs.declared.hooks.Halt.{Halt}
use Rattle.change_images.specs.declared.hooks.Stop.{Stop}

-- a region's moves, as the plan is seen
abbrev pub source_of : Option RegionMoves → Source
source_of None = None
source_of (Some m) = Some (m.source, moves_of m.moves)

abbrev pub source_at : Option (Option RegionMoves) → Source
source_at None = None
source_at (Some m) = source_of m

abbrev pub plan_of : List (Option RegionMoves) → ℕ → Source
plan_of ms r = source_at (slice_get ms r)

abbrev pub long : Option (List ℕ) → ℕ
long None = 0
long (Some image) = length image

abbrev pub long_at : Option (Option (List ℕ)) → ℕ
long_at None = 0
long_at (Some i) = long i

abbrev pub lengths : Images → List ℕ
lengths is = map long is

-- the moves lie within the images
abbrev pub Lies : Images → Images → ℕ → Source → Type 0
Lies olds news r None = Unit {0}
Lies olds news r (Some a) = (a.0 < length olds) × AreWithin a.1 (long_at (slice_get olds a.0)) (long_at (slice_get news r))

pub record PlanLies (plan : ℕ → Source) (olds news : Images) : Type 0 where
  pub by : (r : ℕ) → r < length news → Lies olds news r (plan r)

-- the fault of a hook: the program whose class it names, the class, kind and line
abbrev pub IsStop : Program → Program → Halt → List ℕ → FaultKind → ℕ → Type 0
IsStop old new halt class kind line = (class_name (if halt.old then old else new) halt.stop.class ≡ class) × (halt.stop.fault.kind ≡ kind) × (halt.stop.fault.line ≡ line)

-- the answer of phases
abbrev pub ArePhases : Program → Program → Result (Unit {0}) Halt → Images → Left → Type 0
ArePhases old new (Ok u) is (left js m) = is ≡ js
ArePhases old new (Err halt) is (faulted class kind line) = IsStop old new halt class kind line
ArePhases old new _ is _ = ⊥

-- a hook's answer
abbrev pub IsLeft : Program → Result ℕ Stop → Images → Left → Type 0
IsLeft p (Ok n) is (left js m) = (n ≡ m) × (is ≡ js)
IsLeft p (Err stop) is (faulted class kind line) = (class_name p stop.class ≡ class) × (stop.fault.kind ≡ kind) × (stop.fault.line ≡ line)
IsLeft p _ is _ = ⊥

-- images of the same lengths at the same places
pub record SameLengths (is js : Images) : Type 0 where
  pub count : length js ≡ length is
  pub each : (k : ℕ) → long_at (slice_get js k) ≡ long_at (slice_get is k)

-- where a hook did not fault, the images have the lengths that they had
abbrev pub KeepsLengths : Result ℕ Stop → Images → Images → Type 0
KeepsLengths (Ok n) is js = SameLengths is js
KeepsLengths (Err stop) is js = Unit {0}

module _ (run_old run_new : HookRun) (relocated : ℕ → ℤ → ℤ) where
  -- the inits, the copy and the reinits
  abbrev pub come_by : List Hook → List Hook → (ℕ → Source) → Images → Images → ℕ → Left
  come_by inits reinits copied olds news n =
      then_left (run_all run_new inits news n) (λ i3 n3. run_all run_new reinits (carry_images relocated copied olds i3) n3)

  -- the five phases, by plans
  abbrev pub phases_by : List Hook → List Hook → List Hook → (ℕ → Source) → (ℕ → Source) → Images → Images → Left
  phases_by exits inits reinits kept copied fresh olds =
      then_left (run_all run_old exits olds all_ticks) (λ o1 n1. come_by inits reinits copied o1 (carry_images relocated kept o1 fresh) n1)

-- the answer of a change: the new images, or the fault and the old ones as they were
abbrev pub IsChanged : Program → Program → Result Images (Images × Halt) → Images → Left → Type 0
IsChanged old new (Ok news) olds (left js m) = news ≡ js
IsChanged old new (Err back) olds (faulted class kind line) = (back.0 ≡ olds) × IsStop old new back.1 class kind line
IsChanged old new _ olds _ = ⊥

-- the images with one of them carried
abbrev pub with_image : Images → ℕ → Option (List ℕ) → Images
with_image is r i = slice_set is r i

abbrev pub image_at : Option (Option (List ℕ)) → Option (List ℕ)
image_at None = None
image_at (Some i) = i

abbrev pub carried_at : (ℕ → ℤ → ℤ) → Images → ℕ → Source → Images → Images
carried_at relocated olds r a news = slice_set news r (carried_image relocated olds a (image_at (slice_get news r)))

-- a place of the one and a place of the other are both empty, or hold images of one length
abbrev pub IsAlike : Option (Option (List ℕ)) → Option (Option (List ℕ)) → Type 0
IsAlike (Some None) (Some None) = Unit {0}
IsAlike (Some (Some a)) (Some (Some b)) = length b ≡ length a
IsAlike _ _ = ⊥

pub record AreAlike (olds saved : Images) : Type 0 where
  pub count : length saved ≡ length olds
  pub by : (r : ℕ) → r < length olds → IsAlike (slice_get olds r) (slice_get saved r)
