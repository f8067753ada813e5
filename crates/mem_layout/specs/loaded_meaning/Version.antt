-- What a loaded version of a program means: its cycles and changes on the stores that its regions' bytes spell.
use Rattle.std.specs.Prelude.{◌≡◌, ◌<◌, ℕ, suc, ◌+◌, pos, if◌then◌else◌, List, [], ◌∷◌, length, Option, Some, None, Result, Ok, Err, slice_index_or, ◌⊎◌}
use Rattle.plc_text.specs.declared.fault.FaultKind.{FaultKind}
use Rattle.plc_text.specs.declared.refusal.Refusal.{Refusal}
use Rattle.cycle_journal.specs.declared.entry.CycleReply.{CycleReply}
use Rattle.cycle_journal.specs.declared.entry.CycleReply.TheVariants as reply
use Rattle.st_tree.specs.declared.program.Program.{Program as CheckedProgram}
use Rattle.st_rules.specs.Chains.{is_among}
use Rattle.st_values.specs.Program.{Region, Program}
use Rattle.st_values.specs.View.{program_of}
use Rattle.st_values.specs.Value.{Value, number, Store, no_members, member_then, member}
use Rattle.st_values.specs.Shape.{Shape, region_shape}
use Rattle.st_meaning.specs.Cycle.{cycle}
use Rattle.st_meaning.specs.st_frame.Footprint.{Has, Writes, IsFootprint}
use Rattle.st_meaning.specs.st_frame.Good.{Fit}
use Rattle.st_meaning.specs.st_frame.Promise.Programs.{ProgramIs}
use Rattle.st_change.specs.Hook.{ran, stopped}
use Rattle.st_change.specs.Change.{change}
use Rattle.st_change.specs.OneThread.{task_named, hook_refusal}
use Rattle.st_change.specs.StoreLaws.{HooksAre}
use Rattle.mem_layout.specs.store_bytes.Place.{size}
use Rattle.mem_layout.specs.store_bytes.Spells.{Spells}
use Rattle.mem_layout.specs.store_bytes.Image.{image_of}
use Rattle.plant_rules.specs.Meaning.{Contents, bytes_at, Rising, Meaning}
use Rattle.mem_layout.specs.loaded_meaning.Decoded.{decoded}
use Rattle.mem_layout.specs.loaded_meaning.Sized.{IsSized}

-- a version: its number, its checked program, and for each task the regions that it touches and those that it writes
pub record Version : Type 0 where
  pub number : ℕ
  pub checked : CheckedProgram
  pub reads : List (List ℕ)
  pub writes : List (List ℕ)

abbrev pub plain : Version → Program
plain v = program_of v.checked

abbrev pub reads_of : Version → ℕ → List ℕ
reads_of v t = slice_index_or v.reads t []

abbrev pub writes_of : Version → ℕ → List ℕ
writes_of v t = slice_index_or v.writes t []

-- ---- the store that contents spell, and the contents that spell a store

module _ (p : Program) where
  abbrev pub decoded_in : Option Shape → Option (List ℕ) → Value
  decoded_in (Some sh) (Some bytes) = decoded (region_shape p) sh bytes 0
  decoded_in _ _ = number (pos 0)

  abbrev pub stores_from : ℕ → List Region → Contents → Store
  stores_from r [] c = no_members
  stores_from r (x ∷ xs) c = member_then x.variable.name (decoded_in (region_shape p r) (bytes_at c r)) (stores_from (suc r) xs c)

  abbrev pub store_of : Contents → Store
  store_of c = stores_from 0 p.regions c

  abbrev pub encoded : Option Shape → Option Value → List ℕ
  encoded (Some sh) (Some v) = image_of (region_shape p) sh v
  encoded _ _ = []

  abbrev pub images_from : ℕ → List Region → Store → Contents
  images_from r [] s = []
  images_from r (x ∷ xs) s = Some (encoded (region_shape p r) (member s r)) ∷ images_from (suc r) xs s

  abbrev pub images_of : Store → Contents
  images_of s = images_from 0 p.regions s

  -- what is there is written anew
  abbrev pub image_there : ℕ → Option (List ℕ) → Option Value → Option (List ℕ)
  image_there r (Some bytes) (Some v) = Some (encoded (region_shape p r) (Some v))
  image_there r o w = o

  -- the contents from region r on, of which these regions are written anew from a store
  abbrev pub rewritten : List ℕ → ℕ → Contents → Store → Contents
  rewritten ws r [] s = []
  rewritten ws r (o ∷ os) s = (if is_among r ws then image_there r o (member s r) else o) ∷ rewritten ws (suc r) os s

  -- ---- what is right

  -- the bytes spell a value of the region that is good
  pub record FitAt (r : ℕ) (bytes : List ℕ) : Type 0 where
    pub shape : Shape
    pub is : region_shape p r ≡ Some shape
    pub long : length bytes ≡ size shape
    pub value : Value
    pub spells : Spells (region_shape p) shape value bytes 0
    pub fits : Fit p shape value

-- the list has just what the task writes
pub record IsWritten (p : Program) (task : ℕ) (ws : List ℕ) : Type 0 where
  pub sound : (r : ℕ) → Has ws r → Writes p task r
  pub complete : (r : ℕ) → Writes p task r → Has ws r

pub record IsRight (v : Version) : Type 0 where
  pub promise : ProgramIs (plain v)
  pub hooks : HooksAre (plain v)
  pub sized : IsSized (plain v)
  pub footprint : (t : ℕ) → t < length (plain v).tasks → IsFootprint (plain v) t (reads_of v t)
  pub rising : (t : ℕ) → t < length (plain v).tasks → Rising (reads_of v t)
  pub below : (t : ℕ) → t < length (plain v).tasks → (r : ℕ) → Has (reads_of v t) r → r < length (plain v).regions
  pub written : (t : ℕ) → t < length (plain v).tasks → IsWritten (plain v) t (writes_of v t)
  pub written_rising : (t : ℕ) → t < length (plain v).tasks → Rising (writes_of v t)

-- ---- the meaning

abbrev pub cycle_of : Version → ℕ → ℕ → List ℕ → Contents → CycleReply × Store
cycle_of v t now input c = cycle (plain v) (reads_of v t) t now input (store_of (plain v) c)

-- a fault leaves all bytes
abbrev pub left_after : Version → ℕ → Contents → CycleReply → Store → Contents
left_after v t c (reply.Done ticks outputs) s = rewritten (plain v) (writes_of v t) 0 c s
left_after v t c (reply.Fault fault) s = c

-- What texts are accepted, as which program, and with what they are refused.
module _ (Accepts : List ℕ → Program → Type 0) (Refuses : List ℕ → Refusal → Type 0) where
  -- the next version with its contents
  pub record LoadsNext (v : Version) (text : List ℕ) (c : Contents) (w : Version) (d : Contents) : Type 0 where
    pub number : w.number ≡ v.number + 1
    pub accepted : Accepts text (plain w)
    pub right : IsRight w
    pub ticks : ℕ
    pub store : Store
    pub changes : change (plain v) (plain w) (store_of (plain v) c) ≡ ran store ticks
    pub images : d ≡ images_of (plain w) store

  -- a hook stops at a fault
  pub record HookStops (v : Version) (text : List ℕ) (c : Contents) (r : Refusal) : Type 0 where
    pub program : Program
    pub accepted : Accepts text program
    pub class : List ℕ
    pub kind : FaultKind
    pub line : ℕ
    pub stops : change (plain v) program (store_of (plain v) c) ≡ stopped class kind line
    pub refusal : r ≡ hook_refusal class kind line

  abbrev pub ChangesTo : Version → List ℕ → Contents → Result (Version × Contents) Refusal → Type 0
  ChangesTo v text c (Ok x) = LoadsNext v text c x.0 x.1
  ChangesTo v text c (Err r) = Refuses text r ⊎ HookStops v text c r

  abbrev pub meaning : Meaning Version
  meaning = record {
    number = λ v. v.number;
    tasks = λ v. length (plain v).tasks;
    region_total = λ v. length (plain v).regions;
    named = λ v name. task_named (plain v) name;
    reads = reads_of;
    writes = writes_of;
    reply_of = λ v t now input c. (cycle_of v t now input c).0;
    left_by = λ v t now input c. left_after v t c (cycle_of v t now input c).0 (cycle_of v t now input c).1;
    right = IsRight;
    fit = λ v. FitAt (plain v);
    denied = λ v text r. Refuses text r;
    changed = ChangesTo;
  }
