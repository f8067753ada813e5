-- States, outcomes, and one step of a run after another.
use Rattle.std.specs.Prelude.{ℕ, zero, suc, nat_eq, if◌then◌else◌, List, [], ◌∷◌, ◌++◌, length, Option, Some, None, slice_get, slice_set}
use Rattle.plc_text.specs.declared.fault.FaultKind.{FaultKind}
use Rattle.plc_text.specs.declared.fault.FaultKind.TheVariants as fault
use Rattle.st_values.specs.Value.{Path, Step, Value, Store, member, with_member, value_at, value_with}

-- Where a value stands: in a region, or in a local of an open call. The program's body has depth 0, and so has a hook's own call.
pub data Spot : Type 0 where
  in_store : Path → Spot
  in_frame : ℕ → ℕ → List Step → Spot

-- A local holds a value, or it is an in-out and stands for a place; before it is bound, for none.
pub data Slot : Type 0 where
  holds : Value → Slot
  bound : Spot → Slot
  unbound : Slot

-- an open call: its own instance, where it has one, and its locals
pub record Frame : Type 0 where
  pub own : Option Path
  pub locals : List Slot

-- the innermost call stands first
pub record State : Type 0 where
  pub store : Store
  pub frames : List Frame
  pub ticks : ℕ
  -- the moment of the cycle
  pub now : ℕ

-- an answer with the state behind it, or a fault with its line
pub data Outcome (A : Type 0) : Type 0 where
  Done : A → State → Outcome A
  Fault : FaultKind → ℕ → Outcome A

-- a step of a run, from the line of the statement and a state
abbrev pub Run : Type 0 → Type 0
Run A = ℕ → State → Outcome A

infixl 10 ◌>>=◌ ◌>>◌
abbrev pub go_on : {A B : Type 0} → Outcome A → (A → State → Outcome B) → Outcome B
go_on (Done a s) f = f a s
go_on (Fault k line) f = Fault k line

abbrev pub ◌>>=◌ : {A B : Type 0} → Run A → (A → Run B) → Run B
◌>>=◌ m f = λ line s. go_on (m line s) (λ a. f a line)

abbrev pub ◌>>◌ : {A B : Type 0} → Run A → Run B → Run B
◌>>◌ m n = m >>= λ _. n

abbrev pub gives : {A : Type 0} → A → Run A
gives a = λ line s. Done a s

abbrev pub fails : {A : Type 0} → FaultKind → Run A
fails k = λ line s. Fault k line

abbrev pub at_line : {A : Type 0} → ℕ → Run A → Run A
at_line line m = λ _ s. m line s

abbrev pub some_or : {A : Type 0} → FaultKind → Option A → Run A
some_or k None = fails k
some_or k (Some a) = gives a

-- what an accepted program never lacks
abbrev pub there : {A : Type 0} → Option A → Run A
there o = some_or fault.Null o

-- ---- ticks and the moment

abbrev pub spend_from : ℕ → Run (Unit {0})
spend_from zero = fails fault.Watchdog
spend_from (suc n) = λ line s. Done tt (record s { ticks = n })

-- spends one tick
abbrev pub spend : Run (Unit {0})
spend = λ line s. spend_from s.ticks line s

abbrev pub moment : Run ℕ
moment = λ line s. Done s.now s

-- ---- regions

abbrev pub region_value : ℕ → Run Value
region_value r = λ line s. there (member s.store r) line s

abbrev pub set_region : ℕ → Value → Run (Unit {0})
set_region r v = λ line s. Done tt (record s { store = with_member s.store r v })

-- ---- open calls, by their depth

abbrev pub frame_at : List Frame → ℕ → Option Frame
frame_at [] d = None
frame_at (f ∷ fs) d = if nat_eq d (length fs) then Some f else frame_at fs d

abbrev pub frames_with : List Frame → ℕ → Frame → List Frame
frames_with [] d g = []
frames_with (f ∷ fs) d g = if nat_eq d (length fs) then g ∷ fs else f ∷ frames_with fs d g

abbrev pub held_in : Slot → Option Value
held_in (holds v) = Some v
held_in _ = None

abbrev pub held_by : Option Slot → Option Value
held_by None = None
held_by (Some slot) = held_in slot

-- the value of local n
abbrev pub frame_value : Option Frame → ℕ → Option Value
frame_value None n = None
frame_value (Some f) n = held_by (slice_get f.locals n)

abbrev pub local_value : ℕ → ℕ → Run Value
local_value d n = λ line s. there (frame_value (frame_at s.frames d) n) line s

abbrev pub with_local : List Frame → ℕ → ℕ → Value → Option Frame → List Frame
with_local fs d n v None = fs
with_local fs d n v (Some f) = frames_with fs d (record f { locals = slice_set f.locals n (holds v) })

abbrev pub set_local : ℕ → ℕ → Value → Run (Unit {0})
set_local d n v = λ line s. Done tt (record s { frames = with_local s.frames d n v (frame_at s.frames d) })

abbrev pub own_in : List Frame → Option Path
own_in [] = None
own_in (f ∷ fs) = f.own

-- the instance of the innermost call
abbrev pub own : Run Path
own = λ line s. there (own_in s.frames) line s

abbrev pub spot_in : ℕ → ℕ → Option Slot → Option Spot
spot_in d n (Some (holds v)) = Some (in_frame d n [])
spot_in d n (Some (bound spot)) = Some spot
spot_in d n _ = None

abbrev pub local_spot_in : List Frame → ℕ → Option Spot
local_spot_in [] n = None
local_spot_in (f ∷ fs) n = spot_in (length fs) n (slice_get f.locals n)

-- where local n of the innermost call is, or what it stands for
abbrev pub local_spot : ℕ → Run Spot
local_spot n = λ line s. there (local_spot_in s.frames n) line s

abbrev pub push : Frame → Run (Unit {0})
push f = λ line s. Done tt (record s { frames = f ∷ s.frames })

abbrev pub pop_from : List Frame → Run Frame
pop_from [] = fails fault.Null
pop_from (f ∷ fs) = λ line s. Done f (record s { frames = fs })

-- ends the innermost call, and gives what it leaves
abbrev pub pop : Run Frame
pop = λ line s. pop_from s.frames line s

-- ---- spots

abbrev pub into : Spot → Step → Spot
into (in_store q) t = in_store (record q { steps = q.steps ++ t ∷ [] })
into (in_frame d n ss) t = in_frame d n (ss ++ t ∷ [])

abbrev pub read : Spot → Run Value
read (in_store q) = do
  v ← region_value q.region
  there (value_at v q.steps)
read (in_frame d n ss) = do
  v ← local_value d n
  there (value_at v ss)

abbrev pub write : Spot → Value → Run (Unit {0})
write (in_store q) new = do
  v ← region_value q.region
  w ← there (value_with v q.steps new)
  set_region q.region w
write (in_frame d n ss) new = do
  v ← local_value d n
  w ← there (value_with v ss new)
  set_local d n w

-- an instance is always in a region
abbrev pub path_of : Spot → Option Path
path_of (in_store q) = Some q
path_of (in_frame d n ss) = None
