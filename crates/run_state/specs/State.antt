-- The code's state of a run as the meaning's, and when a step of the code agrees with one of the meaning.
use Rattle.std.specs.Prelude.{◌≡◌, List, [], ◌∷◌, map, Option, Some, None, Result, Ok, Err}
use Rattle.st_values.specs.Value.{Store, put}
use Rattle.st_meaning.specs.ProcessImage.{or_same}
use Rattle.st_meaning.specs.State.{Spot, in_store, in_frame, Slot, holds, bound, unbound, Frame, State, Outcome, Done, Fault}
use Rattle.value_trees.specs.declared.value.Member.{Member}
use Rattle.value_trees.specs.Value.{value_of, members_of}
use Rattle.run_state.specs.declared.state.Spot.{Spot as CodeSpot}
use Rattle.run_state.specs.declared.state.Spot.TheVariants.{Region, Local}
use Rattle.run_state.specs.declared.state.Slot.{Slot as CodeSlot}
use Rattle.run_state.specs.declared.state.Slot.TheVariants.{Holds, Bound, Unbound}
use Rattle.run_state.specs.declared.state.Frame.{Frame as CodeFrame}
use Rattle.run_state.specs.declared.state.Undo.{Undo}
use Rattle.run_state.specs.declared.state.Log.{Log}
use Rattle.run_state.specs.declared.state.RunState.{RunState}
use Rattle.run_state.specs.declared.state.Stop.{Stop}
use Rattle.run_state.specs.declared.state.Stop.TheVariants as stop

abbrev pub spot_of : CodeSpot → Spot
spot_of (Region q) = in_store q
spot_of (Local d n ss) = in_frame d n ss

abbrev pub slot_of : CodeSlot → Slot
slot_of (Holds v) = holds (value_of v)
slot_of (Bound x) = bound (spot_of x)
slot_of Unbound = unbound

abbrev pub frame_of : CodeFrame → Frame
frame_of f = record { own = f.own; locals = map slot_of f.locals }

-- the last call stands first, over those below
abbrev pub stack : List Frame → List CodeFrame → List Frame
stack below [] = below
stack below (f ∷ fs) = stack (frame_of f ∷ below) fs

abbrev pub state_of : RunState → State
state_of m = record { store = members_of m.store; frames = stack [] m.frames; ticks = m.ticks; now = m.moment }

-- the answer and the state are the outcome's, unless memory is wanting
abbrev pub Agrees : {A : Type 0} → Result A Stop → Outcome A → State → Type 0
Agrees (Ok a) o s = o ≡ Done a s
Agrees (Err (stop.Fault f)) o s = o ≡ Fault f.kind f.line
Agrees (Err stop.NoMemory) o s = Unit {0}

-- the same under a view of the answer
abbrev pub Shows : {C A : Type 0} → (C → A) → Result C Stop → Outcome A → State → Type 0
Shows view (Ok a) o s = o ≡ Done (view a) s
Shows view (Err (stop.Fault f)) o s = o ≡ Fault f.kind f.line
Shows view (Err stop.NoMemory) o s = Unit {0}

-- ---- what takes writes back

-- the store before a replacement
abbrev pub undone : Undo → Store → Store
undone u s = or_same s (put s u.path (value_of u.old))

-- the store before all of them, the last of which stands at the end
abbrev pub unwind : List Undo → Store → Store
unwind [] s = s
unwind (u ∷ us) s = undone u (unwind us s)

-- the store that is known as a whole, else this one
abbrev pub or_whole : Option (List Member) → Store → Store
or_whole None s = s
or_whole (Some ms) s = members_of ms

-- the store when the log was empty
abbrev pub before : Log → Store → Store
before log s = or_whole log.whole (unwind log.replaced s)

abbrev pub base_of : RunState → Store
base_of m = before m.undo (members_of m.store)

-- unless memory is wanting, nothing of it is lost
abbrev pub Keeps : {A : Type 0} → Result A Stop → Store → Store → Type 0
Keeps (Ok a) before after = after ≡ before
Keeps (Err (stop.Fault f)) before after = after ≡ before
Keeps (Err stop.NoMemory) before after = Unit {0}
