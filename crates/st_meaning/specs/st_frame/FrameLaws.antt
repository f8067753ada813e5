-- The frame theorem: what a cycle touches, and that good stores stay good.
use Rattle.std.specs.Prelude.{◌≡◌, ◌≤◌, ℕ, Bool, false, List, [], Some, slice_get}
use Rattle.st_types.specs.declared.st_type.StType.TheVariants as type
use Rattle.st_values.specs.Program.{Variable, Routine, Program}
use Rattle.st_values.specs.Value.{Path, Store, member, names_of}
use Rattle.st_meaning.specs.State.{holds, Frame, State, Done}
use Rattle.st_meaning.specs.Operation.{truth}
use Rattle.st_meaning.specs.Call.{Given, for_local, is_in_out}
use Rattle.st_meaning.specs.Enter.{enter}
use Rattle.st_meaning.specs.Cycle.{cycle}
use Rattle.st_meaning.specs.ProcessImage.{located_of, latch}
use Rattle.st_meaning.specs.st_frame.Good.{Names, Good, GoodOn, AgreeOn}
use Rattle.st_meaning.specs.st_frame.Promise.Types.{IsBool}
use Rattle.st_meaning.specs.st_frame.Promise.Declarations.{Each, RoutineIs}
use Rattle.st_meaning.specs.st_frame.Promise.Programs.{ProgramIs}
use Rattle.st_meaning.specs.st_frame.Footprint.{Footprint, Writes, IsFootprint}

-- the moments of cycles are 32 bits
abbrev pub last_moment : ℕ
last_moment = 4294967295

-- truth values are given to locals that are BOOLs
abbrev pub FlagFits : Routine → Given → Type 0
FlagFits r (for_local n (holds w)) = (v : Variable) × (slice_get r.locals n ≡ Some v) × (is_in_out v.sort ≡ false) × IsBool v.kind × ((b : Bool) × (w ≡ truth b))
FlagFits r _ = ⊥

-- of a program that was accepted
pub record FrameLaws : Type 0 where
  -- inputs keep what is good on the footprint good on it
  pub latched : (p : Program) (fs : List ℕ) (task : ℕ) (input : List ℕ) (s : Store) → ProgramIs p → GoodOn p (Footprint p task) s → GoodOn p (Footprint p task) (latch (located_of p) fs input s)
  -- where two stores agree on the footprint, the replies are equal, and what is left agrees on it
  pub local : (p : Program) (fs : List ℕ) (task now : ℕ) (input : List ℕ) (s t : Store) → ProgramIs p → IsFootprint p task fs → now ≤ last_moment
      → GoodOn p (Footprint p task) s → AgreeOn (Footprint p task) s t
      → ((cycle p fs task now input s).0 ≡ (cycle p fs task now input t).0) × AgreeOn (Footprint p task) (cycle p fs task now input s).1 (cycle p fs task now input t).1
  -- all that is not written stays
  pub elsewhere : (p : Program) (fs : List ℕ) (task now : ℕ) (input : List ℕ) (s : Store) → ProgramIs p → IsFootprint p task fs → now ≤ last_moment
      → GoodOn p (Footprint p task) s
      → (names_of (cycle p fs task now input s).1 ≡ names_of s) × ((r : ℕ) → (Writes p task r → ⊥) → member (cycle p fs task now input s).1 r ≡ member s r)
  -- what is good on the footprint stays good on it, and so does a whole store
  pub keeps : (p : Program) (fs : List ℕ) (task now : ℕ) (input : List ℕ) (s : Store) → ProgramIs p → IsFootprint p task fs → now ≤ last_moment
      → GoodOn p (Footprint p task) s → GoodOn p (Footprint p task) (cycle p fs task now input s).1
  pub good : (p : Program) (fs : List ℕ) (task now : ℕ) (input : List ℕ) (s : Store) → ProgramIs p → IsFootprint p task fs → now ≤ last_moment
      → Good p s → Good p (cycle p fs task now input s).1
  -- a method that is called while no call is open leaves a good store good
  pub calls : (p : Program) (room : ℕ) (r : Routine) (c : ℕ) (q : Path) (given : List Given) (line now n : ℕ) (s : Store) (f : Frame) (s' : State) → ProgramIs p → now ≤ last_moment
      → RoutineIs p r → r.class ≡ Some c → Names p q (type.Instance c) → Each (FlagFits r) given
      → Good p s → enter p room r (Some q) given line (record { store = s; frames = []; ticks = n; now = now }) ≡ Done f s' → Good p s'.store
