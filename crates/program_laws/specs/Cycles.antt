-- The cycles of accepted programs: what they touch, and that good stores stay good.
use Rattle.std.specs.Prelude.{◌≡◌, ◌≤◌, ◌<◌, ℕ, List}
use Rattle.st_values.specs.Program.{Program}
use Rattle.st_values.specs.Value.{Store, member, names_of}
use Rattle.st_meaning.specs.Cycle.{cycle}
use Rattle.st_meaning.specs.ProcessImage.{located_of, latch, covered, output_byte}
use Rattle.st_meaning.specs.st_frame.Good.{Good, GoodOn, AgreeOn}
use Rattle.st_meaning.specs.st_frame.Footprint.{Has, Footprint, Writes, IsFootprint}
use Rattle.st_meaning.specs.st_frame.FrameLaws.{last_moment}
use Rattle.program_laws.specs.Accepted.{IsAccepted}

pub record AcceptedCycles : Type 0 where
  -- inputs keep what is good on the footprint good on it
  pub latched : (p : Program) (fs : List ℕ) (task : ℕ) (input : List ℕ) (s : Store) → IsAccepted p → GoodOn p (Footprint p task) s → GoodOn p (Footprint p task) (latch (located_of p) fs input s)
  -- where two stores agree on the footprint, the replies are equal, and what is left agrees on it
  pub local : (p : Program) (fs : List ℕ) (task now : ℕ) (input : List ℕ) (s t : Store) → IsAccepted p → IsFootprint p task fs → now ≤ last_moment → GoodOn p (Footprint p task) s → AgreeOn (Footprint p task) s t
      → ((cycle p fs task now input s).0 ≡ (cycle p fs task now input t).0) × AgreeOn (Footprint p task) (cycle p fs task now input s).1 (cycle p fs task now input t).1
  -- all that the task does not write stays
  pub elsewhere : (p : Program) (fs : List ℕ) (task now : ℕ) (input : List ℕ) (s : Store) → IsAccepted p → IsFootprint p task fs → now ≤ last_moment → GoodOn p (Footprint p task) s
      → (names_of (cycle p fs task now input s).1 ≡ names_of s) × ((r : ℕ) → (Writes p task r → ⊥) → member (cycle p fs task now input s).1 r ≡ member s r)
  -- what is good on the footprint stays good on it, and so does a whole store
  pub keeps : (p : Program) (fs : List ℕ) (task now : ℕ) (input : List ℕ) (s : Store) → IsAccepted p → IsFootprint p task fs → now ≤ last_moment → GoodOn p (Footprint p task) s → GoodOn p (Footprint p task) (cycle p fs task now input s).1
  pub good : (p : Program) (fs : List ℕ) (task now : ℕ) (input : List ℕ) (s : Store) → IsAccepted p → IsFootprint p task fs → now ≤ last_moment → Good p s → Good p (cycle p fs task now input s).1
  -- outputs take at most 256 bytes, each of which is one
  pub few_outputs : (p : Program) (fs : List ℕ) → IsAccepted p → covered (located_of p) fs ≤ 256
  pub bytes : (p : Program) (fs : List ℕ) (s : Store) (b : ℕ) → IsAccepted p → GoodOn p (Has fs) s → output_byte (located_of p) fs s b < 256
