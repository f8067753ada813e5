-- What stands at a place in the machine's memory, and what writing there is.
use Rattle.std.specs.Prelude.{◌≡◌, ◌≤◌, ℕ, ◌+◌, Bool, true, List, length, Some}
use Rattle.mem_image.specs.Image.{replaced}
use Rattle.st_values.specs.Program.{Program}
use Rattle.st_values.specs.Value.{Value}
use Rattle.st_values.specs.Shape.{region_shape}
use Rattle.st_meaning.specs.State.{Spot, in_store, in_frame, State, Done, read, write}
use Rattle.stack_code.specs.Steps.{Goes}
use Rattle.stack_code.specs.Memory.{Memory, image_at, with_image}
use Rattle.mem_layout.specs.store_bytes.Place.{size}
use Rattle.mem_layout.specs.store_bytes.Spells.{Spells}
use Rattle.shown_memory.specs.Shown.{Open, layouts, Located, located, Shown}

module _ (p : Program) (base : ℕ) (is_held : ℕ → Bool) (now : ℕ) where
  -- in a region whose bytes are there, or in a local
  abbrev pub Within : Spot → Type 0
  Within (in_store q) = is_held q.region ≡ true
  Within (in_frame d n ss) = Unit {0}

  -- bytes that spell the value of a place
  pub record PlaceBytes (spot : Spot) (l : Located) (m : Memory) (s : State) : Type 0 where
    pub value : Value
    pub image : List ℕ
    pub inside : l.address.offset + size l.shape ≤ length image
    pub there : image_at m l.address (size l.shape) ≡ Goes image
    pub spells : Spells (region_shape p) l.shape value image l.address.offset
    pub reads : (line : ℕ) → read spot line s ≡ Done value s

  -- a value is written as the bytes that spell it are put there
  pub record PlacePut (ks : List Open) (spot : Spot) (l : Located) (v : Value) (bytes : List ℕ) (m : Memory) (s : State) : Type 0 where
    pub image : List ℕ
    pub state : State
    pub there : image_at m l.address (size l.shape) ≡ Goes image
    pub writes : (line : ℕ) → write spot v line s ≡ Done tt state
    pub same_ticks : state.ticks ≡ s.ticks
    pub shows : Shown p base is_held now ks (with_image l.address.space m l.address.index (replaced image l.address.offset bytes)) state

-- where the memory shows a state
pub record AccessLaws : Type 0 where
  pub reads : (p : Program) (base : ℕ) (is_held : ℕ → Bool) (now : ℕ) (ks : List Open) (spot : Spot) (l : Located) (m : Memory) (s : State) → Shown p base is_held now ks m s → located p base (layouts ks) spot ≡ Some l → Within p base is_held now spot → PlaceBytes p base is_held now spot l m s
  pub writes : (p : Program) (base : ℕ) (is_held : ℕ → Bool) (now : ℕ) (ks : List Open) (spot : Spot) (l : Located) (v : Value) (bytes : List ℕ) (m : Memory) (s : State) → Shown p base is_held now ks m s → located p base (layouts ks) spot ≡ Some l → Within p base is_held now spot
      → length bytes ≡ size l.shape → Spells (region_shape p) l.shape v bytes 0 → PlacePut p base is_held now ks spot l v bytes m s
