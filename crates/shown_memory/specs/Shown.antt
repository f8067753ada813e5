-- When the memory of the machine shows a state.
use Rattle.std.specs.Prelude.{◌≡◌, ◌≤◌, ◌<◌, ℕ, zero, suc, ◌+◌, pos, Bool, true, false, nat_eq, if◌then◌else◌, List, [], ◌∷◌, length, Option, Some, None, slice_get, slice_range}
use Rattle.st_types.specs.declared.elem.Elem.TheVariants as elem
use Rattle.st_tree.specs.declared.path.Path.{Path}
use Rattle.st_values.specs.Program.{Variable, TypeEntry, Program}
use Rattle.st_values.specs.Value.{Value, number, reference, ◌>>=◌}
use Rattle.st_values.specs.Shape.{Shape, shape_of, region_shape, values_of}
use Rattle.st_meaning.specs.State.{Spot, in_store, in_frame, Slot, holds, bound, unbound, Frame, State}
use Rattle.st_meaning.specs.Call.{is_in_out}
use Rattle.st_meaning.specs.st_frame.Promise.Names.{Scope}
use Rattle.stack_code.specs.declared.memory.Space.TheVariants.{Regions, Locals}
use Rattle.stack_code.specs.declared.memory.Address.{Address}
use Rattle.stack_code.specs.declared.memory.Word.{Word}
use Rattle.stack_code.specs.Memory.{Memory, number_kept}
use Rattle.stack_code.specs.declared.memory.Word.TheVariants as word
use Rattle.mem_layout.specs.store_bytes.Place.{size, Place, inner_place, place_of}
use Rattle.mem_layout.specs.store_bytes.Spells.{Holds, Spells, Shows}
use Rattle.code_rules.specs.Places.{width, locals_end}

-- bytes that are kept behind the locals of a call
pub record Kept : Type 0 where
  pub from : ℕ
  pub bytes : List ℕ

-- What is known of an open call: its class and locals, where these begin, its instance, up to where its bytes are in use, and what is kept there.
pub record Open : Type 0 where
  pub scope : Scope
  pub start : ℕ
  pub own : Option Path
  pub free : ℕ
  pub kept : List Kept
  -- how many bytes its locals have
  pub long : ℕ
  -- the number as which the address of its block is kept in the first eight, where it has one
  pub block : Option ℕ

abbrev pub scopes : List Open → List Scope
scopes [] = []
scopes (k ∷ ks) = k.scope ∷ scopes ks

-- where the locals of a call begin, and which they are
pub record Layout : Type 0 where
  pub start : ℕ
  pub locals : List Variable

abbrev pub layouts : List Open → List Layout
layouts [] = []
layouts (k ∷ ks) = record { start = k.start; locals = k.scope.locals } ∷ layouts ks

abbrev pub layout_at : List Layout → ℕ → Option Layout
layout_at [] d = None
layout_at (k ∷ ks) d = if nat_eq d (length ks) then Some k else layout_at ks d

-- an address, and the shape of what lies there
pub record Located : Type 0 where
  pub address : Address
  pub shape : Shape

module _ (p : Program) (base : ℕ) where
  -- a local that is no in-out
  abbrev pub local_place : ℕ → List Variable → ℕ → Option Place
  local_place offset [] n = None
  local_place offset (v ∷ vs) zero = if is_in_out v.sort then None else (shape_of p v.kind >>= λ sh. Some (record { offset = offset; shape = sh }))
  local_place offset (v ∷ vs) (suc n) = local_place (offset + width p v) vs n

  abbrev pub in_layout : Option Layout → ℕ → Option Place
  in_layout None n = None
  in_layout (Some k) n = local_place k.start k.locals n

  -- where a spot lies; the calls' locals stand from `base` on
  abbrev pub located : List Layout → Spot → Option Located
  located ks (in_store q) = do
    x ← place_of (region_shape p) q
    Some (record { address = record { space = Regions; index = q.region; offset = x.offset }; shape = x.shape })
  located ks (in_frame d n ss) = do
    x ← in_layout (layout_at ks d) n
    y ← inner_place x.shape ss
    Some (record { address = record { space = Locals; index = base + d; offset = x.offset + y.offset }; shape = y.shape })

  abbrev pub word_at : Option Located → Word
  word_at None = word.Null
  word_at (Some l) = word.Address l.address

  -- the word that stands for a place
  abbrev pub spot_word : List Layout → Spot → Word
  spot_word ks spot = word_at (located ks spot)

  abbrev pub path_word : Option Path → Word
  path_word None = word.Null
  path_word (Some q) = spot_word [] (in_store q)

  -- the word that stands for a value; a large one is kept at an address
  abbrev pub value_word : Address → Value → Word
  value_word a (number z) = word.Number z
  value_word a (reference o) = path_word o
  value_word a v = word.Address a

  abbrev pub kept_number : Address → ℕ
  kept_number a = number_kept a.space a.index a.offset

  -- an in-out keeps the address of the place for which it stands
  pub record Binds (ks : List Layout) (spot : Spot) (image : List ℕ) (i : ℕ) : Type 0 where
    pub there : Located
    pub is : located ks spot ≡ Some there
    pub holds_word : Holds elem.Ulint (pos (kept_number there.address)) image i

  abbrev pub SlotShown : List Layout → Variable → Slot → List ℕ → ℕ → Type 0
  SlotShown ks v (holds w) image i = (is_in_out v.sort ≡ false) × ((sh : Shape) × (shape_of p v.kind ≡ Some sh) × Spells (region_shape p) sh w image i)
  SlotShown ks v (bound spot) image i = (is_in_out v.sort ≡ true) × Binds ks spot image i
  SlotShown ks v unbound image i = (is_in_out v.sort ≡ true) × Holds elem.Ulint (pos 0) image i

  abbrev pub SlotsShown : List Layout → List Variable → List Slot → List ℕ → ℕ → Type 0
  SlotsShown ks [] [] image i = Unit {0}
  SlotsShown ks (v ∷ vs) (s ∷ ss) image i = SlotShown ks v s image i × SlotsShown ks vs ss image (i + width p v)
  SlotsShown ks _ _ image i = ⊥

  pub record KeptShown (image : List ℕ) (low high : ℕ) (x : Kept) : Type 0 where
    pub above : low ≤ x.from
    pub below : x.from + length x.bytes ≤ high
    pub stands : slice_range image x.from (x.from + length x.bytes) ≡ x.bytes

  -- each below the one before
  abbrev pub AllKept : List ℕ → ℕ → ℕ → List Kept → Type 0
  AllKept image low high [] = Unit {0}
  AllKept image low high (x ∷ xs) = KeptShown image low high x × AllKept image low x.from xs

  abbrev pub BlockAt : Option ℕ → ℕ → List ℕ → Type 0
  BlockAt None start image = Unit {0}
  BlockAt (Some w) start image = (8 ≤ start) × Holds elem.Ulint (pos w) image 0

  pub record FrameShown (ks : List Layout) (k : Open) (f : Frame) (o : Option (List ℕ)) : Type 0 where
    pub image : List ℕ
    pub there : o ≡ Some image
    pub long : length image ≡ k.long
    pub own : f.own ≡ k.own
    pub block : BlockAt k.block k.start image
    pub slots : SlotsShown ks k.scope.locals f.locals image k.start
    pub low : locals_end p k.start k.scope.locals ≤ k.free
    pub room : k.free ≤ k.long
    pub short : k.long < 4294967296
    pub kept : AllKept image (locals_end p k.start k.scope.locals) k.free k.kept

  abbrev pub FramesShown : List Open → List Frame → List (List ℕ) → Type 0
  FramesShown [] [] images = Unit {0}
  FramesShown (k ∷ ks) (f ∷ fs) images = FrameShown (layouts ks) k f (slice_get images (base + length ks)) × FramesShown ks fs images
  FramesShown _ _ images = ⊥

  module _ (is_held : ℕ → Bool) (now : ℕ) where
    pub record Shown (ks : List Open) (m : Memory) (s : State) : Type 0 where
      pub regions : Shows (region_shape p) is_held m.regions s.store
      pub frames : FramesShown ks s.frames m.locals
      pub deep : length m.locals ≡ base + length ks
      pub moment : s.now ≡ now

-- Every region has fewer than 2 ^ 32 bytes, there are fewer than 2 ^ 31 of them, and an enumeration has at most 2 ^ 32 values.
pub record Small (p : Program) : Type 0 where
  pub size_fits : (r : ℕ) (sh : Shape) → region_shape p r ≡ Some sh → size sh < 4294967296
  pub few : (r : ℕ) (sh : Shape) → region_shape p r ≡ Some sh → r < 2147483647
  pub values : (n : ℕ) (x : TypeEntry) (names : List (List ℕ)) → slice_get p.types n ≡ Some x → values_of x.body ≡ Some names → length names ≤ 4294967296
