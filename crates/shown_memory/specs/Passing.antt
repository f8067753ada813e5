-- How a call is given its arguments, and what it gives back: the block.
use Rattle.std.specs.Prelude.{slice_range, ◌≡◌, ◌≢◌, ◌≤◌, ◌<◌, ◌⊎◌, ℕ, ◌+◌, ℤ, pos, Bool, true, false, List, [], ◌∷◌, length, Option, Some, None, slice_get, nat_eq}
use Rattle.std.specs.Int.{bit_at}
use Rattle.mem_image.specs.Laws.{AreApart}
use Rattle.st_values.specs.Shape.{Shape, region_shape, shape_of}
use Rattle.st_meaning.specs.st_frame.Promise.Calls.{recipient_variable}
use Rattle.mem_layout.specs.store_bytes.Place.{size}
use Rattle.mem_layout.specs.store_bytes.Spells.{Spells, Holds}
use Rattle.st_types.specs.declared.st_type.StType.{StType}
use Rattle.st_types.specs.declared.elem.Elem.TheVariants as elem
use Rattle.st_tree.specs.declared.declaration.SectionSort.TheVariants as sort
use Rattle.st_values.specs.Program.{Variable, Recipient, to_local, to_variable, Parameter, Routine, Program}
use Rattle.st_values.specs.Value.{Value, number, reference}
use Rattle.st_meaning.specs.State.{Slot, holds, bound, unbound, Frame, State, frame_value}
use Rattle.st_meaning.specs.Call.{Given, for_local, for_variable, is_in_out}
use Rattle.stack_code.specs.declared.memory.Address.{Address}
use Rattle.stack_code.specs.declared.memory.Space.TheVariants.{Locals}
use Rattle.stack_code.specs.declared.memory.Word.{Word}
use Rattle.stack_code.specs.Memory.{Memory, kept, reference_of}
use Rattle.stack_code.specs.Steps.{Goes}
use Rattle.stack_code.specs.declared.memory.Word.TheVariants as word
use Rattle.code_rules.specs.Places.{of_parameter, of_result, of_mask, of_own, result_place, is_large}
use Rattle.shown_memory.specs.Shown.{Kept, Open, Layout, value_word, spot_word, kept_number, Shown}

-- eight bytes keep a word
pub record Keeps (w : Word) (bytes : List ℕ) (at : ℕ) : Type 0 where
  pub z : ℤ
  pub is : kept w ≡ Goes z
  pub holds_it : Holds elem.Ulint z bytes at

abbrev pub has_bit : ℕ → ℕ → Bool
has_bit mask i = nat_eq (bit_at mask i) 1

-- a value that a word holds
abbrev pub IsWord : Value → Type 0
IsWord (number z) = Unit {0}
IsWord (reference o) = Unit {0}
IsWord v = ⊥

-- where the own instance is kept, its number stands in the block
abbrev pub OwnHeld : Option ℤ → List ℕ → Type 0
OwnHeld None bytes = Unit {0}
OwnHeld (Some z) bytes = Holds elem.Ulint z bytes of_own

abbrev pub recipient : Given → Recipient
recipient (for_local n slot) = to_local n
recipient (for_variable k v) = to_variable k

abbrev pub IsGiven : List Given → Recipient → Type 0
IsGiven [] to = ⊥
IsGiven (g ∷ gs) to = (recipient g ≡ to) ⊎ IsGiven gs to

-- the value that is given
abbrev pub value_given : Given → Option Value
value_given (for_local n (holds v)) = Some v
value_given (for_local n slot) = None
value_given (for_variable k v) = Some v

-- no two are given to one
abbrev pub AreOnce : List Given → Type 0
AreOnce [] = Unit {0}
AreOnce (g ∷ gs) = (IsGiven gs (recipient g) → ⊥) × AreOnce gs

-- a result that is asked for is held by a word
abbrev pub ResultPlain : Routine → ℕ → Type 0
ResultPlain x mask = has_bit mask result_place ≡ true → (v : Variable) → slice_get x.locals 0 ≡ Some v → is_in_out v.sort ≡ false → is_large v.kind ≡ false

-- where a large output comes to: the number of its parameter, how many bytes behind the beginning of the block, and its type
pub record Room : Type 0 where
  pub number : ℕ
  pub far : ℕ
  pub kind : StType

abbrev pub IsRoom : List Room → Room → Type 0
IsRoom [] r = ⊥
IsRoom (a ∷ rooms) r = (a ≡ r) ⊎ IsRoom rooms r

-- where a large result comes to, below the block: from which offset on, and its type
pub record Below : Type 0 where
  pub from : ℕ
  pub kind : StType

-- What a call takes that no word of its block holds: the instance as its number, where that is kept; large outputs, each in its room; and a large result.
pub record Asks : Type 0 where
  pub own : Option ℤ
  pub rooms : List Room
  pub result : Option Below

module _ (p : Program) (base : ℕ) where
  -- the word of what is given; a large value is kept at an address
  abbrev pub slot_word : List Layout → Address → Slot → Word
  slot_word ls a (holds v) = value_word p base a v
  slot_word ls a (bound spot) = spot_word p base ls spot
  slot_word ls a unbound = word.Null

  abbrev pub given_word : List Layout → Address → Given → Word
  given_word ls a (for_local n slot) = slot_word ls a slot
  given_word ls a (for_variable k v) = value_word p base a v

  -- a large value stands so many bytes behind the beginning of the block, and not in the block itself
  pub record LargeGiven (start : Address) (low : ℕ) (bytes : List ℕ) (a : Address) (t : StType) (v : Value) : Type 0 where
    pub at : ℕ
    pub above : low ≤ at
    pub shape : Shape
    pub has_shape : shape_of p t ≡ Some shape
    pub inside : at + size shape ≤ length bytes
    pub address_is : a ≡ record start { offset = start.offset + at }
    pub spells : Spells (region_shape p) shape v (slice_range bytes at (at + size shape)) 0

  -- it is given to the parameter of this number of a routine, and its word stands in the block
  pub record IsPassed (ls : List Layout) (x : Routine) (start : Address) (low : ℕ) (ps : List Parameter) (bytes : List ℕ) (g : Given) : Type 0 where
    pub number : ℕ
    pub parameter : Parameter
    pub large_at : Address
    pub there : slice_get ps number ≡ Some parameter
    pub to : parameter.to ≡ recipient g
    pub inside : of_parameter number + 8 ≤ length bytes
    pub word_kept : Keeps (given_word ls large_at g) bytes (of_parameter number)
    pub large : (v : Value) (u : Variable) → value_given g ≡ Some v → recipient_variable p x (recipient g) ≡ Some u → is_large u.kind ≡ true → LargeGiven start low bytes large_at u.kind v

  abbrev pub ArePassed : List Layout → Routine → Address → ℕ → List Parameter → List ℕ → List Given → Type 0
  ArePassed ls x start low ps bytes [] = Unit {0}
  ArePassed ls x start low ps bytes (g ∷ gs) = IsPassed ls x start low ps bytes g × ArePassed ls x start low ps bytes gs

  -- the bytes of a block are those of a call with these arguments
  pub record BlockIs (ls : List Layout) (x : Routine) (start : Address) (low : ℕ) (ps : List Parameter) (bytes : List ℕ) (mask : ℕ) (given : List Given) : Type 0 where
    pub room : 24 ≤ length bytes
    pub passed : ArePassed ls x start low ps bytes given
    pub mask_kept : Holds elem.Ulint (pos mask) bytes of_mask
    pub marked : (i : ℕ) (q : Parameter) → slice_get ps i ≡ Some q → has_bit mask i ≡ true → (q.sort ≡ sort.Output) ⊎ IsGiven given q.to
    -- of the parameters those that are called alone have bytes
    pub asked : (i : ℕ) → i < result_place → has_bit mask i ≡ true → of_parameter i + 8 ≤ length bytes
    -- outputs are given to none, and no parameter is given twice
    pub inputs : (i : ℕ) (q : Parameter) → slice_get ps i ≡ Some q → q.sort ≡ sort.Output → IsGiven given q.to → ⊥
    pub once : AreOnce given
    pub unmarked : (i : ℕ) (q : Parameter) → slice_get ps i ≡ Some q → has_bit mask i ≡ false → IsGiven given q.to → ⊥

  -- a room for an output of the routine, to which the output's word leads
  pub record RoomIs (x : Routine) (start : Address) (low mask : ℕ) (bytes : List ℕ) (r : Room) : Type 0 where
    pub parameter : Parameter
    pub local : ℕ
    pub variable : Variable
    pub there : slice_get x.parameters r.number ≡ Some parameter
    pub sorted : parameter.sort ≡ sort.Output
    pub to : parameter.to ≡ to_local local
    pub in_locals : slice_get x.locals local ≡ Some variable
    pub kind_is : variable.kind ≡ r.kind
    pub large : is_large r.kind ≡ true
    pub asked : has_bit mask r.number ≡ true
    pub shape : Shape
    pub has_shape : shape_of p r.kind ≡ Some shape
    pub above : low ≤ r.far
    pub inside : r.far + size shape ≤ length bytes
    pub word_there : Holds elem.Ulint (pos (kept_number p base (record start { offset = start.offset + r.far }))) bytes (of_parameter r.number)
    pub decodes : reference_of (pos (kept_number p base (record start { offset = start.offset + r.far }))) ≡ word.Address (record start { offset = start.offset + r.far })

  -- a large result comes to what is kept below the block
  pub record ResultRoom (x : Routine) (start : Address) (mask : ℕ) (bytes : List ℕ) (rest : List Kept) (t : Below) : Type 0 where
    pub variable : Variable
    pub in_locals : slice_get x.locals 0 ≡ Some variable
    pub no_place : is_in_out variable.sort ≡ false
    pub kind_is : variable.kind ≡ t.kind
    pub large : is_large t.kind ≡ true
    pub asked : has_bit mask result_place ≡ true
    pub shape : Shape
    pub has_shape : shape_of p t.kind ≡ Some shape
    pub before : List ℕ
    pub behind : List Kept
    pub is : rest ≡ record { from = t.from; bytes = before } ∷ behind
    pub long : length before ≡ size shape
    pub word_there : Holds elem.Ulint (pos (kept_number p base (record start { offset = t.from }))) bytes of_result
    pub decodes : reference_of (pos (kept_number p base (record start { offset = t.from }))) ≡ word.Address (record start { offset = t.from })

  abbrev pub ResultAsked : Routine → Address → ℕ → List ℕ → List Kept → Option Below → Type 0
  ResultAsked x start mask bytes rest None = ResultPlain x mask
  ResultAsked x start mask bytes rest (Some t) = ResultRoom x start mask bytes rest t

  -- two rooms are of different outputs, and have no byte in common
  pub record RoomsApart (r s : Room) : Type 0 where
    pub numbers : r.number ≢ s.number
    pub bytes : (a b : Shape) → shape_of p r.kind ≡ Some a → shape_of p s.kind ≡ Some b → AreApart r.far (size a) s.far (size b)

  -- the block, and what is kept below it, have room for all that is asked for
  pub record RoomsAre (x : Routine) (start : Address) (bytes : List ℕ) (mask : ℕ) (rest : List Kept) (asks : Asks) : Type 0 where
    pub own_held : OwnHeld asks.own bytes
    -- where the words end
    pub low : ℕ
    pub wide : 24 ≤ low
    pub words : (i : ℕ) → i < result_place → has_bit mask i ≡ true → of_parameter i + 8 ≤ low
    pub outputs : (i n : ℕ) (q : Parameter) (v : Variable) → slice_get x.parameters i ≡ Some q → q.sort ≡ sort.Output → q.to ≡ to_local n → slice_get x.locals n ≡ Some v → has_bit mask i ≡ true → is_large v.kind ≡ true → (r : Room) × IsRoom asks.rooms r × (r.number ≡ i)
    pub each : (r : Room) → IsRoom asks.rooms r → RoomIs x start low mask bytes r
    pub apart : (r s : Room) → IsRoom asks.rooms r → IsRoom asks.rooms s → (r ≡ s) ⊎ RoomsApart r s
    pub result : ResultAsked x start mask bytes rest asks.result

  -- a room has the bytes of the output
  abbrev pub Filled : List Parameter → Frame → List ℕ → Room → Type 0
  Filled ps f bytes r = (n : ℕ) (q : Parameter) (v : Value) (shape : Shape) → slice_get ps r.number ≡ Some q → q.to ≡ to_local n → frame_value (Some f) n ≡ Some v → shape_of p r.kind ≡ Some shape → Spells (region_shape p) shape v (slice_range bytes r.far (r.far + size shape)) 0

  -- the word of a large output leads to its room, which has its bytes
  pub record RoomLeft (start : Address) (ps : List Parameter) (f : Frame) (bytes : List ℕ) (r : Room) : Type 0 where
    pub word_there : Holds elem.Ulint (pos (kept_number p base (record start { offset = start.offset + r.far }))) bytes (of_parameter r.number)
    pub decodes : reference_of (pos (kept_number p base (record start { offset = start.offset + r.far }))) ≡ word.Address (record start { offset = start.offset + r.far })
    pub filled : Filled ps f bytes r

  -- what a routine leaves in the block: its outputs and its result where they are asked for
  pub record BlockLeft (start : Address) (ps : List Parameter) (size : ℕ) (asks : Asks) (bytes : List ℕ) (mask : ℕ) (f : Frame) : Type 0 where
    pub long : length bytes ≡ size
    pub own_stays : OwnHeld asks.own bytes
    pub outputs : (i n : ℕ) (q : Parameter) (v : Value) (a : Address) → slice_get ps i ≡ Some q → q.sort ≡ sort.Output → q.to ≡ to_local n → has_bit mask i ≡ true → frame_value (Some f) n ≡ Some v → IsWord v → Keeps (value_word p base a v) bytes (of_parameter i)
    pub rooms : (r : Room) → IsRoom asks.rooms r → RoomLeft start ps f bytes r
    pub result : (v : Value) (a : Address) → has_bit mask result_place ≡ true → frame_value (Some f) 0 ≡ Some v → IsWord v → Keeps (value_word p base a v) bytes of_result
    pub large_result : (t : Below) → asks.result ≡ Some t → Holds elem.Ulint (pos (kept_number p base (record start { offset = t.from }))) bytes of_result

  -- what is kept below the block has the bytes of the result
  pub record ResultLeft (t : Below) (f : Frame) (rest rest' : List Kept) : Type 0 where
    pub before : List ℕ
    pub behind : List Kept
    pub bytes : List ℕ
    pub was : rest ≡ record { from = t.from; bytes = before } ∷ behind
    pub is : rest' ≡ record { from = t.from; bytes = bytes } ∷ behind
    pub long : length bytes ≡ length before
    pub spells : (v : Value) (shape : Shape) → frame_value (Some f) 0 ≡ Some v → shape_of p t.kind ≡ Some shape → Spells (region_shape p) shape v bytes 0

  abbrev pub RestLeft : Option Below → Frame → List Kept → List Kept → Type 0
  RestLeft None f rest rest' = rest' ≡ rest
  RestLeft (Some t) f rest rest' = ResultLeft t f rest rest'

  -- the block among what is kept behind the locals of a call
  abbrev pub with_block : Open → ℕ → List ℕ → List Kept → Open
  with_block k block bytes rest = record k { kept = record { from = block; bytes = bytes } ∷ rest }

  -- after a call
  pub record Returned (is_there : ℕ → Bool) (now : ℕ) (k : Open) (ks : List Open) (block : ℕ) (rest : List Kept) (ps : List Parameter) (size : ℕ) (asks : Asks) (mask : ℕ) (f : Frame) (s : State) (m : Memory) : Type 0 where
    pub bytes : List ℕ
    pub rest' : List Kept
    pub left : BlockLeft (record { space = Locals; index = base + length ks; offset = block }) ps size asks bytes mask f
    pub rest_left : RestLeft asks.result f rest rest'
    pub shown : Shown p base is_there now (with_block k block bytes rest' ∷ ks) m s
