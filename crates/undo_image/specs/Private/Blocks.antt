-- Which bytes are kept beside an image.
use Rattle.std.specs.Prelude.{◌≡◌, ◌≤◌, ◌<◌, ◌*◌, ◌+◌, ◌/◌, ◌^◌, ℕ, Bool, true, false, List, length, get_or, nat_eq}
use Rattle.undo_image.specs.declared.blocks.Blocks.{Blocks}

-- whether the block in which a byte lies is marked
abbrev pub is_marked : Blocks → ℕ → Bool
is_marked b block = nat_eq (get_or b.marks.items block 0) b.epoch

-- there is room for every byte, and a mark for every block
pub record IsWellFormed (b : Blocks) : Type 0 where
  pub before_long : length b.before ≡ length b.image
  pub small : length b.image < 2 ^ 32
  pub blocks : length b.image ≤ 256 * length b.marks.items
  pub begun : 0 < b.epoch
  pub no_later : (block : ℕ) → get_or b.marks.items block 0 ≤ b.epoch
  pub exact : 256 * length b.marks.items < length b.image + 256

-- the same of what is kept beside an image
pub record IsLog (before marks : List ℕ) (epoch : ℕ) : Type 0 where
  pub small : length before < 2 ^ 32
  pub blocks : length before ≤ 256 * length marks
  pub begun : 0 < epoch
  pub no_later : (block : ℕ) → get_or marks block 0 ≤ epoch
  pub exact : 256 * length marks < length before + 256

-- unmarked blocks have the bytes that were committed, and those of marked blocks are kept
pub record IsUndoable (b : Blocks) (committed : List ℕ) : Type 0 where
  pub formed : IsWellFormed b
  pub committed_long : length committed ≡ length b.image
  pub stays : (i : ℕ) → i < length b.image → is_marked b (i / 256) ≡ false → get_or b.image i 0 ≡ get_or committed i 0
  pub saved : (i : ℕ) → i < length b.image → is_marked b (i / 256) ≡ true → get_or b.before i 0 ≡ get_or committed i 0

-- what is undoable stays so, with the same bytes
pub record StaysUndoable (b c : Blocks) : Type 0 where
  pub image : c.image ≡ b.image
  pub formed : IsWellFormed c
  pub undoable : (committed : List ℕ) → IsUndoable b committed → IsUndoable c committed
  pub marks : (block : ℕ) → is_marked b block ≡ true → is_marked c block ≡ true

-- the blocks of so many bytes from a place on are marked
pub record AreMarked (b : Blocks) (at n : ℕ) : Type 0 where
  pub each : (i : ℕ) → at ≤ i → i < at + n → is_marked b (i / 256) ≡ true

-- what is undoable stays so, and no more blocks are marked
pub record Restores (b c : Blocks) : Type 0 where
  pub formed : IsWellFormed c
  pub undoable : (committed : List ℕ) → IsUndoable b committed → IsUndoable c committed
  pub marks : (block : ℕ) → is_marked b block ≡ false → is_marked c block ≡ false
  pub count : length c.marks.items ≡ length b.marks.items

-- the blocks from the first one on before another are marked
pub record Preserved (b c : Blocks) (first n : ℕ) : Type 0 where
  pub stays : StaysUndoable b c
  pub marked : (block : ℕ) → first ≤ block → block < n → is_marked c block ≡ true

-- the first blocks have the bytes that were committed
pub record Restored (b c : Blocks) (n : ℕ) : Type 0 where
  pub restores : Restores b c
  pub done : (block : ℕ) → block < n → is_marked c block ≡ false
