-- Maps from the numbers of names to methods, that classes share.
use Rattle.std.specs.Prelude.{◌≡◌, ℕ, zero, suc, ◌≤◌, ◌<◌, ◌^◌, nat_eq, Bool, true, not, if◌then◌else◌, List, length, Option, Some, None, slice_get}
use Rattle.class_tables.specs.declared.store.Entry.{Entry}
use Rattle.class_tables.specs.declared.store.Store.{Store}
use Rattle.class_tables.specs.Private.Maps.{value_at, IsMap, Keeps}

-- the entry that a value of a map stands for
abbrev pub entry_at : List Entry → ℕ → Option Entry
entry_at entries zero = None
entry_at entries (suc n) = slice_get entries n

abbrev pub map_value : Store → ℕ → ℕ → ℕ
map_value store root key = value_at store.nodes.items store.levels root key

-- what a map has at a key
abbrev pub entry_of : Store → ℕ → ℕ → Option Entry
entry_of store root key = entry_at store.entries.items (map_value store root key)

-- whether a map has something at a key
abbrev pub is_in : Store → ℕ → ℕ → Bool
is_in store root key = not (nat_eq (map_value store root key) 0)

pub record IsEntryMap (store : Store) (root : ℕ) : Type 0 where
  pub map : IsMap store.nodes.items store.levels root
  pub values : (k : ℕ) → map_value store root k ≤ length store.entries.items

abbrev pub IsNumberMap : Store → ℕ → Type 0
IsNumberMap store root = IsMap store.nodes.items store.levels root

-- every map stays as it is, with all that its values stand for
pub record Grows (old new : Store) : Type 0 where
  pub keeps : Keeps old.nodes.items new.nodes.items
  pub levels : new.levels ≡ old.levels
  pub more : length old.entries.items ≤ length new.entries.items
  pub entries : (v : ℕ) → v ≤ length old.entries.items → entry_at new.entries.items v ≡ entry_at old.entries.items v

-- the new map has the entry at the key, and at all others what the old one has
pub record PutsEntry (old new : Store) (root key : ℕ) (entry : Entry) (made : ℕ) : Type 0 where
  pub map : IsEntryMap new made
  pub entries : (k : ℕ) → k < 4 ^ old.levels → key < 4 ^ old.levels → entry_of new made k ≡ (if nat_eq k key then Some entry else entry_of old root k)

-- the new map has the number, and all that the old one has
pub record PutsNumber (old new : Store) (root key made : ℕ) : Type 0 where
  pub map : IsNumberMap new made
  pub numbers : (k : ℕ) → k < 4 ^ old.levels → key < 4 ^ old.levels → is_in new made k ≡ (if nat_eq k key then true else is_in old root k)

-- a store whose map 0 has nothing
pub record HasEmptyMap (store : Store) : Type 0 where
  pub map : IsMap store.nodes.items store.levels 0
  pub nothing : (k : ℕ) → map_value store 0 k ≡ 0
