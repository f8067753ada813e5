-- Maps from numbers to numbers, kept as trees of nodes with four parts each. A map is its root. On the last level the parts are values.
use Rattle.std.specs.Prelude.{◌≡◌, ℕ, zero, suc, ◌/◌, ◌%◌, ◌<◌, Bool, true, ◌&&◌, nat_eq, if◌then◌else◌, List, [], length, get_or}

-- a part of a node; 0 where there is no such node
abbrev pub part : List (List ℕ) → ℕ → ℕ → ℕ
part nodes root d = get_or (get_or nodes root []) d 0

-- what a map of so many levels has at a key
abbrev pub value_at : List (List ℕ) → ℕ → ℕ → ℕ → ℕ
value_at nodes zero root key = root
value_at nodes (suc n) root key = value_at nodes n (part nodes root (key % 4)) (key / 4)

-- all nodes of the map are there
abbrev pub IsMap : List (List ℕ) → ℕ → ℕ → Type 0
IsMap nodes zero root = Unit {0}
IsMap nodes (suc n) root = (root < length nodes) × ((d : ℕ) → d < 4 → IsMap nodes n (part nodes root d))

-- whether two keys are one, as far as so many levels tell
abbrev pub same_key : ℕ → ℕ → ℕ → Bool
same_key zero k key = true
same_key (suc n) k key = nat_eq (k % 4) (key % 4) && same_key n (k / 4) (key / 4)

-- every map stays as it is
pub record Keeps (old new : List (List ℕ)) : Type 0 where
  pub maps : (n root : ℕ) → IsMap old n root → IsMap new n root
  pub values : (n root key : ℕ) → IsMap old n root → value_at new n root key ≡ value_at old n root key

-- the new map has the value at the key, and at all others what the old one has
pub record Puts (old new : List (List ℕ)) (levels root key value made : ℕ) : Type 0 where
  pub map : IsMap new levels made
  pub values : (k : ℕ) → value_at new levels made k ≡ (if same_key levels k key then value else value_at old levels root k)
