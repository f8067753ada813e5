-- Bits that are taken, as marks: those of outputs, and behind them those of memory.
use Rattle.std.specs.Prelude.{◌≡◌, ℕ, ◌+◌, ◌*◌, nat_le, nat_lt, Bool, true, false, ◌&&◌, List}
use Rattle.std.specs.List.{list_all, list_any, slice_get}
use Rattle.std.specs.Option.{unwrap_or}
use Rattle.st_tree.specs.declared.address.Area.{Area}
use Rattle.st_tree.specs.declared.address.Area.TheVariants as area
use Rattle.st_unit_rules.specs.Addresses.{Bits}
use Rattle.st_unit_rules.specs.VariableRules.{image_bytes}

-- whether the bit is marked
abbrev pub marked : List Bool → ℕ → Bool
marked marks j = unwrap_or (slice_get marks j) false

abbrev pub is_between : ℕ → ℕ → ℕ → Bool
is_between first count j = nat_le first j && nat_lt j (first + count)

-- so many bits of an area have this mark among theirs; inputs have none
abbrev pub has_mark : Area → ℕ → ℕ → ℕ → Bool
has_mark area.Input first count j = false
has_mark area.Output first count j = is_between first count j
has_mark area.Memory first count j = is_between (2_056 + first) count j

abbrev pub covers : ℕ → Bits → Bool
covers j b = has_mark b.area b.first b.count j

-- there is a bit, and the last one lies within the image or seven bits behind it
abbrev pub is_inside : Bits → Bool
is_inside b = nat_le 1 b.count && nat_le (b.first + b.count) (8 * image_bytes b.area + 8)

-- marked are these bits and no others
pub record Takes (marks : List Bool) (taken : List Bits) : Type 0 where
  pub inside : list_all is_inside taken ≡ true
  pub same : (j : ℕ) → marked marks j ≡ list_any (covers j) taken
