-- The first of a name.
use Rattle.std.specs.Prelude.{ℕ, suc, List, [], ◌∷◌, Option, Some, None, option_map, if◌then◌else◌}
use Rattle.plc_text.specs.Words.{same}

-- the place of the first of the names that is this one
abbrev pub first_place : List ℕ → List (List ℕ) → Option ℕ
first_place name [] = None
first_place name (n ∷ ns) = if same n name then Some 0 else option_map suc (first_place name ns)
