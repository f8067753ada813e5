-- The fields of a line, between which single spaces (32) stand.
use Rattle.std.specs.Prelude.{ℕ, List, [], ◌∷◌, nat_eq, if◌then◌else◌}

-- what stands before the first space, or all where there is none
abbrev pub first_field : List ℕ → List ℕ
first_field [] = []
first_field (b ∷ bytes) = if nat_eq b 32 then [] else b ∷ first_field bytes

-- what stands behind the first space, or nothing where there is none
abbrev pub behind_field : List ℕ → List ℕ
behind_field [] = []
behind_field (b ∷ bytes) = if nat_eq b 32 then bytes else behind_field bytes
