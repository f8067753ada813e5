-- Bytes that a source has left or a sink has taken, where it tells them.
use Rattle.std.specs.Prelude.{List, ℕ, ⊤, Option, None, Some}

-- what was told before the call is still told after it, and P holds of the two
abbrev pub WhereTold : Option (List ℕ) → Option (List ℕ) → (List ℕ → List ℕ → Type 0) → Type 0
WhereTold None new P = ⊤
WhereTold (Some was) None P = ⊥
WhereTold (Some was) (Some is) P = P was is
