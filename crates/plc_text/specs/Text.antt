-- Texts in upper case.
use Rattle.std.specs.Prelude.{ℕ, List, map}
use Rattle.std.specs.Char.{to_ascii_uppercase}

-- the text with each ASCII letter in upper case, and every other byte as it is
abbrev pub folded : List ℕ → List ℕ
folded text = map to_ascii_uppercase text
