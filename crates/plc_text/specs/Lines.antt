-- The lines of a text, and the line that a place is on. LF (10) ends a line; a last piece without LF is a line unless it is empty.
use Rattle.std.specs.Prelude.{ℕ, ◌+◌, ◌-◌, ◌<◌, ◌≤◌, ◌==◌, List, [], ◌∷◌, ◌++◌, length, count_by, take, nat_eq, if◌then◌else◌}
use Rattle.std.specs.List.{flat_map}

-- the line of a place, from 1: each line feed before the place begins another line
abbrev pub line_of : List ℕ → ℕ → ℕ
line_of text place = 1 + count_by (λ byte. byte == 10) (take place text)

-- the lines, of which the first begins with this byte
abbrev pub begun_with : ℕ → List (List ℕ) → List (List ℕ)
begun_with b [] = (b ∷ []) ∷ []
begun_with b (line ∷ lines) = (b ∷ line) ∷ lines

-- the lines of a text, without the LFs that end them
abbrev pub lines_of : List ℕ → List (List ℕ)
lines_of [] = []
lines_of (b ∷ bytes) = if nat_eq b 10 then [] ∷ lines_of bytes else begun_with b (lines_of bytes)

-- the line and the LF that ends it
abbrev pub ended : List ℕ → List ℕ
ended line = line ++ 10 ∷ []

-- the text of these lines, each of which LF ends
abbrev pub text_of : List (List ℕ) → List ℕ
text_of lines = flat_map ended lines

-- Where `CanBegin` says which lines may stand at a beginning: of these lines the one of this number, from 1, is the first that
-- cannot stand behind the lines before it. Where all of them can stand, it is the line behind them.
pub record FirstBad (CanBegin : List (List ℕ) → Type 0) (lines : List (List ℕ)) (line : ℕ) : Type 0 where
  pub counted : 0 < line
  pub within : line ≤ length lines + 1
  pub stands : CanBegin (take (line - 1) lines)
  pub stops : line ≤ length lines → CanBegin (take line lines) → ⊥
