-- What the tables of the code hold.
use Rattle.std.specs.Prelude.{◌≡◌, ℕ, ◌+◌, Bool, true, ◌&&◌, nat_eq, List, [], ◌∷◌, ◌++◌, length, map}
use Rattle.std.specs.Borrow.{Bor}
use Rattle.std.specs.List.{list_all}
use Rattle.plc_text.specs.Words.{begins}
use Rattle.st_tree.specs.declared.terminal.Terminal.{Terminal}

-- the rows of a table, without where their texts lie in memory
abbrev pub rows_of : List (Bor (List ℕ) × Terminal) → List (List ℕ × Terminal)
rows_of rows = map (λ row. (row.0.now, row.1)) rows

-- the rows of several tables
abbrev pub rows_of_all : List (Bor (List (Bor (List ℕ) × Terminal))) → List (List ℕ × Terminal)
rows_of_all [] = []
rows_of_all (rows ∷ lists) = rows_of rows.now ++ rows_of_all lists

-- whether each row's text begins with a character that passes
abbrev pub all_begin : (ℕ → Bool) → List (List ℕ × Terminal) → Bool
all_begin test rows = list_all (λ row. begins test row.0) rows

-- whether the rows of the first list begin with this letter, those of the next with the next letter, and so on
abbrev pub by_letter : ℕ → List (Bor (List (Bor (List ℕ) × Terminal))) → Bool
by_letter letter [] = true
by_letter letter (rows ∷ lists) = all_begin (λ c. nat_eq c letter) (rows_of rows.now) && by_letter (letter + 1) lists

-- a list for each letter from A (65) to Z
pub record IsByLetter (lists : List (Bor (List (Bor (List ℕ) × Terminal)))) : Type 0 where
  pub sorted : by_letter 65 lists ≡ true
  pub all : length lists ≡ 26
