-- Where the lexemes of a text are refused as a unit, and what a refusal says of the place: its line and its declaration.
use Rattle.std.specs.Prelude.{◌≡◌, ℕ, zero, suc, List, [], ◌∷◌, length, take}
use Rattle.plc_text.specs.Lines.{line_of}
use Rattle.plc_text.specs.declared.code.Code.{Code}
use Rattle.plc_text.specs.declared.code.Code.TheVariants as code
use Rattle.st_tree.specs.Grammar.{Lexeme}
use Rattle.st_tree.specs.Nesting.{NoneDeep, FirstDeep}
use Rattle.st_tree.specs.Beginnings.{Begins, StopsAt, IsUnit}
use Rattle.st_tree.specs.Headings.{declaration_of}

-- No unit begins with the lexemes up to and with the one at p, and one with those before it. Where p is their number they are the
-- beginning of a unit and none themselves. None before p has nesting 65.
pub record NoUnitAt (ts : List Lexeme) (p : ℕ) : Type 0 where
  pub stops : StopsAt IsUnit ts p
  pub no_unit : IsUnit ts → ⊥
  pub none_deep : NoneDeep ts p

-- the first lexeme of nesting 65 stands at p, and a unit still begins with the lexemes up to and with it
pub record TooDeepAt (ts : List Lexeme) (p : ℕ) : Type 0 where
  pub first : FirstDeep ts p
  pub begins : Begins IsUnit (take (suc p) ts)

-- what the lexemes are refused for at p
abbrev pub IsRefusedAt : Code → List Lexeme → ℕ → Type 0
IsRefusedAt code.E02 ts p = NoUnitAt ts p
IsRefusedAt code.E03 ts p = TooDeepAt ts p
IsRefusedAt _ ts p = ⊥

-- the line of a place among the lexemes of a text: that of the lexeme there, or that of the text's end behind them
abbrev pub line_at : List ℕ → List Lexeme → ℕ → ℕ
line_at text [] p = line_of text (length text)
line_at text (t ∷ ts) zero = t.line
line_at text (t ∷ ts) (suc p) = line_at text ts p

-- the lexemes of the text are refused as a unit with this code, declaration and line
pub record IsRefused (text : List ℕ) (ts : List Lexeme) (code : Code) (declaration : List ℕ) (line : ℕ) : Type 0 where
  pub place : ℕ
  pub refused : IsRefusedAt code ts place
  pub declaration-is : declaration ≡ declaration_of place ts
  pub line-is : line ≡ line_at text ts place
