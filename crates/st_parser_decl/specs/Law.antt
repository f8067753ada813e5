-- What lexemes are to the parser of whole texts.
use Rattle.std.specs.Prelude.{ℕ, ◌⊎◌, List, length}
use Rattle.plc_text.specs.declared.code.Code.{Code}
use Rattle.plc_text.specs.declared.code.Code.TheVariants as code
use Rattle.st_tree.specs.declared.unit.Unit.{Unit as ProgramText}
use Rattle.st_tree.specs.Grammar.{Lexeme}
use Rattle.st_tree.specs.Declarations.{Derives}
use Rattle.st_tree.specs.Nesting.{NoneDeep}
use Rattle.st_tree.specs.NoUnit.{IsRefusedAt}

-- the lexemes are the unit, and none of them has nesting 65
pub record UnitNoneDeep (ts : List Lexeme) (unit : ProgramText) : Type 0 where
  pub derived : Derives ts unit
  pub none_deep : NoneDeep ts (length ts)

-- refused with this code at some place
abbrev pub IsRefusedWith : Code → List Lexeme → Type 0
IsRefusedWith c ts = (p : ℕ) × IsRefusedAt c ts p

-- a unit none of whose lexemes is too deep, or refused with one of the two codes
abbrev pub IsAnswered : List Lexeme → Type 0
IsAnswered ts = ((unit : ProgramText) × UnitNoneDeep ts unit) ⊎ (IsRefusedWith code.E02 ts ⊎ IsRefusedWith code.E03 ts)
