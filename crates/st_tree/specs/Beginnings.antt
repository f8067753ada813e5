-- How far lexemes begin what a language has.
use Rattle.std.specs.Prelude.{ℕ, suc, ◌<◌, ◌≤◌, List, ◌++◌, take, length}
use Rattle.st_tree.specs.declared.unit.Unit.{Unit as ProgramText}
use Rattle.st_tree.specs.Grammar.{Lexeme}
use Rattle.st_tree.specs.Declarations.{Derives}

-- what lexemes may be as a whole
abbrev pub Language : Type 1
Language = List Lexeme → Type 0

-- one of the language begins with the lexemes
abbrev pub Begins : Language → List Lexeme → Type 0
Begins L ts = (after : List Lexeme) × L (ts ++ after)

-- p is the first place such that nothing of the language begins with the lexemes up to and with it, or their number where there is
-- no such place
pub record StopsAt (L : Language) (ts : List Lexeme) (p : ℕ) : Type 0 where
  pub within : p ≤ length ts
  pub begins : Begins L (take p ts)
  pub first : p < length ts → Begins L (take (suc p) ts) → ⊥

-- some unit has just these lexemes
abbrev pub IsUnit : Language
IsUnit ts = (unit : ProgramText) × Derives ts unit
