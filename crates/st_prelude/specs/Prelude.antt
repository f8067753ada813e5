-- The declarations of a text before those of a unit.
use Rattle.std.specs.Prelude.{◌≡◌, ℕ, List, ◌++◌, map}
use Rattle.st_tree.specs.declared.unit.Unit.{Unit as ProgramText}
use Rattle.st_tree.specs.Token.{Token, Tokens}
use Rattle.st_tree.specs.Reads.{lexemes}
use Rattle.st_tree.specs.Declarations.{Derives}

abbrev pub without_line : Token → Token
without_line t = record { kind = t.kind; text = t.text; span = t.span; line = 0 }

-- the unit that the text reads as, with 0 for each line
pub record IsPrelude (text : List ℕ) (unit : ProgramText) : Type 0 where
  pub tokens : List Token
  pub tokens-are : Tokens text tokens
  pub derived : Derives (lexemes (map without_line tokens)) unit

-- first the declarations of the text, and then the unit's own
pub record HasPrelude (text : List ℕ) (own whole : ProgramText) : Type 0 where
  pub prelude : ProgramText
  pub is-prelude : IsPrelude text prelude
  pub before : whole.decls ≡ prelude.decls ++ own.decls
