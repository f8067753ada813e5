-- What a source is refused for, and the program that it is accepted as: from its bytes on, with the prelude before its own declarations.
use Rattle.std.specs.Prelude.{◌<◌, ◌≤◌, ℕ, codes, List, length}
use Rattle.plc_text.specs.Lines.{line_of}
use Rattle.plc_text.specs.declared.code.Code.{Code}
use Rattle.plc_text.specs.declared.code.Code.TheVariants.{E01, E16}
use Rattle.st_tree.specs.declared.program.Program.{Program}
use Rattle.st_tree.specs.declared.unit.Unit.{Unit as ProgramText}
use Rattle.st_tree.specs.Headings.{declaration_before}
use Rattle.st_tree.specs.NoUnit.{IsRefused}
use Rattle.st_tree.specs.Reads.{lexemes}
use Rattle.st_tree.specs.Token.{Token, Tokens, BadAfter}
use Rattle.st_parser_decl.specs.Law.{UnitNoneDeep}
use Rattle.st_prelude.specs.Prelude.{HasPrelude}
use Rattle.st_unit_rules.specs.Checked.{IsChecked}
use Rattle.st_unit_rules.specs.RefusalLaws.{IsGood}
use Rattle.st_unit_rules.specs.UnitRefusal.{UnitRefusal}

-- a source has at most so many bytes
abbrev pub most_bytes : ℕ
most_bytes = 1_048_576

-- the text is a unit in which no token has nesting 65, and this is the unit with the prelude
pub record IsUnit (prelude text : List ℕ) (whole : ProgramText) : Type 0 where
  pub fits : length text ≤ most_bytes
  pub tokens : List Token
  pub tokens-are : Tokens text tokens
  pub unit : ProgramText
  pub reads : UnitNoneDeep (lexemes tokens) unit
  pub with_prelude : HasPrelude prelude unit whole

-- the text is accepted as the program
pub record Accepted (prelude text : List ℕ) (p : Program) : Type 0 where
  pub whole : ProgramText
  pub is_unit : IsUnit prelude text whole
  pub good : IsGood whole.decls
  pub checked : IsChecked whole.decls p

-- The text is refused with a code, a declaration and a line: for its length, at its first bad place, where no unit goes on or one is too
-- deep, or for its first bad declaration.
pub data RefusedFor (prelude text : List ℕ) : Code → List ℕ → ℕ → Type 0 where
  too_long : most_bytes < length text → RefusedFor prelude text E16 (codes "-") 1
  bad_place : length text ≤ most_bytes → (before : List Token) (place : ℕ) → BadAfter text before place → RefusedFor prelude text E01 (declaration_before before) (line_of text place)
  no_unit : {code : Code} {declaration : List ℕ} {line : ℕ} → length text ≤ most_bytes → (tokens : List Token) → Tokens text tokens → IsRefused text (lexemes tokens) code declaration line
      → RefusedFor prelude text code declaration line
  bad_unit : {code : Code} {declaration : List ℕ} {line : ℕ} (whole : ProgramText) → IsUnit prelude text whole → UnitRefusal whole.decls code declaration line → RefusedFor prelude text code declaration line
