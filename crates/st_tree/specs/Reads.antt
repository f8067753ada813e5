-- How a text reads as a unit: its tokens without the marks among them spell the unit, and each item has the marks before it.
use Rattle.std.specs.Prelude.{ℕ, false, ◌||◌, List, [], ◌∷◌, Option, Some, None, if◌then◌else◌}
use Rattle.plc_text.specs.Text.{folded}
use Rattle.st_tree.specs.declared.token.TokenKind.{TokenKind}
use Rattle.st_tree.specs.declared.token.TokenKind.TheVariants.{Word, Keyword, Int, Time, Address, Symbol, Mark}
use Rattle.st_tree.specs.declared.terminal.Terminal.{Terminal}
use Rattle.st_tree.specs.declared.terminal.Terminal.TheVariants as x
use Rattle.st_tree.specs.declared.marks.Marks.{Marks}
use Rattle.st_tree.specs.declared.unit.Unit.{Unit as ProgramText}
use Rattle.st_tree.specs.Token.{Token, Tokens}
use Rattle.st_tree.specs.Marks.{is_no_copy, is_init_on_change, is_renamed, old_name}
use Rattle.st_tree.specs.Terminal.{keyword_terminals, symbol_terminals, terminal_in}
use Rattle.st_tree.specs.Grammar.{Lexeme}
use Rattle.st_tree.specs.Declarations.{Derives}

-- what a token with this text in upper case is to the grammar; a mark is nothing to it
abbrev pub terminal_of : TokenKind → List ℕ → Option Terminal
terminal_of Word text = Some x.Word
terminal_of Keyword text = terminal_in keyword_terminals text
terminal_of Int text = Some x.Int
terminal_of Time text = Some x.Duration
terminal_of Address text = Some x.Address
terminal_of Symbol text = terminal_in symbol_terminals text
terminal_of Mark text = None

abbrev pub no_marks : Marks
no_marks = record { no_copy = false; init_on_change = false; renamed_from = None }

-- of several old names the first counts
abbrev pub first_name : Option (List ℕ) → List ℕ → Option (List ℕ)
first_name (Some n) pragma = Some n
first_name None pragma = if is_renamed pragma then Some (folded (old_name pragma)) else None

-- the marks with one more
abbrev pub with_mark : Marks → List ℕ → Marks
with_mark m pragma = record {
  no_copy = m.no_copy || is_no_copy pragma;
  init_on_change = m.init_on_change || is_init_on_change pragma;
  renamed_from = first_name m.renamed_from pragma;
}

-- the lexeme that a token is, behind these marks
abbrev pub lexeme_of : Terminal → Token → Marks → Lexeme
lexeme_of s t m = record { terminal = s; text = folded t.text; line = t.line; marks = m }

-- a mark is passed over and counts for what stands behind it
abbrev pub either_way : Option Terminal → Token → Marks → List Lexeme → List Lexeme → List Lexeme
either_way None t m behind_mark behind = behind_mark
either_way (Some s) t m behind_mark behind = lexeme_of s t m ∷ behind

-- the lexemes of tokens that stand behind these marks
abbrev pub lexemes_behind : Marks → List Token → List Lexeme
lexemes_behind m [] = []
lexemes_behind m (t ∷ ts) =
    either_way (terminal_of t.kind (folded t.text)) t m (lexemes_behind (with_mark m t.text) ts) (lexemes_behind no_marks ts)

abbrev pub lexemes : List Token → List Lexeme
lexemes ts = lexemes_behind no_marks ts

-- the text reads as the unit
pub record Reads (text : List ℕ) (unit : ProgramText) : Type 0 where
  pub tokens : List Token
  pub tokens-are : Tokens text tokens
  pub derived : Derives (lexemes tokens) unit
