-- The longest piece at the front of a text.
use Rattle.std.specs.Prelude.{◌≡◌, ◌==◌, ℕ, ◌<◌, ◌≤◌, Bool, true, false, List, length, take, drop, count_by, Option, Some, None}
use Rattle.std.specs.Str.{IsAscii}
use Rattle.plc_text.specs.Text.{folded}
use Rattle.st_tree.specs.declared.terminal.Terminal.{Terminal}
use Rattle.st_tree.specs.declared.token.TokenKind.{TokenKind}
use Rattle.st_tree.specs.declared.token.TokenKind.TheVariants as kinds
use Rattle.plc_text.specs.Words.{begins, is_blank, is_word_character}
use Rattle.st_tree.specs.Pieces.{opens_comment, is_piece}
use Rattle.st_tree.specs.Token.{piece_kind}
use Rattle.st_tree.specs.Reads.{terminal_of}
use Rattle.st_lexer.specs.declared.piece.Piece.{Piece}
use Rattle.st_lexer.specs.declared.piece.Piece.TheVariants as pieces

-- the longest front of a text that passes a test; 0 where none passes
pub record IsLongest (test : List ℕ → Bool) (text : List ℕ) (n : ℕ) : Type 0 where
  pub within : n ≤ length text
  pub passes : 0 < n → test (take n text) ≡ true
  pub longest : (m : ℕ) → n < m → m ≤ length text → test (take m text) ≡ false

-- the same with a test of the front and of what stands behind it
pub record IsLongestFront (test : List ℕ → List ℕ → Bool) (text : List ℕ) (n : ℕ) : Type 0 where
  pub within : n ≤ length text
  pub passes : 0 < n → test (take n text) (drop n text) ≡ true
  pub longest : (m : ℕ) → n < m → m ≤ length text → test (take m text) (drop m text) ≡ false

abbrev pub line_feeds : List ℕ → ℕ
line_feeds text = count_by (λ byte. byte == 10) text

-- a text begins with a piece of this length, none is longer, and this is what it is
pub record BeginsPiece (text : List ℕ) (n : ℕ) (kind : Option TokenKind) : Type 0 where
  pub some : 0 < n
  pub front : IsLongestFront is_piece text n
  pub kind-is : piece_kind (take n text) ≡ kind

-- a text begins with a token
pub record BeginsToken (text : List ℕ) (n : ℕ) (kind : TokenKind) (terminal : Option Terminal) : Type 0 where
  pub piece : BeginsPiece text n (Some kind)
  pub ascii : IsAscii (take n text)
  pub terminal-is : terminal ≡ terminal_of kind (folded (take n text))

-- the longest piece that a text begins with; marks alone may go over several lines
abbrev pub IsPieceAt : List ℕ → Piece → Type 0
IsPieceAt text pieces.Bad = IsLongestFront is_piece text 0
IsPieceAt text (pieces.Passed n) = BeginsPiece text n None
IsPieceAt text (pieces.Mark n) = BeginsToken text n kinds.Mark None
IsPieceAt text (pieces.Token n kind terminal) = BeginsToken text n kind (Some terminal) × (line_feeds (take n text) ≡ 0)

-- a text begins with none of the characters that begin another piece than a symbol
pub record BeginsSymbol (text : List ℕ) : Type 0 where
  pub some : 0 < length text
  pub no-blank : begins is_blank text ≡ false
  pub no-word : begins is_word_character text ≡ false
  pub no-address : begins (λ c. c == 37) text ≡ false
  pub no-pragma : begins (λ c. c == 123) text ≡ false
  pub no-comment : opens_comment text ≡ false
