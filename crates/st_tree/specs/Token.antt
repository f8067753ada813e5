-- The tokens of a text: it is a chain of pieces, each the longest that fits, and its tokens are those pieces that are not passed over.
use Rattle.std.specs.Prelude.{◌≡◌, ℕ, ◌<◌, ◌≤◌, true, false, ◌||◌, List, [], ◌∷◌, length, drop, Option, Some, None, if◌then◌else◌}
use Rattle.std.specs.List.{slice_range, cons_option}
use Rattle.std.specs.Option.{option_map}
use Rattle.plc_text.specs.Lines.{line_of}
use Rattle.plc_text.specs.declared.lines.Span.{Span}
use Rattle.st_tree.specs.declared.token.TokenKind.{TokenKind}
use Rattle.st_tree.specs.declared.token.TokenKind.TheVariants.{Word, Keyword, Int, Time, Address, Symbol, Mark}
use Rattle.plc_text.specs.Words.{is_word}
use Rattle.st_tree.specs.Terminal.{is_keyword}
use Rattle.st_tree.specs.Pieces.{is_white_space, is_comment, is_pragma, is_int, is_time, is_address, is_piece}
use Rattle.st_tree.specs.Marks.{is_mark}

-- what a piece is; white space, comments and pragmas that do not count are passed over
unfoldable pub piece_kind : List ℕ → Option TokenKind
piece_kind piece =
    if is_white_space piece || is_comment piece then None
    else if is_pragma piece then (if is_mark piece then Some Mark else None)
    else if is_int piece then Some Int
    else if is_time piece then Some Time
    else if is_address piece then Some Address
    else if is_word piece then Some (if is_keyword piece then Keyword else Word)
    else Some Symbol

-- a token with its text, its place in the source and its line there
pub record Token : Type 0 where
  pub kind : TokenKind
  pub text : List ℕ
  pub span : Span
  pub line : ℕ

-- the bytes from `start` up to and without `end` are a piece, and the longest that begins there
pub record IsPiece (text : List ℕ) (start end : ℕ) : Type 0 where
  pub some : start < end
  pub within : end ≤ length text
  pub fits : is_piece (slice_range text start end) (drop end text) ≡ true
  pub longest : (further : ℕ) → end < further → further ≤ length text → is_piece (slice_range text start further) (drop further text) ≡ false

-- between these places stands a chain of pieces, with these ends
abbrev pub IsChain : List ℕ → ℕ → List ℕ → ℕ → Type 0
IsChain text start [] stop = start ≡ stop
IsChain text start (end ∷ ends) stop = IsPiece text start end × IsChain text end ends stop

-- the token that a piece is, unless it is passed over
abbrev pub token_at : List ℕ → ℕ → ℕ → Option Token
token_at text start end =
    option_map (λ kind. record { kind = kind; text = slice_range text start end; span = record { start = start; end = end }; line = line_of text start })
    (piece_kind (slice_range text start end))

-- the tokens among pieces with these ends
abbrev pub tokens_between : List ℕ → ℕ → List ℕ → List Token
tokens_between text start [] = []
tokens_between text start (end ∷ ends) = cons_option (token_at text start end) (tokens_between text end ends)

-- between these places stand just these tokens
pub record Lexes (text : List ℕ) (start : ℕ) (tokens : List Token) (stop : ℕ) : Type 0 where
  pub ends : List ℕ
  pub chain : IsChain text start ends stop
  pub tokens-are : tokens ≡ tokens_between text start ends

-- the tokens of a text
abbrev pub Tokens : List ℕ → List Token → Type 0
Tokens text tokens = Lexes text 0 tokens (length text)

-- neither a token nor anything that is passed over begins at the place
pub record IsBad (text : List ℕ) (place : ℕ) : Type 0 where
  pub within : place < length text
  pub no-piece : (end : ℕ) → place < end → end ≤ length text → is_piece (slice_range text place end) (drop end text) ≡ false

-- the first bad place of a text, with the tokens before it
abbrev pub BadAfter : List ℕ → List Token → ℕ → Type 0
BadAfter text tokens place = Lexes text 0 tokens place × IsBad text place
