-- What a lexer is, and what it gives next.
use Rattle.std.specs.Prelude.{◌≡◌, ℕ, List, [], ◌∷◌, length}
use Rattle.st_tree.specs.Token.{Lexes, IsBad}
use Rattle.st_lexer.specs.declared.token.Next.{Next}
use Rattle.st_lexer.specs.declared.token.Next.TheVariants as nexts
use Rattle.st_lexer.specs.Token.{token_view}

-- a source, and the place in it that is read next
pub record Position : Type 0 where
  pub source : List ℕ
  pub place : ℕ

-- from a place on this comes next, and then the other place
abbrev pub GivesNext : List ℕ → ℕ → Next → ℕ → Type 0
GivesNext text from (nexts.Token t) to = Lexes text from (token_view t ∷ []) to × (to ≡ t.span.end)
GivesNext text from nexts.End to = Lexes text from [] to × (to ≡ length text)
GivesNext text from (nexts.Bad place) to = Lexes text from [] to × IsBad text to × (place ≡ to)
