use Rattle.std.proofs.Common.{◌≡◌, ◌-◌, length, map}
use Rattle.st_tree.specs.Token.{Lexes}
use Rattle.st_lexer.specs.Token.{token_view}
use Rattle.st_lexer.proofs.source.tokens.Given as goal

-- the tokens before the lexer's place were found
abbrev pub invariant-tokens : goal.invariant-tokens
invariant-tokens l = record {
  source : l.lexer.source ≡ l.text;
  found : Lexes l.text 0 (map token_view l.found.items) l.lexer.place;
}

abbrev pub decreases-tokens : goal.decreases-tokens
decreases-tokens l = length l.text - l.lexer.place
