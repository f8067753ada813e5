use Rattle.std.proofs.Common.{◌≡◌, drop, map}
use Rattle.st_tree.specs.Reads.{lexemes}
use Rattle.st_tree.specs.Headings.{name_at}
use Rattle.st_lexer.specs.Token.{token_view}
use Rattle.st_lexer.proofs.headings.name_at.Given as goal

abbrev pub invariant-loop-token : goal.invariant-loop-token
invariant-loop-token l = name_at (lexemes (map token_view (drop l.token-index l.tokens))) ≡ name_at (lexemes (map token_view l.tokens))
