use Rattle.std.proofs.Common.{◌≤◌, length, drop, map}
use Rattle.st_lexer.specs.Token.{token_view}
use Rattle.st_lexer.proofs.HeadingLaws.{Quiet}
use Rattle.st_lexer.proofs.headings.declaration.Given as goal

abbrev pub invariant-tokens : goal.invariant-tokens
invariant-tokens l = record {
  within : l.place ≤ length l.tokens;
  quiet : Quiet (map token_view (drop l.place l.tokens));
}

abbrev pub decreases-tokens : goal.decreases-tokens
decreases-tokens l = l.place
