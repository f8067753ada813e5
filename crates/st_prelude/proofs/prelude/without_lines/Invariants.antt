use Rattle.std.proofs.Common.{◌≡◌, ◌++◌, drop, map}
use Rattle.st_lexer.specs.Token.{token_view}
use Rattle.st_prelude.specs.Prelude.{without_line}
use Rattle.st_prelude.proofs.prelude.without_lines.Given as goal

-- the tokens so far without their lines, and those that are left
abbrev pub invariant-loop-token : goal.invariant-loop-token
invariant-loop-token l =
    map token_view l.found.items ++ map without_line (map token_view (drop l.token-index l.tokens))
    ≡ map without_line (map token_view l.tokens)
