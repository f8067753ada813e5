use Rattle.std.proofs.Common.{◌≡◌, ◌++◌, drop, map}
use Rattle.st_tree.specs.Reads.{lexemes_behind, lexemes}
use Rattle.st_lexer.specs.Token.{token_view}
use Rattle.st_lexer.specs.Lexeme.{marks_of, lexemes_of}
use Rattle.st_lexer.proofs.lexeme.lexemes.Given as goal

-- the lexemes so far, and those of the tokens that are left, behind the marks so far
abbrev pub invariant-loop-token : goal.invariant-loop-token
invariant-loop-token l =
    lexemes_of l.found.items ++ lexemes_behind (marks_of l.marks) (map token_view (drop l.token-index l.tokens))
    ≡ lexemes (map token_view l.tokens)
