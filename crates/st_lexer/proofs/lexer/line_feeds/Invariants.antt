use Rattle.std.proofs.Common.{◌≡◌, take}
use Rattle.st_lexer.specs.Private.Piece.{line_feeds}
use Rattle.st_lexer.proofs.lexer.line_feeds.Given as goal

abbrev pub invariant-loop-byte : goal.invariant-loop-byte
invariant-loop-byte l = l.feeds ≡ line_feeds (take l.byte-index l.bytes)
