use Rattle.std.proofs.Common.{◌<◌, sym, ◌∙◌, arith}
use Rattle.st_lexer.specs.Private.Reach.{word_len}
use Rattle.st_lexer.proofs.PieceLaws.{keyword_token, word_token, word_feeds}
use Rattle.st_lexer.proofs.piece.word_at.Goals as goal

pub returns-in-Some : goal.returns-in-Some
returns-in-Some c =
    let some : 0 < word_len c.args.text.now = omega (arith, c.word_len-len.ensures, c.if-len-eq0.false) in
    rw c.word_len-len.ensures
    (keyword_token c.args.text.now c.requires some c.in-Some.terminal (rw c.word_len-len.ensures at (sym c.in-Some.is ∙ c.keyword.ensures)), word_feeds c.args.text.now c.requires some)

pub returns-in-None : goal.returns-in-None
returns-in-None c =
    let some : 0 < word_len c.args.text.now = omega (arith, c.word_len-len.ensures, c.if-len-eq0.false) in
    rw c.word_len-len.ensures
    (word_token c.args.text.now c.requires some (rw c.word_len-len.ensures at (sym c.in-None.is ∙ c.keyword.ensures)), word_feeds c.args.text.now c.requires some)
