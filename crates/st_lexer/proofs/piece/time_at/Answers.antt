use Rattle.std.proofs.Common.{sym, ◌∙◌, arith}
use Rattle.st_lexer.proofs.PieceLaws.{time_bad, time_token}
use Rattle.st_lexer.proofs.piece.time_at.Goals as goal

pub returns-then-len-eq0 : goal.returns-then-len-eq0
returns-then-len-eq0 c = time_bad c.args.text.now c.requires.letter c.requires.no_word (sym c.time_len-len.ensures ∙ c.if-len-eq0.true)

pub returns : goal.returns
returns c = rw c.time_len-len.ensures (time_token c.args.text.now c.requires.letter c.requires.no_word (omega (arith, c.time_len-len.ensures, c.if-len-eq0.false)))
