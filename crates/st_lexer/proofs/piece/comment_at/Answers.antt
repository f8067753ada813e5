use Rattle.std.proofs.Common.{sym, ◌∙◌, arith}
use Rattle.st_lexer.proofs.PieceLaws.{comment_bad, comment_passed}
use Rattle.st_lexer.proofs.piece.comment_at.Goals as goal

pub returns-then-len-eq0 : goal.returns-then-len-eq0
returns-then-len-eq0 c = comment_bad c.args.text.now c.requires (sym c.comment_len-len.ensures ∙ c.if-len-eq0.true)

pub returns : goal.returns
returns c = rw c.comment_len-len.ensures (comment_passed c.args.text.now c.requires (omega (arith, c.comment_len-len.ensures, c.if-len-eq0.false)))
