use Rattle.std.proofs.Common.{sym, ◌∙◌, arith}
use Rattle.st_lexer.proofs.PieceLaws.{address_bad, address_token}
use Rattle.st_lexer.proofs.piece.address_at.Goals as goal

pub returns-then-len-eq0 : goal.returns-then-len-eq0
returns-then-len-eq0 c = address_bad c.args.text.now c.requires (sym c.address_len-len.ensures ∙ c.if-len-eq0.true)

pub returns : goal.returns
returns c = rw c.address_len-len.ensures (address_token c.args.text.now c.requires (omega (arith, c.address_len-len.ensures, c.if-len-eq0.false)))
