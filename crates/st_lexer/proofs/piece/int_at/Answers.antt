use Rattle.st_lexer.proofs.PieceLaws.{int_token}
use Rattle.st_lexer.proofs.piece.int_at.Goals as goal

pub returns : goal.returns
returns c = rw c.int_len.ensures (int_token c.args.text.now c.requires)
