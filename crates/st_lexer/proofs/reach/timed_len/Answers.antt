use Rattle.std.proofs.Common.{sym}
use Rattle.st_lexer.proofs.LoopLaws.{timed_is}
use Rattle.st_lexer.proofs.reach.timed_len.Goals as goal

pub returns-then-opens : goal.returns-then-opens
returns-then-opens c = timed_is _ _ _ _ (sym c.if-opens.ensures.value) c.parts_len.ensures.value c.with_head.ensures
